pub mod Numbers
pub mod CarriedLaws
pub mod Search
pub mod NumberBits
pub mod TimeLaws
pub mod Lists
pub mod WrittenBack
pub mod ReadBack
