pub mod CasesHold
pub mod Digits
pub mod PutLaws
