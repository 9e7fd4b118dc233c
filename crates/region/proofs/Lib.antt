pub mod CasesHold
pub mod NoBoards
pub mod Pieces
