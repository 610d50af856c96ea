pub mod File
pub mod Loading
pub mod Storing
pub mod Answers
pub mod Claims
