pub mod Joins
pub mod Answers
