pub mod Answers
pub mod Successors
pub mod Judging
pub mod Settling
pub mod Demand
pub mod Claims
