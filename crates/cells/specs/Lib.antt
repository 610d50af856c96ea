pub mod Cell
pub mod Templates
