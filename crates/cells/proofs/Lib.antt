pub mod Filled
pub mod Cells
