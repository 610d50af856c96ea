pub mod Fields
pub mod Cells
pub mod Report
pub mod Trace
pub mod Values
