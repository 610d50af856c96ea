-- What the calls of this crate promise. Section numbers are those of the YAM manual, 1.4; words in quotation marks are document 01's.
-- Definitions by subject, then `Alu` over all operations.
pub mod Width
pub mod Logic
pub mod Sums
pub mod Shifts
pub mod Unary
pub mod Bytes
pub mod Multiply
pub mod Immediates
pub mod Alu
pub mod DoubleSums
