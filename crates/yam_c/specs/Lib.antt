pub mod Flat
pub mod Calls
pub mod Claims
pub mod ComesBack
pub mod DoubleSteps
