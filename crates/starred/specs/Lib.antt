pub mod Cases
pub mod Readings
pub mod Contexts
pub mod DoubleSums
