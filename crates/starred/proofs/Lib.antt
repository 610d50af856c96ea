pub mod Starred
pub mod Contexts
pub mod DoubleSums
