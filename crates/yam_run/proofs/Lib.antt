pub mod Lines
pub mod Tracing
