pub mod Running
pub mod Tracing
