pub mod Packed
pub mod Statics
pub mod Heads
