pub mod Lines
pub mod Loads
pub mod Pages
