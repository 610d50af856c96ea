pub mod Powers
pub mod Numerals
pub mod Puts
pub mod Entries
pub mod Printers
