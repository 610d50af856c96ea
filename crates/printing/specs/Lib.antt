pub mod Digits
pub mod Numerals
pub mod Puts
pub mod Entries
pub mod Printers
