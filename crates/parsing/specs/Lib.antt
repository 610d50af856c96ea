pub mod Decimals
pub mod Words
pub mod Numbers
pub mod Entries
pub mod Generics
pub mod Claims
