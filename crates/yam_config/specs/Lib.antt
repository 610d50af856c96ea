pub mod Generics
pub mod Claims
