pub mod Pages
pub mod Texts
pub mod Lines
pub mod Printed
pub mod Packed
pub mod Answers
pub mod Claims
