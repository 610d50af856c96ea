pub mod Written
pub mod Spelled
pub mod Tidy
pub mod Printed
pub mod Whole
pub mod Refusals
