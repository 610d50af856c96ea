pub mod Choice
pub mod Test
pub mod First
pub mod Lists
pub mod Table
pub mod Cells
