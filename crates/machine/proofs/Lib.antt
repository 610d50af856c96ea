pub mod Numbers
pub mod Lookup
pub mod Cached
pub mod Claims
