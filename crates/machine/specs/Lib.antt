pub mod Numbers
pub mod Exec
pub mod Cached
pub mod Single
pub mod Stretching
pub mod Stepping
pub mod Claims
