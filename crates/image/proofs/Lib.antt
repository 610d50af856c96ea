pub mod Answers
pub mod Lists
pub mod Refusals
pub mod Lawful
pub mod RoundTrip
