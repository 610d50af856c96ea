pub mod Cuts
pub mod FromOne
pub mod Printed
pub mod RoundTrip
