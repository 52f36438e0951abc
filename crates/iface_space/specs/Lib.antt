-- In the order of reading.
pub mod First
pub mod Zones
pub mod Routes
pub mod Replaced
pub mod Assigned
pub mod Routed
pub mod Tested
pub mod Unnamed
pub mod inner
