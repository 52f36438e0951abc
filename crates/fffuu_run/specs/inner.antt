-- What the contracts of private functions cite. A reader of what a run means may pass it by.
pub mod Plain
pub mod Readings
pub mod Pairs
