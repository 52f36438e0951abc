-- What the contracts of private functions cite. A reader of what a text means may pass it by.
pub mod Positions
pub mod Parts
pub mod States
