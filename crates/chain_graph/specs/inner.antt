-- What the bodies alone work with. No public clause cites it.
pub mod Spreading
pub mod Tables
pub mod Targets
