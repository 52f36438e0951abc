-- What the bodies alone work with. No public clause cites it.
pub mod Collected
