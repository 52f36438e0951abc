-- What the bodies alone work with. No public clause cites it.
pub mod Adding
pub mod Longest
