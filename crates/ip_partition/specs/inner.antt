-- Views of the bodies. No public contract cites them.
pub mod Atoms
pub mod Classes
pub mod Starts
