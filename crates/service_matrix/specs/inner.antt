-- Views of the bodies. No public contract cites them.
pub mod AddressSets
pub mod Classes
pub mod Passes
