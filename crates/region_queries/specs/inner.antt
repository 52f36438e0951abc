-- What the contracts of private functions say. No public contract cites it.
pub mod Asking
pub mod Closing
pub mod Living
