pub mod Boundaries
pub mod Groups
pub mod Partition
pub mod inner
