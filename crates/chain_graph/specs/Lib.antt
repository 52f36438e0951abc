-- In the order of reading.
pub mod Paths
pub mod Visits
pub mod Faults
pub mod Marks
pub mod Results
pub mod Refusals
pub mod inner
