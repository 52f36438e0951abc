-- In the order of reading.
pub mod Questions
pub mod Counts
pub mod Checks
pub mod Headline
pub mod Filters
pub mod Loads
pub mod Explanations
pub mod Respecting
pub mod Spaces
pub mod Matrices
pub mod Spoofing
pub mod Covers
pub mod Lines
pub mod Answers
pub mod Runs
pub mod inner
