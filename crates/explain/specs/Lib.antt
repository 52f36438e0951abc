-- In the order of reading.
pub mod Choices
pub mod Answers
pub mod inner
