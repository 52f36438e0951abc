pub mod Laws
pub mod Answers
pub mod Pieces
pub mod inner
