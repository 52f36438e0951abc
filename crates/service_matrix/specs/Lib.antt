pub mod Laws
pub mod Matrices
pub mod Refusals
pub mod Services
pub mod inner
