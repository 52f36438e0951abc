pub mod Hidden
pub mod Laws
pub mod Closed
pub mod inner
pub mod Refused
