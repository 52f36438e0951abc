pub mod Covers
pub mod Search
pub mod Refusals
pub mod Visits
pub mod Probe
pub mod Dead
pub mod inner
