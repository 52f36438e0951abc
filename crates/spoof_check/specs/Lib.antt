pub mod Verdicts
pub mod Refusals
