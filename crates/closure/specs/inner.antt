-- What the bodies alone work with. No public clause cites it.
pub mod Items
pub mod Ranks
pub mod Parts
pub mod Counts
pub mod Counted
pub mod Totals
pub mod Ways
pub mod Skips
pub mod Ends
pub mod Steps
pub mod Moves
pub mod Tallies
