pub mod ClosedLaws
pub mod CutInTurn
pub mod EmptyCuts
pub mod HidingLemmas
pub mod KnownNames
pub mod ShortCuts
pub mod Takings
