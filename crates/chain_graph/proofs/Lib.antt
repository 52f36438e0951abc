pub mod Marking
pub mod LoopLemmas
pub mod Paths
pub mod RankLemmas
pub mod TableLemmas
pub mod TargetLemmas
