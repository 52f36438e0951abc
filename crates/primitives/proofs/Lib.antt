pub mod Growing
pub mod ListLemmas
pub mod NumberLemmas
pub mod RangeLemmas
pub mod RowLemmas
pub mod WordLemmas
