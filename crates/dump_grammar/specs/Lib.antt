-- In the order of reading.
pub mod Lines
pub mod ChainLines
pub mod Groups
pub mod GroupWords
pub mod Arguments
pub mod Kinds
pub mod Literals
pub mod Targets
pub mod RuleLines
pub mod Tables
pub mod Reads
pub mod Printable
pub mod Laws
