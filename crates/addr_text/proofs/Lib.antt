pub mod DecimalLemmas
pub mod Ipv4Lemmas
pub mod Ipv6Lemmas
pub mod MaskLemmas
pub mod NumberLemmas
pub mod PartLemmas
pub mod TextLemmas
pub mod Writing
