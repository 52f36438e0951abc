pub mod ApartLaws
pub mod Items
pub mod LeastLaws
pub mod NameLaws
pub mod PacketLaws
pub mod Searching
pub mod UnderLaws
pub mod WholeLaws
