pub mod Literals
pub mod PrintedDump
pub mod Laws
