pub mod Hidden
pub mod Known
pub mod Mapped
pub mod Packets
pub mod Places
pub mod Shape
pub mod Verdicts
pub mod Frames
