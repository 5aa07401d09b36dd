pub mod Buffers
pub mod Texts
