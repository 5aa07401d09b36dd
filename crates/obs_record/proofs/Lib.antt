pub mod Texts
pub mod Magnitudes
