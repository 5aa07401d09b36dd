pub mod Rows
pub mod Mirrors
pub mod Words
pub mod MemMirrors
pub mod Mirrored
