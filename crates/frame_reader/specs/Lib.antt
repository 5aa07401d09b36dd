pub mod Reading
pub mod Frames
