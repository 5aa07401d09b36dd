pub mod Slots
pub mod Marked
