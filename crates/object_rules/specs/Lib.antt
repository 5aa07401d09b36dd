pub mod Seeing
pub mod Noting
pub mod Numbering
pub mod Timing
