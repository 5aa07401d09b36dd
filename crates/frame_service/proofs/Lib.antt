pub mod Served
pub mod Progress
