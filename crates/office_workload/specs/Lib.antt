pub mod Generating
pub mod Lines
pub mod Workloads
pub mod Running
pub mod Summaries
