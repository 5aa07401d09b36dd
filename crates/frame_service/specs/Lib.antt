pub mod Exchanges
pub mod Runs
pub mod Steps
