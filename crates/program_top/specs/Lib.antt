pub mod Jobs
pub mod Promises
