pub mod Exports
pub mod Promises
