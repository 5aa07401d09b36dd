pub mod Links
pub mod Images
pub mod Gathering
pub mod Serving
pub mod Summaries
pub mod Runs
pub mod Promises
