pub mod Conducted
pub mod Serving
pub mod Spoken
pub mod Runs
pub mod Closing
pub mod Promises
