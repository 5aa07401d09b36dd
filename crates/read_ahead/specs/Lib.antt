pub mod Reading
pub mod Growing
pub mod Supplied
