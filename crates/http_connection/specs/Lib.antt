pub mod Calls
pub mod Streams
pub mod Attending
pub mod Steps
pub mod Laws
