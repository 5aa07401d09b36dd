pub mod Acts
pub mod Principals
pub mod Keeping
