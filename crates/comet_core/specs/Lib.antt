pub mod Names
pub mod Comets
pub mod Book
pub mod Register
pub mod Preparing
pub mod Replaying
pub mod Asking
