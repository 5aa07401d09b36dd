pub mod Orders
pub mod Gaps
pub mod Contents
pub mod Places
