pub mod Founders
pub mod Digits
