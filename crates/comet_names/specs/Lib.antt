pub mod Kinds
pub mod Ranges
pub mod Packed
pub mod Printed
pub mod Reading
pub mod Judging
pub mod Labels
pub mod Laws
