pub mod Readers
pub mod Judging
pub mod Cases
pub mod Rounding
pub mod Written
pub mod DegreesWritten
pub mod Ranges
