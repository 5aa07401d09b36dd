pub mod Verdicts
pub mod Numbers
pub mod Unbroken
pub mod RegisterValue
pub mod Indexes
pub mod Open
