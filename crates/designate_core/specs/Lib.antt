pub mod Takes
pub mod Unbroken
pub mod RowEntries
pub mod Indexes
