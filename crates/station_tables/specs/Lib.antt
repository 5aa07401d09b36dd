pub mod Rows
pub mod Stations
pub mod Codes
pub mod Indexed
pub mod Letters
