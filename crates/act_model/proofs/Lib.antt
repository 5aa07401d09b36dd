pub mod Conducts
mod Clocks
pub mod Callers
pub mod Feeds
pub mod Hearing
pub mod Legal
pub mod Places
mod Designating
mod DiskFaults
mod Acknowledged
mod Worlds
mod RowLemmas
mod DeedCases
mod TakenWith
mod Years
mod InRange
mod Carried
mod Given
mod Halves
mod Numbered
mod Fits
mod Rows
mod Homes
mod Objects
mod Read
mod Filed
mod Letters
mod Names
pub mod TracksThere
pub mod Listed
