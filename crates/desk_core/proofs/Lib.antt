pub mod FiledLemmas
pub mod BookLemmas
pub mod Kept
pub mod ClaimLemmas
pub mod ResendLemmas
pub mod RosterLemmas
pub mod Steps
pub mod Readying
pub mod Working
pub mod Numbered
pub mod TakenLines
pub mod Committing
pub mod ReplayLemmas
mod ObjectLemmas
