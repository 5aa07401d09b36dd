pub mod StampLemmas
pub mod Sums
pub mod Histories
pub mod Views
pub mod Turns
pub mod Steps
pub mod Passes
