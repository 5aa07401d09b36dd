pub mod Counts
pub mod Mending
pub mod Unchanged
pub mod Unopened
