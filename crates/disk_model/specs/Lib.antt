pub mod Files
pub mod Crashes
pub mod Moments
pub mod FileLaws
pub mod Memory
pub mod MemoryLaws
pub mod Entries
pub mod Real
