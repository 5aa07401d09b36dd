pub mod FileLemmas
pub mod Mended
pub mod Acted
pub mod Turned
pub mod OpenLemmas
pub mod Opened
pub mod OneHistory
pub mod Pairing
pub mod Moving
pub mod Ended
mod WorldLemmas
pub mod Accepting
