pub mod Outside
pub mod Reads
pub mod Memory
pub mod Ticks
pub mod Streams
pub mod Doors
