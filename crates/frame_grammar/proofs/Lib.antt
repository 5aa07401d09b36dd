pub mod Tokens
pub mod Numbers
pub mod Sequences
pub mod Heads
pub mod Streams
