pub mod Scans
pub mod Heads
pub mod Routes
pub mod Fronts
pub mod Reading
pub mod Answers
pub mod ReplyTexts
pub mod Sent
