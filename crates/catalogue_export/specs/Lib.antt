pub mod Telling
pub mod Pieces
pub mod Walks
pub mod PageTexts
pub mod Exports
