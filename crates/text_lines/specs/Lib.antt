pub mod Steps
pub mod Rules
pub mod Lines
pub mod Pieces
pub mod Laws
pub mod Judging
