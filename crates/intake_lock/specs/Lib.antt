pub mod Stamps
pub mod Items
pub mod Views
pub mod Rule
pub mod Plays
pub mod Passes
