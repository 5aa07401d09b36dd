pub mod Files
pub mod Desks
pub mod Events
pub mod Opening
pub mod Worlds
