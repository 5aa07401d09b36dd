pub mod Tables
pub mod Texts
pub mod Stored
pub mod Shown
pub mod Holding
pub mod Faults
pub mod SqlMirrors
pub mod FileMirrors
