pub mod Statuses
pub mod Disks
pub mod Courses
pub mod Opening
pub mod Parts
pub mod Closing
pub mod Left
pub mod Reading
