pub mod Keys
pub mod Numbers
pub mod Days
pub mod Options
pub mod Commands
