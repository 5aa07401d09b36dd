mod Readings
mod Streams
mod Calls
mod Turned
mod Attends
mod Progress
