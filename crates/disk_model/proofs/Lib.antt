mod Records
mod Replays
mod Steps
mod Writes
