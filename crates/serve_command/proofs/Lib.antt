mod Gathering
mod Closing
mod Lines
mod Mending
mod Causes
mod WatchLemmas
mod KeptLemmas
