mod Joining
mod LineLemmas
mod LookLemmas
