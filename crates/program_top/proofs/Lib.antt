mod Looked
mod Promised
