mod TextLemmas
mod RunLemmas
