mod LabelLemmas
mod NameLemmas
mod ObjectLemmas
mod SightLemmas
mod CountLemmas
mod Sorting
mod TimeLemmas
