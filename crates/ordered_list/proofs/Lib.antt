mod PlaceLemmas
mod InsertLemmas
mod MergeLemmas
mod RemoveLemmas
mod ArrangedLemmas
mod GapLemmas
pub mod MergeSteps
mod MergedPlaces
mod AboveLemmas
mod SameLemmas
