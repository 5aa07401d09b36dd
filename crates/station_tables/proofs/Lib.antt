pub mod StationLemmas
pub mod CodeLemmas
