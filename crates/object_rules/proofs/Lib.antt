mod RowLemmas
mod SeenLemmas
mod NumberLemmas
mod EligibleLemmas
mod NumberingLemmas
mod HomeLemmas
pub mod TimeLemmas
mod LinkLemmas
mod LiveLemmas
