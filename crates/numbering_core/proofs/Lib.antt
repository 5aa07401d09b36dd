mod VerdictLemmas
mod PlaceLemmas
mod NumberLemmas
mod OpenLemmas
mod IndexLemmas
