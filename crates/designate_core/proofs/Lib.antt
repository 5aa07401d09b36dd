mod RowLemmas
mod EntryLemmas
