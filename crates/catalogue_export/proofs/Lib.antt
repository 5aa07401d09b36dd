mod Telling
mod WalkLemmas
mod NameLemmas
mod WalkSteps
mod PageLemmas
mod LetterLemmas
