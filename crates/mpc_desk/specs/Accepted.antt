-- The observations that a history's acts brought.
use Rattle.std.specs.Prelude.{◌≡◌, ℕ, ◌+◌, List, [], ◌∷◌, ◌++◌}
use Rattle.act_model.specs.declared.entry.Entry.{Entry}
use Rattle.act_model.specs.Deeds.{deed_of, deeds}
use Rattle.act_model.specs.Observations.{observations}
use Rattle.act_model.specs.Places.{added_by}

-- how many observations were accepted in a history, retracted ones included
abbrev pub accepted_count : List Entry → ℕ
accepted_count history = observations (deeds history)

-- how many lines of the entry are accepted at this history
abbrev pub accepted_of : List Entry → Entry → ℕ
accepted_of past entry = added_by (deed_of (deeds past) entry)

-- how many lines of these newer entries are accepted, each at the history before it
abbrev pub accepted_from : List Entry → List Entry → ℕ
accepted_from past [] = 0
accepted_from past (entry ∷ newer) = accepted_from past newer + accepted_of (newer ++ past) entry

-- The later history is the earlier one with newer entries. Each of these adds its own accepted lines to the accepted
-- observations, and none takes any away.
pub record AddsLines (earlier later : List Entry) : Type 0 where
  pub newer : List Entry
  pub grown : later ≡ newer ++ earlier
  pub lines : accepted_count later ≡ accepted_count earlier + accepted_from earlier newer
