-- Lines with what was found of each, line by line.
use Rattle.std.proofs.Common.{◌≡◌, ℕ, ◌<◌, ◌≤◌, List, [], ◌∷◌, length, drop, min, Result, zero, suc, refl, ap, ◌∙◌, inl, inr, arith}
use Rattle.std.specs.Prelude.{Ok, Err, slice_index_or}
use Rattle.std.proofs.lemmas.List.{drop_all}
use Rattle.std.proofs.lemmas.Bool.{cases_lt}
use Rattle.obs_record.specs.declared.line.Line.{Line}
use Rattle.obs_record.specs.declared.rule.RuleCode.{RuleCode}
use Rattle.obs_record.specs.declared.sighting.Sighting.{Sighting}
use Rattle.act_model.specs.declared.taken.Placed.{Placed}
use Rattle.act_model.specs.declared.taken.Placing.{Placing}
use Rattle.act_model.specs.declared.taken.Taken.{Taken}
use Rattle.act_model.specs.Taken.{taken_by, taken_with}

-- where nothing was found, there are none
pub none_found : (lines : List Line) → taken_with lines [] ≡ []
none_found [] = refl
none_found (line ∷ lines) = refl

-- from where the shorter list ends there are none
pub none_left : (place : ℕ) (lines : List Line) (found : List (Result Placing RuleCode)) → min (length lines) (length found) ≤ place
    → taken_with (drop place lines) (drop place found) ≡ []
none_left place lines found past = elim (cases_lt place (length lines)) [
  | inl more ↦ ap (taken_with (drop place lines)) (drop_all place found (omega (arith, past, more))) ∙ none_found (drop place lines)
  | inr ended ↦ ap (λ (left : List Line). taken_with left (drop place found)) (drop_all place lines ended)
]

pub as_many : (lines : List Line) (found : List (Result Placing RuleCode)) → length (taken_with lines found) ≡ min (length lines) (length found)
as_many [] found = omega arith
as_many (line ∷ lines) [] = omega arith
as_many (line ∷ lines) (first ∷ found) = omega (arith, as_many lines found)

-- each line stands beside what was found of it
pub stands_at : (lines : List Line) (found : List (Result Placing RuleCode)) (place : ℕ) (line : Line) (first : Result Placing RuleCode) (d : Taken)
    → place < length lines → place < length found
    → slice_index_or (taken_with lines found) place d
    ≡ taken_by (slice_index_or lines place line) (slice_index_or found place first)
stands_at [] found place line first d within known = absurd (omega (arith, within))
stands_at (own ∷ lines) [] place line first d within known = absurd (omega (arith, known))
stands_at (own ∷ lines) (one ∷ found) zero line first d within known = refl
stands_at (own ∷ lines) (one ∷ found) (suc place) line first d within known =
    stands_at lines found place line first d (omega (arith, within)) (omega (arith, known))

-- a place among them is one of both lists
pub is_within : (lines : List Line) (found : List (Result Placing RuleCode)) (place : ℕ) → place < length (taken_with lines found)
    → (place < length lines) × (place < length found)
is_within lines found place within = (omega (arith, within, as_many lines found), omega (arith, within, as_many lines found))

-- what a line was read as, and what was found of it, of which this became
read_of : Result Placed RuleCode → Result Sighting RuleCode
read_of (Ok placed) = Ok placed.sighting
read_of (Err rule) = Err rule

placing_of : Result Placed RuleCode → Result Placing RuleCode
placing_of (Ok placed) = Ok (record { track = placed.track; home = placed.home })
placing_of (Err rule) = Err rule

pub line_of : Taken → Line
line_of taken = record { number = taken.line; read = read_of taken.found }

pub found_of : Taken → Result Placing RuleCode
found_of taken = placing_of taken.found
