-- Which objects are numbered, part by part.
use Rattle.std.specs.Prelude.{ℕ, Bool, nat_lt, ◌&&◌, ◌==◌, List, [], ◌∷◌, filter, length, Result, Ok}
use Rattle.std.specs.List.{list_any}
use Rattle.packed_names.specs.declared.name.Designation.{Designation}
use Rattle.packed_names.specs.declared.number.TheConstants.{GREATEST_NUMBER}
use Rattle.tracklet_file.specs.declared.observation.Observation.{Observation}
use Rattle.tracklet_file.specs.Observations.{is_live}
use Rattle.act_model.specs.declared.deed.Deed.{Deed}
use Rattle.act_model.specs.declared.deed.Deed.TheVariants.{Numbered}
use Rattle.act_model.specs.declared.reply.Refusal.{Refusal}
use Rattle.act_model.specs.declared.reply.Refusal.TheVariants.{NoneEligible, NumbersFull}
use Rattle.act_model.specs.Rows.{first_row, unless}
use Rattle.act_model.specs.Holdings.{holdings}
use Rattle.act_model.specs.Designations.{links_of, is_principal}
use Rattle.act_model.specs.Verdicts.{verdicts_of}
use Rattle.act_model.specs.Numbers.{numbers_of, is_eligible, numbered_from, last_number}

-- one of the observations with these numbers is live
abbrev pub is_any_live : List Observation → List ℕ → Bool
is_any_live observations numbers = list_any (is_live observations) numbers

-- the object with this principal can be numbered after these deeds
abbrev pub is_eligible_after : List Deed → Designation → Bool
is_eligible_after past = is_eligible (holdings past) (links_of past) (verdicts_of past) (numbers_of past)

-- those of the designations that are principals of objects that can be numbered
abbrev pub eligible_among : List Deed → List Designation → List Designation
eligible_among past designations =
    filter (λ d. is_principal (links_of past) d && is_eligible_after past d) designations

-- there are some objects to number, and their numbers are some that a minor planet can have
abbrev pub chosen_rows : ℕ → List Designation → List (Bool × Refusal)
chosen_rows first chosen =
    (length chosen == 0, NoneEligible) ∷ (nat_lt GREATEST_NUMBER (last_number first chosen), NumbersFull) ∷ []

-- numbers from the first on for these objects
abbrev pub numbers_for : ℕ → List Designation → Result Deed Refusal
numbers_for first chosen =
    unless (first_row (chosen_rows first chosen)) (Ok (Numbered (numbered_from first chosen)))
