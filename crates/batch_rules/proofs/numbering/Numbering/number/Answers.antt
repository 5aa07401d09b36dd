use Rattle.std.proofs.Common.{◌≡◌, ◌<◌, ℕ, length, Option, None, Some, get_or, set, ap, sym, subst, ◌∙◌}
use Rattle.std.proofs.lemmas.List.{get_or_default}
use Rattle.batch_rules.specs.Numbered.{KeptNumbers, IsNumbered}
use Rattle.batch_rules.specs.Points.{place_of}
use Rattle.batch_rules.proofs.NumberedLemmas.{known_number, still_numbered, new_number, newly_numbered}
use Rattle.batch_rules.proofs.numbering.Numbering.number.Goals as goal

-- what stands at the place of a group
at_place : (was now : KeptNumbers) (group place : ℕ) (own : Option ℕ) → was ≡ now → group < length now.numbers → group ≡ place → own ≡ get_or was.numbers group own
    → get_or was.numbers place None ≡ own
at_place was now group place own same within is told =
    ap (λ (n : ℕ). get_or was.numbers n None) (sym is)
    ∙ get_or_default was.numbers group None own (subst (λ (v : KeptNumbers). group < length v.numbers) (sym same) within) ∙ sym told

pub returns-in-Some-clause-number : goal.returns-in-Some-clause-number
returns-in-Some-clause-number c keys firsts s numbered there is =
    let was : KeptNumbers = record { numbers = c.self.inside.numbers.items; count = c.self.inside.count } in
    known_number keys firsts was (subst (IsNumbered keys firsts) (sym c.self.view_is) numbered) s there c.in-Some.number
    (at_place was c.args.self.now c.args.group (place_of keys s) c.index.result.now c.self.view_is c.requires is c.index.ensures ∙ c.in-Some.is)

pub returns-in-Some-clause-numbered : goal.returns-in-Some-clause-numbered
returns-in-Some-clause-numbered c keys firsts s numbered there is =
    let was : KeptNumbers = record { numbers = c.self.inside.numbers.items; count = c.self.inside.count } in
    subst (IsNumbered keys _) c.self.view_is
    (still_numbered keys firsts was (subst (IsNumbered keys firsts) (sym c.self.view_is) numbered) s there c.in-Some.number
    (at_place was c.args.self.now c.args.group (place_of keys s) c.index.result.now c.self.view_is c.requires is c.index.ensures ∙ c.in-Some.is))

pub returns-clause-number : goal.returns-clause-number
returns-clause-number c keys firsts s numbered there is =
    let was : KeptNumbers = record { numbers = c.self.inside.numbers.items; count = c.self.inside.count } in
    new_number keys firsts was (subst (IsNumbered keys firsts) (sym c.self.view_is) numbered) s there
    (at_place was c.args.self.now c.args.group (place_of keys s) c.index.result.now c.self.view_is c.requires is c.index.ensures ∙ c.in_default.is)

pub returns-clause-numbered : goal.returns-clause-numbered
returns-clause-numbered c keys firsts s numbered there is =
    let was : KeptNumbers = record { numbers = c.self.inside.numbers.items; count = c.self.inside.count } in
    newly_numbered keys firsts was (subst (IsNumbered keys firsts) (sym c.self.view_is) numbered) s there
    (at_place was c.args.self.now c.args.group (place_of keys s) c.index.result.now c.self.view_is c.requires is c.index.ensures ∙ c.in_default.is)
    _ (ap (λ (n : ℕ). set was.numbers n (Some was.count)) is) c.in-Some-checked_add.ensures.1
