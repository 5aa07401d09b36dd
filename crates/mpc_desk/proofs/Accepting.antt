-- How the accepted observations of a history grow.
use Rattle.std.proofs.Common.{◌≡◌, ℕ, ◌+◌, List, [], ◌∷◌, ◌++◌, ap, ◌∙◌, arith}
use Rattle.act_model.specs.declared.deed.Deed.{Deed}
use Rattle.act_model.specs.declared.entry.Entry.{Entry}
use Rattle.act_model.specs.Conducts.{Extends}
use Rattle.act_model.specs.Deeds.{deed_of, deeds}
use Rattle.act_model.specs.Observations.{observations}
use Rattle.act_model.specs.Places.{added_by}
use Rattle.mpc_desk.specs.Accepted.{accepted_count, accepted_of, accepted_from, AddsLines}

one_more : (all before first more own : ℕ) → all ≡ before + own → before ≡ first + more → all ≡ first + (more + own)
one_more all before first more own last earlier = omega (arith, last, earlier)

none_more : (n : ℕ) → n ≡ n + 0
none_more n = omega arith

module _ (law : (past : List Deed) (deed : Deed) → observations (deed ∷ past) ≡ observations past + added_by deed) where
  counted : (earlier newer : List Entry) → accepted_count (newer ++ earlier) ≡ accepted_count earlier + accepted_from earlier newer
  counted earlier [] = none_more (accepted_count earlier)
  counted earlier (entry ∷ newer) =
      one_more (accepted_count (entry ∷ newer ++ earlier)) (accepted_count (newer ++ earlier)) (accepted_count earlier) (accepted_from earlier newer) (accepted_of (newer ++ earlier) entry)
      (law (deeds (newer ++ earlier)) (deed_of (deeds (newer ++ earlier)) entry)) (counted earlier newer)

  pub adds_lines : (earlier later : List Entry) → Extends earlier later → AddsLines earlier later
  adds_lines earlier later (newer, is) = record { newer = newer; grown = is; lines = ap accepted_count is ∙ counted earlier newer }
