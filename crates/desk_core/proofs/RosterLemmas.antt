-- The index of the roster's keys, with one caller more.
use Rattle.std.proofs.Common.{◌≡◌, ℕ, ◌+◌, ◌++◌, Bool, true, false, cond, List, [], ◌∷◌, length, Option, Some, nat_cmp, refl, ap, sym, ◌∙◌}
use Rattle.std.specs.Prelude.{reverse}
use Rattle.std.specs.declared.cmp.Ordering.{Ordering}
use Rattle.std.specs.Cmp.Lexicographic.{slice_cmp}
use Rattle.std.specs.Ordering.{on}
use Rattle.std.proofs.lemmas.Cmp.{nat_list_eq_equiv}
use Rattle.std.proofs.lemmas.List.{reverse-append, length-reverse}
use Rattle.std.proofs.lemmas.Map.Text.{is_eq-slice_cmp}
use Rattle.ordered_list.specs.Orders.{ties, found}
use Rattle.act_bodies.specs.declared.key.Key.{Key}
use Rattle.act_bodies.specs.Keys.{key_text, same_key}
use Rattle.act_model.specs.declared.roster.Caller.{Caller}
use Rattle.act_model.specs.declared.roster.Member.{Member}
use Rattle.act_model.specs.Roster.{enrolled_as}
use Rattle.desk_core.specs.declared.known_key.KnownKey.{KnownKey}
use Rattle.desk_core.specs.Roster.{key_item, known_caller, IsIndexed}

abbrev by_text : KnownKey → KnownKey → Ordering
by_text = on (λ k. key_text k.key) (slice_cmp nat_cmp)

-- a key finds an item that has it
ties_are : (key : Key) (item : KnownKey) → ties by_text (key_item key) item ≡ same_key key item.key
ties_are key item = is_eq-slice_cmp (key_text item.key) (key_text key) ∙ nat_list_eq_equiv.symm (key_text item.key) (key_text key)

caller_either : (here : Bool) (item : KnownKey) (other : Option KnownKey) (older : Option Caller) → known_caller other ≡ older
    → known_caller (cond here (Some item) other) ≡ cond here (Some item.caller) older
caller_either true item other older is = refl
caller_either false item other older is = is

module _ (members : List Member) (member : Member) (count : ℕ) where
  abbrev newest : KnownKey
  newest = record { key = member.key; caller = record { number = count + 1; rank = member.rank } }

  pub one_more : (keys keys' : List KnownKey) → count ≡ length members → IsIndexed by_text keys members → ((key : KnownKey) → found by_text key keys' ≡ cond (ties by_text key newest) (Some newest) (found by_text key keys))
      → IsIndexed by_text keys' (members ++ member ∷ [])
  one_more keys keys' counted indexed finds key =
      let older : Option Caller = enrolled_as (reverse members) key in
      ap known_caller (finds (key_item key))
      ∙ ap (λ (b : Bool). known_caller (cond b (Some newest) (found by_text (key_item key) keys))) (ties_are key newest)
      ∙ caller_either (same_key key member.key) newest (found by_text (key_item key) keys) older (indexed key)
      ∙ ap (λ (n : ℕ). cond (same_key key member.key) (Some (record { number = n + 1; rank = member.rank })) older) (counted ∙ sym (length-reverse members))
      ∙ sym (ap (λ (ms : List Member). enrolled_as ms key) (reverse-append members (member ∷ [])))
