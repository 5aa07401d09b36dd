-- Distinct keys of groups: one of them that is the same as a key is the first that is, and a key that is found by its
-- mark nowhere is none of them.
use Rattle.std.proofs.Common.{◌≡◌, ℕ, ◌<◌, true, false, List, length, get_or, map, ap, sym, ◌∙◌, rules, arith}
use Rattle.std.specs.Prelude.{◌/◌, ◌^◌, max, slice_index}
use Rattle.std.specs.Cmp.Rules.{hashing}
use Rattle.std.specs.List.{list_any, IsDistinct}
use Rattle.std.proofs.lemmas.List.Folds.{list_any_at}
use Rattle.std.proofs.lemmas.List.Sums.{position_or_len_is}
use Rattle.std.proofs.lemmas.Map.Keys.{apart_from_distinct}
use Rattle.place_keys.specs.Marks.{mixed}
use Rattle.batch_rules.specs.contracts.keys.GroupKeyEq.TheImpl.Laws.{laws-law}
use Rattle.batch_rules.specs.declared.keys.GroupKey.{GroupKey}
use Rattle.batch_rules.specs.KeyTests.{same_key}
use Rattle.batch_rules.specs.Marks.{group_mark, key_mark}
use Rattle.batch_rules.specs.Numbers.{StandsIn}
use Rattle.batch_rules.proofs.Marked.{none_with_mark}

pub stands_at : (keys : List GroupKey) (place : ℕ) (key : GroupKey) → IsDistinct same_key keys → place < length keys → same_key (get_or keys place key) key ≡ true → StandsIn key place keys
stands_at keys place key distinct within same = (
  list_any_at (same_key key) keys place key within here,
  sym (position_or_len_is (same_key key) keys place key (omega (arith, within)) before (λ low. here)),
)
  where
    own : GroupKey
    own = get_or keys place key

    here : same_key key own ≡ true
    here = laws-law.symm key own ∙ same

    before : (k : ℕ) → k < place → same_key key (get_or keys k key) ≡ false
    before k less =
        laws-law.congr key own (get_or keys k key) here ∙ laws-law.symm own (get_or keys k key)
        ∙ apart_from_distinct same_key keys k place key distinct less within

same_mark : (one other : GroupKey) → same_key one other ≡ true → key_mark one ≡ key_mark other
same_mark one other same = ap (λ (n : ℕ). max (mixed 0 n / 2 ^ 32) 1) group
  where
    group : group_mark one ≡ group_mark other
    group = search (hashing, rules)

pub none_marked : (keys : List GroupKey) (key : GroupKey) (marks : List ℕ) → marks ≡ map key_mark keys
    → ((place : ℕ) → place < length keys → slice_index marks place ≡ key_mark key → (d : GroupKey) → same_key (get_or keys place d) key ≡ false)
    → list_any (same_key key) keys ≡ false
none_marked keys key marks are none =
    none_with_mark (same_key key) key_mark (key_mark key) keys marks are (λ own same. sym (same_mark key own same))
    (λ place within marked d. laws-law.symm key (get_or keys place d) ∙ none place within marked d)
