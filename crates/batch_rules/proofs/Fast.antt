-- Where a group has two observations too far apart, two neighbours are too far apart.
use Rattle.std.proofs.Common.{◌≡◌, ℕ, ◌+◌, ◌*◌, ◌<◌, ◌≤◌, ℤ, ◌-ℤ◌, ◌<ℤ◌, ◌≤ℤ◌, zero, suc, Bool, true, false, not, ◌&&◌, List, refl, ap, sym, ◌∙◌, inl, inr, true≢false, arith}
use Rattle.std.specs.Prelude.{◌⊎◌, count_by, nat_lt, int_lt, unsigned_abs}
use Rattle.std.specs.List.{list_any}
use Rattle.std.proofs.lemmas.Int.{ints}
use Rattle.std.proofs.lemmas.Bool.{and_parts}
use Rattle.std.proofs.lemmas.Bool.Decides.{nat_tests}
use Rattle.obs_time.specs.Instants.{nanos_of_a_day}
use Rattle.obs_record.specs.declared.sighting.Sighting.{Sighting}
use Rattle.act_model.specs.BatchRules.{are_neighbours, fastest_a_day, is_too_fast, has_fast_pair}
use Rattle.batch_rules.proofs.Any.{IsIn, any_in, in_any, counts_fewer}

-- two observations of the group are too far apart, the first before the second
abbrev pub any_fast : List Sighting → Bool
any_fast group = list_any (λ first. list_any (λ second. int_lt first.time second.time && is_too_fast first second) group) group

-- one comes between two others
abbrev pub is_between : Sighting → Sighting → Sighting → Bool
is_between first second other = int_lt first.time other.time && int_lt other.time second.time

sums : (x y u v w : ℕ) → w ≤ u + v → u * nanos_of_a_day ≤ fastest_a_day * x → v * nanos_of_a_day ≤ fastest_a_day * y → w * nanos_of_a_day ≤ fastest_a_day * (x + y)
sums x y u v w within first second = omega arith

-- tests of two whole numbers
pub lt_told : (x y : ℤ) → int_lt x y ≡ true → x <ℤ y
lt_told x y told = omega (arith, ints)

pub lt_true : (x y : ℤ) → x <ℤ y → int_lt x y ≡ true
lt_true x y low = by (int_lt x y) refl
  where
    by : (t : Bool) → int_lt x y ≡ t → t ≡ true
    by true is = refl
    by false is = absurd (omega (arith, ints))

pub lt_false : (x y : ℤ) → y ≤ℤ x → int_lt x y ≡ false
lt_false x y high = by (int_lt x y) refl
  where
    by : (t : Bool) → int_lt x y ≡ t → t ≡ false
    by false is = refl
    by true is = absurd (omega (arith, ints))

pub lt_chain : (x y z : ℤ) → int_lt x y ≡ true → int_lt y z ≡ true → int_lt x z ≡ true
lt_chain x y z one two =
    let low : x <ℤ y = lt_told x y one in
    let high : y <ℤ z = lt_told y z two in
    lt_true x z (omega (arith, ints))

-- a change over a third observation is no faster than the faster one of the two changes to it and from it
pub slow_through : (a b c : Sighting) → int_lt a.time c.time ≡ true → int_lt c.time b.time ≡ true → is_too_fast a c ≡ false → is_too_fast c b ≡ false → is_too_fast a b ≡ false
slow_through a b c before after first second =
    let low : a.time <ℤ c.time = lt_told a.time c.time before in
    let high : c.time <ℤ b.time = lt_told c.time b.time after in
    let waited : unsigned_abs (b.time -ℤ a.time) ≡ unsigned_abs (c.time -ℤ a.time) + unsigned_abs (b.time -ℤ c.time) = omega (arith, ints) in
    let moved : unsigned_abs (b.dec -ℤ a.dec) ≤ unsigned_abs (c.dec -ℤ a.dec) + unsigned_abs (b.dec -ℤ c.dec) = omega (arith, ints) in
    let one : unsigned_abs (c.dec -ℤ a.dec) * nanos_of_a_day ≤ fastest_a_day * unsigned_abs (c.time -ℤ a.time) = not_lt first in
    let two : unsigned_abs (b.dec -ℤ c.dec) * nanos_of_a_day ≤ fastest_a_day * unsigned_abs (b.time -ℤ c.time) = not_lt second in
    let both = sums (unsigned_abs (c.time -ℤ a.time)) (unsigned_abs (b.time -ℤ c.time)) (unsigned_abs (c.dec -ℤ a.dec)) (unsigned_abs (b.dec -ℤ c.dec)) (unsigned_abs (b.dec -ℤ a.dec)) moved one two in
    ap (λ (n : ℕ). nat_lt (fastest_a_day * n) (unsigned_abs (b.dec -ℤ a.dec) * nanos_of_a_day)) waited ∙ lt_not both
  where
    not_lt : {m n : ℕ} → nat_lt m n ≡ false → n ≤ m
    not_lt told = grind (arith, nat_tests)

    lt_not : {m n : ℕ} → n ≤ m → nat_lt m n ≡ false
    lt_not low = grind (arith, nat_tests)

-- ---- neighbours

-- two tests of which each passes where the other does
pub same_tests : (x y : Bool) → (x ≡ true → y ≡ true) → (y ≡ true → x ≡ true) → x ≡ y
same_tests true y there back = sym (there refl)
same_tests false true there back = back refl
same_tests false false there back = refl

pub both_pass : (x y : Bool) → x ≡ true → y ≡ true → x && y ≡ true
both_pass x y one two = ap (λ (b : Bool). b && y) one ∙ two

module _ (group : List Sighting) where
  -- two neighbours that are too far apart are found
  neighbours_found : (a b : Sighting) → IsIn group a → IsIn group b → int_lt a.time b.time ≡ true → is_too_fast a b ≡ true → list_any (is_between a b) group ≡ false → has_fast_pair group ≡ true
  neighbours_found a b here there before fast none =
      any_in (λ first. list_any (λ second. are_neighbours group first second && is_too_fast first second) group) group a here
      (any_in (λ second. are_neighbours group a second && is_too_fast a second) group b there
      (both_pass (are_neighbours group a b) (is_too_fast a b) (both_pass (int_lt a.time b.time) (not (list_any (is_between a b) group)) before (ap not none)) fast))

  fewer_before : (a b c : Sighting) → IsIn group c → is_between a b c ≡ true → count_by (is_between a c) group < count_by (is_between a b) group
  fewer_before a b c there between =
      counts_fewer (is_between a c) (is_between a b) group c there (no_between a c) between nearer
    where
      no_between : (a c : Sighting) → is_between a c c ≡ false
      no_between a c = by (is_between a c c) refl
        where
          by : (t : Bool) → is_between a c c ≡ t → t ≡ false
          by false is = refl
          by true is =
              let parts = and_parts (int_lt a.time c.time) (int_lt c.time c.time) is in
              let low : int_lt c.time c.time ≡ true = parts.1 in
              absurd (omega (arith, ints))

      nearer : (y : Sighting) → is_between a c y ≡ true → is_between a b y ≡ true
      nearer y passes =
          let inner = and_parts (int_lt a.time y.time) (int_lt y.time c.time) passes in
          let outer = and_parts (int_lt a.time c.time) (int_lt c.time b.time) between in
          both_pass (int_lt a.time y.time) (int_lt y.time b.time) inner.0 (lt_chain y.time c.time b.time inner.1 outer.1)

  fewer_after : (a b c : Sighting) → IsIn group c → is_between a b c ≡ true → count_by (is_between c b) group < count_by (is_between a b) group
  fewer_after a b c there between =
      counts_fewer (is_between c b) (is_between a b) group c there (no_between c b) between nearer
    where
      no_between : (c b : Sighting) → is_between c b c ≡ false
      no_between c b = by (is_between c b c) refl
        where
          by : (t : Bool) → is_between c b c ≡ t → t ≡ false
          by false is = refl
          by true is =
              let parts = and_parts (int_lt c.time c.time) (int_lt c.time b.time) is in
              let low : int_lt c.time c.time ≡ true = parts.0 in
              absurd (omega (arith, ints))

      nearer : (y : Sighting) → is_between c b y ≡ true → is_between a b y ≡ true
      nearer y passes =
          let inner = and_parts (int_lt c.time y.time) (int_lt y.time b.time) passes in
          let outer = and_parts (int_lt a.time c.time) (int_lt c.time b.time) between in
          both_pass (int_lt a.time y.time) (int_lt y.time b.time) (lt_chain a.time c.time y.time outer.0 inner.0) inner.1

  -- where two are too far apart, two neighbours are: by how many come between
  closing_in : (n : ℕ) (a b : Sighting) → IsIn group a → IsIn group b → int_lt a.time b.time ≡ true → is_too_fast a b ≡ true → count_by (is_between a b) group < n → has_fast_pair group ≡ true
  closing_in zero a b here there before fast few = absurd (omega arith)
  closing_in (suc n) a b here there before fast few = by (list_any (is_between a b) group) refl (closing_in n)
    where
      by : (t : Bool) → list_any (is_between a b) group ≡ t
          → ((a b : Sighting) → IsIn group a → IsIn group b → int_lt a.time b.time ≡ true → is_too_fast a b ≡ true → count_by (is_between a b) group < n → has_fast_pair group ≡ true)
          → has_fast_pair group ≡ true
      by false none rest = neighbours_found a b here there before fast none
      by true some rest =
          let found = in_any (is_between a b) group some in
          let c = found.0 in
          let parts = and_parts (int_lt a.time c.time) (int_lt c.time b.time) found.2 in
          let fewer : count_by (is_between a c) group < n = below few (fewer_before a b c found.1 found.2) in
          let fewer_then : count_by (is_between c b) group < n = below few (fewer_after a b c found.1 found.2) in
          elim (choose c parts.0 parts.1) [ inl first ↦ rest a c here found.1 parts.0 first fewer | inr second ↦ rest c b found.1 there parts.1 second fewer_then ]
        where
          below : {m k : ℕ} → m < suc n → k < m → k < n
          below low lower = omega arith

          choose : (c : Sighting) → int_lt a.time c.time ≡ true → int_lt c.time b.time ≡ true → (is_too_fast a c ≡ true) ⊎ (is_too_fast c b ≡ true)
          choose c low high = pick (is_too_fast a c) (is_too_fast c b) refl refl
            where
              pick : (x y : Bool) → is_too_fast a c ≡ x → is_too_fast c b ≡ y → (is_too_fast a c ≡ true) ⊎ (is_too_fast c b ≡ true)
              pick true y is is' = inl is
              pick false true is is' = inr is'
              pick false false is is' = absurd (true≢false (sym fast ∙ slow_through a b c low high is is'))

  -- two neighbours are too far apart exactly where any two are
  pub neighbours_or_any : has_fast_pair group ≡ any_fast group
  neighbours_or_any = same_tests (has_fast_pair group) (any_fast group) weaker stronger
    where
      weaker : has_fast_pair group ≡ true → any_fast group ≡ true
      weaker some =
          let first = in_any (λ first. list_any (λ second. are_neighbours group first second && is_too_fast first second) group) group some in
          let second = in_any (λ second. are_neighbours group first.0 second && is_too_fast first.0 second) group first.2 in
          let parts = and_parts (are_neighbours group first.0 second.0) (is_too_fast first.0 second.0) second.2 in
          let before = and_parts (int_lt first.0.time second.0.time) (not (list_any (is_between first.0 second.0) group)) parts.0 in
          any_in (λ first. list_any (λ second. int_lt first.time second.time && is_too_fast first second) group) group first.0 first.1
          (any_in (λ other. int_lt first.0.time other.time && is_too_fast first.0 other) group second.0 second.1 (both_pass (int_lt first.0.time second.0.time) (is_too_fast first.0 second.0) before.0 parts.1))

      stronger : any_fast group ≡ true → has_fast_pair group ≡ true
      stronger some =
          let first = in_any (λ first. list_any (λ second. int_lt first.time second.time && is_too_fast first second) group) group some in
          let second = in_any (λ other. int_lt first.0.time other.time && is_too_fast first.0 other) group first.2 in
          let parts = and_parts (int_lt first.0.time second.0.time) (is_too_fast first.0 second.0) second.2 in
          closing_in (suc (count_by (is_between first.0 second.0) group)) first.0 second.0 first.1 second.1 parts.0 parts.1 (omega arith)
