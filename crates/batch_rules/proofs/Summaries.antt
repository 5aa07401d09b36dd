-- What the summary of a group says of it.
use Rattle.std.proofs.Common.{◌≡◌, ℤ, pos, ◌+ℤ◌, ◌<ℤ◌, ◌≤ℤ◌, Bool, true, false, not, ◌&&◌, ◌||◌, cond, List, [], ◌∷◌, length, filter, Some, None, refl, ap, sym, subst, ◌∙◌, inl, inr, true≢false, arith}
use Rattle.std.specs.Prelude.{◌⊎◌, nat_lt, int_lt}
use Rattle.std.specs.List.{list_any}
use Rattle.std.proofs.lemmas.Int.{ints}
use Rattle.std.proofs.lemmas.Bool.{and_parts}
use Rattle.std.proofs.lemmas.Bool.Decides.{nat_tests}
use Rattle.obs_time.specs.Instants.{nanos_of_a_day}
use Rattle.obs_record.specs.declared.sighting.Sighting.{Sighting}
use Rattle.act_model.specs.BatchRules.{is_too_fast}
use Rattle.batch_rules.specs.declared.groups.Summary.{Summary}
use Rattle.batch_rules.specs.Groups.{is_fast_change, with_later, summary}
use Rattle.batch_rules.proofs.Any.{IsIn, Each, any_in, in_any}
use Rattle.batch_rules.proofs.Fast.{any_fast, lt_told, lt_true, lt_false, lt_chain, slow_through, same_tests, both_pass}
use Rattle.batch_rules.proofs.Lists.{each_at, each_filter, IsDescending}

-- those within 24 hours of a time
abbrev pub within_day : ℤ → List Sighting → List Sighting
within_day first group = filter (λ e. not (int_lt (first +ℤ pos nanos_of_a_day) e.time)) group

-- a group, and what is said of it
pub record Says (group : List Sighting) (told : Summary) : Type 0 where
  pub began : Sighting
  pub began_in : IsIn group began
  pub began_first : began.time ≡ told.first
  pub starts : (t : ℤ) → list_any (λ e. int_lt (e.time +ℤ pos nanos_of_a_day) t) group ≡ int_lt (told.first +ℤ pos nanos_of_a_day) t
  pub newest : Sighting
  pub others : List Sighting
  pub split : within_day told.first group ≡ newest ∷ others
  pub falls : IsDescending (newest ∷ others)
  pub in_order : told.first ≤ℤ told.last
  pub last_is : told.last ≡ newest.time
  pub dec_is : told.dec ≡ newest.dec
  pub alone_is : told.alone ≡ nat_lt (length (newest ∷ others)) 2
  pub fast_is : told.fast ≡ any_fast (newest ∷ others)

-- ---- too far apart, with one more

pair_in : (group : List Sighting) (a b : Sighting) → IsIn group a → IsIn group b → int_lt a.time b.time ≡ true → is_too_fast a b ≡ true → any_fast group ≡ true
pair_in group a b here there before fast =
    any_in (λ first. list_any (λ second. int_lt first.time second.time && is_too_fast first second) group) group a here
    (any_in (λ second. int_lt a.time second.time && is_too_fast a second) group b there (both_pass (int_lt a.time b.time) (is_too_fast a b) before fast))

record Pair (group : List Sighting) : Type 0 where
  pub one : Sighting
  pub other : Sighting
  pub one_in : IsIn group one
  pub other_in : IsIn group other
  pub before : int_lt one.time other.time ≡ true
  pub fast : is_too_fast one other ≡ true

in_pair : (group : List Sighting) → any_fast group ≡ true → Pair group
in_pair group some =
    let first = in_any (λ first. list_any (λ second. int_lt first.time second.time && is_too_fast first second) group) group some in
    let second = in_any (λ other. int_lt first.0.time other.time && is_too_fast first.0 other) group first.2 in
    let parts = and_parts (int_lt first.0.time second.0.time) (is_too_fast first.0 second.0) second.2 in
    record { one = first.0; other = second.0; one_in = first.1; other_in = second.1; before = parts.0; fast = parts.1 }

-- no time is before itself
never : (x : ℤ) → int_lt x x ≡ true → ⊥
never x told = absurd (omega (arith, ints))

earlier_at : (s : Sighting) (group : List Sighting) (x : Sighting) → Each (λ e. int_lt e.time s.time ≡ true) group → IsIn group x → int_lt x.time s.time ≡ true
earlier_at s group x each there = each_at (λ e. int_lt e.time s.time ≡ true) group x each there (λ y z same low. subst (λ (w : Sighting). int_lt w.time s.time ≡ true) same low)

any_fast_more : (s newest : Sighting) (others : List Sighting) → Each (λ e. int_lt e.time s.time ≡ true) (newest ∷ others) → Each (λ e. int_lt e.time newest.time ≡ true) others
    → any_fast (s ∷ newest ∷ others) ≡ any_fast (newest ∷ others) || is_too_fast newest s
any_fast_more s newest others before falls = same_tests (any_fast (s ∷ newest ∷ others)) (any_fast (newest ∷ others) || is_too_fast newest s) there back
  where
    either : (x y : Bool) → (x ≡ true) ⊎ (y ≡ true) → x || y ≡ true
    either x y (inl is) = ap (λ (b : Bool). b || y) is
    either true y (inr is) = refl
    either false y (inr is) = is

    one_of : (x y : Bool) → x || y ≡ true → (x ≡ true) ⊎ (y ≡ true)
    one_of true y is = inl refl
    one_of false y is = inr is

    from_pair : (a b : Sighting) → IsIn (s ∷ newest ∷ others) a → IsIn (s ∷ newest ∷ others) b → int_lt a.time b.time ≡ true → is_too_fast a b ≡ true
        → (any_fast (newest ∷ others) ≡ true) ⊎ (is_too_fast newest s ≡ true)
    from_pair a b (inl s_is) (inl s_is_too) low fast =
        absurd (never s.time (ap (λ (w : Sighting). int_lt w.time s.time) s_is ∙ ap (λ (w : Sighting). int_lt a.time w.time) s_is_too ∙ low))
    from_pair a b (inl s_is) (inr there) low fast =
        absurd (never s.time (lt_chain s.time b.time s.time (ap (λ (w : Sighting). int_lt w.time b.time) s_is ∙ low) (earlier_at s (newest ∷ others) b before there)))
    from_pair a b (inr here) (inr there) low fast = inl (pair_in (newest ∷ others) a b here there low fast)
    from_pair a b (inr (inl newest_is)) (inl s_is) low fast =
        inr (ap (λ (w : Sighting). is_too_fast w s) newest_is ∙ ap (λ (w : Sighting). is_too_fast a w) s_is ∙ fast)
    from_pair a b (inr (inr here)) (inl s_is) low fast = pick (is_too_fast a newest) (is_too_fast newest s) refl refl
      where
        to_newest : int_lt a.time newest.time ≡ true
        to_newest = earlier_at newest others a falls here

        pick : (x y : Bool) → is_too_fast a newest ≡ x → is_too_fast newest s ≡ y → (any_fast (newest ∷ others) ≡ true) ⊎ (is_too_fast newest s ≡ true)
        pick true y is is' = inl (pair_in (newest ∷ others) a newest (inr here) (inl refl) to_newest is)
        pick false true is is' = inr is'
        pick false false is is' =
            absurd (true≢false (sym (ap (λ (w : Sighting). is_too_fast a w) s_is ∙ fast) ∙ slow_through a s newest to_newest before.0 is is'))

    there : any_fast (s ∷ newest ∷ others) ≡ true → any_fast (newest ∷ others) || is_too_fast newest s ≡ true
    there some =
        let pair = in_pair (s ∷ newest ∷ others) some in
        either (any_fast (newest ∷ others)) (is_too_fast newest s) (from_pair pair.one pair.other pair.one_in pair.other_in pair.before pair.fast)

    back : any_fast (newest ∷ others) || is_too_fast newest s ≡ true → any_fast (s ∷ newest ∷ others) ≡ true
    back some = elim (one_of (any_fast (newest ∷ others)) (is_too_fast newest s) some) [
      | inl inside ↦ wider inside
      | inr fast ↦ pair_in (s ∷ newest ∷ others) newest s (inr (inl refl)) (inl refl) before.0 fast
    ]
      where
        wider : any_fast (newest ∷ others) ≡ true → any_fast (s ∷ newest ∷ others) ≡ true
        wider inside =
            let pair = in_pair (newest ∷ others) inside in
            pair_in (s ∷ newest ∷ others) pair.one pair.other (inr pair.one_in) (inr pair.other_in) pair.before pair.fast

-- ---- one more line

or_false : (b : Bool) → b || false ≡ b
or_false true = refl
or_false false = refl

or_less : (x y : Bool) → (x ≡ true → y ≡ true) → x || y ≡ y
or_less true y less = sym (less refl)
or_less false y less = refl

not_later : (x : ℤ) → int_lt (x +ℤ pos nanos_of_a_day) x ≡ false
not_later x = lt_false (x +ℤ pos nanos_of_a_day) x (omega (arith, ints))

pub says_one : (s : Sighting) → Says (s ∷ []) (with_later None s.time s.dec)
says_one s = record {
  began = s;
  began_in = inl refl;
  began_first = refl;
  starts = λ t. or_false (int_lt (s.time +ℤ pos nanos_of_a_day) t);
  newest = s;
  others = [];
  split = ap (λ (b : Bool). cond (not b) (s ∷ []) []) (not_later s.time);
  falls = (tt, tt);
  in_order = omega (arith, ints);
  last_is = refl;
  dec_is = refl;
  alone_is = refl;
  fast_is = sym (ap (λ (b : Bool). ((b && is_too_fast s s) || false) || false) (lt_false s.time s.time (omega (arith, ints))));
}

-- the line is later than the others of the day, or no part of it
abbrev pub is_next : Summary → Sighting → Bool
is_next told s = int_lt (told.first +ℤ pos nanos_of_a_day) s.time || int_lt told.last s.time

pub says_more : (s : Sighting) (older : List Sighting) (told : Summary) → is_next told s ≡ true → Says older told → Says (s ∷ older) (with_later (Some told) s.time s.dec)
says_more s older told next said = by (int_lt (told.first +ℤ pos nanos_of_a_day) s.time) refl
  where
    first_before : int_lt told.first s.time ≡ true
    first_before = pick (int_lt (told.first +ℤ pos nanos_of_a_day) s.time) (int_lt told.last s.time) refl refl next
      where
        pick : (x y : Bool) → int_lt (told.first +ℤ pos nanos_of_a_day) s.time ≡ x → int_lt told.last s.time ≡ y → x || y ≡ true → int_lt told.first s.time ≡ true
        pick true y late is or =
            let high : (told.first +ℤ pos nanos_of_a_day) <ℤ s.time = lt_told (told.first +ℤ pos nanos_of_a_day) s.time late in
            lt_true told.first s.time (omega (arith, ints))
        pick false true late is or =
            let high : told.last <ℤ s.time = lt_told told.last s.time is in
            let low : told.first ≤ℤ told.last = said.in_order in
            lt_true told.first s.time (omega (arith, ints))
        pick false false late is or = absurd (true≢false (sym or))

    starts : (t : ℤ) → list_any (λ e. int_lt (e.time +ℤ pos nanos_of_a_day) t) (s ∷ older) ≡ int_lt (told.first +ℤ pos nanos_of_a_day) t
    starts t =
        ap (λ (b : Bool). int_lt (s.time +ℤ pos nanos_of_a_day) t || b) (said.starts t) ∙ or_less (int_lt (s.time +ℤ pos nanos_of_a_day) t) (int_lt (told.first +ℤ pos nanos_of_a_day) t) sooner
      where
        sooner : int_lt (s.time +ℤ pos nanos_of_a_day) t ≡ true → int_lt (told.first +ℤ pos nanos_of_a_day) t ≡ true
        sooner later =
            let low : told.first <ℤ s.time = lt_told told.first s.time first_before in
            let high : (s.time +ℤ pos nanos_of_a_day) <ℤ t = lt_told (s.time +ℤ pos nanos_of_a_day) t later in
            lt_true (told.first +ℤ pos nanos_of_a_day) t (omega (arith, ints))

    all_before : int_lt (told.first +ℤ pos nanos_of_a_day) s.time ≡ false → Each (λ e. int_lt e.time s.time ≡ true) (said.newest ∷ said.others)
    all_before early = (newest_before, each_low said.others said.falls.0)
      where
        newest_before : int_lt said.newest.time s.time ≡ true
        newest_before =
            subst (λ (t : ℤ). int_lt t s.time ≡ true) said.last_is (sym (ap (λ (b : Bool). b || int_lt told.last s.time) early) ∙ next)

        each_low : (es : List Sighting) → Each (λ e. int_lt e.time said.newest.time ≡ true) es → Each (λ e. int_lt e.time s.time ≡ true) es
        each_low [] low = tt
        each_low (e ∷ es) low = (lt_chain e.time said.newest.time s.time low.0 newest_before, each_low es low.1)

    by : (late : Bool) → int_lt (told.first +ℤ pos nanos_of_a_day) s.time ≡ late → Says (s ∷ older) (cond late told (record {
      first = told.first;
      last = s.time;
      dec = s.dec;
      alone = false;
      fast = told.fast || is_fast_change told.last told.dec s.time s.dec;
    }))
    by true late = record {
      began = said.began;
      began_in = inr said.began_in;
      began_first = said.began_first;
      starts = starts;
      newest = said.newest;
      others = said.others;
      split = ap (λ (b : Bool). cond (not b) (s ∷ within_day told.first older) (within_day told.first older)) late ∙ said.split;
      falls = said.falls;
      in_order = said.in_order;
      last_is = said.last_is;
      dec_is = said.dec_is;
      alone_is = said.alone_is;
      fast_is = said.fast_is;
    }
    by false late = record {
      began = said.began;
      began_in = inr said.began_in;
      began_first = said.began_first;
      starts = starts;
      newest = s;
      others = said.newest ∷ said.others;
      split = ap (λ (b : Bool). cond (not b) (s ∷ within_day told.first older) (within_day told.first older)) late ∙ ap (λ (xs : List Sighting). s ∷ xs) said.split;
      falls = (all_before late, said.falls);
      in_order =
          let low : told.first <ℤ s.time = lt_told told.first s.time first_before in
          omega (arith, ints);
      last_is = refl;
      dec_is = refl;
      alone_is = sym two;
      fast_is =
          ap (λ (b : Bool). b || is_fast_change told.last told.dec s.time s.dec) said.fast_is
          ∙ ap (λ (t : ℤ). any_fast (said.newest ∷ said.others) || is_fast_change t told.dec s.time s.dec) said.last_is
          ∙ ap (λ (d : ℤ). any_fast (said.newest ∷ said.others) || is_fast_change said.newest.time d s.time s.dec) said.dec_is
          ∙ sym (any_fast_more s said.newest said.others (all_before late) said.falls.0);
    }
      where
        two : nat_lt (length (s ∷ said.newest ∷ said.others)) 2 ≡ false
        two = grind (arith, nat_tests)

-- a line that is later than all others is later than those of the day
later_than_all : (s : Sighting) (older : List Sighting) (told : Summary) → Each (λ e. int_lt e.time s.time ≡ true) older → Says older told → is_next told s ≡ true
later_than_all s older told before said =
    ap (λ (b : Bool). int_lt (told.first +ℤ pos nanos_of_a_day) s.time || b) (subst (λ (t : ℤ). int_lt t s.time ≡ true) (sym said.last_is) newest) ∙ either (int_lt (told.first +ℤ pos nanos_of_a_day) s.time)
  where
    either : (b : Bool) → b || true ≡ true
    either true = refl
    either false = refl

    newest : int_lt said.newest.time s.time ≡ true
    newest =
        (subst (Each (λ e. int_lt e.time s.time ≡ true)) said.split
        (each_filter (λ e. int_lt e.time s.time ≡ true) (λ e. not (int_lt (told.first +ℤ pos nanos_of_a_day) e.time)) older before)).0

pub says_all : (s : Sighting) (earlier : List Sighting) → IsDescending (s ∷ earlier) → Says (s ∷ earlier) (with_later (summary earlier) s.time s.dec)
says_all s [] falls = says_one s
says_all s (e ∷ earlier) falls =
    let said = says_all e earlier falls.1 in
    says_more s (e ∷ earlier) (with_later (summary earlier) e.time e.dec) (later_than_all s (e ∷ earlier) (with_later (summary earlier) e.time e.dec) falls.0 said) said
