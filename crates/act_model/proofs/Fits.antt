-- An act that is done fits what was done before.
use Rattle.std.proofs.Common.{◌≡◌, ◌≢◌, ℕ, ℤ, ◌<◌, List, [], ◌∷◌, map, true, false, Option, Some, None, IsSome, Ok, refl, ap, subst, ◌∙◌, arith}
use Rattle.std.specs.Prelude.{is_none}
use Rattle.std.specs.Ordering.{eq_by_cmp}
use Rattle.packed_names.specs.declared.half_month.HalfMonth.{HalfMonth}
use Rattle.packed_names.specs.declared.name.Designation.{Designation}
use Rattle.packed_names.specs.Order.{designation_cmp}
use Rattle.packed_names.specs.Ranges.{IsHalfMonth, limit_of}
use Rattle.designate_core.specs.Takes.{given_in, next_in}
use Rattle.designate_core.specs.Unbroken.{NoneBeforeBegun, CountsGrow}
use Rattle.identify_core.specs.Acts.{LinkAct, is_principal_of, principal, given_in_order}
use Rattle.identify_core.specs.Principals.{IsAscending}
use Rattle.numbering_core.specs.Numbers.{IsUnbroken}
use Rattle.tracklet_file.specs.declared.observation.Observation.{Observation}
use Rattle.tracklet_file.specs.declared.tracklet.Tracklet.{Tracklet}
use Rattle.tracklet_file.specs.Numbering.{numbered}
use Rattle.act_model.specs.declared.act.Act.{Act}
use Rattle.act_model.specs.declared.act.Act.TheVariants as act
use Rattle.act_model.specs.declared.deed.Deed.{Deed}
use Rattle.act_model.specs.declared.deed.Deed.TheVariants.{Numbered}
use Rattle.act_model.specs.declared.entry.Entry.{Entry}
use Rattle.act_model.specs.declared.reply.Refusal.{Refusal}
use Rattle.act_model.specs.Acts.{act_of, IsRead}
use Rattle.act_model.specs.Rows.{unless}
use Rattle.act_model.specs.BatchRules.{is_in_years}
use Rattle.act_model.specs.Holdings.{holdings}
use Rattle.act_model.specs.Designations.{row_acts_of, links_of, is_given, is_principal}
use Rattle.act_model.specs.Discoveries.{earliest, span, half_of}
use Rattle.act_model.specs.Verdicts.{verdicts_of}
use Rattle.act_model.specs.Numbers.{with_numbers, numbers_of}
use Rattle.act_model.specs.Doing.{tracklet_row, designate_rows, attribute_rows, release_rows, identify_rows, separate_rows, verdict_rows, opening_rows, does}
use Rattle.act_model.specs.Fitting.{IsNew, AreTracklets, FitsObjects}
use Rattle.act_model.specs.Deeds.{deeds}
use Rattle.act_model.proofs.DeedCases.{deed_cases}
use Rattle.act_model.proofs.Designating.{designated}
use Rattle.act_model.proofs.Given.{AreSame, IsItself, AreGivenNext, has_more, given_next, next_unknown, carried_new}
use Rattle.act_model.proofs.Halves.{discovered_in}
use Rattle.act_model.proofs.InRange.{IsInRange, range_of_read, IsInRangeRead, AreFirst, AreOpenings, read_in_range}
use Rattle.act_model.proofs.Legal.{same_deed}
use Rattle.act_model.proofs.Numbered.{numbers_go_on}
use Rattle.act_model.proofs.RowLemmas.{AreOff, rows_off, before_off, not_off}
use Rattle.act_model.proofs.Years.{observed_years}

-- ---- what is named is there

is_there : {A : Type 0} (o : Option A) → is_none o ≡ false → IsSome o
is_there None is = absurd cc
is_there (Some x) is = refl

are_there : (tracklets : List Tracklet) (ts : List ℕ) → AreOff (map (tracklet_row tracklets) ts) → AreTracklets tracklets ts
are_there tracklets [] off = tt
are_there tracklets (t ∷ ts) off = (is_there (numbered tracklets t) off.0, are_there tracklets ts off.1)

-- ---- what designations are sure of

-- the designations that were given ascend
abbrev pub AllAscend : Type 0
AllAscend = (acts : List LinkAct) → IsAscending (given_in_order acts)

module _ (same : AreSame) (itself : IsItself) (none_before : NoneBeforeBegun) (grow : CountsGrow) where
  own : (p : Designation) (o : Option Designation) → is_principal_of p o ≡ true → o ≡ Some p
  own p None is = absurd cc
  own p (Some q) is = ap (λ (d : Designation). Some d) (same q p is)

  apart : (p s : Designation) → eq_by_cmp designation_cmp p s ≡ false → p ≢ s
  apart p s other is = let equal = subst (λ (d : Designation). eq_by_cmp designation_cmp p d ≡ true) is (itself p) in cc

  not_own : (s : Designation) (o : Option Designation) → is_principal_of s o ≡ false → ¬ (o ≡ Some s)
  not_own s o other is = let equal = ap (is_principal_of s) is ∙ itself s in cc

  module _ (up : AllAscend) (past : List Deed) (moment : ℤ) (years : (k : ℕ) (o : Observation) → numbered (holdings past).observations k ≡ Some o → is_in_years o.sighting ≡ true) (next : AreGivenNext past) (unbroken : IsUnbroken (numbers_of past)) where
    fits_unless : (o : Option Refusal) (done deed : Deed) → (o ≡ None → FitsObjects past done) → unless o (Ok done) ≡ Ok deed → FitsObjects past deed
    fits_unless o done deed fits is = let s = same_deed o done deed is in subst (FitsObjects past) s.1 (fits s.0)

    -- the next one of a half-month that isn't full
    new_in : (half : HalfMonth) → IsHalfMonth half → given_in half (row_acts_of past) < limit_of half → IsNew (row_acts_of past) (links_of past) (next_in half (row_acts_of past))
    new_in half is free =
        record {
          next = refl;
          free = free;
          name = record { half = is; order_from = omega arith; order_to = omega arith };
          unknown = next_unknown same itself none_before grow past next half;
        }

    designate_fits : (tracklets : List ℕ) (deed : Deed) → does past moment (act.Designate tracklets) ≡ Ok deed → FitsObjects past deed
    unfolding does
    designate_fits tracklets deed is =
        let d = designated (holdings past) (row_acts_of past) tracklets deed is in
        let half : HalfMonth = half_of (earliest d.first d.more).time in
        let off = before_off (map (tracklet_row (holdings past).tracklets) tracklets) _ (rows_off (designate_rows (holdings past) tracklets) d.there) in
        subst (FitsObjects past) d.deed_is (
          are_there (holdings past).tracklets tracklets off,
          new_in half (discovered_in (holdings past).observations tracklets d.first d.more years d.seen_is) (has_more (row_acts_of past) (span d.first d.more) half d.allowed),
        )

    act_fits : (a : Act) (deed : Deed) → IsInRange a → does past moment a ≡ Ok deed → FitsObjects past deed
    unfolding does
    act_fits (act.Designate tracklets) deed range is = designate_fits tracklets deed is
    act_fits (act.Attribute t to) deed range is =
        fits_unless _ _ deed (λ none. let off = rows_off (attribute_rows (holdings past) (links_of past) t to) none in
        (is_there (numbered (holdings past).tracklets t) off.0, not_off (is_given (links_of past) to) off.1.0)) is
    act_fits (act.Release t) deed range is =
        fits_unless _ _ deed (λ none. is_there (numbered (holdings past).tracklets t) (rows_off (release_rows (holdings past) t) none).0) is
    act_fits (act.Identify p s) deed range is =
        fits_unless _ _ deed (λ none. let off = rows_off (identify_rows (links_of past) (numbers_of past) p s) none in (
          own p (principal (links_of past) p) (not_off (is_principal (links_of past) p) off.1.1.0),
          own s (principal (links_of past) s) (not_off (is_principal (links_of past) s) off.1.1.1.0),
          apart p s off.1.1.1.1.0,
        )) is
    act_fits (act.Separate s) deed range is =
        fits_unless _ _ deed (λ none. let off = rows_off (separate_rows (links_of past) s) none in
        (not_off (is_given (links_of past) s) off.0, not_own s (principal (links_of past) s) off.1.0)) is
    act_fits (act.Verdict d u oppositions) deed range is =
        fits_unless _ _ deed (λ none. own d (principal (links_of past) d) (not_off (is_principal (links_of past) d) (rows_off (verdict_rows (links_of past) d) none).1.0)) is
    act_fits (act.Number first_number most) deed range is =
        fits_unless _ _ deed (λ none. numbers_go_on (holdings past) (links_of past) (verdicts_of past) (numbers_of past) first_number most (up (links_of past)) unbroken range none) is
    act_fits (act.Opening half given carried) deed range is =
        fits_unless _ _ deed (λ none. let unbegun = (rows_off (opening_rows (row_acts_of past) half) none).0 in
        record { unbegun = unbegun; ranges = range; unknown = carried_new same itself none_before grow past next half given carried unbegun range }) is
    act_fits _ deed range is = fits_unless _ _ deed (λ _. tt) is

  -- ---- histories

  unbroken_with : (past : List Deed) (deed : Deed) → IsUnbroken (numbers_of past) → FitsObjects past deed → IsUnbroken (with_numbers deed (numbers_of past))
  unbroken_with past (Numbered pairs) before fits = fits
  unbroken_with past _ before fits = before

  module _ (up : AllAscend) (firsts : AreFirst) (openings : AreOpenings) where
    pub numbers_unbroken : (history : List Entry) → IsUnbroken (numbers_of (deeds history))
    numbers_unbroken [] = tt
    numbers_unbroken (e ∷ past) =
        let before = numbers_unbroken past in
        deed_cases (λ (deed : Deed). IsUnbroken (with_numbers deed (numbers_of (deeds past)))) (deeds past) e before
        (λ a deed read done. unbroken_with (deeds past) deed before
        (act_fits up (deeds past) e.moment (observed_years past) (given_next firsts openings past) before a deed (subst IsInRangeRead read (read_in_range firsts openings e.verb e.body)) done))

    pub acts_fit : (history : List Entry) (moment : ℤ) (a : Act) (deed : Deed) → IsRead a → does (deeds history) moment a ≡ Ok deed → FitsObjects (deeds history) deed
    acts_fit history moment a deed read done = act_fits up (deeds history) moment (observed_years history) (given_next firsts openings history) (numbers_unbroken history) a deed (range_of_read a read) done

    -- and so does the act of an entry
    pub deed_fits : (history : List Entry) (e : Entry) (a : Act) (deed : Deed) → act_of e.verb e.body ≡ Ok a → does (deeds history) e.moment a ≡ Ok deed → FitsObjects (deeds history) deed
    deed_fits history e a deed read done =
        act_fits up (deeds history) e.moment (observed_years history) (given_next firsts openings history) (numbers_unbroken history) a deed (subst IsInRangeRead read (read_in_range firsts openings e.verb e.body)) done
