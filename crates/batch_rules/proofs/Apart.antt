-- The observations that pass a batch's rules for single lines: no two of a group have the same time.
use Rattle.std.proofs.Common.{◌≡◌, ℕ, ◌+◌, ◌≤◌, ℤ, Bool, true, false, not, ◌&&◌, ◌||◌, cond, List, [], ◌∷◌, Option, Some, None, Result, Ok, Err, refl, ap, sym, subst, ◌∙◌, inl, inr, true≢false, lit≤, arith}
use Rattle.std.specs.Prelude.{◌==◌, count_by}
use Rattle.std.specs.Ordering.{int_eq}
use Rattle.std.proofs.lemmas.Bool.{and_parts}
use Rattle.std.proofs.lemmas.Bool.Decides.{Decides-int_eq}
use Rattle.std.proofs.lemmas.Option.{none-some}
use Rattle.std.proofs.lemmas.List.Sums.{sum_by-cons}
use Rattle.obs_record.specs.declared.line.Line.{Line}
use Rattle.obs_record.specs.declared.sighting.Sighting.{Sighting}
use Rattle.obs_record.specs.declared.rule.RuleCode.{RuleCode}
use Rattle.act_model.specs.BatchRules.{name_of}
use Rattle.station_tables.specs.Rows.{TableRows}
use Rattle.obs_record.specs.Short.{same_short}
use Rattle.tracklet_file.specs.Observations.{is_at}
use Rattle.act_model.specs.Rows.{first_row}
use Rattle.act_model.specs.Known.{KnownOffice}
use Rattle.act_model.specs.BatchRules.{same_track, same_group, is_elsewhere, stands_already, stands_elsewhere, line_rules, unless_broken, checked_reading, with_passed, checked_lines, passed_in}
use Rattle.batch_rules.specs.Groups.{AreApart}
use Rattle.batch_rules.proofs.Any.{IsIn, Each, any_in}
use Rattle.batch_rules.proofs.Fast.{both_pass}
use Rattle.batch_rules.proofs.Transfer.{same_turned, same_with}

count_none : {A : Type 0} (p : A → Bool) (xs : List A) → ((x : A) → IsIn xs x → p x ≡ false) → count_by p xs ≡ 0
count_none {A = A} p [] none = refl
count_none {A = A} p (x ∷ xs) none =
    let here : ◌≡◌ {A = ℕ} (cond (p x) 1 0) 0 = ap (λ (b : Bool). cond b 1 0) (none x (inl refl)) in
    omega (arith, here, count_none p xs (λ y there. none y (inr there)), sum_by-cons (λ (y : A). cond (p y) 1 0) x xs)

or_parts : (x y : Bool) → x || y ≡ false → (x ≡ false) × (y ≡ false)
or_parts false false none = (refl, refl)
or_parts true y none = absurd (true≢false none)
or_parts false true none = absurd (true≢false none)

module _ (office : KnownOffice) (s : Sighting) (earlier : List Sighting) (no_place : stands_already office earlier s ≡ false) (no_other : stands_elsewhere earlier s ≡ false) where
  -- none of the earlier ones has its group and its time
  none_together : (e : Sighting) → IsIn earlier e → same_group s e ≡ true → int_eq e.time s.time ≡ true → ⊥
  none_together e there same time = by ((e.ra == s.ra) && int_eq e.dec s.dec) refl
    where
      parts : (same_track (name_of e) (name_of s) ≡ true) × (same_short e.station s.station ≡ true)
      parts = and_parts (same_track (name_of e) (name_of s)) (same_short e.station s.station) (same_turned e s ∙ same)

      by : (b : Bool) → (e.ra == s.ra) && int_eq e.dec s.dec ≡ b → ⊥
      by true is =
          let at : is_at s.station s.time s.ra s.dec e ≡ true =
          both_pass (same_short e.station s.station) _ parts.1 (both_pass (int_eq e.time s.time) _ time is) in
          absurd (true≢false (sym (any_in (is_at s.station s.time s.ra s.dec) earlier e there at) ∙ (or_parts (office.has_live s.station s.time s.ra s.dec) _ no_place).1))
      by false is =
          let elsewhere : is_elsewhere s e ≡ true =
          both_pass (same_short e.station s.station) _ parts.1
          (both_pass (int_eq e.time s.time) _ time (both_pass (same_track (name_of e) (name_of s)) _ parts.0 (ap not is))) in
          absurd (true≢false (sym (any_in (is_elsewhere s) earlier e there elsewhere) ∙ no_other))

  apart_with : AreApart earlier → AreApart (s ∷ earlier)
  apart_with apart other = by (same_group other s && int_eq s.time other.time) refl
    where
      by : (b : Bool) → same_group other s && int_eq s.time other.time ≡ b → count_by (λ e. same_group other e && int_eq e.time other.time) (s ∷ earlier) ≤ 1
      by false is =
          let here : ◌≡◌ {A = ℕ} (cond (same_group other s && int_eq s.time other.time) 1 0) 0 = ap (λ (b : Bool). cond b 1 0) is in
          omega (arith, here, apart other, sum_by-cons (λ (e : Sighting). cond (same_group other e && int_eq e.time other.time) 1 0) s earlier)
      by true is =
          let mine = and_parts (same_group other s) (int_eq s.time other.time) is in
          let here : ◌≡◌ {A = ℕ} (cond (same_group other s && int_eq s.time other.time) 1 0) 1 = ap (λ (b : Bool). cond b 1 0) is in
          let rest = count_none (λ e. same_group other e && int_eq e.time other.time) earlier (none_of mine.0 mine.1) in
          omega (arith, here, rest, sum_by-cons (λ (e : Sighting). cond (same_group other e && int_eq e.time other.time) 1 0) s earlier)
        where
          none_of : same_group other s ≡ true → int_eq s.time other.time ≡ true → (e : Sighting) → IsIn earlier e → same_group other e && int_eq e.time other.time ≡ false
          none_of mine time e there = pick (same_group other e && int_eq e.time other.time) refl
            where
              pick : (b : Bool) → same_group other e && int_eq e.time other.time ≡ b → b ≡ false
              pick false is = refl
              pick true is =
                  let its = and_parts (same_group other e) (int_eq e.time other.time) is in
                  let times : e.time ≡ s.time = (Decides-int_eq e.time other.time).0 its.1 ∙ sym ((Decides-int_eq s.time other.time).0 time) in
                  absurd (none_together e there (sym (same_with other s e mine) ∙ its.0) ((Decides-int_eq e.time s.time).1 times))

-- where no row of a table holds, each of them fails
rows_failed : (rows : List (Bool × RuleCode)) → first_row rows ≡ None → Each (λ row. row.0 ≡ false) rows
rows_failed [] none = tt
rows_failed (row ∷ rows) none = by row.0 refl none (rows_failed rows)
  where
    by : (b : Bool) → row.0 ≡ b → cond b (Some row.1) (first_row rows) ≡ None → (first_row rows ≡ None → Each (λ row. row.0 ≡ false) rows) → (row.0 ≡ false) × Each (λ row. row.0 ≡ false) rows
    by true is none rest = absurd (none-some row.1 (sym none))
    by false is none rest = (is, rest none)

module _ (office : KnownOffice) (tables : TableRows) (moment : ℤ) where
  rules_passed : (earlier : List Sighting) (s : Sighting) → first_row (line_rules office tables moment earlier s) ≡ None → (stands_already office earlier s ≡ false) × (stands_elsewhere earlier s ≡ false)
  rules_passed earlier s none =
      let failed = rows_failed (line_rules office tables moment earlier s) none in
      let from_b4 = failed.1.1.1.1.1.1.1.1 in
      (from_b4.0, from_b4.1.0)

  reading_passed : (earlier : List Sighting) (read : Result Sighting RuleCode) (s : Sighting) → checked_reading office tables moment earlier read ≡ Ok s → AreApart earlier → AreApart (s ∷ earlier)
  unfolding checked_reading
  reading_passed earlier (Err rule) s is apart = absurd (cc)
  reading_passed earlier (Ok found) s is apart = by (first_row (line_rules office tables moment earlier found)) refl is
    where
      by : (fault : Option RuleCode) → first_row (line_rules office tables moment earlier found) ≡ fault → unless_broken found fault ≡ Ok s → AreApart (s ∷ earlier)
      by (Some rule) told is = absurd (cc)
      by None told is =
          let same : found ≡ s = cc in
          let passed = rules_passed earlier found told in
          subst (λ (x : Sighting). AreApart (x ∷ earlier)) same (apart_with office found earlier passed.0 passed.1 apart)

  together : (earlier : List Sighting) (lines : List Line) → AreApart earlier → (s : Sighting)
      → count_by (λ e. same_group s e && int_eq e.time s.time) earlier + count_by (λ e. same_group s e && int_eq e.time s.time) (passed_in (checked_lines office tables moment earlier lines)) ≤ 1
  together earlier [] apart s = omega (arith, apart s)
  together earlier (line ∷ lines) apart s = by (checked_reading office tables moment earlier line.read) refl (λ more apart. together more lines apart s)
    where
      by : (read : Result Sighting RuleCode) → checked_reading office tables moment earlier line.read ≡ read
          → ((more : List Sighting) → AreApart more → count_by (λ e. same_group s e && int_eq e.time s.time) more + count_by (λ e. same_group s e && int_eq e.time s.time) (passed_in (checked_lines office tables moment more lines)) ≤ 1)
          → count_by (λ e. same_group s e && int_eq e.time s.time) earlier
          + count_by (λ e. same_group s e && int_eq e.time s.time) (passed_in (record line { read = read } ∷ checked_lines office tables moment (with_passed read earlier) lines)) ≤ 1
      by (Err rule) is rest = rest earlier apart
      by (Ok found) is rest =
          omega (
            arith,
            rest (found ∷ earlier) (reading_passed earlier line.read found is apart),
            sum_by-cons (λ (e : Sighting). cond (same_group s e && int_eq e.time s.time) 1 0) found earlier,
            sum_by-cons (λ (e : Sighting). cond (same_group s e && int_eq e.time s.time) 1 0) found (passed_in (checked_lines office tables moment (found ∷ earlier) lines)),
          )

  -- no two of a group have the same time
  pub passed_apart : (lines : List Line) → AreApart (passed_in (checked_lines office tables moment [] lines))
  passed_apart lines s = omega (arith, together [] lines (λ o. lit≤ tt) s)
