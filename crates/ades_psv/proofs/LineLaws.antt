-- What is read from a data line is what its fields say, and nothing else is.
use Rattle.std.proofs.Common.{◌≡◌, ◌≢◌, ◌⊎◌, ℕ, Bool, true, false, cond, leb, not, ◌&&◌, ◌||◌, List, [], ◌∷◌, All, Option, Some, None, Result, Ok, Err, refl, sym, ap, ◌∙◌, inl, inr, arith}
use Rattle.std.specs.Prelude.{◌↔◌, ℤ}
use Rattle.std.specs.List.{list_all}
use Rattle.std.proofs.lemmas.Bool.{leb-true, le-leb, not-false, and_left, and_right, and_cases, or_parts}
use Rattle.std.proofs.lemmas.Bool.Decides.{nat_tests}
use Rattle.packed_names.specs.declared.number.Number.{Number}
use Rattle.packed_names.specs.declared.name.Designation.{Designation}
use Rattle.obs_record.specs.declared.rule.RuleCode.{RuleCode}
use Rattle.obs_record.specs.declared.rule.RuleCode.TheVariants.{S2, S3, S5, S6, S7, S9, S10, S11, S12}
use Rattle.obs_record.specs.declared.short.Short.{Short}
use Rattle.obs_record.specs.declared.sighting.Shape.TheVariants.{Psv}
use Rattle.obs_record.specs.declared.sighting.Sighting.{Sighting}
use Rattle.text_lines.specs.Steps.{◌>>=◌}
use Rattle.text_lines.specs.Rules.{Judges}
use Rattle.text_lines.specs.Judging.{judged_on, judged_test, one_judgement}
use Rattle.ades_psv.specs.declared.names.Names.{Names}
use Rattle.ades_psv.specs.declared.position.Stated.{Stated}
use Rattle.ades_psv.specs.declared.position.Position.{Position}
use Rattle.ades_psv.specs.Fields.{Fields}
use Rattle.ades_psv.specs.Optional.{Says, is_empty}
use Rattle.ades_psv.specs.Magnitudes.{IsMagnitude, magnitude_in, value_of, places_of}
use Rattle.ades_psv.specs.Names.{IsNumberText, IsDesignationText, IsTemporary, number_in, designation_in, temporary_in}
use Rattle.ades_psv.specs.Rules.{Keeps, IsTextByte, IsTime, IsRa, IsDec, HasFields, line_rules, IsSightingOf, IsReading}
use Rattle.ades_psv.specs.Reading.{is_text_byte, names_in, time_in, ra_in, dec_in, stated_in, lacks_field, lacks_name, lacks_band, or_missing, position_from, position_in, sighting_of_fields, reading_of}
use Rattle.ades_psv.specs.LawsBelow.{Laws}
use Rattle.ades_psv.proofs.Judging.{all_pass, empty_from, filled_from, filled_is, IsTold, field_told, field_then, some, says_one, reads_one}
use Rattle.ades_psv.proofs.FieldLaws.{number_field, designation_field, temporary_field, magnitude_field, time_field, ra_field, dec_field}

-- ---- parts of a line

text_bytes : (line : List ℕ) → (list_all is_text_byte line ≡ true) ↔ All IsTextByte line
text_bytes = all_pass is_text_byte IsTextByte (λ byte. (
  λ h. (grind (arith, nat_tests), λ is. grind (arith, nat_tests)),
  λ h. (let a = h.0 in let b = h.1 in grind (arith, nat_tests)),
))

-- the names of a line
record AreNames (fields : Fields) (names : Names) : Type 0 where
  perm : Says IsNumberText fields.perm names.perm
  prov : Says IsDesignationText fields.prov names.prov

-- what a line states
record AreStated (fields : Fields) (stated : Stated) : Type 0 where
  time : Says IsTime fields.time stated.time
  ra : Says IsRa fields.ra stated.ra
  dec : Says IsDec fields.dec stated.dec

-- ---- S10 and S11

-- when and where, on a line that lacks no field
record IsPosition (fields : Fields) (at : Position) : Type 0 where
  has : HasFields fields
  time : IsTime fields.time at.time
  ra : IsRa fields.ra at.ra
  dec : IsDec fields.dec at.dec

named_by : (p d s : List ℕ) → is_empty p && (is_empty d && is_empty s) ≡ false → (p ≢ []) ⊎ (d ≢ []) ⊎ (s ≢ [])
named_by p d s h = elim (and_cases (is_empty p) (is_empty d && is_empty s) h) [
  | inl perm ↦ inl (filled_from p perm)
  | inr others ↦ elim (and_cases (is_empty d) (is_empty s) others) [ inl prov ↦ inr (inl (filled_from d prov)) | inr sub ↦ inr (inr (filled_from s sub)) ]
]

band_by : (m b : List ℕ) → not (is_empty m) && is_empty b ≡ false → m ≢ [] → b ≢ []
band_by m b h some = elim (and_cases (not (is_empty m)) (is_empty b) h) [
  | inl none ↦ absurd (some (empty_from m (not-false (is_empty m) none)))
  | inr band ↦ filled_from b band
]

-- where no field is lacking, the fields aren't empty
has_from : (fields : Fields) → lacks_field fields || (lacks_name fields || lacks_band fields) ≡ false → fields.time ≢ [] → fields.ra ≢ [] → fields.dec ≢ [] → HasFields fields
unfolding lacks_field lacks_name lacks_band
has_from fields nothing time ra dec =
    let whole = or_parts (is_empty fields.station || (is_empty fields.mode || is_empty fields.catalogue)) _ nothing in
    let field = or_parts (is_empty fields.station) (is_empty fields.mode || is_empty fields.catalogue) whole.0 in
    let words = or_parts (is_empty fields.mode) (is_empty fields.catalogue) field.1 in
    let others = or_parts (is_empty fields.perm && (is_empty fields.prov && is_empty fields.sub)) _ whole.1 in
    record {
      station = filled_from fields.station field.0;
      mode = filled_from fields.mode words.0;
      time = time;
      ra = ra;
      dec = dec;
      catalogue = filled_from fields.catalogue words.1;
      name = named_by fields.perm fields.prov fields.sub others.0;
      band = band_by fields.mag fields.band others.1;
    }

name_lacking : (p d s : List ℕ) → (p ≢ []) ⊎ (d ≢ []) ⊎ (s ≢ []) → is_empty p && (is_empty d && is_empty s) ≡ false
name_lacking p d s (inl some) = and_left (is_empty p) _ (filled_is p some)
name_lacking p d s (inr (inl some)) = and_right (is_empty p) _ (and_left (is_empty d) _ (filled_is d some))
name_lacking p d s (inr (inr some)) = and_right (is_empty p) _ (and_right (is_empty d) _ (filled_is s some))

band_lacking : (mag : Bool) (m b : List ℕ) → is_empty m ≡ mag → (m ≢ [] → b ≢ []) → not mag && is_empty b ≡ false
band_lacking true m b e with_band = refl
band_lacking false m b e with_band = filled_is b (with_band (filled_from m e))

nothing_lacks : (fields : Fields) → HasFields fields → lacks_field fields || (lacks_name fields || lacks_band fields) ≡ false
unfolding lacks_field lacks_name lacks_band
nothing_lacks fields has =
    let name = name_lacking fields.perm fields.prov fields.sub has.name in
    let band = band_lacking (is_empty fields.mag) fields.mag fields.band refl has.band in
    rw (filled_is fields.station has.station, filled_is fields.mode has.mode, filled_is fields.catalogue has.catalogue, name, band) refl

-- the observation of parts that were read is that of the line's fields
observed_is : (fields : Fields) (names : Names) (mag : Option (ℕ × ℕ)) (at : Position) (sub : Option Short) → AreNames fields names
    → Says IsMagnitude fields.mag mag → IsPosition fields at → Says IsTemporary fields.sub sub → IsSightingOf fields (sighting_of_fields fields names at mag sub)
observed_is fields names mag at sub is_names is_mag is_at is_sub = record {
  perm = is_names.perm;
  prov = is_names.prov;
  sub = is_sub;
  station = refl;
  time = is_at.time;
  ra = is_at.ra;
  dec = is_at.dec;
  read = mag;
  mag = is_mag;
  value = refl;
  band = refl;
  mode = refl;
  catalogue = refl;
  note1 = refl;
  shape = refl;
}

-- ---- whole lines

names_by : (fields : Fields) (perm : Result (Option Number) RuleCode) (prov : Result (Option Designation) RuleCode)
    → IsTold S3 IsNumberText fields.perm perm → IsTold S3 IsDesignationText fields.prov prov → Judges (Keeps fields) (S3 ∷ []) (AreNames fields) (perm >>= λ number. prov >>= λ designation. Ok (record { perm = number; prov = designation }))
names_by fields (Err rule) prov p d = inl (λ kept. p.0 kept.0, p.1)
names_by fields (Ok number) (Err rule) p d = inl (λ kept. d.0 kept.1, d.1)
names_by fields (Ok number) (Ok designation) p d = ((((number, p), (designation, d)), tt), record { perm = p; prov = d })

module _ (laws : Laws) where
  names_judged : (fields : Fields) → Judges (Keeps fields) (S2 ∷ S3 ∷ []) (AreNames fields) (names_in fields)
  unfolding names_in number_in designation_in
  names_judged fields =
      judged_test (Keeps fields) S2 (S3 ∷ []) (AreNames fields) (not (list_all is_text_byte fields.line)) _
      (λ broken kept. (let all = (text_bytes fields.line).1 kept in cc)) (λ fine. (text_bytes fields.line).0 (not-false (list_all is_text_byte fields.line) fine))
      (λ fine. names_by fields (number_in fields.perm) (designation_in fields.prov) (field_told (number_field laws) fields.perm) (field_told (designation_field laws) fields.prov))

  stated_judged : (fields : Fields) → Judges (Keeps fields) (S5 ∷ S6 ∷ S7 ∷ []) (AreStated fields) (stated_in fields)
  unfolding stated_in time_in ra_in dec_in
  stated_judged fields =
      field_then (time_field laws) fields fields.time (λ k. k) (λ k. k) (S6 ∷ S7 ∷ []) (AreStated fields) _ (λ time is_time.
      field_then (ra_field laws) fields fields.ra (λ k. k) (λ k. k) (S7 ∷ []) (AreStated fields) _ (λ ra is_ra.
      field_then (dec_field laws) fields fields.dec (λ k. k) (λ k. k) [] (AreStated fields) _ (λ dec is_dec.
      (tt, record { time = is_time; ra = is_ra; dec = is_dec }))))

  position_by : (fields : Fields) (time : Option ℤ) (ra : Option ℕ) (dec : Option ℤ) → lacks_field fields || (lacks_name fields || lacks_band fields) ≡ false
      → Says IsTime fields.time time → Says IsRa fields.ra ra → Says IsDec fields.dec dec
      → Judges (Keeps fields) (S11 ∷ []) (IsPosition fields) (or_missing time >>= λ t. or_missing ra >>= λ r. or_missing dec >>= λ d. Ok (record { time = t; ra = r; dec = d }))
  position_by fields None ra dec nothing t r d = inl (λ has. has.time t, refl)
  position_by fields (Some time) None dec nothing t r d = inl (λ has. has.ra r, refl)
  position_by fields (Some time) (Some ra) None nothing t r d = inl (λ has. has.dec d, refl)
  position_by fields (Some time) (Some ra) (Some dec) nothing t r d =
      let has = has_from fields nothing (some (time_field laws) fields.time time t) (some (ra_field laws) fields.ra ra r) (some (dec_field laws) fields.dec dec d) in
      ((has, tt), record { has = has; time = t; ra = r; dec = d })

  complete_by : (fields : Fields) (stated : Stated) (lacks : Bool) → AreStated fields stated → lacks_field fields || (lacks_name fields || lacks_band fields) ≡ lacks
      → Judges (Keeps fields) (S11 ∷ []) (IsPosition fields) (cond lacks (Err S11) (position_from stated))
  unfolding position_from
  complete_by fields stated true are h = inl (λ has. (let none = nothing_lacks fields has in cc), refl)
  complete_by fields stated false are h = position_by fields stated.time stated.ra stated.dec h are.time are.ra are.dec

  position_judged : (fields : Fields) (stated : Stated) → AreStated fields stated → Judges (Keeps fields) (S10 ∷ S11 ∷ []) (IsPosition fields) (position_in fields stated)
  unfolding position_in
  position_judged fields stated are =
      judged_test (Keeps fields) S10 (S11 ∷ []) (IsPosition fields) (not (leb fields.count fields.columns)) _
      (λ broken kept. (let few = le-leb fields.count fields.columns kept in cc)) (λ fine. leb-true fields.count fields.columns (not-false (leb fields.count fields.columns) fine))
      (λ fine. complete_by fields stated (lacks_field fields || (lacks_name fields || lacks_band fields)) are refl)

  -- What is read is the reading of the line.
  pub reading_is : (fields : Fields) → IsReading fields (reading_of fields)
  unfolding reading_of magnitude_in temporary_in
  reading_is fields =
      judged_on (Keeps fields) (S2 ∷ S3 ∷ []) (S5 ∷ S6 ∷ S7 ∷ S9 ∷ S10 ∷ S11 ∷ S12 ∷ []) (AreNames fields) (IsSightingOf fields) (names_in fields) _ (names_judged fields) (λ names is_names.
      judged_on (Keeps fields) (S5 ∷ S6 ∷ S7 ∷ []) (S9 ∷ S10 ∷ S11 ∷ S12 ∷ []) (AreStated fields) (IsSightingOf fields) (stated_in fields) _ (stated_judged fields) (λ stated is_stated.
      field_then (magnitude_field laws) fields fields.mag (λ k. k) (λ k. k) (S10 ∷ S11 ∷ S12 ∷ []) (IsSightingOf fields) _ (λ mag is_mag.
      judged_on (Keeps fields) (S10 ∷ S11 ∷ []) (S12 ∷ []) (IsPosition fields) (IsSightingOf fields) (position_in fields stated) _ (position_judged fields stated is_stated) (λ at is_at.
      field_then temporary_field fields fields.sub (λ k. k) (λ k. k) [] (IsSightingOf fields) _ (λ sub is_sub.
      (tt, observed_is fields names mag at sub is_names is_mag is_at is_sub))))))

  -- ---- no other reading

  -- a line has one observation
  one_sighting : (fields : Fields) (s t : Sighting) → IsSightingOf fields s → IsSightingOf fields t → s ≡ t
  one_sighting fields s t is_s is_t =
      let mag : is_s.read ≡ is_t.read = says_one (magnitude_field laws) fields.mag is_s.read is_t.read is_s.mag is_t.mag in
      λ i. record {
        perm = says_one (number_field laws) fields.perm s.perm t.perm is_s.perm is_t.perm i;
        prov = says_one (designation_field laws) fields.prov s.prov t.prov is_s.prov is_t.prov i;
        sub = says_one temporary_field fields.sub s.sub t.sub is_s.sub is_t.sub i;
        station = (is_s.station ∙ sym is_t.station) i;
        time = reads_one (time_field laws) fields.time s.time t.time is_s.time is_t.time i;
        ra = reads_one (ra_field laws) fields.ra s.ra t.ra is_s.ra is_t.ra i;
        dec = reads_one (dec_field laws) fields.dec s.dec t.dec is_s.dec is_t.dec i;
        mag = (is_s.value ∙ ap value_of mag ∙ sym is_t.value) i;
        band = (is_s.band ∙ sym is_t.band) i;
        mode = (is_s.mode ∙ sym is_t.mode) i;
        catalogue = (is_s.catalogue ∙ sym is_t.catalogue) i;
        note1 = (is_s.note1 ∙ sym is_t.note1) i;
        shape = (is_s.shape ∙ ap (λ (read : Option (ℕ × ℕ)). Psv (places_of read)) mag ∙ sym is_t.shape) i;
      }

  -- two readings of a line are the same
  pub one_reading : (fields : Fields) (one other : Result Sighting RuleCode) → IsReading fields one → IsReading fields other → one ≡ other
  one_reading fields one other is_one is_other =
      one_judgement (Keeps fields) line_rules (IsSightingOf fields) one other (λ kept s t is_s is_t. one_sighting fields s t is_s is_t) is_one is_other
