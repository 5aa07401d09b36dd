-- A data line's observation has its fields in their ranges.
use Rattle.std.proofs.Common.{◌≡◌, ◌≢◌, ◌⊎◌, ℕ, ◌≤◌, Bool, true, false, cond, List, [], get_or, map, Option, Some, None, Result, Ok, Err, refl, sym, subst, inl, inr, arith, lit≤}
use Rattle.std.specs.Prelude.{IfOk, IfSome, IsSome}
use Rattle.packed_names.specs.Ranges.{IsNumber, IsDesignation}
use Rattle.obs_record.specs.declared.sighting.Coded.TheVariants.{Nothing, Word}
use Rattle.obs_record.specs.declared.line.Line.{Line}
use Rattle.obs_record.specs.declared.rule.RuleCode.{RuleCode}
use Rattle.obs_record.specs.declared.short.Short.{Short}
use Rattle.obs_record.specs.declared.sighting.Sighting.{Sighting}
use Rattle.obs_record.specs.Filed.{IsTakenMode, IsOwnName, IsStated, AreStated}
use Rattle.std.proofs.lemmas.List.Elements.{All-map}
use Rattle.std.proofs.lemmas.Result.{IfOk-weaker}
use Rattle.text_lines.specs.Steps.{bind_ok}
use Rattle.ades_psv.specs.Batch.{DataLine, data_lines_of, read_of, all_read, psv_lines_of}
use Rattle.ades_psv.specs.Reading.{reading_of}
use Rattle.ades_psv.proofs.LineLaws.{reading_is}
use Rattle.obs_record.specs.Short.{IsShort, kept_short}
use Rattle.obs_record.specs.Magnitudes.{greatest_magnitude, HasDecimals}
use Rattle.obs_record.specs.Sighting.{IsPrintable, IsCoded, IsShape, IsSighting}
use Rattle.ades_psv.specs.Fields.{Fields, fields_of}
use Rattle.ades_psv.specs.Optional.{Says, is_empty}
use Rattle.ades_psv.specs.Magnitudes.{IsMagnitude, value_of, places_of}
use Rattle.ades_psv.specs.Names.{IsNumberText, IsDesignationText, IsTemporary}
use Rattle.ades_psv.specs.Rules.{HasFields, IsSightingOf, IsReading}
use Rattle.ades_psv.specs.LawsBelow.{Laws}

-- ---- names

-- what is so of whatever is read from a field is so of what it says
pub says_all : {A : Type 0} (Reads : List ℕ → A → Type 0) (Good : A → Type 0) (text : List ℕ) (said : Option A) → ((x : A) → Reads text x → Good x) → Says Reads text said → IfSome said Good
says_all Reads Good text None good says = tt
says_all Reads Good text (Some x) good says = good x says

-- a field that isn't empty says something
says_some : {A : Type 0} (Reads : List ℕ → A → Type 0) (text : List ℕ) (said : Option A) → Says Reads text said → text ≢ [] → IsSome said
says_some Reads text None says some = absurd (some says)
says_some Reads text (Some x) says some = refl

named_so : (fields : Fields) (s : Sighting) → IsSightingOf fields s → (fields.perm ≢ []) ⊎ (fields.prov ≢ []) ⊎ (fields.sub ≢ []) → IsSome s.perm ⊎ IsSome s.prov ⊎ IsSome s.sub
named_so fields s is (inl some) = inl (says_some IsNumberText fields.perm s.perm is.perm some)
named_so fields s is (inr (inl some)) = inr (inl (says_some IsDesignationText fields.prov s.prov is.prov some))
named_so fields s is (inr (inr some)) = inr (inr (says_some IsTemporary fields.sub s.sub is.sub some))

-- ---- magnitudes

module _ (laws : Laws) where
  open laws use {records.{kept_is_short, made_of_decimals}}

  magnitude_so : (text : List ℕ) (read : Option (ℕ × ℕ)) → Says IsMagnitude text read
      → IfSome (value_of read) (λ mag. mag ≤ greatest_magnitude) × HasDecimals (value_of read) (places_of read) × (places_of read ≤ 6)
  magnitude_so text None says = (tt, refl, lit≤ tt)
  magnitude_so text (Some read) says =
      let p = says.parts in
      (says.below, rw (says.value, says.places) (made_of_decimals p.whole p.count p.value says.few), omega (arith, says.places, says.few))

  -- ---- lines

  coded_by : (empty : Bool) (text : List ℕ) → IsCoded (cond empty Nothing (Word (kept_short text)))
  coded_by true text = tt
  coded_by false text = kept_is_short text

  own_name : (text : List ℕ) (short : Short) → IsTemporary text short → IsOwnName short
  own_name text short says = subst IsOwnName (sym says.kept) (laws.own text says.some (omega (arith, says.few)) says.visible)

  -- what a data line says that keeps every rule is in range, and its mode is a word
  pub line_stated : (fields : Fields) (s : Sighting) → IsReading fields (Ok s) → IsStated s
  line_stated fields s (kept, is) =
      let has : HasFields fields = kept.1.1.1.1.1.1.1.0 in
      let magnitude = magnitude_so fields.mag is.read is.mag in
      let sighting : IsSighting s = record {
        number = says_all IsNumberText (λ number. IsNumber number.0) fields.perm s.perm (λ number says. says.within) is.perm;
        designation = says_all IsDesignationText IsDesignation fields.prov s.prov (λ designation says. says.within) is.prov;
        temporary = says_all IsTemporary IsShort fields.sub s.sub (λ short says. (own_name fields.sub short says).kept) is.sub;
        named = named_so fields s is has.name;
        station = subst IsShort (sym is.station) (kept_is_short fields.station);
        time = laws.time fields.time s.time is.time;
        ra = laws.ra fields.ra s.ra is.ra;
        dec = laws.dec fields.dec s.dec is.dec;
        magnitude = rw is.value magnitude.0;
        decimals = rw (is.value, is.shape) magnitude.1;
        band = subst IsCoded (sym is.band) (coded_by (is_empty fields.band) fields.band);
        mode = subst IsCoded (sym is.mode) (kept_is_short fields.mode);
        catalogue = subst IsCoded (sym is.catalogue) (kept_is_short fields.catalogue);
        note1 = subst IsPrintable (sym is.note1) (lit≤ tt, lit≤ tt);
        shape = subst IsShape (sym is.shape) magnitude.2;
      } in
      record { sighting = sighting; mode = subst IsTakenMode (sym is.mode) tt; temporary = says_all IsTemporary IsOwnName fields.sub s.sub (own_name fields.sub) is.sub }

  reading_stated : (fields : Fields) (reading : Result Sighting RuleCode) → IsReading fields reading → IfOk reading IsStated
  reading_stated fields (Ok s) is = line_stated fields s is
  reading_stated fields (Err rule) is = tt

  -- what is read is in range
  pub in_range : (fields : Fields) → IfOk (reading_of fields) IsSighting
  in_range fields = IfOk-weaker (reading_of fields) IsStated IsSighting (λ s is. is.sighting) (reading_stated fields (reading_of fields) (reading_is laws fields))

  -- ---- batches

  all_stated : (data_lines : List DataLine) → AreStated (map read_of data_lines)
  all_stated data_lines =
      All-map (λ (line : Line). IfOk line.read IsStated) read_of data_lines
      (λ k d lt. let line = get_or data_lines k d in
      reading_stated (fields_of line.columns line.text) (reading_of (fields_of line.columns line.text)) (reading_is laws (fields_of line.columns line.text)))

  pub batch_stated : (body : List ℕ) (lines : List Line) → psv_lines_of body ≡ Ok lines → AreStated lines
  unfolding psv_lines_of
  batch_stated body lines is =
      let read = bind_ok (data_lines_of body) all_read lines is in
      let same : map read_of read.0 ≡ lines = (let all = read.2 in cc) in
      subst AreStated same (all_stated read.0)
