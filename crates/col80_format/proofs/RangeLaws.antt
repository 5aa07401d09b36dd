-- What a line says that keeps every rule is in range, has a mode that is taken, and its station has 3 bytes.
use Rattle.std.proofs.Common.{◌≡◌, ◌⊎◌, ℕ, zero, suc, ◌+◌, ◌-◌, ◌*◌, ◌^◌, ◌<◌, ◌≤◌, Bool, eqb, List, ◌++◌, length, get_or, take, drop, All, Option, Some, None, Result, Ok, Err, refl, sym, ap, subst, ◌∙◌, inl, inr, arith, lit≤}
use Rattle.std.specs.Prelude.{Contains, IfOk, IfSome, IsSome, ℤ}
use Rattle.std.proofs.lemmas.Bool.{cond_both}
use Rattle.std.proofs.lemmas.List.{take-append-drop, take-take, drop-take, take_at, drop_at, length-append, replicate-append-replicate}
use Rattle.std.proofs.lemmas.List.Elements.{All-map, All-take, All-drop}
use Rattle.ascii_text.specs.Blanks.{blanks}
use Rattle.angle_fixed.specs.Answer.{ReadsTime, ReadsArc}
use Rattle.obs_time.specs.DayText.{IsDayAnswer}
use Rattle.obs_time.specs.Laws.{TimeLaws}
use Rattle.packed_names.specs.declared.number.Number.{Number}
use Rattle.packed_names.specs.declared.name.Designation.{Designation}
use Rattle.packed_names.specs.Ranges.{IsNumber, IsDesignation}
use Rattle.obs_record.specs.declared.line.Line.{Line}
use Rattle.obs_record.specs.declared.rule.RuleCode.{RuleCode}
use Rattle.obs_record.specs.declared.short.Short.{Short}
use Rattle.obs_record.specs.declared.sighting.Coded.TheVariants.{Nothing, Letter}
use Rattle.obs_record.specs.declared.sighting.Sighting.{Sighting}
use Rattle.obs_record.specs.Filed.{IsTakenMode, IsOwnName, IsStated, IsFiled, AreStated}
use Rattle.obs_record.specs.Magnitudes.{HasDecimals}
use Rattle.obs_record.specs.Modes.{refused_modes}
use Rattle.obs_record.specs.Short.{IsShort, kept_short}
use Rattle.obs_record.specs.Sighting.{IsPrintable, IsCoded, IsSighting}
use Rattle.col80_format.specs.Batch.{observation_lines, read_of, lines_of}
use Rattle.col80_format.specs.Columns.{columns, column, coded}
use Rattle.col80_format.specs.LawsBelow.{Laws}
use Rattle.col80_format.specs.Names.{IsNumberText, SpellsTemporary, IsNameText, AreNamesOf}
use Rattle.col80_format.specs.Magnitudes.{IsMagnitudeText}
use Rattle.col80_format.specs.Reading.{reading_of}
use Rattle.col80_format.specs.Rules.{IsSightingOf, IsReading}
use Rattle.col80_format.proofs.LineLaws.{reading_is}
use Rattle.col80_format.proofs.NameLaws.{columns_long}

-- ---- names

number_within : (text : List ℕ) (perm : Option Number) → IsNumberText text perm → IfSome perm (λ number. IsNumber number.0)
number_within text None is = tt
number_within text (Some number) is = is.within

designation_within : (text : List ℕ) (prov : Option Designation) (sub : Option Short) → IsNameText text prov sub → IfSome prov IsDesignation
designation_within text None sub is = tt
designation_within text (Some designation) None is = is.within
designation_within text (Some designation) (Some short) is = absurd is

-- columns 1 to 12 are columns 1 to 5 and 6 to 12
twelve_columns : (line : List ℕ) → columns 1 12 line ≡ columns 1 5 line ++ columns 6 12 line
twelve_columns line = sym (take-append-drop 5 (take 12 line)) ∙ ap (λ (t : List ℕ). t ++ drop 5 (take 12 line)) (take-take 5 12 line (lit≤ tt)) ∙ ap (λ (t : List ℕ). take 5 line ++ t) (drop-take 5 7 line)

blanks_join : (a b : ℕ) → blanks a ++ blanks b ≡ blanks (a + b)
unfolding blanks
blanks_join a b = replicate-append-replicate a b 32

named_so : (line : List ℕ) (perm : Option Number) (prov : Option Designation) (sub : Option Short)
    → AreNamesOf line (record { perm = perm; prov = prov; sub = sub }) → IsSome perm ⊎ IsSome prov ⊎ IsSome sub
named_so line (Some number) prov sub are = inl refl
named_so line None (Some designation) sub are = inr (inl refl)
named_so line None None (Some short) are = inr (inr refl)
named_so line None None None are =
    absurd (are.some (twelve_columns line ∙ ap (λ (t : List ℕ). t ++ columns 6 12 line) are.number ∙ ap (λ (t : List ℕ). blanks 5 ++ t) are.name ∙ blanks_join 5 7))

-- ---- single columns

printable_column : (a : ℕ) (line : List ℕ) → length line ≡ 80 → All IsPrintable line → 1 ≤ a → a ≤ 80 → IsPrintable (column a line)
printable_column a line long all low high = all (a - 1) 0 (omega arith)

coded_within : (byte : ℕ) → IsPrintable byte → IsCoded (coded byte)
coded_within byte printable = cond_both (eqb byte 32) Nothing (Letter byte) IsCoded (λ blank. tt) (λ other. printable)

mode_taken : (byte : ℕ) → ¬ Contains refused_modes byte → IsTakenMode (coded byte)
mode_taken byte free = cond_both (eqb byte 32) Nothing (Letter byte) IsTakenMode (λ blank. tt) (λ other. free)

-- ---- the magnitude

written_within : (count whole decimals : ℕ) → count ≤ 2 → whole < 100 → decimals < 10 ^ count → whole * 1000000 + decimals * 10 ^ (6 - count) ≤ 99990000
written_within zero whole decimals few low below = omega (arith, below)
written_within (suc zero) whole decimals few low below = omega (arith, below)
written_within (suc (suc zero)) whole decimals few low below = omega (arith, below)
written_within (suc (suc (suc count))) whole decimals few low below = absurd (omega arith)

magnitude_within : (text : List ℕ) (mag : Option ℕ) (count : ℕ) → IsMagnitudeText text mag count → IfSome mag (λ m. m ≤ 99990000)
magnitude_within text None count is = tt
magnitude_within text (Some mag) count is =
    omega (arith, is.2, written_within is.0.decimals.count is.0.whole is.0.decimals.value is.1.few is.1.whole is.1.decimals)

few_places : (text : List ℕ) (mag : Option ℕ) (count : ℕ) → IsMagnitudeText text mag count → count ≤ 2
few_places text None count is = omega (arith, is.1)
few_places text (Some mag) count is = omega (arith, is.3, is.1.few)

-- ---- decimals

pub days_within : (times : TimeLaws) (text : List ℕ) (t : ℤ) (count : ℕ) → IsDayAnswer text (Ok (t, count)) → (1 ≤ count) × (count ≤ 6)
days_within times text t count (inl is) =
    let spelled = is.1 in
    let verdict = (times.day_judged is.0 (Ok (t, count))).1 is.2 in
    (omega (arith, verdict.3.1, spelled.some), omega (arith, verdict.3.1, verdict.0))
days_within times text t count (inr none) = absurd cc

seconds_within : (text : List ℕ) (ra count : ℕ) → ReadsTime text (Ok (ra, count)) → count ≤ 3
seconds_within text ra count is = omega (arith, is.2, ap (λ (x : ℕ × ℕ). x.1) is.4)

arcseconds_within : (text : List ℕ) (dec : ℤ) (count : ℕ) (minus : Bool) → ReadsArc text (Ok (dec, count, minus)) → count ≤ 2
arcseconds_within text dec count minus is = omega (arith, is.2, ap (λ (x : ℤ × ℕ × Bool). x.1) is.4)

-- ---- temporary designations

-- what stands between two others has the bytes of the whole
between : (P : ℕ → Type 0) (front name behind text : List ℕ) → text ≡ front ++ (name ++ behind) → All P text → All P name
between P front name behind text is all =
    subst (All P) (ap (λ (t : List ℕ). take (length name) (drop (length front) t)) is ∙ ap (take (length name)) (drop_at front (name ++ behind) (length front) refl) ∙ take_at name behind (length name) refl)
    (All-take P (length name) (drop (length front) text) (All-drop P (length front) text all))

module _ (laws : Laws) where
  open laws use {records.{kept_is_short, made_of_decimals}}

  spelled_name : (name text : List ℕ) → length text ≡ 7 → All IsPrintable text → SpellsTemporary name text → IsOwnName (kept_short name)
  spelled_name name text long printed spelled =
      let alone = spelled.alone in
      let part = between IsPrintable (blanks alone.before) name (blanks alone.after) text alone.parts printed in
      let few : length name ≤ 12 = omega (arith, long, ap length alone.parts, length-append (blanks alone.before) (name ++ blanks alone.after), length-append name (blanks alone.after)) in
      laws.own name spelled.some few (λ k d lt. (omega (arith, (part k d lt).0, (spelled.plain k d lt).0), (part k d lt).1))

  temporary_so : (text : List ℕ) (prov : Option Designation) (sub : Option Short) → length text ≡ 7 → All IsPrintable text → IsNameText text prov sub → IfSome sub IsOwnName
  temporary_so text prov None long printed is = tt
  temporary_so text None (Some short) long printed is = subst IsOwnName (sym is.3) (spelled_name is.1 text long printed is.2)
  temporary_so text (Some designation) (Some short) long printed is = absurd is

  temporary_within : (text : List ℕ) (prov : Option Designation) (sub : Option Short) → IsNameText text prov sub → IfSome sub IsShort
  temporary_within text prov None is = tt
  temporary_within text None (Some short) is = subst IsShort (sym is.3) (kept_is_short is.1)
  temporary_within text (Some designation) (Some short) is = absurd is

  -- ---- lines

  decimals_within : (text : List ℕ) (mag : Option ℕ) (count : ℕ) → IsMagnitudeText text mag count → HasDecimals mag count
  decimals_within text None count is = is.1
  decimals_within text (Some mag) count is = rw (is.2, is.3) (made_of_decimals is.0.whole is.0.decimals.count is.0.decimals.value (omega (arith, is.1.few)))

  sighting_within : (line : List ℕ) (s : Sighting) → IsReading line (Ok s) → IsSighting s
  sighting_within line s reading =
      let is : IsSightingOf line s = reading.1 in
      let printable = λ (a : ℕ) (low : 1 ≤ a) (high : a ≤ 80). printable_column a line reading.0.0 reading.0.1.0 low high in
      let days = days_within laws.times (columns 16 32 line) s.time is.days is.time in
      record {
        number = number_within (columns 1 5 line) s.perm is.named.number;
        designation = designation_within (columns 6 12 line) s.prov s.sub is.named.name;
        temporary = temporary_within (columns 6 12 line) s.prov s.sub is.named.name;
        named = named_so line s.perm s.prov s.sub is.named;
        station = subst IsShort (sym is.station) (kept_is_short (columns 78 80 line));
        time = laws.time (columns 16 32 line) s.time is.days is.time;
        ra = laws.ra (columns 33 44 line) s.ra is.seconds is.ra;
        dec = laws.dec (columns 45 56 line) s.dec is.arcseconds is.minus is.dec;
        magnitude = magnitude_within (columns 66 70 line) s.mag is.places is.mag;
        decimals = rw (is.shape) (decimals_within (columns 66 70 line) s.mag is.places is.mag);
        band = rw (is.band) (coded_within (column 71 line) (printable 71 (lit≤ tt) (lit≤ tt)));
        mode = rw (is.mode) (coded_within (column 15 line) (printable 15 (lit≤ tt) (lit≤ tt)));
        catalogue = rw (is.catalogue) tt;
        note1 = rw (is.note1) (printable 14 (lit≤ tt) (lit≤ tt));
        shape = rw (is.shape) (days.0, days.1, seconds_within (columns 33 44 line) s.ra is.seconds is.ra, arcseconds_within (columns 45 56 line) s.dec is.arcseconds is.minus is.dec, few_places (columns 66 70 line) s.mag is.places is.mag);
      }

  pub in_range : (line : List ℕ) (reading : Result Sighting RuleCode) → IsReading line reading → IfOk reading IsSighting
  in_range line (Ok s) is = sighting_within line s is
  in_range line (Err rule) is = tt

  pub filed : (line : List ℕ) (s : Sighting) → IsReading line (Ok s) → IsFiled s
  unfolding kept_short
  filed line s reading =
      let is : IsSightingOf line s = reading.1 in
      let long : length line ≡ 80 = reading.0.0 in
      record {
        sighting = sighting_within line s reading;
        station = rw is.station (omega (arith, columns_long 78 80 line long (lit≤ tt)));
        mode = rw is.mode (mode_taken (column 15 line) reading.0.1.1.1.0);
        temporary = temporary_so (columns 6 12 line) s.prov s.sub (columns_long 6 12 line long (lit≤ tt)) (All-take IsPrintable 7 (drop 5 line) (All-drop IsPrintable 5 line reading.0.1.0)) is.named.name;
      }

  stated : (line : List ℕ) (reading : Result Sighting RuleCode) → IsReading line reading → IfOk reading IsStated
  stated line (Ok s) is = (let f = filed line s is in record { sighting = f.sighting; mode = f.mode; temporary = f.temporary })
  stated line (Err rule) is = tt

  pub batch_stated : (body : List ℕ) → AreStated (lines_of body)
  batch_stated body =
      All-map (λ (line : Line). IfOk line.read IsStated) read_of (observation_lines body)
      (λ k d lt. stated (get_or (observation_lines body) k d).1 (reading_of (get_or (observation_lines body) k d).1) (reading_is laws (get_or (observation_lines body) k d).1))
