-- What is read from a line is what its columns say, and nothing else is.
use Rattle.std.proofs.Common.{◌≡◌, ℕ, Bool, true, eqb, not, List, [], ◌∷◌, length, get_or, All, Result, Ok, Err, refl, sym, ap, subst, ◌∙◌, inl, arith, lit≤}
use Rattle.std.specs.Prelude.{Contains}
use Rattle.std.specs.List.{list_all, list_any}
use Rattle.std.proofs.lemmas.Bool.{eqb-true, eqb-false, not-true, not-false}
use Rattle.std.proofs.lemmas.Bool.Decides.{nat_tests}
use Rattle.std.proofs.lemmas.List.Sums.{AllPass-from_list_all, list_all-from_AllPass}
use Rattle.std.proofs.lemmas.List.Folds.{list_any_at, Any-from_list_any}
use Rattle.ascii_text.specs.Blanks.{blanks, are_blanks}
use Rattle.angle_fixed.specs.Answer.{ReadsTime, ReadsArc}
use Rattle.obs_time.specs.DayText.{IsDayAnswer}
use Rattle.obs_record.specs.declared.rule.RuleCode.{RuleCode}
use Rattle.obs_record.specs.declared.rule.RuleCode.TheVariants.{S1, S2, S3, S4, S5, S6, S7, S8, S9}
use Rattle.obs_record.specs.declared.sighting.Sighting.{Sighting}
use Rattle.obs_record.specs.Sighting.{IsPrintable}
use Rattle.col80_format.specs.declared.names.Names.{Names}
use Rattle.col80_format.specs.declared.reading.Position.{Position}
use Rattle.ascii_text.specs.Bytes.{is_printable}
use Rattle.col80_format.specs.Columns.{columns, column}
use Rattle.obs_record.specs.Modes.{refused_modes}
use Rattle.text_lines.specs.Steps.{or_breaks}
use Rattle.col80_format.specs.Names.{AreNamesOf, names_in}
use Rattle.col80_format.specs.Magnitudes.{IsMagnitudeText, magnitude_in}
use Rattle.text_lines.specs.Rules.{Judges}
use Rattle.text_lines.specs.Judging.{judged_on, judged_test, one_judgement}
use Rattle.col80_format.specs.Rules.{Keeps, line_rules, IsSightingOf, IsReading}
use Rattle.col80_format.specs.Reading.{head_of, position_of, tail_of, observed, reading_of}
use Rattle.col80_format.proofs.Chains.{part_judged}
use Rattle.col80_format.proofs.MagnitudeLaws.{magnitude_says, magnitude_found}
use Rattle.col80_format.proofs.NameLaws.{columns_long, names_say, names_found}
use Rattle.col80_format.specs.LawsBelow.{Laws}

-- ---- single rules

all_printable : (line : List ℕ) → list_all is_printable line ≡ true → All IsPrintable line
all_printable line h = λ k d lt. (let printed : is_printable (get_or line k d) ≡ true = AllPass-from_list_all is_printable line h k d lt in (grind (arith, nat_tests), grind (arith, nat_tests)))

printable_all : (line : List ℕ) → All IsPrintable line → list_all is_printable line ≡ true
printable_all line h = list_all-from_AllPass is_printable line (λ k d lt. (let a = (h k d lt).0 in let b = (h k d lt).1 in grind (arith, nat_tests)))

mode_among : (modes : List ℕ) (mode : ℕ) → Contains modes mode → list_any (λ m. eqb m mode) modes ≡ true
mode_among modes mode among =
    let at = among.2 in
    list_any_at (λ m. eqb m mode) modes among.0 mode among.1 (grind (arith, nat_tests))

among_mode : (modes : List ℕ) (mode : ℕ) → list_any (λ m. eqb m mode) modes ≡ true → Contains modes mode
among_mode modes mode h =
    let any = Any-from_list_any (λ m. eqb m mode) modes h in
    let same : any.1 ≡ mode = eqb-true any.1 mode any.4 in
    (any.0, any.2, subst (λ (m : ℕ). get_or modes any.0 m ≡ m) same any.3)

-- ---- parts of a line

-- what is said of a part of the line under these rules
abbrev Judged : {A : Type 0} → List ℕ → List RuleCode → (A → Type 0) → Result A RuleCode → Type 0
Judged line rules IsRight r = Judges (λ rule. Keeps rule line) rules IsRight r

-- a part of which one answer is right
answer_judged : {A F : Type 0} (line : List ℕ) (rule : RuleCode) (IsAnswer : Result A F → Type 0) (r : Result A F) → IsAnswer r → ((other : Result A F) → IsAnswer other → other ≡ r)
    → ((x : A) → IsAnswer (Ok x) → Keeps rule line) → (Keeps rule line → (x : A) × IsAnswer (Ok x)) → Judged line (rule ∷ []) (λ x. IsAnswer (Ok x)) (or_breaks rule r)
answer_judged line rule IsAnswer (Ok x) is only keeps kept = ((keeps x is, tt), is)
answer_judged line rule IsAnswer (Err fault) is only keeps kept = inl (λ holds. (let other = only (Ok (kept holds).0) (kept holds).1 in cc), refl)

-- columns 1 to 15 of a line of 80 bytes
record Headed (line : List ℕ) (named : Names) : Type 0 where
  long : length line ≡ 80
  names : AreNamesOf line named

-- columns 16 to 56
record Placed (line : List ℕ) (at : Position) : Type 0 where
  day : IsDayAnswer (columns 16 32 line) (Ok (at.time, at.days))
  ra : ReadsTime (columns 33 44 line) (Ok (at.ra, at.seconds))
  dec : ReadsArc (columns 45 56 line) (Ok (at.dec, at.arcseconds, at.minus))

same_Ok : {A E : Type 0} {x y : A} → ◌≡◌ {A = Result A E} (Ok x) (Ok y) → x ≡ y
same_Ok e = cc

same_sighting : (line : List ℕ) (s : Sighting) (is : IsSightingOf line s)
    → observed line (record { perm = s.perm; prov = s.prov; sub = s.sub }) (record { time = s.time; days = is.days; ra = s.ra; seconds = is.seconds; dec = s.dec; arcseconds = is.arcseconds; minus = is.minus }) (s.mag, is.places) ≡ s
same_sighting line s is = rw (← is.station, ← is.band, ← is.mode, ← is.catalogue, ← is.note1, ← is.shape) refl

module _ (laws : Laws) where
  open laws use {texts.{are_blanks-blanks, are_blanks_takes}, angles.{time_reads, time_only, arc_reads, arc_only}, times.{day_answered, day_answer_only}}

  head_judged : (line : List ℕ) → Judged line (S1 ∷ S2 ∷ S3 ∷ S4 ∷ []) (Headed line) (head_of line)
  unfolding head_of
  head_judged line =
      let K : RuleCode → Type 0 = λ rule. Keeps rule line in
      let is_refused : Bool = list_any (λ m. eqb m (column 15 line)) refused_modes in
      judged_test K S1 (S2 ∷ S3 ∷ S4 ∷ []) (Headed line) (not (eqb (length line) 80)) _
      (λ broken kept. eqb-false (length line) 80 (not-true (eqb (length line) 80) broken) kept)
      (λ kept. eqb-true (length line) 80 (not-false (eqb (length line) 80) kept))
      (λ kept.
      let long : length line ≡ 80 = eqb-true (length line) 80 (not-false (eqb (length line) 80) kept) in
      judged_test K S2 (S3 ∷ S4 ∷ []) (Headed line) (not (list_all is_printable line)) _
      (λ broken all. (let printed = printable_all line all in let other = not-true (list_all is_printable line) broken in cc))
      (λ printed. all_printable line (not-false (list_all is_printable line) printed))
      (λ printed.
      judged_on K (S3 ∷ []) (S4 ∷ []) (AreNamesOf line) (Headed line) (names_in line) _
      (part_judged K S3 (AreNamesOf line) (names_in line) (names_say laws line long) (λ named are. (named, are)) (λ kept. (kept.0, names_found laws line kept.0 long kept.1)))
      (λ named are.
      judged_test K S4 [] (Headed line) is_refused (Ok named)
      (λ refused free. free (among_mode refused_modes (column 15 line) refused))
      (λ free among. (let refused = mode_among refused_modes (column 15 line) among in cc))
      (λ free. (tt, record { long = long; names = are })))))

  position_judged : (line : List ℕ) → Judged line (S5 ∷ S6 ∷ S7 ∷ []) (Placed line) (position_of line)
  unfolding position_of
  position_judged line =
      let K : RuleCode → Type 0 = λ rule. Keeps rule line in
      judged_on K (S5 ∷ []) (S6 ∷ S7 ∷ []) (λ read. IsDayAnswer (columns 16 32 line) (Ok read)) (Placed line) _ _
      (answer_judged line S5 (IsDayAnswer (columns 16 32 line)) _ (day_answered (columns 16 32 line)) (day_answer_only (columns 16 32 line)) (λ read is. (read, is)) (λ kept. kept))
      (λ time day. judged_on K (S6 ∷ []) (S7 ∷ []) (λ read. ReadsTime (columns 33 44 line) (Ok read)) (Placed line) _ _
      (answer_judged line S6 (ReadsTime (columns 33 44 line)) _ (time_reads (columns 33 44 line)) (λ other is. sym (time_only (columns 33 44 line) other is)) (λ read is. (read, is)) (λ kept. kept))
      (λ ra is_ra. judged_on K (S7 ∷ []) [] (λ read. ReadsArc (columns 45 56 line) (Ok read)) (Placed line) _ _
      (answer_judged line S7 (ReadsArc (columns 45 56 line)) _ (arc_reads (columns 45 56 line)) (λ other is. sym (arc_only (columns 45 56 line) other is)) (λ read is. (read, is)) (λ kept. kept))
      (λ dec is_dec. (tt, record { day = day; ra = is_ra; dec = is_dec }))))

  tail_judged : (line : List ℕ) → length line ≡ 80 → Judged line (S8 ∷ S9 ∷ []) (λ mag. IsMagnitudeText (columns 66 70 line) mag.0 mag.1) (tail_of line)
  unfolding tail_of
  tail_judged line long =
      let K : RuleCode → Type 0 = λ rule. Keeps rule line in
      let blank : Bool = are_blanks (columns 57 65 line) in
      judged_test K S8 (S9 ∷ []) (λ mag. IsMagnitudeText (columns 66 70 line) mag.0 mag.1) (not blank) (magnitude_in (columns 66 70 line))
      (λ broken kept. (let other : blank ≡ true = ap are_blanks kept ∙ are_blanks-blanks 9 in let filled = not-true blank broken in cc))
      (λ kept. are_blanks_takes (columns 57 65 line) (not-false blank kept) ∙ ap blanks (columns_long 57 65 line long (lit≤ tt)))
      (λ kept. part_judged K S9 (λ mag. IsMagnitudeText (columns 66 70 line) mag.0 mag.1) (magnitude_in (columns 66 70 line)) (magnitude_says laws (columns 66 70 line) (columns_long 66 70 line long (lit≤ tt)))
      (λ mag is. (mag.0, mag.1, is)) (λ kept. ((kept.0, kept.1), magnitude_found laws (columns 66 70 line) kept.0 kept.1 kept.2)))

  -- ---- whole lines

  -- What is read is the reading of the line.
  pub reading_is : (line : List ℕ) → IsReading line (reading_of line)
  unfolding reading_of
  reading_is line =
      let K : RuleCode → Type 0 = λ rule. Keeps rule line in
      judged_on K (S1 ∷ S2 ∷ S3 ∷ S4 ∷ []) (S5 ∷ S6 ∷ S7 ∷ S8 ∷ S9 ∷ []) (Headed line) (IsSightingOf line) (head_of line) _ (head_judged line)
      (λ named headed. judged_on K (S5 ∷ S6 ∷ S7 ∷ []) (S8 ∷ S9 ∷ []) (Placed line) (IsSightingOf line) (position_of line) _ (position_judged line)
      (λ at placed. judged_on K (S8 ∷ S9 ∷ []) [] (λ mag. IsMagnitudeText (columns 66 70 line) mag.0 mag.1) (IsSightingOf line) (tail_of line) _ (tail_judged line headed.long)
      (λ mag is. (
        tt,
        record {
          named = headed.names;
          note1 = refl;
          mode = refl;
          days = at.days;
          time = placed.day;
          seconds = at.seconds;
          ra = placed.ra;
          arcseconds = at.arcseconds;
          minus = at.minus;
          dec = placed.dec;
          places = mag.1;
          mag = is;
          band = refl;
          catalogue = refl;
          station = refl;
          shape = refl;
        },
      ))))

  -- a line has one observation
  one_sighting : (line : List ℕ) → length line ≡ 80 → (one other : Sighting) → IsSightingOf line one → IsSightingOf line other → one ≡ other
  one_sighting line long one other a b =
      let names = same_Ok (sym (names_found laws line (record { perm = one.perm; prov = one.prov; sub = one.sub }) long a.named) ∙ names_found laws line (record { perm = other.perm; prov = other.prov; sub = other.sub }) long b.named) in
      let time = same_Ok (day_answer_only (columns 16 32 line) (Ok (one.time, a.days)) a.time ∙ sym (day_answer_only (columns 16 32 line) (Ok (other.time, b.days)) b.time)) in
      let ra = same_Ok (sym (time_only (columns 33 44 line) (Ok (one.ra, a.seconds)) a.ra) ∙ time_only (columns 33 44 line) (Ok (other.ra, b.seconds)) b.ra) in
      let dec = same_Ok (sym (arc_only (columns 45 56 line) (Ok (one.dec, a.arcseconds, a.minus)) a.dec) ∙ arc_only (columns 45 56 line) (Ok (other.dec, b.arcseconds, b.minus)) b.dec) in
      let mag = same_Ok (sym (magnitude_found laws (columns 66 70 line) one.mag a.places a.mag) ∙ magnitude_found laws (columns 66 70 line) other.mag b.places b.mag) in
      sym (same_sighting line one a)
      ∙ (λ j. observed line (names j) (record { time = (time j).0; days = (time j).1; ra = (ra j).0; seconds = (ra j).1; dec = (dec j).0; arcseconds = (dec j).1; minus = (dec j).2 }) (mag j))
      ∙ same_sighting line other b

  -- No other reading is.
  pub reading_only : (line : List ℕ) (other : Result Sighting RuleCode) → IsReading line other → other ≡ reading_of line
  reading_only line other is =
      one_judgement (λ rule. Keeps rule line) line_rules (IsSightingOf line) other (reading_of line) (λ kept. one_sighting line kept.0) is (reading_is line)
