-- The columns of a line that is written, and of a line that is written again.
use Rattle.std.proofs.Common.{◌≡◌, ℕ, zero, suc, ◌+◌, ◌-◌, ◌*◌, ◌/◌, ◌%◌, ◌^◌, ◌<◌, ◌≤◌, min, List, [], ◌∷◌, ◌++◌, length, take, drop, Option, Some, None, Ok, refl, sym, ap, subst, ◌∙◌, append_assoc, inl, inr, arith, lit≤}
use Rattle.std.proofs.lemmas.List.{take-append-drop, take-take, drop-take, drop-drop, drop_more, take_at, drop_at, length-append, append-nil}
use Rattle.std.proofs.lemmas.Bool.{cases_lt, lt-ltb, le-ltb}
use Rattle.ascii_text.specs.declared.digits.Radix.TheVariants.{Ten}
use Rattle.ascii_text.specs.Digits.{decimals_text, decimals_width}
use Rattle.ascii_text.specs.Blanks.{blanks}
use Rattle.angle_fixed.specs.Writing.{time_text, arc_text}
use Rattle.obs_time.specs.WrittenText.{IsTextOf, day_text_of}
use Rattle.obs_record.specs.declared.sighting.Shape.{Shape}
use Rattle.std.specs.Prelude.{IfSome}
use Rattle.obs_record.specs.declared.sighting.Shape.TheVariants.{Eighty, Psv}
use Rattle.obs_record.specs.Sighting.{IsShape, places_of}
use Rattle.obs_record.specs.declared.sighting.Sighting.{Sighting}
use Rattle.col80_format.specs.declared.writing.Front.{Front}
use Rattle.col80_format.specs.declared.writing.Letters.{Letters}
use Rattle.col80_format.specs.declared.form.Form.{Form}
use Rattle.col80_format.specs.Columns.{columns, column}
use Rattle.obs_record.specs.Magnitudes.{HasDecimals}
use Rattle.col80_format.specs.Magnitudes.{whole_text, IsMagnitudeText}
use Rattle.col80_format.specs.Rules.{IsSightingOf}
use Rattle.col80_format.specs.LineText.{form_of, note_of, number_text, star_byte, steps_of, magnitude_text, front_text, angles_text, back_text, line_with, line_text, IsLineText, IsSameLine}
use Rattle.col80_format.proofs.NameLaws.{columns_long}
use Rattle.col80_format.proofs.RangeLaws.{days_within}
use Rattle.col80_format.specs.LawsBelow.{Laws}

-- ---- the magnitude

-- the parts of a magnitude that is written with as many decimals as it has
steps_again : (count whole decimals mag : ℕ) → count ≤ 2 → whole < 100 → decimals < 10 ^ count → mag ≡ whole * 1000000 + decimals * 10 ^ (6 - count)
    → (steps_of count mag / 10 ^ count ≡ whole) × (steps_of count mag % 10 ^ count ≡ decimals)
steps_again zero whole decimals mag few low below is = (omega (arith, below, is), omega (arith, below, is))
steps_again (suc zero) whole decimals mag few low below is = (omega (arith, below, is), omega (arith, below, is))
steps_again (suc (suc zero)) whole decimals mag few low below is = (omega (arith, below, is), omega (arith, below, is))
steps_again (suc (suc (suc count))) whole decimals mag few low below is = absurd (omega arith)

-- ---- no magnitude is too great for its columns

fits_by : (places mag : ℕ) → places ≤ 2 → mag ≤ 99990000 → mag % 10 ^ (6 - places) ≡ 0 → steps_of places mag < 100 * 10 ^ places
fits_by zero mag few within whole = omega (arith, whole)
fits_by (suc zero) mag few within whole = omega (arith, whole)
fits_by (suc (suc zero)) mag few within whole = omega (arith, whole)
fits_by (suc (suc (suc places))) mag few within whole = absurd (omega arith)

fits_shape : (shape : Shape) (mag : ℕ) → IsShape shape → mag ≤ 99990000 → HasDecimals (Some mag) (places_of shape) → steps_of (form_of shape).places mag < 100 * 10 ^ (form_of shape).places
fits_shape (Eighty date ra dec minus places) mag is within whole = fits_by places mag is.4 within whole
fits_shape (Psv zero) mag is within whole = fits_by 0 mag (omega arith) within whole
fits_shape (Psv (suc zero)) mag is within whole = fits_by 1 mag (omega arith) within whole
fits_shape (Psv (suc (suc places))) mag is within whole =
    let two : min (suc (suc places)) 2 ≡ 2 = omega arith in
    subst (λ (p : ℕ). steps_of p mag < 100 * 10 ^ p) (sym two) (omega (arith, within))

pub fits_columns : (shape : Shape) (mag : Option ℕ) → IsShape shape → IfSome mag (λ m. m ≤ 99990000) → HasDecimals mag (places_of shape)
    → IfSome mag (λ m. steps_of (form_of shape).places m < 100 * 10 ^ (form_of shape).places)
fits_columns shape None is within whole = tt
fits_columns shape (Some mag) is within whole = fits_shape shape mag is within whole

-- ---- columns of a list

take_sum : (n m : ℕ) (xs : List ℕ) → take (n + m) xs ≡ take n xs ++ take m (drop n xs)
take_sum n m xs =
    sym (take-append-drop n (take (n + m) xs)) ∙ ap (λ (t : List ℕ). t ++ drop n (take (n + m) xs)) (take-take n (n + m) xs (omega arith)) ∙ ap (λ (t : List ℕ). take n xs ++ t) (drop-take n m xs)

-- columns 14 to 56 of a line, part by part
observed_columns : (line : List ℕ) → length line ≡ 80
    → columns 14 56 line ≡ column 14 line ∷ column 15 line ∷ (columns 16 32 line ++ (columns 33 44 line ++ columns 45 56 line))
observed_columns line long =
    rw (drop_more line 13 0 (omega arith), drop_more line 14 0 (omega arith), take_sum 17 24 (drop 15 line), drop-drop 17 15 line, take_sum 12 12 (drop 32 line), drop-drop 12 32 line) refl

-- columns 66 to 71 of a line
measured_columns : (line : List ℕ) → length line ≡ 80 → columns 66 71 line ≡ columns 66 70 line ++ (column 71 line ∷ [])
measured_columns line long = rw (take_sum 5 1 (drop 65 line), drop-drop 5 65 line, drop_more line 70 0 (omega arith)) refl

-- the part of a text that stands after one part and before another
middle : (text front part back : List ℕ) (n m : ℕ) → text ≡ front ++ (part ++ back) → length front ≡ n → length part ≡ m → take m (drop n text) ≡ part
middle text front part back n m is front_long part_long =
    ap (λ (t : List ℕ). take m (drop n t)) is ∙ ap (take m) (drop_at front (part ++ back) n front_long) ∙ take_at part back m part_long

-- ---- a line that is written again

regroup : (front day angles back : List ℕ) → front ++ day ++ angles ++ back ≡ front ++ (day ++ (angles ++ back))
regroup front day angles back = simp append_assoc

-- the parts that were written one after the other are the one line, where the day is the text of the time
pub line_from : (s : Sighting) (front : Front) (letters : Letters) (form : Form) (day text : List ℕ) → form ≡ form_of s.shape → length day ≡ 17 → IsTextOf s.time form.days day
    → day ≡ day_text_of s.time form.days → text ≡ front_text s front letters ++ day ++ angles_text s form ++ back_text s form letters
    → (text ≡ line_text s front letters) × IsLineText s front letters text
unfolding line_text
line_from s front letters form day text same long is day_is text_is =
    let parts : text ≡ line_with s front letters day = text_is ∙ rw same (regroup (front_text s front letters) day (angles_text s (form_of s.shape)) (back_text s (form_of s.shape) letters)) in
    (parts ∙ ap (line_with s front letters) (rw same at day_is), record { day = day; day_long = long; day_is = rw same at is; text_is = parts })

module _ (laws : Laws) where
  open laws use {texts.{length-digits_text, length-decimals_text, length-blanks}, angles.{time_text_again, arc_text_again}, times.{day_answer_only, text_is_kept, one_text}, records.{kept_again}}

  length-whole_text : (n : ℕ) → length (whole_text n) ≡ 2
  length-whole_text n =
      elim (cases_lt n 10) [
        | inl small ↦ rw (lt-ltb n 10 small) (ap suc (length-digits_text Ten 1 n))
        | inr large ↦ rw (le-ltb n 10 large) (length-digits_text Ten 2 n)
      ]

  -- a magnitude that was read is written as it was
  magnitude_again : (text : List ℕ) (mag : Option ℕ) (count : ℕ) → length text ≡ 5 → IsMagnitudeText text mag count → magnitude_text count mag ≡ text
  unfolding magnitude_text
  magnitude_again text None count long is = sym is.0
  magnitude_again text (Some mag) count long is =
      let whole : ℕ = is.0.whole in
      let places : ℕ = is.0.decimals.count in
      let value : ℕ = is.0.decimals.value in
      let spelled = is.1 in
      let steps = steps_again places whole value mag spelled.few spelled.whole spelled.decimals is.2 in
      let space : 3 - decimals_width places ≡ spelled.space =
      omega (arith, long, ap length spelled.spelling, length-append {A = ℕ}, length-whole_text whole, length-decimals_text places value, length-blanks spelled.space) in
      rw (is.3, steps.0, steps.1, space) (append_assoc (whole_text whole) (decimals_text places value) (blanks spelled.space) ∙ sym spelled.spelling)

  -- a line that was read and is written with its own letters is the same in the columns that are kept
  pub written_again : (line text : List ℕ) (s : Sighting) (front : Front) (letters : Letters) → length (front_text s front letters) ≡ 15 → IsLineText s front letters text
      → length line ≡ 80 → IsSightingOf line s → letters.mode ≡ column 15 line → letters.band ≡ column 71 line → IsSameLine text line
  written_again line text s front letters front_long is long of_line mode band =
      let form = form_of s.shape in
      let angles : List ℕ = angles_text s form in
      let magnitude : List ℕ = magnitude_text form.places s.mag in
      let station : List ℕ = take 3 s.station.bytes in
      let note : ℕ = note_of s.shape s.note1 in
      let head : List ℕ = number_text front.number ++ front.name ++ (star_byte front.star ∷ []) in
      let day_is : is.day ≡ columns 16 32 line =
      sym (text_is_kept s.time of_line.days is.day (columns 16 32 line) (days_within laws.times (columns 16 32 line) s.time of_line.days of_line.time).1 (rw of_line.shape at is.day_is)
      (columns_long 16 32 line long (lit≤ tt) ∙ sym is.day_long) (sym (day_answer_only (columns 16 32 line) (Ok (s.time, of_line.days)) of_line.time))) in
      let ra_is : time_text s.ra form.seconds ≡ columns 33 44 line = rw of_line.shape (time_text_again (columns 33 44 line) s.ra of_line.seconds (columns_long 33 44 line long (lit≤ tt)) of_line.ra) in
      let dec_is : arc_text s.dec form.arcseconds form.minus ≡ columns 45 56 line =
      rw of_line.shape (arc_text_again (columns 45 56 line) s.dec of_line.arcseconds of_line.minus (columns_long 45 56 line long (lit≤ tt)) of_line.dec) in
      let mag_is : magnitude ≡ columns 66 70 line = rw of_line.shape (magnitude_again (columns 66 70 line) s.mag of_line.places (columns_long 66 70 line long (lit≤ tt)) of_line.mag) in
      let note_is : note ≡ column 14 line = rw of_line.shape of_line.note1 in
      let station_is : station ≡ columns 78 80 line = rw of_line.station (kept_again (columns 78 80 line) 3 (columns_long 78 80 line long (lit≤ tt)) (lit≤ tt)) in
      let head_long : length head ≡ 13 = omega (arith, front_long, length-append {A = ℕ}) in
      let angles_long : length angles ≡ 24 = omega (arith, ap length ra_is, ap length dec_is, length-append {A = ℕ}, columns_long 33 44 line long (lit≤ tt), columns_long 45 56 line long (lit≤ tt)) in
      let magnitude_long : length magnitude ≡ 5 = ap length mag_is ∙ columns_long 66 70 line long (lit≤ tt) in
      let station_long : length station ≡ 3 = ap length station_is ∙ columns_long 78 80 line long (lit≤ tt) in
      record {
        observed =
            middle text head (note ∷ letters.mode ∷ (is.day ++ angles)) (back_text s form letters) 13 43 (is.text_is ∙ simp append_assoc) head_long (omega (arith, length-append is.day angles, is.day_long, angles_long))
            ∙ cc (observed_columns line long);
        measured =
            middle text (front_text s front letters ++ (is.day ++ (angles ++ blanks 9))) (magnitude ++ (letters.band ∷ [])) (letters.catalogue ∷ (blanks 5 ++ station)) 65 6 (is.text_is ∙ simp append_assoc)
            (omega (arith, front_long, is.day_long, angles_long, length-append {A = ℕ}, length-blanks 9)) (omega (arith, magnitude_long, length-append magnitude (letters.band ∷ [])))
            ∙ cc (measured_columns line long);
        station =
            middle text (front_text s front letters ++ (is.day ++ (angles ++ (blanks 9 ++ (magnitude ++ (letters.band ∷ letters.catalogue ∷ blanks 5)))))) station [] 77 3 (is.text_is ∙ simp (append_assoc, append-nil))
            (omega (arith, front_long, is.day_long, angles_long, magnitude_long, length-append {A = ℕ}, length-blanks 9, length-blanks 5)) station_long
            ∙ station_is;
      }

  -- no other text is that of the observation
  pub one_line_text : (s : Sighting) (front : Front) (letters : Letters) (one other : List ℕ) → (form_of s.shape).days ≤ 6 → IsLineText s front letters one → IsLineText s front letters other → one ≡ other
  one_line_text s front letters one other few a b =
      let same : a.day ≡ b.day = one_text s.time (form_of s.shape).days a.day b.day few a.day_is b.day_is (a.day_long ∙ sym b.day_long) in
      a.text_is ∙ ap (line_with s front letters) same ∙ sym b.text_is
