-- A batch that is read line by line says what the batch says.
use Rattle.std.proofs.Common.{◌≡◌, ℕ, ◌+◌, ◌<◌, ◌≤◌, Bool, true, false, not, cond, ◌||◌, List, [], ◌∷◌, ◌++◌, append_assoc, length, map, take, refl, sym, ap, subst, ◌∙◌, arith}
use Rattle.std.specs.List.{enumerate_from, AllZip}
use Rattle.std.specs.Str.Lines.{lines}
use Rattle.std.proofs.lemmas.List.{append-nil, take-append-le, length-take}
use Rattle.std.proofs.lemmas.Bool.{cond_both}
use Rattle.std.proofs.lemmas.List.Elements.{All-push}
use Rattle.ascii_text.specs.Blanks.{are_blanks}
use Rattle.text_lines.specs.Lines.{filled_lines}
use Rattle.text_lines.specs.Pieces.{complete_lines, unfinished}
use Rattle.text_lines.specs.Laws.{LineLaws}
use Rattle.std.specs.Prelude.{IfOk}
use Rattle.obs_record.specs.declared.line.Line.{Line}
use Rattle.obs_record.specs.Sighting.{IsSighting}
use Rattle.obs_record.specs.Lines.{AreInRange}
use Rattle.col80_format.specs.declared.batch.Seen.{Seen}
use Rattle.col80_format.specs.Batch.{drop_while, is_front_line, behind_front, IsReadFrom, read_of, lines_of}
use Rattle.col80_format.specs.Feeding.{none_seen, read_on, seen_on, seen_all, Progress, progress_of}
use Rattle.col80_format.specs.LawsBelow.{Laws}
use Rattle.col80_format.proofs.LineLaws.{reading_is}

-- ---- lines after lines that were seen

-- the observation lines among numbered lines, where an observation line came before them or not
abbrev observations : Bool → List (ℕ × List ℕ) → List (ℕ × List ℕ)
observations true numbered = filled_lines numbered
observations false numbered = filled_lines (behind_front numbered)

-- the lines that are found, with those that the next lines say
abbrev found_on : List Line → Bool → ℕ → List (List ℕ) → List Line
found_on found observed n ls = found ++ map read_of (observations observed (enumerate_from n ls))

step_by : (observed front blank : Bool) (n : ℕ) (found : List Line) (line : List ℕ) (ls : List (List ℕ)) → is_front_line line ≡ front → are_blanks line ≡ blank
    → let next = cond {A = Seen} (observed || not front) (record { next = n + 1; observed = true; found = read_on found n line }) (record { next = n + 1; observed = false; found = found }) in
    found_on next.found next.observed (n + 1) ls ≡ found_on found observed n (line ∷ ls)
unfolding drop_while
step_by true front true n found line ls is b = rw b refl
step_by true front false n found line ls is b = rw b (append_assoc found (read_of (n, line) ∷ []) (map read_of (filled_lines (enumerate_from (n + 1) ls))))
step_by false true blank n found line ls is b = rw is refl
step_by false false true n found line ls is b = rw (is, b) refl
step_by false false false n found line ls is b = rw (is, b) (append_assoc found (read_of (n, line) ∷ []) (map read_of (filled_lines (enumerate_from (n + 1) ls))))

pub next-seen_on : (seen : Seen) (line : List ℕ) → (seen_on seen line).next ≡ seen.next + 1
unfolding seen_on
next-seen_on seen line = cond_both (seen.observed || not (is_front_line line)) _ _ (λ (s : Seen). s.next ≡ seen.next + 1) (λ on. refl) (λ over. refl)

found-step : (seen : Seen) (line : List ℕ) (ls : List (List ℕ))
    → found_on (seen_on seen line).found (seen_on seen line).observed (seen.next + 1) ls ≡ found_on seen.found seen.observed seen.next (line ∷ ls)
unfolding seen_on
found-step seen line ls = step_by seen.observed (is_front_line line) (are_blanks line) seen.next seen.found line ls refl refl

nothing_more : (found : List Line) (observed : Bool) (n : ℕ) → found_on found observed n [] ≡ found
unfolding drop_while
nothing_more found true n = append-nil found
nothing_more found false n = append-nil found

-- what is found after lines is what was found before them, and what they say
pub found-seen_all : (seen : Seen) (ls : List (List ℕ)) → (seen_all seen ls).found ≡ found_on seen.found seen.observed seen.next ls
found-seen_all seen [] = sym (nothing_more seen.found seen.observed seen.next)
found-seen_all seen (line ∷ ls) =
    found-seen_all (seen_on seen line) ls ∙ ap (λ (n : ℕ). found_on (seen_on seen line).found (seen_on seen line).observed n ls) (next-seen_on seen line) ∙ found-step seen line ls

pub next-seen_all : (seen : Seen) (ls : List (List ℕ)) → (seen_all seen ls).next ≡ seen.next + length ls
next-seen_all seen [] = omega arith
next-seen_all seen (line ∷ ls) = omega (arith, next-seen_all (seen_on seen line) ls, next-seen_on seen line)

pub seen_all-append : (seen : Seen) (xs ys : List (List ℕ)) → seen_all seen (xs ++ ys) ≡ seen_all (seen_all seen xs) ys
seen_all-append seen [] ys = refl
seen_all-append seen (x ∷ xs) ys = seen_all-append (seen_on seen x) xs ys

-- what was found before a line stays at the front
pub found_stays : (old : List Line) (seen : Seen) (line : List ℕ) → take (length old) seen.found ≡ old → take (length old) (seen_on seen line).found ≡ old
found_stays old seen line kept =
    let within : length old ≤ length seen.found = omega (arith, ap length kept, length-take (length old) seen.found) in
    let more : List Line = map read_of (observations seen.observed (enumerate_from seen.next (line ∷ []))) in
    ap (take (length old)) (found-seen_all seen (line ∷ [])) ∙ take-append-le (length old) seen.found more within ∙ kept

-- the lines of a whole batch, one after the other
pub batch_read : (body : List ℕ) → (seen_all none_seen (lines body)).found ≡ lines_of body
batch_read body = found-seen_all none_seen (lines body)

-- a line that is read in range is found among others
pub found_in_range : (found new : List Line) (line : Line) → new ≡ found ++ line ∷ [] → IfOk line.read IsSighting → AreInRange found → AreInRange new
found_in_range found new line is read before = subst AreInRange (sym is) (All-push (λ (l : Line). IfOk l.read IsSighting) found line before read)

-- ---- pieces

module _ (texts : LineLaws) where
  open texts use {complete_on, unfinished_on, last_line, no_last_line, few}

  -- a piece that ends a line, and a piece after it
  pub piece_cut : (text piece end after rest : List ℕ) (seen : Seen) → record { rest = rest; seen = seen } ≡ progress_of text → piece ≡ end ++ after → unfinished (rest ++ end) ≡ []
      → record { rest = unfinished after; seen = seen_all (seen_all seen (complete_lines (rest ++ end))) (complete_lines after) } ≡ progress_of (text ++ piece)
  piece_cut text piece end after rest seen is cut ended =
      let rest_is : rest ≡ unfinished text = ap (λ (p : Progress). p.rest) is in
      let seen_is : seen ≡ seen_all none_seen (complete_lines text) = ap (λ (p : Progress). p.seen) is in
      let whole : text ++ piece ≡ (text ++ end) ++ after = ap (λ (t : List ℕ). text ++ t) cut ∙ sym (append_assoc text end after) in
      let none : unfinished (text ++ end) ≡ [] = unfinished_on text end ∙ ap (λ (t : List ℕ). unfinished (t ++ end)) (sym rest_is) ∙ ended in
      let first : complete_lines (text ++ end) ≡ complete_lines text ++ complete_lines (rest ++ end) = complete_on text end ∙ ap (λ (t : List ℕ). complete_lines text ++ complete_lines (t ++ end)) (sym rest_is) in
      let left : unfinished (text ++ piece) ≡ unfinished after = ap unfinished whole ∙ unfinished_on (text ++ end) after ∙ ap (λ (t : List ℕ). unfinished (t ++ after)) none in
      let all : complete_lines (text ++ piece) ≡ (complete_lines text ++ complete_lines (rest ++ end)) ++ complete_lines after =
      ap complete_lines whole ∙ complete_on (text ++ end) after ∙ ap (λ (t : List ℕ). complete_lines (text ++ end) ++ complete_lines (t ++ after)) none ∙ ap (λ (ls : List (List ℕ)). ls ++ complete_lines after) first in
      let seen_at : seen_all none_seen (complete_lines (text ++ piece)) ≡ seen_all (seen_all seen (complete_lines (rest ++ end))) (complete_lines after) =
      ap (seen_all none_seen) all ∙ seen_all-append none_seen (complete_lines text ++ complete_lines (rest ++ end)) (complete_lines after)
      ∙ ap (λ (s : Seen). seen_all s (complete_lines after)) (seen_all-append none_seen (complete_lines text) (complete_lines (rest ++ end)) ∙ ap (λ (s : Seen). seen_all s (complete_lines (rest ++ end))) (sym seen_is)) in
      sym (ap (λ (t : List ℕ). let p : Progress = record { rest = t; seen = seen_all none_seen (complete_lines (text ++ piece)) } in p) left
      ∙ ap (λ (s : Seen). let p : Progress = record { rest = unfinished after; seen = s } in p) seen_at)

  -- there is room for the numbers of the lines that a piece ends, and of one more
  pub room_left : (text : List ℕ) (more : ℕ) (rest : List ℕ) (seen : Seen) → record { rest = rest; seen = seen } ≡ progress_of text → length text + more < 4294967295
      → length rest + more + seen.next ≤ 4294967295
  room_left text more rest seen is short =
      omega (arith, ap (λ (p : Progress). length p.rest) is, ap (λ (p : Progress). p.seen.next) is, next-seen_all none_seen (complete_lines text), few text)

  -- a batch that ends with the last line feed
  pub ends_complete : (text rest : List ℕ) (seen : Seen) → record { rest = rest; seen = seen } ≡ progress_of text → length rest ≡ 0 → seen.found ≡ lines_of text
  ends_complete text rest seen is none =
      ap (λ (p : Progress). p.seen.found) is ∙ ap (λ (ls : List (List ℕ)). (seen_all none_seen ls).found) (sym (no_last_line text (omega (arith, none, ap (λ (p : Progress). length p.rest) is)))) ∙ batch_read text

  -- a batch whose last line no line feed ends
  pub ends_unfinished : (text rest : List ℕ) (seen : Seen) → record { rest = rest; seen = seen } ≡ progress_of text → 0 < length rest → (seen_on seen rest).found ≡ lines_of text
  ends_unfinished text rest seen is some =
      ap (λ (p : Progress). (seen_on p.seen p.rest).found) is ∙ ap (λ (s : Seen). s.found) (sym (seen_all-append none_seen (complete_lines text) (unfinished text ∷ [])))
      ∙ ap (λ (ls : List (List ℕ)). (seen_all none_seen ls).found) (sym (last_line text (omega (arith, some, ap (λ (p : Progress). length p.rest) is)))) ∙ batch_read text

-- ---- each line with its reading

module _ (laws : Laws) where
  -- each line of the list is read from its text
  pub all_read : (texts : List (ℕ × List ℕ)) → AllZip IsReadFrom texts (map read_of texts)
  all_read [] = tt
  all_read (text ∷ texts) = ((refl, reading_is laws text.1), all_read texts)
