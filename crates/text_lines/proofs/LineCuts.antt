-- The lines of a text, one after another from its front, and of a text that grows at its end.
use Rattle.std.proofs.Common.{◌≡◌, ℕ, ◌+◌, ◌<◌, ◌≤◌, Bool, true, false, eqb, List, [], ◌∷◌, ◌++◌, append_assoc, length, map, All, refl, sym, ap, ◌∙◌, arith}
use Rattle.std.specs.Str.Lines.{lines, lines_of_parts, strip_carriage_return}
use Rattle.std.proofs.Math.Dec.{eqb-suc-zero}
use Rattle.std.proofs.lemmas.Bool.{eqb-true}
use Rattle.std.proofs.lemmas.List.{append-nil, length-append}
use Rattle.std.proofs.lemmas.List.Elements.{All-nil, All-cons, All-append}
use Rattle.std.proofs.lemmas.List.Splits.{slice_split_none, slice_split_at, length-slice_split}
use Rattle.text_lines.specs.Pieces.{parts, front_parts, last_part, complete_lines, unfinished, joined, Cut, uncut, cut_of, cut_on, cut_all, all_lines}

abbrev pub IsOther : ℕ → Type 0
IsOther byte = eqb byte 10 ≡ false

-- no line feed stands in the text
abbrev pub IsOneLine : List ℕ → Type 0
IsOneLine text = All IsOther text

-- ---- the first line

-- the parts of a text whose first line feed stands here
parts_cut : (front after : List ℕ) → IsOneLine front → parts (front ++ 10 ∷ after) ≡ front ∷ parts after
parts_cut front after none = slice_split_at (λ b. eqb b 10) front 10 after none refl

-- a text without a line feed is one part
parts_whole : (text : List ℕ) → IsOneLine text → parts text ≡ text ∷ []
parts_whole text none = slice_split_none (λ b. eqb b 10) text none

some_parts : (text : List ℕ) → 0 < length (parts text)
some_parts text = omega (arith, length-slice_split (λ b. eqb b 10) text)

-- the first of several parts
record IsBefore (part : List ℕ) (more : List (List ℕ)) : Type 0 where
  pub lines : lines_of_parts (part ∷ more) ≡ strip_carriage_return part ∷ lines_of_parts more
  pub front : front_parts (part ∷ more) ≡ part ∷ front_parts more
  pub last : last_part (part ∷ more) ≡ last_part more

before : (part : List ℕ) (more : List (List ℕ)) → 0 < length more → IsBefore part more
before part [] some = absurd (omega arith)
before part (next ∷ more) some = record { lines = refl; front = refl; last = refl }

-- the first line that a line feed ends
pub lines_cut : (front after : List ℕ) → IsOneLine front → lines (front ++ 10 ∷ after) ≡ strip_carriage_return front ∷ lines after
lines_cut front after none = ap lines_of_parts (parts_cut front after none) ∙ (before front (parts after) (some_parts after)).lines

pub complete_cut : (front after : List ℕ) → IsOneLine front → complete_lines (front ++ 10 ∷ after) ≡ strip_carriage_return front ∷ complete_lines after
unfolding complete_lines
complete_cut front after none =
    ap (λ (ps : List (List ℕ)). map strip_carriage_return (front_parts ps)) (parts_cut front after none)
    ∙ ap (map strip_carriage_return) (before front (parts after) (some_parts after)).front

pub unfinished_cut : (front after : List ℕ) → IsOneLine front → unfinished (front ++ 10 ∷ after) ≡ unfinished after
unfolding unfinished
unfinished_cut front after none = ap last_part (parts_cut front after none) ∙ (before front (parts after) (some_parts after)).last

-- a text without a line feed is one line, where it isn't empty
pub lines_whole : (text : List ℕ) → 0 < length text → IsOneLine text → lines text ≡ text ∷ []
lines_whole [] some none = absurd (omega arith)
lines_whole (byte ∷ text) some none = rw (parts_whole (byte ∷ text) none, eqb-suc-zero) refl

pub complete_none : (text : List ℕ) → IsOneLine text → complete_lines text ≡ []
unfolding complete_lines
complete_none text none = ap (λ (ps : List (List ℕ)). map strip_carriage_return (front_parts ps)) (parts_whole text none)

pub unfinished_whole : (text : List ℕ) → IsOneLine text → unfinished text ≡ text
unfolding unfinished
unfinished_whole text none = ap last_part (parts_whole text none)

-- ---- line by line

-- The text has no line feed, or it begins with a line that a line feed ends.
pub data IsCut : List ℕ → Type 0 where
  whole : (text : List ℕ) → IsOneLine text → IsCut text
  fed : (front after : List ℕ) → IsOneLine front → IsCut after → IsCut (front ++ 10 ∷ after)

cut_more : (feed : Bool) (byte : ℕ) (text : List ℕ) → eqb byte 10 ≡ feed → IsCut text → IsCut (byte ∷ text)
cut_more true byte text feed cut = rw (eqb-true byte 10 feed) (fed [] text (All-nil IsOther) cut)
cut_more false byte _ feed (whole text none) = whole (byte ∷ text) (All-cons IsOther byte text feed none)
cut_more false byte _ feed (fed front after none cut) = fed (byte ∷ front) after (All-cons IsOther byte front feed none) cut

pub each_cut : (text : List ℕ) → IsCut text
each_cut [] = whole [] (All-nil IsOther)
each_cut (byte ∷ text) = cut_more (eqb byte 10) byte text refl (each_cut text)

-- ---- What stands after the last line feed goes on where a text grows, and the lines before it stay.

pub complete_by : (text more : List ℕ) → IsCut text → complete_lines (text ++ more) ≡ complete_lines text ++ complete_lines (unfinished text ++ more)
complete_by _ more (whole text none) = rw (complete_none text none, unfinished_whole text none) refl
complete_by _ more (fed front after none cut) =
    rw (append_assoc front (10 ∷ after) more, complete_cut front after none, complete_cut front (after ++ more) none, unfinished_cut front after none, complete_by after more cut) refl

pub unfinished_by : (text more : List ℕ) → IsCut text → unfinished (text ++ more) ≡ unfinished (unfinished text ++ more)
unfinished_by _ more (whole text none) = rw (unfinished_whole text none) refl
unfinished_by _ more (fed front after none cut) =
    rw (append_assoc front (10 ∷ after) more, unfinished_cut front after none, unfinished_cut front (after ++ more) none) (unfinished_by after more cut)

pub lines_by : (text more : List ℕ) → IsCut text → lines (text ++ more) ≡ complete_lines text ++ lines (unfinished text ++ more)
lines_by _ more (whole text none) = rw (complete_none text none, unfinished_whole text none) refl
lines_by _ more (fed front after none cut) =
    ap lines (append_assoc front (10 ∷ after) more) ∙ lines_cut front (after ++ more) none ∙ ap (λ (ls : List (List ℕ)). strip_carriage_return front ∷ ls) (lines_by after more cut)
    ∙ rw (complete_cut front after none, unfinished_cut front after none) refl

-- no line feed stands after the last one
none_by : (text : List ℕ) → IsCut text → IsOneLine (unfinished text)
none_by _ (whole text none) = rw (unfinished_whole text none) none
none_by _ (fed front after none cut) = rw (unfinished_cut front after none) (none_by after cut)

pub few_by : (text : List ℕ) → IsCut text → length (complete_lines text) + length (unfinished text) ≤ length text
few_by _ (whole text none) = rw (complete_none text none, unfinished_whole text none) (omega arith)
few_by _ (fed front after none cut) =
    rw (complete_cut front after none, unfinished_cut front after none) (omega (arith, length-append front (10 ∷ after), few_by after cut))

pub unfinished_none : (text : List ℕ) → IsOneLine (unfinished text)
unfinished_none text = none_by text (each_cut text)

-- without a line feed no line is complete
none_after : (text more : List ℕ) → IsOneLine more → IsOneLine (unfinished text ++ more)
none_after text more none = All-append IsOther (unfinished text) more (unfinished_none text) none

pub complete_stays : (text more : List ℕ) → IsOneLine more → complete_lines (text ++ more) ≡ complete_lines text
complete_stays text more none =
    rw (complete_by text more (each_cut text), complete_none (unfinished text ++ more) (none_after text more none)) (append-nil (complete_lines text))

pub unfinished_stays : (text more : List ℕ) → IsOneLine more → unfinished (text ++ more) ≡ unfinished text ++ more
unfinished_stays text more none = unfinished_by text more (each_cut text) ∙ unfinished_whole (unfinished text ++ more) (none_after text more none)

-- a text whose last byte is a line feed leaves nothing unfinished
pub unfinished-feed : (text front : List ℕ) → unfinished (text ++ (front ++ 10 ∷ [])) ≡ []
unfinished-feed text front =
    ap unfinished (sym (append_assoc text front (10 ∷ []))) ∙ unfinished_by (text ++ front) (10 ∷ []) (each_cut (text ++ front))
    ∙ unfinished_cut (unfinished (text ++ front)) [] (unfinished_none (text ++ front)) ∙ unfinished_whole [] (All-nil IsOther)

-- the lines are those that a line feed ends, and what stands after the last one
pub lines_end : (text : List ℕ) → lines text ≡ complete_lines text ++ lines (unfinished text)
lines_end text =
    ap lines (sym (append-nil text)) ∙ lines_by text [] (each_cut text) ∙ ap (λ (t : List ℕ). complete_lines text ++ lines t) (append-nil (unfinished text))

-- ---- pieces

pub one_piece : (text piece : List ℕ) → cut_of (text ++ piece) ≡ cut_on (cut_of text) piece
one_piece text piece = rw (complete_by text piece (each_cut text), unfinished_by text piece (each_cut text)) refl

all_cut : (text : List ℕ) (pieces : List (List ℕ)) → all_lines (cut_all (cut_of text) pieces) ≡ lines (text ++ joined pieces)
all_cut text [] = sym (lines_end text) ∙ ap lines (sym (append-nil text))
all_cut text (piece ∷ pieces) =
    ap (λ (cut : Cut). all_lines (cut_all cut pieces)) (sym (one_piece text piece)) ∙ all_cut (text ++ piece) pieces ∙ ap lines (append_assoc text piece (joined pieces))

pub any_cut : (pieces : List (List ℕ)) → all_lines (cut_all uncut pieces) ≡ lines (joined pieces)
unfolding complete_lines unfinished
any_cut pieces = all_cut [] pieces
