-- The lines of a batch as they are taken in, and as they are filed.
use Rattle.std.proofs.Common.{◌≡◌, ℕ, ◌+◌, ◌≤◌, min, List, [], ◌∷◌, ◌++◌, length, drop, refl, sym, ap, ◌∙◌, arith}
use Rattle.std.specs.Prelude.{Result}
use Rattle.std.proofs.lemmas.Bool.Decides.{nat_tests}
use Rattle.std.proofs.lemmas.List.{drop_all}
use Rattle.std.proofs.lemmas.List.Sums.{sum_by-cons}
use Rattle.obs_record.specs.declared.line.Line.{Line}
use Rattle.obs_record.specs.declared.rule.RuleCode.{RuleCode}
use Rattle.act_model.specs.declared.ruling.Ruling.{Ruling}
use Rattle.act_model.specs.declared.taken.Placing.{Placing}
use Rattle.act_model.specs.declared.taken.Taken.{Taken}
use Rattle.act_model.specs.Known.{KnownOffice}
use Rattle.act_model.specs.Taken.{placed_by, taken_by, taken_with, taken_line, taken_lines, tracks_with, accepted_in}
use Rattle.desk_core.specs.Holding.{is_added}

-- ---- taken in

-- what is found next is of the next line
pub one_more : (none : (lines : List Line) → taken_with lines [] ≡ []) (lines : List Line) (list : List (Result Placing RuleCode)) (line : Line) (left : List Line) (found : Result Placing RuleCode) (rest : List Taken) → drop (length list) lines ≡ line ∷ left
    → taken_with lines (list ++ found ∷ []) ++ rest ≡ taken_with lines list ++ taken_by line found ∷ rest
one_more none [] [] line left found rest is = absurd cc
one_more none [] (first ∷ list) line left found rest is = absurd cc
one_more none (next ∷ lines) [] line left found rest is = grind (arith, none)
one_more none (next ∷ lines) (first ∷ list) line left found rest is = ap (λ (more : List Taken). taken_by next first ∷ more) (one_more none lines list line left found rest is)

-- a line with the ruling on it, and those that are left after it
pub next_taken : (known : KnownOffice) (before now after : ℕ) (lines left : List Line) (line : Line) (all rulings : List Ruling) (ruling : Ruling) (found : Result Placing RuleCode)
    → lines ≡ line ∷ left → all ≡ ruling ∷ rulings → taken_by line found ≡ taken_line known before now line ruling → after ≡ tracks_with now (placed_by line.read found)
    → taken_by line found ∷ taken_lines known before after left rulings ≡ taken_lines known before now lines all
next_taken known before now after lines left line all rulings ruling found is are taken tracks =
    ap (λ (n : ℕ). taken_by line found ∷ taken_lines known before n left rulings) tracks
    ∙ ap (λ (became : Taken). became ∷ taken_lines known before (tracks_with now became.found) left rulings) taken
    ∙ ap (λ (some : List Ruling). taken_lines known before now (line ∷ left) some) (sym are)
    ∙ ap (λ (some : List Line). taken_lines known before now some all) (sym is)

-- without rulings no line is taken in
none_ruled : (known : KnownOffice) (before now : ℕ) (lines : List Line) → taken_lines known before now lines [] ≡ []
none_ruled known before now [] = refl
none_ruled known before now (line ∷ lines) = refl

-- past the last line or the last ruling none is left
pub none_left : (known : KnownOffice) (before now place : ℕ) (lines : List Line) (rulings : List Ruling) → min (length lines) (length rulings) ≤ place → taken_lines known before now (drop place lines) (drop place rulings) ≡ []
none_left known before now place lines rulings past = grind (arith, nat_tests, drop_all, none_ruled)

-- ---- filed

-- how many are accepted from a place on
pub accepted_at : (lines : List Taken) (place : ℕ) (taken : Taken) → drop place lines ≡ taken ∷ drop (place + 1) lines → accepted_in (drop place lines) ≡ is_added taken + accepted_in (drop (place + 1) lines)
accepted_at lines place taken left = ap accepted_in left ∙ sum_by-cons is_added taken (drop (place + 1) lines)
