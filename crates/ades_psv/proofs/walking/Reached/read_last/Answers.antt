use Rattle.std.proofs.Common.{◌≡◌, ◌<◌, ◌∷◌, [], ◌++◌, ℕ, List, length, sym, ap, ◌∙◌, arith}
use Rattle.std.specs.Str.Lines.{lines}
use Rattle.text_lines.specs.Pieces.{complete_lines, unfinished}
use Rattle.std.proofs.lemmas.Bool.Decides.{nat_tests}
use Rattle.ades_psv.proofs.Walks.{read_one}
use Rattle.ades_psv.proofs.walking.Reached.read_last.Goals as goal

pub returns-clause-exact : goal.returns-clause-exact
returns-clause-exact c =
    let text = c.args.line.now in
    let alone = c.requires.alone in
    let some : 0 < length (unfinished text) = grind (arith, nat_tests, ap length alone) in
    let none : complete_lines text ≡ [] = ap complete_lines (sym alone) ∙ c.lines.ensures.rest_alone text in
    let one : lines text ≡ text ∷ [] = c.lines.ensures.last_line text some ∙ ap (λ (ls : List (List ℕ)). ls ++ unfinished text ∷ []) none ∙ ap (λ (t : List ℕ). t ∷ []) alone in
    rw (one, read_one c.args.self.now text) c.read_line.ensures.exact
