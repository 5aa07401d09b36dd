use Rattle.std.proofs.Common.{◌≡◌, ◌-◌, ℕ, List, [], ◌++◌, take, ap, ◌∙◌, rules}
use Rattle.ascii_text.specs.Blanks.{blanks}
use Rattle.catalogue_export.proofs.NameLemmas.{seven_filled}
use Rattle.catalogue_export.proofs.lines.in_seven.Goals as goal

pub returns : goal.returns
returns c =
    let kept = c.min-kept.result in
    let text = c.args.text.now in
    let empty : c.new-columns.result.items ≡ [] = search rules in
    let out = rw c.unwrap.ensures at c.into_inner.ensures.ok in
    let items : c.put_blanks.new.out.items ≡ take kept text ++ blanks (7 - kept) =
    c.put_blanks.ensures.text ∙ ap (λ (t : List ℕ). t ++ blanks (7 - kept)) (c.put.ensures.text ∙ ap (λ (t : List ℕ). t ++ take kept text) empty) in
    out ∙ items ∙ seven_filled text kept c.min-kept.ensures
