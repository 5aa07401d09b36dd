use Rattle.std.proofs.Common.{rules, sym, ap, ◌∙◌, ◌≡◌, option_map, Some, add-one, suc, take, drop, length, ◌-◌}
use Rattle.std.proofs.lemmas.List.{take_rest, drop-drop}
use Rattle.desk_http.proofs.Cuts.{cut_found, cut_nowhere}
use Rattle.desk_http.proofs.route.cut_at.Goals as goal

pub returns-in_err-at : goal.returns-in_err-at
returns-in_err-at c = ap (option_map (λ parts. (parts.0.now, parts.1.now))) c.from_residual.ensures ∙ sym (cut_nowhere c.args.byte c.args.text.now (search rules))

pub returns : goal.returns
returns c =
    let text = c.args.text.now in
    let at = c.in_ok-at.at in
    let front = c.split_at.result.0.now in
    let rest = c.split_at.result.1.now in
    let cut = cut_found c.args.byte text at (search rules) (search rules) (search rules) in
    let behind : take (length rest - 1) (drop 1 rest) ≡ drop (suc at) text = take_rest rest 1 ∙ ap (drop 1) c.split_at.ensures.back ∙ drop-drop 1 at text ∙ ap (λ n. drop n text) (add-one at) in
    ap (λ t. Some (t, take (length rest - 1) (drop 1 rest))) c.split_at.ensures.front ∙ ap (λ t. Some (take at text, t)) behind ∙ sym cut
