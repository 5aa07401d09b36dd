-- The line feeds of a text that is cut in two.
use Rattle.std.proofs.Common.{◌≡◌, ℕ, ◌+◌, ◌≤◌, List, length, take, drop, eqb, cond, sym, ap, ◌∙◌}
use Rattle.std.proofs.lemmas.List.{take-append-drop}
use Rattle.std.proofs.lemmas.List.Sums.{sum_by-append, count_by-le-length}
use Rattle.act_model.specs.Requests.{line_feeds}

pub feeds_cut : (n : ℕ) (text : List ℕ) → line_feeds (take n text) + line_feeds (drop n text) ≡ line_feeds text
unfolding line_feeds
feeds_cut n text =
    sym (sum_by-append (λ byte. cond (eqb byte 10) 1 0) (take n text) (drop n text))
    ∙ ap line_feeds (take-append-drop n text)

pub feeds_within : (text : List ℕ) → line_feeds text ≤ length text
unfolding line_feeds
feeds_within text = count_by-le-length (λ byte. eqb byte 10) text
