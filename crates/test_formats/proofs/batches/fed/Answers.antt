use Rattle.std.proofs.Common.{◌≡◌, ◌++◌, [], append_assoc, List, ℕ, length, take, drop, refl, ap, ◌∙◌, arith}
use Rattle.std.proofs.lemmas.List.{length-append, take-append-drop}
use Rattle.test_formats.proofs.batches.fed.Goals as goal

pub pieces-init : goal.pieces-init
pieces-init c = ([], c.in_ok-reader.ensures, refl)

-- the piece and what follows it are the rest
cut_is : (n : ℕ) (rest piece after : List ℕ) → piece ≡ take n rest → after ≡ drop n rest → piece ++ after ≡ rest
cut_is n rest piece after is_piece is_after = rw (is_piece, is_after) (take-append-drop n rest)

pub feed-requires : goal.feed-requires
feed-requires c =
    let text : List ℕ = c.pieces.invariant.0 in
    let piece : List ℕ = c.split_at.result.0.now in
    let after : List ℕ = c.split_at.result.1.now in
    let whole : piece ++ after ≡ c.pieces.rest.now = cut_is c.min.result c.pieces.rest.now piece after c.split_at.ensures.front c.split_at.ensures.back in
    (text, c.pieces.invariant.1, omega (arith, ap length whole, ap length c.pieces.invariant.2, length-append text piece, length-append piece after, length-append text c.pieces.rest.now, c.requires.room))

pub pieces-preserved : goal.pieces-preserved
pieces-preserved c =
    let text : List ℕ = c.pieces.invariant.0 in
    let piece : List ℕ = c.split_at.result.0.now in
    let after : List ℕ = c.split_at.result.1.now in
    let whole : piece ++ after ≡ c.pieces.rest.now = cut_is c.min.result c.pieces.rest.now piece after c.split_at.ensures.front c.split_at.ensures.back in
    (text ++ piece, c.in_ok-feed.ensures.fed text c.pieces.invariant.1, append_assoc text piece after ∙ ap (λ (t : List ℕ). text ++ t) whole ∙ c.pieces.invariant.2)
