-- A buffer into which a piece is read after the bytes that it keeps at its front.
use Rattle.std.proofs.Common.{◌≡◌, ℕ, ◌+◌, ◌-◌, ◌≤◌, List, [], ◌++◌, length, take, drop, slice_range, Option, Result, Ok, Err, IfOk, OnErr, sym, ap, ◌∙◌, arith}
use Rattle.std.proofs.lemmas.List.{append-nil, take_at, drop_at, take-append-le, length-take-le, drop-take, drop-drop}
use Rattle.std.proofs.KnownBytes.{Consumes-nil, Consumes-kept}
use Rattle.std.specs.Io.KnownBytes.{ReadConsumes}
use Rattle.desk_io.specs.Reads.{Passes}
use borrow.Rule.Slice.PartMut.{put_mid, post_of}
use lib.Seq.{take-add}
use Rattle.read_ahead.specs.Reading.{ReadsOnce}

-- the bytes that are kept, and after them the front of what was written there
take_behind : (xs ys : List ℕ) (kept k n : ℕ) → kept ≤ length xs → n ≤ length ys → take (kept + n) (put_mid kept k xs ys) ≡ take kept xs ++ take n ys
take_behind xs ys kept k n within few =
    let front = take kept xs in
    let after = ys ++ post_of kept k xs in
    let long = length-take-le kept xs within in
    take-add kept n (front ++ after)
    ∙ ap (λ (t : List ℕ). t ++ take n (drop kept (front ++ after))) (take_at front after kept long)
    ∙ ap (λ (t : List ℕ). front ++ take n t) (drop_at front after kept long)
    ∙ ap (λ (t : List ℕ). front ++ t) (take-append-le n ys (post_of kept k xs) few)

module _ {S : Type 0} (left : S → Option (List ℕ)) (gives : Passes S) (a b : S) (xs ys : List ℕ) (kept k room : ℕ) (within : kept ≤ length xs) (long : length ys ≡ room) where
  -- a read that gave n bytes, or none
  pub read_once : {E : Type 0} (r : Result ℕ E) → IfOk r (λ n. n ≤ room) → ReadConsumes (left a) (left b) r ys → IfOk r (λ n. gives a (take n ys) b)
      → IfOk r (λ n. ReadsOnce left gives a b (take kept xs) (take (kept + n) (put_mid kept k xs ys)))
  read_once (Ok n) few came gave = record { piece = take n ys; consumed = came.0; gave = gave; behind = take_behind xs ys kept k n within (omega arith) }
  read_once (Err e) few came gave = tt

  pub failed_once : {E : Type 0} (r : Result ℕ E) → ReadConsumes (left a) (left b) r ys → OnErr r (gives a [] b)
      → OnErr r (ReadsOnce left gives a b (take kept xs) (take kept (put_mid kept k xs ys)))
  failed_once (Ok n) came gave = tt
  failed_once (Err e) keeps gave = record {
    piece = [];
    consumed = Consumes-kept (left a) (left a) (left b) [] (Consumes-nil (left a)) keeps;
    gave = gave;
    behind = take_at (take kept xs) (ys ++ post_of kept k xs) kept (length-take-le kept xs within) ∙ sym (append-nil (take kept xs));
  }

-- bytes that are used from the front of a part of a buffer
pub part_used : (xs : List ℕ) (start end count : ℕ) → start + count ≤ end → slice_range xs (start + count) end ≡ drop count (slice_range xs start end)
part_used xs start end count inside =
    let apart : end - start ≡ count + (end - (start + count)) = omega arith in
    ap (take (end - (start + count))) (sym (drop-drop count start xs))
    ∙ sym (drop-take count (end - (start + count)) (drop start xs))
    ∙ ap (λ (n : ℕ). drop count (take n (drop start xs))) (sym apart)
