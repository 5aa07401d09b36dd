use Rattle.std.proofs.Common.{◌≡◌, ℕ, ◌+◌, ◌++◌, append_assoc, List, length, Some, Result, Err, refl, sym, ap, ◌∙◌}
use Rattle.std.proofs.lemmas.List.{length-append}
use Rattle.std.proofs.lemmas.Result.{err_from_is_err_and}
use Rattle.obs_record.specs.declared.rule.HeaderFault.{HeaderFault}
use Rattle.ades_psv.specs.declared.fault.PsvFault.{PsvFault}
use Rattle.ades_psv.specs.declared.fault.PsvFault.TheVariants as faults
use Rattle.ades_psv.specs.Batch.{psv_lines_of}
use Rattle.ades_psv.specs.Walking.{IsAnswer}
use Rattle.ades_psv.specs.Feeding.{Fed, unfed, feed_piece, Feeds, HasRoom, complete_fault}
use Rattle.reader_bench.proofs.line_reader.psv_in_pieces.Goals as goal

abbrev failed : PsvFault → Result (Unit {0}) PsvFault
failed fault = Err fault

-- the text with the piece, and what follows it
text_is : (text piece after rest : List ℕ) → rest ≡ piece ++ after → (text ++ piece) ++ after ≡ text ++ rest
text_is text piece after rest parts = append_assoc text piece after ∙ ap (λ (t : List ℕ). text ++ t) (sym parts)

size_is : (piece after rest : List ℕ) → rest ≡ piece ++ after → length rest ≡ length piece + length after
size_is piece after rest parts = ap length parts ∙ length-append piece after

-- the fault that is told at a piece is that of the whole batch
told_at : ((text more : List ℕ) (fault : HeaderFault × ℕ) → feed_piece unfed text ≡ Err fault
    → psv_lines_of (text ++ more) ≡ Err fault)
    → (text piece after : List ℕ) (before new : Fed) (fault : PsvFault)
    → ((told : HeaderFault) (line : ℕ) → failed fault ≡ failed (faults.Header told line)
    → (new ≡ feed_piece unfed (text ++ piece)) × (complete_fault (text ++ piece) ≡ Some (told, line)))
    → Feeds before piece new (failed fault) → IsAnswer (psv_lines_of ((text ++ piece) ++ after)) (Err fault)
told_at stays text piece after before new (faults.Header told line) header is =
    stays (text ++ piece) after (told, line) (sym (header told line refl).0 ∙ is.1)
told_at stays text piece after before new faults.NoMemory header is = tt

pub returns-in_err-feed : goal.returns-in_err-feed
returns-in_err-feed c =
    let p = err_from_is_err_and c.from_residual-in_err-feed.result c.from_residual-in_err-feed.ensures.1 in
    let text : List ℕ = c.pieces.invariant.1.0 in
    let piece : List ℕ = c.cut_piece.result.0.now in
    let after : List ℕ = c.cut_piece.result.1.now in
    let is : (text ++ piece) ++ after ≡ text ++ c.pieces.rest.now
    = text_is text piece after c.pieces.rest.now c.cut_piece.ensures.parts in
    let whole : (text ++ piece) ++ after ≡ c.args.batch.now = is ∙ c.pieces.invariant.1.2 in
    let fault : PsvFault = c.in_err-feed.field-0.0 in
    rw (← whole, p.1, p.2) (told_at c.faults_stay.ensures text piece after c.pieces.reader c.feed.new.self fault
    (λ told line failed. c.in_err-feed.ensures.header text told line c.pieces.invariant.1.1 failed)
    c.in_err-feed.ensures.exact)

pub pieces-preserved : goal.pieces-preserved
pieces-preserved c =
    let text : List ℕ = c.pieces.invariant.1.0 in
    let piece : List ℕ = c.cut_piece.result.0.now in
    let after : List ℕ = c.cut_piece.result.1.now in
    let size : length c.pieces.rest.now ≡ length piece + length after
    = size_is piece after c.pieces.rest.now c.cut_piece.ensures.parts in
    let room : HasRoom c.pieces.reader (length piece + length after) = rw (← size) c.pieces.invariant.0 in (
      c.in_ok-feed.ensures.room (length after) room,
      (
        text ++ piece,
        (c.in_ok-feed.ensures.ok text c.pieces.invariant.1.1).0,
        text_is text piece after c.pieces.rest.now c.cut_piece.ensures.parts ∙ c.pieces.invariant.1.2,
      ),
    )
