use Rattle.std.proofs.Common.{ℕ, List, length, ap, arith}
use Rattle.std.proofs.lemmas.List.{length-append}
use Rattle.col80_format.proofs.Batches.{piece_cut, room_left}
use Rattle.col80_format.proofs.reader.read_on.Goals as goal

pub see_lines-requires : goal.see_lines-requires
see_lines-requires c =
    let fed = c.requires in
    omega (arith, ap length c.as_slice.ensures, ap length c.in_ok-extend_from_slice.ensures.ok, length-append c.args.rest.now c.in-Some.end.now, ap length c.in-Some.ensures.parts, length-append c.in-Some.end.now c.in-Some.after.now, room_left c.lines.ensures fed.0 (length c.args.piece.now) c.args.rest.now c.args.seen.now fed.1 (omega (arith, fed.2, length-append fed.0 c.args.piece.now)))

pub see_lines-requires-2 : goal.see_lines-requires-2
see_lines-requires-2 c =
    let fed = c.requires in
    omega (arith, c.in_ok-see_lines.ensures.room, ap length c.as_slice.ensures, ap length c.in_ok-extend_from_slice.ensures.ok, length-append c.args.rest.now c.in-Some.end.now, ap length c.in-Some.ensures.parts, length-append c.in-Some.end.now c.in-Some.after.now, room_left c.lines.ensures fed.0 (length c.args.piece.now) c.args.rest.now c.args.seen.now fed.1 (omega (arith, fed.2, length-append fed.0 c.args.piece.now)))

pub returns-clause-progress : goal.returns-clause-progress
returns-clause-progress c = λ text is.
    let end : List ℕ = c.in-Some.end.now in
    let after : List ℕ = c.in-Some.after.now in
    let cut = piece_cut c.lines.ensures text c.args.piece.now end after c.args.rest.now c.args.seen.now is c.in-Some.ensures.parts (c.in-Some.ensures.ended c.args.rest.now) in
    cc (cut, c.in_ok-rest.ensures, c.in_ok-unfinished.ensures.rest, c.as_slice.ensures, c.in_ok-extend_from_slice.ensures.ok, c.in_ok-see_lines.ensures.seen, c.in_ok-unfinished.ensures.seen)
