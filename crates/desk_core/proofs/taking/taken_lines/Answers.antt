use Rattle.std.proofs.Common.{◌≡◌, ℕ, ◌+◌, ◌<◌, List, [], ◌∷◌, ◌++◌, length, drop, subst, sym, ap, ◌∙◌, slice_index_or, arith}
use Rattle.std.specs.Prelude.{None}
use Rattle.std.proofs.lemmas.Bool.Decides.{nat_tests}
use Rattle.std.proofs.lemmas.List.{append-nil, length-append, drop_more}
use Rattle.act_model.specs.declared.taken.Taken.{Taken}
use Rattle.act_model.specs.Taken.{taken_by, taken_with, taken_lines}
use Rattle.desk_core.specs.Office.{AreTracked}
use Rattle.desk_core.proofs.TakenLines.{one_more, next_taken, none_left}
use Rattle.desk_core.proofs.taking.taken_lines.Goals as goal

pub loop-place-init : goal.loop-place-init
loop-place-init g c =
    let none : taken_with c.args.lines c.in_ok-list.list ≡ [] = ap (taken_with c.args.lines) c.in_ok-list.ensures ∙ c.nothing_found.ensures c.args.lines in
    record {
      placed = ap length c.in_ok-list.ensures;
      taken = ap (λ (list : List Taken). list ++ taken_lines (g.V.Known.office c.args.known.now) c.args.tracks c.args.tracks c.args.lines c.args.rulings.now) none;
      tracked = λ rest tracked. subst (λ (list : List Taken). AreTracked c.args.tracks (list ++ rest)) (sym none) tracked;
      more = omega arith;
    }

pub loop-place-preserved : goal.loop-place-preserved
loop-place-preserved g c =
    let lines = c.args.lines in
    let rulings = c.args.rulings.now in
    let place = c.loop-place.place in
    let line = c.index-as_slice-place.result in
    let ruling = slice_index_or rulings place (record { line = 0; fault = None; group = 0 }) in
    let found = c.taken_line-found.result in
    let before : place < length lines = let least = c.min-count.ensures in let all = c.as_slice.ensures in let test = c.loop-place-test.true in grind (arith, nat_tests) in
    let ruled : place < length rulings = let least = c.min-count.ensures in let test = c.loop-place-test.true in grind (arith, nat_tests) in
    let at_line : drop place lines ≡ line ∷ drop (place + 1) lines = let is = c.index-as_slice-place.is in let all = c.as_slice-in-loop-place.ensures in let more = drop_more lines place line before in grind arith in
    let at_ruling : drop place rulings ≡ ruling ∷ drop (place + 1) rulings = drop_more rulings place (record { line = 0; fault = None; group = 0 }) ruled in
    let placed : drop (length c.loop-place.list) lines ≡ line ∷ drop (place + 1) lines = ap (λ (n : ℕ). drop n lines) c.loop-place.invariant.placed ∙ at_line in
    let more : (rest : List Taken) → taken_with lines c.push.new.self ++ rest ≡ taken_with lines c.loop-place.list ++ taken_by line found ∷ rest =
    λ rest. ap (λ list. taken_with lines list ++ rest) c.in_ok-push.ensures.ok ∙ one_more c.nothing_found.ensures lines c.loop-place.list line (drop (place + 1) lines) found rest placed in
    let left = taken_lines (g.V.Known.office c.args.known.now) c.args.tracks c.tracks_with-now.result (drop (place + 1) lines) (drop (place + 1) rulings) in
    let next : taken_by line found ∷ left ≡ taken_lines (g.V.Known.office c.args.known.now) c.args.tracks c.loop-place.now (drop place lines) (drop place rulings) =
    next_taken (g.V.Known.office c.args.known.now) c.args.tracks c.loop-place.now c.tracks_with-now.result (drop place lines) (drop (place + 1) lines) line (drop place rulings) (drop (place + 1) rulings) ruling found at_line at_ruling c.taken_line-found.ensures.taken c.tracks_with-now.ensures.tracks in
    record {
      placed = let pushed = c.in_ok-push.ensures.ok in let so_far = c.loop-place.invariant.placed in grind (arith, length-append);
      taken = rw (more left) (rw next c.loop-place.invariant.taken);
      tracked = λ rest tracked. subst (AreTracked c.args.tracks) (sym (more rest)) (c.loop-place.invariant.tracked (taken_by line found ∷ rest) (c.taken_line-found.ensures.tracked, subst (λ (n : ℕ). AreTracked n rest) c.tracks_with-now.ensures.tracks tracked));
      more = let one = c.tracks_with-now.ensures.more in let so_far = c.loop-place.invariant.more in omega arith;
    }

pub returns-clause-taken : goal.returns-clause-taken
returns-clause-taken g c =
    c.new.ensures ∙ sym (append-nil _)
    ∙ ap (λ (rest : List Taken). taken_with c.args.lines c.loop-place.list ++ rest) (sym (none_left (g.V.Known.office c.args.known.now) c.args.tracks c.loop-place.now c.loop-place.place c.args.lines c.args.rulings.now (let least = c.min-count.ensures in let all = c.as_slice.ensures in let test = c.loop-place-test.false in grind (arith, nat_tests))))
    ∙ c.loop-place.invariant.taken

pub returns-clause-tracked : goal.returns-clause-tracked
returns-clause-tracked g c = subst (AreTracked c.args.tracks) (append-nil _ ∙ sym c.new.ensures) (c.loop-place.invariant.tracked [] tt)
