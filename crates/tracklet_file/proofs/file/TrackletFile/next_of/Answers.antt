use Rattle.std.proofs.Common.{ℕ, List, ap, sym, ◌∙◌}
use Rattle.std.specs.Prelude.{reverse}
use Rattle.std.proofs.lemmas.Option.{IfSome_then}
use Rattle.tracklet_file.specs.Numbering.{numbered}
use Rattle.tracklet_file.specs.Observations.{next_of}
use Rattle.tracklet_file.specs.Contents.{Contents}
use Rattle.tracklet_file.proofs.KeepingLemmas.{next_there, next_absent, found_next}
use Rattle.tracklet_file.proofs.file.TrackletFile.next_of.Goals as goal

pub returns-in-Some-clause-next : goal.returns-in-Some-clause-next
returns-in-Some-clause-next c =
    let at = sym (c.in-Some.ensures ∙ ap (λ (links : List ℕ). numbered (reverse links) c.args.k) c.as_slice.ensures.value) in
    c.some_number.ensures ∙ next_there _ _ _ c.self.invariant.kept c.args.k c.in-Some.next.now at ∙ ap (λ (v : Contents). next_of v.observations c.args.k) c.self.view_is

pub returns-in-Some-clause-later : goal.returns-in-Some-clause-later
returns-in-Some-clause-later c =
    IfSome_then c.some_number.result (found_next c.args.self.now.observations c.args.k c.some_number.result (returns-in-Some-clause-next c)) (λ next comes. comes.later)

pub returns-in-Some-clause-own : goal.returns-in-Some-clause-own
returns-in-Some-clause-own c =
    IfSome_then c.some_number.result (found_next c.args.self.now.observations c.args.k c.some_number.result (returns-in-Some-clause-next c)) (λ next comes. comes.own)

pub returns-in-Some-clause-rest : goal.returns-in-Some-clause-rest
returns-in-Some-clause-rest c =
    IfSome_then c.some_number.result (found_next c.args.self.now.observations c.args.k c.some_number.result (returns-in-Some-clause-next c)) (λ next comes. comes.rest)

pub returns-in-None-clause-next : goal.returns-in-None-clause-next
returns-in-None-clause-next c =
    let absent = sym (c.in-None.ensures ∙ ap (λ (links : List ℕ). numbered (reverse links) c.args.k) c.as_slice.ensures.value) in
    sym (next_absent _ _ _ c.self.invariant.kept c.args.k absent) ∙ ap (λ (v : Contents). next_of v.observations c.args.k) c.self.view_is
