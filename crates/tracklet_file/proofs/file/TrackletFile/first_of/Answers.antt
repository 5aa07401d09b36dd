use Rattle.std.proofs.Common.{List, ap, sym, ◌∙◌}
use Rattle.std.specs.Prelude.{reverse}
use Rattle.std.proofs.lemmas.Option.{IfSome_then}
use Rattle.tracklet_file.specs.declared.chain.Chain.{Chain}
use Rattle.tracklet_file.specs.Numbering.{numbered}
use Rattle.tracklet_file.specs.Observations.{first_of}
use Rattle.tracklet_file.specs.Contents.{Contents}
use Rattle.tracklet_file.proofs.TrackLemmas.{found_first}
use Rattle.tracklet_file.proofs.KeepingLemmas.{first_there, first_absent}
use Rattle.tracklet_file.proofs.file.TrackletFile.first_of.Goals as goal

pub returns-in-Some-clause-first : goal.returns-in-Some-clause-first
returns-in-Some-clause-first c =
    let at = sym (c.in-Some.ensures ∙ ap (λ (chains : List Chain). numbered (reverse chains) c.args.t) c.as_slice.ensures.value) in
    c.some_number.ensures ∙ first_there _ _ _ c.self.invariant.kept c.args.t c.in-Some.chain.now at ∙ ap (λ (v : Contents). first_of v.observations c.args.t) c.self.view_is

pub returns-in-Some-clause-own : goal.returns-in-Some-clause-own
returns-in-Some-clause-own c =
    IfSome_then c.some_number.result (found_first c.args.self.now.observations c.args.t 0 c.some_number.result (returns-in-Some-clause-first c)) (λ k first. first.own)

pub returns-in-Some-clause-rest : goal.returns-in-Some-clause-rest
returns-in-Some-clause-rest c =
    IfSome_then c.some_number.result (found_first c.args.self.now.observations c.args.t 0 c.some_number.result (returns-in-Some-clause-first c)) (λ k first. first.rest)

pub returns-in-None-clause-first : goal.returns-in-None-clause-first
returns-in-None-clause-first c =
    let absent = sym (c.in-None.ensures ∙ ap (λ (chains : List Chain). numbered (reverse chains) c.args.t) c.as_slice.ensures.value) in
    sym (first_absent _ _ _ c.self.invariant.kept c.args.t absent) ∙ ap (λ (v : Contents). first_of v.observations c.args.t) c.self.view_is
