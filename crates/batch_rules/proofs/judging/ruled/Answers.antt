use Rattle.std.proofs.Common.{◌≡◌, ℕ, Option, None, get_or, ap, sym, ◌∙◌}
use Rattle.std.proofs.lemmas.Option.{get_or_from_slice_get}
use Rattle.batch_rules.specs.declared.groups.Summary.{Summary}
use Rattle.batch_rules.specs.declared.points.Point.{Point}
use Rattle.batch_rules.specs.Groups.{fault_by}
use Rattle.batch_rules.specs.Points.{place_of, point_of}
use Rattle.batch_rules.proofs.judging.ruled.Goals as goal

pub returns-in_ok-number-in-None-clause-numbered : goal.returns-in_ok-number-in-None-clause-numbered
returns-in_ok-number-in-None-clause-numbered c firsts numbered =
    let groups = c.args.groups.now in
    let s = c.args.s.now in
    let place : c.group_of-group.result ≡ place_of groups.keys s =
    c.group_of-group.ensures.group (point_of groups.keys s) ∙ ap (λ (p : Point). p.group) (get_or_from_slice_get groups.points c.args.place (point_of groups.keys s) (point_of groups.keys s) c.requires.next.0) in
    c.in_ok-number-in-None.ensures.numbered groups.keys firsts s numbered c.requires.next.1 place

pub returns-in-Some-clause-fault : goal.returns-in-Some-clause-fault
returns-in-Some-clause-fault c =
    let groups = c.args.groups.now in
    let s = c.args.s.now in
    let place : c.group_of-group.result ≡ place_of groups.keys s =
    c.group_of-group.ensures.group (point_of groups.keys s) ∙ ap (λ (p : Point). p.group) (get_or_from_slice_get groups.points c.args.place (point_of groups.keys s) (point_of groups.keys s) c.requires.next.0) in
    sym c.in-Some.is ∙ c.fault_by.ensures ∙ ap (λ (o : Option Summary). fault_by o s) (c.told_of.ensures ∙ ap (λ (n : ℕ). get_or groups.told n None) place)
