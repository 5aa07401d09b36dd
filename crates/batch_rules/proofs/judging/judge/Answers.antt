use Rattle.std.proofs.Common.{◌≡◌, List, [], length, map, Option, ap, sym, subst, ◌∙◌}
use Rattle.std.proofs.lemmas.Result.{IfOk-weaker}
use Rattle.obs_record.specs.declared.line.Line.{Line}
use Rattle.obs_record.specs.declared.sighting.Sighting.{Sighting}
use Rattle.act_model.specs.BatchRules.{group_fault, firsts_of, checked_lines, passed_in, rulings_among, batch_rulings}
use Rattle.batch_rules.specs.declared.keys.GroupKey.{GroupKey}
use Rattle.batch_rules.specs.declared.groups.Summary.{Summary}
use Rattle.batch_rules.specs.Earlier.{pointed_sightings, line_of}
use Rattle.batch_rules.specs.Groups.{AreApart}
use Rattle.batch_rules.specs.Points.{found_at, point_of}
use Rattle.batch_rules.specs.Numbers.{keys_after, ruling_by}
use Rattle.batch_rules.proofs.Apart.{passed_apart}
use Rattle.batch_rules.proofs.Firsts.{rulings_told, groups_told}
use Rattle.batch_rules.proofs.judging.judge.Goals as goal

pub summaries-requires : goal.summaries-requires
summaries-requires g c =
    let office = g.V.Known.office c.args.known.now in
    let passed_is : pointed_sightings c.in_ok-checked.passed.items ≡ passed_in (checked_lines office c.args.tables.now c.args.moment [] c.args.batch.now) =
    c.in_ok-checked.ensures.passed ∙ ap passed_in (c.in_ok-checked.ensures.lines ∙ ap (checked_lines office c.args.tables.now c.args.moment []) c.as_slice.ensures) in
    subst AreApart (sym passed_is) (passed_apart office c.args.tables.now c.args.moment c.args.batch.now)

pub rulings-requires-clause-points : goal.rulings-requires-clause-points
rulings-requires-clause-points g c =
    let keys = c.in_ok-summed.summed.keys in
    c.in_ok-summed.ensures.points ∙ ap (map (point_of keys)) c.in_ok-checked.ensures.passed
    ∙ ap (λ xs. map (point_of keys) (passed_in (map line_of xs))) (sym c.as_slice-2.ensures.value)

-- what was passed, and the summaries that were found, are those of the lines that were checked
pub returns-clause-rulings : goal.returns-clause-rulings
unfolding batch_rulings
returns-clause-rulings g c =
    let office = g.V.Known.office c.args.known.now in
    let found : GroupKey → Option Summary = found_at c.in_ok-summed.summed in
    let checked = map line_of c.in_ok-checked.checked.items in
    IfOk-weaker c.rulings.result _ _ (λ judged is.
    is ∙ ap (λ (lines : List Line). map (ruling_by found (keys_after found [] lines)) lines) (ap (map line_of) c.as_slice-2.ensures.value)
    ∙ rulings_told found checked (λ s. c.in_ok-summed.ensures.told s ∙ ap (λ (xs : List Sighting). group_fault xs s) c.in_ok-checked.ensures.passed)
    ∙ ap rulings_among (c.in_ok-checked.ensures.lines ∙ ap (checked_lines office c.args.tables.now c.args.moment []) c.as_slice.ensures)) c.rulings.ensures.list

pub returns-clause-groups : goal.returns-clause-groups
returns-clause-groups g c =
    let office = g.V.Known.office c.args.known.now in
    let found : GroupKey → Option Summary = found_at c.in_ok-summed.summed in
    let checked = map line_of c.in_ok-checked.checked.items in
    IfOk-weaker c.rulings.result _ _ (λ judged is.
    is ∙ ap (λ (lines : List Line). length (keys_after found [] lines)) (ap (map line_of) c.as_slice-2.ensures.value)
    ∙ groups_told found checked (λ s. c.in_ok-summed.ensures.told s ∙ ap (λ (xs : List Sighting). group_fault xs s) c.in_ok-checked.ensures.passed)
    ∙ ap (λ (lines : List Line). length (firsts_of (passed_in lines))) (c.in_ok-checked.ensures.lines ∙ ap (checked_lines office c.args.tables.now c.args.moment []) c.as_slice.ensures)) c.rulings.ensures.groups
