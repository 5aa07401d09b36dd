use Rattle.std.proofs.Common.{◌<◌, ◌+◌, ◌∷◌, List, Result, drop, length, sym, subst, ap, ◌∙◌}
use Rattle.std.specs.Prelude.{slice_index_or}
use Rattle.std.proofs.lemmas.List.{drop_more}
use Rattle.obs_record.specs.declared.line.Line.{Line}
use Rattle.obs_record.specs.declared.rule.RuleCode.{RuleCode}
use Rattle.act_model.specs.declared.taken.Placing.{Placing}
use Rattle.act_model.specs.declared.taken.Taken.{Taken}
use Rattle.act_model.specs.Taken.{taken_by}
use Rattle.act_model.proofs.TakenWith.{is_within, stands_at, line_of, found_of}
use Rattle.act_model.proofs.taken.TakenLines.at.Goals as goal

pub taken_at-requires-clause-lines : goal.taken_at-requires-clause-lines
taken_at-requires-clause-lines c =
    let within = is_within c.self.inside.lines c.self.inside.found c.args.place (subst (λ (all : List Taken). c.args.place < length all) (sym c.self.view_is) c.requires) in
    subst (λ (lines : List Line). c.args.place < length lines) (sym c.as_slice.ensures) within.0

pub taken_at-requires-clause-found : goal.taken_at-requires-clause-found
taken_at-requires-clause-found c =
    let within = is_within c.self.inside.lines c.self.inside.found c.args.place (subst (λ (all : List Taken). c.args.place < length all) (sym c.self.view_is) c.requires) in
    subst (λ (found : List (Result Placing RuleCode)). c.args.place < length found) (sym c.as_slice-2.ensures) within.1

pub returns-clause-line : goal.returns-clause-line
returns-clause-line c d =
    let within = is_within c.self.inside.lines c.self.inside.found c.args.place (subst (λ (all : List Taken). c.args.place < length all) (sym c.self.view_is) c.requires) in
    c.taken_at.ensures (line_of d) (found_of d)
    ∙ ap (λ (lines : List Line). taken_by (slice_index_or lines c.args.place (line_of d)) (slice_index_or c.as_slice-2.result.now c.args.place (found_of d))) c.as_slice.ensures
    ∙ ap (λ (found : List (Result Placing RuleCode)). taken_by (slice_index_or c.self.inside.lines c.args.place (line_of d)) (slice_index_or found c.args.place (found_of d))) c.as_slice-2.ensures
    ∙ sym (stands_at c.self.inside.lines c.self.inside.found c.args.place (line_of d) (found_of d) d within.0 within.1)
    ∙ ap (λ (all : List Taken). slice_index_or all c.args.place d) c.self.view_is

pub returns-clause-left : goal.returns-clause-left
returns-clause-left c =
    drop_more c.args.self.now c.args.place c.taken_at.result c.requires
    ∙ ap (λ (taken : Taken). taken ∷ drop (c.args.place + 1) c.args.self.now) (sym (returns-clause-line c c.taken_at.result))
