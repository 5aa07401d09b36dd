use Rattle.std.proofs.Common.{◌≡◌, ℕ, cond, List, [], ◌∷◌, Option, refl, ap, sym, subst, ◌∙◌}
use Rattle.std.specs.Prelude.{is_none}
use Rattle.indexmap.specs.IndexSet.{insert_key}
use Rattle.obs_record.specs.declared.rule.RuleCode.{RuleCode}
use Rattle.batch_rules.specs.declared.keys.GroupKey.{GroupKey}
use Rattle.batch_rules.specs.KeyTests.{same_key}
use Rattle.batch_rules.specs.Earlier.{reading_of, line_of}
use Rattle.batch_rules.specs.Groups.{group_key}
use Rattle.batch_rules.specs.Points.{found_at}
use Rattle.batch_rules.specs.Numbers.{keys_after, ruling_by}
use Rattle.batch_rules.specs.Numbered.{KeptNumbers, IsNumbered}
use Rattle.batch_rules.proofs.Firsts.{ruling, ruling_more, ruling_still}
use Rattle.batch_rules.proofs.NumberedLemmas.{keys_append, keys_one, keys_none}
use Rattle.batch_rules.proofs.judging.ruling.Goals as goal
use Rattle.batch_rules.proofs.judging.ruling.Goals.{in-Ok+in_ok-ruled-in-Ok, in-Err}

pub returns-clause-numbered : goal.returns-clause-numbered
returns-clause-numbered c firsts numbered =
    let keys = c.args.groups.now.keys in
    let found = found_at c.args.groups.now in
    let line = line_of c.args.line.now in
    elim c.match-line.branch [
      | in-Ok+in_ok-ruled-in-Ok w ↦ subst (λ (n : KeptNumbers). IsNumbered keys (keys_after found firsts (line ∷ [])) n) (sym w.numbering-is)
          (subst (λ (ks : List GroupKey). IsNumbered keys ks w.ruled.new.numbering) (sym (keys_one found firsts line w.in-Ok.s.now w.in_ok-ruled-in-Ok.ruled.0 (ap reading_of w.in-Ok.is) w.in_ok-ruled-in-Ok.ensures.fault))
          (w.in_ok-ruled-in-Ok.ensures.numbered firsts numbered))
      | in-Err w ↦ subst (λ (n : KeptNumbers). IsNumbered keys (keys_after found firsts (line ∷ [])) n) (sym w.numbering-is)
          (subst (λ (ks : List GroupKey). IsNumbered keys ks c.args.numbering.now) (sym (keys_none found firsts line w.in-Err.rule (ap reading_of w.in-Err.is))) numbered)
    ]

pub returns-clause-ruling : goal.returns-clause-ruling
returns-clause-ruling c firsts numbered later =
    let found = found_at c.args.groups.now in
    let line = line_of c.args.line.now in
    elim c.match-line.branch [
      | in-Ok+in_ok-ruled-in-Ok w ↦ (
          let told = w.in_ok-ruled-in-Ok.ruled in
          let ended = w.in_ok-ruled-in-Ok.ensures in
          let more = cond (is_none told.0) (insert_key same_key firsts (group_key w.in-Ok.s.now)) firsts in
          let one : keys_after found firsts (line ∷ []) ≡ more = keys_one found firsts line w.in-Ok.s.now told.0 (ap reading_of w.in-Ok.is) ended.fault in
          ap (λ (told : Option RuleCode × ℕ). ruling c.args.line.now.number told.0 told.1) w.fault-is
          ∙ ruling_more found firsts more line w.in-Ok.s.now later (told.0, told.1) (ap reading_of w.in-Ok.is) ended.fault refl (ended.number firsts numbered)
          ∙ ap (λ (ks : List GroupKey). ruling_by found ks line) (ap (λ (ks : List GroupKey). keys_after found ks later) (sym one) ∙ sym (keys_append found firsts (line ∷ []) later)))
      | in-Err w ↦ ap (λ (told : Option RuleCode × ℕ). ruling c.args.line.now.number told.0 told.1) w.fault-is ∙ ruling_still found _ line w.in-Err.rule (ap reading_of w.in-Err.is)
    ]
