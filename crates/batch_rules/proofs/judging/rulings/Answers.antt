use Rattle.std.proofs.Common.{◌≡◌, ℕ, ◌+◌, List, [], ◌∷◌, ◌++◌, map, take, drop, ap, sym, subst, ◌∙◌, append_assoc, arith}
use Rattle.std.proofs.lemmas.List.{drop_more, map-append, take-append-drop, take_more}
use Rattle.obs_record.specs.declared.line.Line.{Line}
use Rattle.act_model.specs.declared.ruling.Ruling.{Ruling}
use Rattle.act_model.specs.BatchRules.{passed_in}
use Rattle.batch_rules.specs.declared.checking.Checked.{Checked}
use Rattle.batch_rules.specs.declared.keys.GroupKey.{GroupKey}
use Rattle.batch_rules.specs.Earlier.{line_of}
use Rattle.batch_rules.specs.Points.{found_at, point_of}
use Rattle.batch_rules.specs.Numbers.{keys_after, ruling_by}
use Rattle.batch_rules.specs.Numbered.{IsNumbered}
use Rattle.batch_rules.proofs.NumberedLemmas.{keys_append, is_next}
use Rattle.batch_rules.proofs.judging.rulings.Goals as goal

pub ruling-requires-clause-next : goal.ruling-requires-clause-next
ruling-requires-clause-next c =
    let groups = c.args.groups.now in
    let checked = c.args.checked.now in
    let place = c.loop-line.line-index in
    let line = line_of c.line-item.result in
    let rest = map line_of (drop (place + 1) checked) in
    let split : map line_of (drop place checked) ≡ line ∷ rest =
    ap (map line_of) (drop_more checked place c.line-item.result (omega arith)) ∙ ap (λ (y : Checked). line_of y ∷ rest) (sym c.line-item.is) in
    (is_next groups c.loop-line.next line rest c.requires.within (c.loop-line.invariant.points ∙ ap (λ (lines : List Line). map (point_of groups.keys) (passed_in lines)) split)).0

pub loop-line-preserved : goal.loop-line-preserved
loop-line-preserved c =
    let groups = c.args.groups.now in
    let found = found_at groups in
    let checked = c.args.checked.now in
    let place = c.loop-line.line-index in
    let all = keys_after found [] (map line_of checked) in
    let line = line_of c.line-item.result in
    let list = c.loop-line.list in
    let so_far = map line_of (take place checked) in
    let rest = map line_of (drop (place + 1) checked) in
    let split : map line_of (drop place checked) ≡ line ∷ rest =
    ap (map line_of) (drop_more checked place c.line-item.result (omega arith)) ∙ ap (λ (y : Checked). line_of y ∷ rest) (sym c.line-item.is) in
    let more : map line_of (take (place + 1) checked) ≡ so_far ++ line ∷ [] =
    ap (map line_of) (take_more checked place c.line-item.result (omega arith) ∙ ap (λ (y : Checked). take place checked ++ y ∷ []) (sym c.line-item.is))
    ∙ map-append line_of (take place checked) (c.line-item.result ∷ []) in
    let all_are : keys_after found (keys_after found [] so_far) (line ∷ rest) ≡ all =
    sym (keys_append found [] so_far (line ∷ rest)) ∙ ap (λ (lines : List Line). keys_after found [] (so_far ++ lines)) (sym split)
    ∙ ap (keys_after found []) (sym (map-append line_of (take place checked) (drop place checked)) ∙ ap (map line_of) (take-append-drop place checked)) in
    let told : c.in_ok-ruling.field-0 ≡ ruling_by found all line =
    c.in_ok-ruling.ensures.ruling (keys_after found [] so_far) c.loop-line.invariant.numbered rest ∙ ap (λ (keys : List GroupKey). ruling_by found keys line) all_are in record {
      numbered =
          subst (λ (keys : List GroupKey). IsNumbered groups.keys keys c.ruling.new.numbering) (sym (ap (keys_after found []) more ∙ keys_append found [] so_far (line ∷ [])))
          (c.in_ok-ruling.ensures.numbered (keys_after found [] so_far) c.loop-line.invariant.numbered);
      points =
          ap (λ (n : ℕ). drop n groups.points) c.in_ok-ruling.ensures.next
          ∙ (is_next groups c.loop-line.next line rest c.requires.within (c.loop-line.invariant.points ∙ ap (λ (lines : List Line). map (point_of groups.keys) (passed_in lines)) split)).1;
      list =
          ap (λ (xs : List Ruling). xs ++ map (ruling_by found all) rest) c.in_ok-push.ensures.ok
          ∙ append_assoc list (c.in_ok-ruling.field-0 ∷ []) (map (ruling_by found all) rest)
          ∙ ap (λ (r : Ruling). list ++ r ∷ map (ruling_by found all) rest) told
          ∙ ap (λ (lines : List Line). list ++ map (ruling_by found all) lines) (sym split)
          ∙ c.loop-line.invariant.list;
    }
