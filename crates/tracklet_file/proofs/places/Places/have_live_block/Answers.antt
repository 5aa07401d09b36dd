use Rattle.std.proofs.Common.{◌≡◌, ℕ, ◌+◌, ◌<◌, Bool, List, [], ◌∷◌, ◌++◌, length, get_or, take, map, rules, ap, sym, ◌∙◌, arith, append_assoc}
use Rattle.std.proofs.lemmas.List.{get_or_default, map_more}
use Rattle.obs_record.specs.declared.line.Line.{Line}
use Rattle.tracklet_file.specs.Observations.{has_live, is_live_line}
use Rattle.tracklet_file.specs.Places.{has_mark}
use Rattle.tracklet_file.proofs.IndexLemmas.{mark_asked_at, unmarked}
use Rattle.tracklet_file.proofs.places.Places.have_live_block.Goals as goal
use Rattle.tracklet_file.proofs.places.Places.have_live_block.Goals.{then-has_mark, else-has_mark}

-- one answer more
answered : (f : Line → Bool) (b : Bool) (old here new : List Bool) (block : List Line) (place : ℕ) → place < length block → ((d : Line) → b ≡ f (get_or block place d))
    → here ≡ old ++ map f (take place block) → new ≡ here ++ b ∷ [] → new ≡ old ++ map f (take (place + 1) block)
answered f b old here new [] place within told before after = absurd (omega (arith, within))
answered f b old here new (line ∷ later) place within told before after =
    let block = line ∷ later in
    let apart : (old ++ map f (take place block)) ++ b ∷ [] ≡ old ++ (map f (take place block) ++ b ∷ []) = simp append_assoc in
    let answers = ap (λ (b : Bool). map f (take place block) ++ b ∷ []) (told line) ∙ sym (map_more f block place line within) in
    after ∙ ap (λ (bs : List Bool). bs ++ b ∷ []) before ∙ apart ∙ ap (λ (bs : List Bool). old ++ bs) answers

pub loop-place-preserved : goal.loop-place-preserved
loop-place-preserved c =
    let block = c.args.block.now in
    let place : ℕ = c.loop-place.place in
    let within = c.loop-place-test.true in
    let f : Line → Bool = is_live_line (has_live c.args.filed.now) in
    let told : (d : Line) → c.if-has_mark.push_reserved ≡ f (get_or block place d) = λ d. elim c.if-has_mark.branch [
      | then-has_mark w ↦ w.push_reserved-is ∙ w.is_live_line.ensures ∙ ap f (w.index-block-place.is ∙ get_or_default block place _ d within)
      | else-has_mark w ↦ (
          let own = mark_asked_at c.args.self.now.latest block c.marks_asked-marks.result place d c.marks_asked-marks.ensures.marks within in
          w.push_reserved-is ∙ w.if-has_mark.false
          ∙ sym (unmarked c.args.filed.now _ c.requires.filed c.requires.none_waits (get_or block place d)
          (ap (has_mark c.args.self.now.marks) (sym own) ∙ sym c.has_mark.ensures ∙ w.if-has_mark.false)))
    ] in
    record {
      live = answered f c.if-has_mark.push_reserved _ _ _ block place within told c.loop-place.invariant.live c.push_reserved.ensures.items;
      capacity = search rules;
    }
