use Rattle.std.proofs.Common.{◌≡◌, ℕ, ◌+◌, ◌-◌, ◌≤◌, Bool, List, ◌++◌, take, drop, map, ap, sym, ◌∙◌, arith, rules, append_assoc}
use Rattle.std.proofs.Math.Seq.{take-add}
use Rattle.std.proofs.lemmas.List.{map-append}
use Rattle.obs_record.specs.declared.line.Line.{Line}
use Rattle.tracklet_file.proofs.places.Places.have_live_marked.Goals as goal

-- the answers of a block come after those of the lines before it
joined : (f : Line → Bool) (old here new : List Bool) (lines : List Line) (from until : ℕ) → from ≤ until
    → here ≡ old ++ map f (take from lines) → new ≡ here ++ map f (take (until - from) (drop from lines)) → new ≡ old ++ map f (take until lines)
joined f old here new lines from until less before after =
    let reached : until ≡ from + (until - from) = omega (arith, less) in
    let parts = ap (λ (n : ℕ). take n lines) reached ∙ take-add from (until - from) lines in
    let own = map f (take from lines) in
    let more = map f (take (until - from) (drop from lines)) in
    let apart : (old ++ own) ++ more ≡ old ++ (own ++ more) = simp append_assoc in
    let answers = ap (map f) parts ∙ map-append f (take from lines) (take (until - from) (drop from lines)) in
    after ∙ ap (λ (bs : List Bool). bs ++ more) before ∙ apart ∙ ap (λ (bs : List Bool). old ++ bs) (sym answers)

pub loop-from-preserved : goal.loop-from-preserved
loop-from-preserved c = record {
  within = search rules;
  live = joined _ _ _ _ c.args.lines.now c.loop-from.from c.min-until.result (omega arith) c.loop-from.invariant.live c.have_live_block.ensures.live;
  capacity = search rules;
}
