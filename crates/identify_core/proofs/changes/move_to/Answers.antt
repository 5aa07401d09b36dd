use Rattle.std.proofs.Common.{◌+◌, ◌-◌, List, set, ap, ◌∙◌, arith}
use borrow.Rule.Slice.PartMut.{put_mid}
use Rattle.identify_core.specs.declared.link.Link.{Link}
use Rattle.identify_core.proofs.PlaceLemmas.{moved_on, moved_back}
use Rattle.identify_core.proofs.changes.move_to.Goals.{then-from-to, else-from-to}
use Rattle.identify_core.proofs.changes.move_to.Goals as goal

pub returns-clause-moved : goal.returns-clause-moved
returns-clause-moved c = elim c.if-from-to.branch [
  | then-from-to w ↦
      ap (λ (ls : List Link). set ls c.args.to c.args.link) (w.links-is ∙ ap (λ (ls : List Link). put_mid c.args.from (c.args.to + 1 - c.args.from) c.args.links.now ls) w.rotate_left.ensures.after)
      ∙ moved_on c.args.links.now c.args.from c.args.to (c.args.to + 1 - c.args.from) c.args.link (omega (arith, w.if-from-to.true)) (omega (arith, w.if-from-to.true)) c.requires.to
  | else-from-to w ↦
      ap (λ (ls : List Link). set ls c.args.to c.args.link) (w.links-is ∙ ap (λ (ls : List Link). put_mid c.args.to (c.args.from + 1 - c.args.to) c.args.links.now ls) w.rotate_right.ensures.after)
      ∙ moved_back c.args.links.now c.args.from c.args.to (c.args.from + 1 - c.args.to) c.args.link w.if-from-to.false (omega (arith, w.if-from-to.false)) c.requires.from
]
