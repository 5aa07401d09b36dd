use Rattle.std.proofs.Common.{◌≡◌, ◌⊎◌, inl, inr, get_or, arith}
use Rattle.frame_grammar.specs.Reading.{IsOf}
use Rattle.frame_grammar.proofs.Tokens.{never_at, not_true}
use Rattle.frame_grammar.proofs.parts.token_at.Goals as goal
use Rattle.frame_grammar.proofs.parts.token_at.Goals.{then-i-most-via-then-i-most, then-i-most-via-else-i-most+then-not-is_of}

-- the field is full, or the byte is of another class; and it ends no text
pub returns-then-i-most : goal.returns-then-i-most
returns-then-i-most c =
    let last : (c.loop-i.i ≡ c.args.most) ⊎ (IsOf c.args.class (get_or c.args.bytes.now c.loop-i.i 0) → ⊥) =
    elim c.then-i-most.branch [
      | then-i-most-via-then-i-most w ↦ inl w.if-i-most.true
      | then-i-most-via-else-i-most+then-not-is_of w ↦ inr (λ is. not_true (w.if-not-is_of.ensures.1 is))
    ] in
    never_at c.args.class c.args.most c.args.stop c.requires.ends c.args.bytes.now c.loop-i.i c.loop-i-test.true c.loop-i.invariant.each last (λ e. grind arith)
