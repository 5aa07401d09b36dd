use Rattle.std.proofs.Common.{◌∙◌, sym, refl, arith}
use Rattle.frame_grammar.specs.Reading.{parts_of}
use Rattle.frame_grammar.proofs.Heads.{one_head, head_few, head_size, head_rest, head_at_front, front_short}
use Rattle.frame_grammar.proofs.Streams.{not_never, begins_not_never, no_head_never}
use Rattle.frame_grammar.proofs.head.read_head.Goals as goal

pub returns-in-Ok-clause-whole : goal.returns-in-Ok-clause-whole
returns-in-Ok-clause-whole c =
    head_at_front c.args.bytes.now (parts_of c.in-Ok.head) c.in-Ok.field-0-1.now c.in-Ok.head.size c.in-Ok.ensures.reads.0 c.in-Ok.ensures.reads.1 c.in-Ok.ensures.size

pub returns-in-Ok-clause-only : goal.returns-in-Ok-clause-only
returns-in-Ok-clause-only c = λ h rest good is.
    let same = one_head (parts_of c.in-Ok.head) h c.in-Ok.field-0-1.now rest c.in-Ok.ensures.reads.0 good (sym c.in-Ok.ensures.reads.1 ∙ is) in
    (same.0, head_rest c.args.bytes.now (parts_of c.in-Ok.head) c.in-Ok.field-0-1.now c.in-Ok.head.size c.in-Ok.ensures.reads.1 c.in-Ok.ensures.size ∙ same.1)

pub returns-in-Ok-clause-part : goal.returns-in-Ok-clause-part
returns-in-Ok-clause-part c =
    (λ e. absurd cc, λ begins. absurd (begins.0 (parts_of c.in-Ok.head) c.in-Ok.field-0-1.now c.in-Ok.ensures.reads.0 c.in-Ok.ensures.reads.1))

pub returns-in-Ok-clause-bad : goal.returns-in-Ok-clause-bad
returns-in-Ok-clause-bad c =
    (λ e. absurd cc, λ never. absurd (not_never c.args.bytes.now (parts_of c.in-Ok.head) c.in-Ok.field-0-1.now c.in-Ok.ensures.reads.0 c.in-Ok.ensures.reads.1 never))

pub returns-in-Ok-clause-size : goal.returns-in-Ok-clause-size
returns-in-Ok-clause-size c =
    omega (
      arith,
      head_few (parts_of c.in-Ok.head) c.in-Ok.ensures.reads.0,
      head_size c.args.bytes.now (parts_of c.in-Ok.head) c.in-Ok.field-0-1.now c.in-Ok.head.size c.in-Ok.ensures.reads.1 c.in-Ok.ensures.size,
    )

pub returns-in-Err-Part-clause-bad : goal.returns-in-Err-Part-clause-bad
returns-in-Err-Part-clause-bad c =
    let reads = rw c.in-Err-Part.field-0-is at c.in-Err-Part.ensures.reads in
    (λ e. absurd cc, λ never. absurd (begins_not_never c.args.bytes.now reads.1 never))

pub returns-in-Err-Part-clause-short : goal.returns-in-Err-Part-clause-short
returns-in-Err-Part-clause-short c =
    let reads = rw c.in-Err-Part.field-0-is at c.in-Err-Part.ensures.reads in
    λ e. front_short c.args.bytes.now reads.0 reads.1

pub returns-in-Err-Bad-clause-bad : goal.returns-in-Err-Bad-clause-bad
returns-in-Err-Bad-clause-bad c =
    let reads = rw c.in-Err-Bad.field-0-is at c.in-Err-Bad.ensures.reads in
    (λ e. no_head_never c.args.bytes.now reads, λ never. refl)
