use Rattle.desk_http.proofs.Scans.{not_ended}
use Rattle.desk_http.proofs.Pieces.{scanned_all}
use Rattle.desk_http.proofs.Looks.{looked_on, parsed_now}
use Rattle.desk_http.proofs.head.next_front.Goals as goal

pub returns-then-not-is_due-clause-front : goal.returns-then-not-is_due-clause-front
returns-then-not-is_due-clause-front c =
    let scan = scanned_all c.args.bytes.now c.args.before.now.seen c.split_at.result.1.now c.args.before.now.scan c.scan_more.result c.requires.1.scan c.split_at.ensures.back c.scan_more.ensures in
    (not_ended c.args.bytes.now c.scan_more.result scan (c.is_due.ensures.unended c.if-not-is_due.true), c.is_due.ensures.short c.if-not-is_due.true)

pub returns-then-not-is_due-clause-looked : goal.returns-then-not-is_due-clause-looked
returns-then-not-is_due-clause-looked c = λ _.
    let scan = scanned_all c.args.bytes.now c.args.before.now.seen c.split_at.result.1.now c.args.before.now.scan c.scan_more.result c.requires.1.scan c.split_at.ensures.back c.scan_more.ensures in
    looked_on c.args.bytes.now c.split_at.result.1.now c.args.before.now c.scan_more.result c.requires.0 c.requires.1 c.split_at.ensures.back scan
    (c.is_due.ensures.half c.if-not-is_due.true) (c.is_due.ensures.lines c.if-not-is_due.true)

pub returns-clause-looked : goal.returns-clause-looked
returns-clause-looked c = λ part.
    let scan = scanned_all c.args.bytes.now c.args.before.now.seen c.split_at.result.1.now c.args.before.now.scan c.scan_more.result c.requires.1.scan c.split_at.ensures.back c.scan_more.ensures in
    parsed_now c.args.bytes.now c.scan_more.result scan (c.read_head.ensures.unsettled part)
