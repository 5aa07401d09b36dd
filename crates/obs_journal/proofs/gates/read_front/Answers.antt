use Rattle.std.proofs.Common.{◌≡◌, ◌+◌, ◌-◌, ◌++◌, take, drop, arith, ◌∙◌, ap, subst}
use Rattle.std.specs.Prelude.{IfSome, Ok}
use Rattle.obs_journal.specs.Formats.{kept_seal}
use Rattle.obs_journal.specs.Fronts.{StandsBehind}
use Rattle.obs_journal.proofs.Recovery.{ok_at}
use Rattle.obs_journal.proofs.Fronts.{front_read, inside_of, gate_and_head, each_ok}
use Rattle.obs_journal.proofs.gates.read_front.Goals as goal

pub returns-clause-inside : goal.returns-clause-inside
returns-clause-inside g c =
    each_ok c.read_parcel.result _ (λ front is. inside_of c.args.format front c.in-Some.head.counted (c.args.end - c.args.gate) c.in-Some.ensures.inside (λ parcel digest e. c.read_parcel.ensures.long parcel digest (is ∙ ap Ok e)))

pub returns-clause-front : goal.returns-clause-front
returns-clause-front g c =
    let room = c.in-Some.ensures.inside in
    let full : c.min-count.result ≡ 26 = omega (arith, c.min-count.ensures, room.least, room.inside) in
    let said = c.in_ok-read_bytes.ensures.whole (ap Ok c.if-not-branch.false) in
    let long = c.in_ok-read_bytes.ensures.length (ap Ok c.if-not-branch.false) in
    let spelled = gate_and_head c.read_bytes.new.bytes.items c.deref.result.now c.index.result.now c.in-Some.head c.deref.ensures.value (omega (arith, long, full)) c.index.ensures c.if-index-ne-OPEN.false c.in-Some.ensures.head in
    let same = c.in_ok-read_bytes.ensures.unwritten.same in
    let head = c.in-Some.head in
    let last = kept_seal c.args.format c.args.last.now in
    let whole = subst (λ b. IfSome (g.D.Disk.reads c.args.disk.now) (λ file. c.read_bytes.new.bytes.items ≡ b ++ take c.min-count.result (drop c.args.gate file))) c.clear.ensures.items said in
    each_ok c.read_parcel.result _ (λ front is.
    let behind = ok_at c.read_parcel.result (λ r. IfSome (g.D.Disk.reads c.read_bytes.new.disk) (λ file. StandsBehind c.args.format last head (drop (c.args.gate + 26) file) r)) front c.read_parcel.ensures.behind is in
    front_read c.args.format last front (g.D.Disk.reads c.args.disk.now) c.read_bytes.new.bytes.items c.args.gate c.args.end c.min-count.result head full whole spelled
    (subst (λ r. IfSome r (λ file. StandsBehind c.args.format last head (drop (c.args.gate + 26) file) front)) same behind) (λ parcel digest e. c.read_parcel.ensures.fits parcel digest (is ∙ ap Ok e))
    (inside_of c.args.format front head.counted (c.args.end - c.args.gate) room (λ parcel digest e. c.read_parcel.ensures.long parcel digest (is ∙ ap Ok e))))
