use Rattle.std.proofs.Common.{rules, ◌≡◌, ◌<◌, ◌^◌, length, arith}
use Rattle.obs_journal.proofs.Seals.{too_few}
use Rattle.obs_journal.proofs.Heads.{says, has_its_room}
use Rattle.obs_journal.proofs.gates.whole_head.Goals as goal

pub returns-then-left-le-GATE_AND_HEAD_BYTES-clause-none : goal.returns-then-left-le-GATE_AND_HEAD_BYTES-clause-none
returns-then-left-le-GATE_AND_HEAD_BYTES-clause-none c = λ _ last behind long front parcel gate rest fits is. absurd (omega (arith, too_few c.args.format last behind parcel gate rest is))

pub returns-else-has_room-clause-none : goal.returns-else-has_room-clause-none
returns-else-has_room-clause-none c = λ _ last behind long front parcel gate rest fits is.
    let long_bytes : length c.args.bytes.now ≡ 25 = omega arith in
    let small : c.head_of-head.result.counted < 2 ^ 32 = search rules in
    let said = says c.args.bytes.now behind c.head_of-head.result long_bytes small c.head_of-head.ensures front in
    let room = has_its_room c.args.format last behind rest gate c.args.left c.head_of-head.result.counted parcel fits is long said in
    cc (c.has_room.ensures.1 room, c.if-has_room.false)
