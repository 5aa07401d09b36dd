use Rattle.std.proofs.Common.{◌+◌, ◌∷◌, ◌++◌, length, subst, arith}
use Rattle.obs_journal.specs.Moves.{Adds}
use Rattle.obs_journal.proofs.Moves.{adds_joined, stays_joined}
use Rattle.obs_journal.proofs.second.write_parcel.Goals as goal

pub returns-clause-adds : goal.returns-clause-adds
returns-clause-adds g c =
    let bytes = c.own_bytes-bytes.result.now in
    let digest = c.chain_digest-digest.result in
    let two = adds_joined (c.args.gate + 1) bytes (omega arith) c.in_ok-add.ensures.adds c.in_ok-add-2.ensures.adds in
    let all : Adds g.D.Disk.reads g.D.Disk.leaves c.args.gate (1 ∷ (bytes ++ digest)) c.args.second.now c.add-3.new.second = adds_joined (c.args.gate + 1 + length bytes) digest (omega arith) two c.in_ok-add-3.ensures.adds in
    subst (λ b. Adds g.D.Disk.reads g.D.Disk.leaves c.args.gate (1 ∷ (b ++ digest)) c.args.second.now c.add-3.new.second) c.own_bytes-bytes.ensures.bytes all

pub returns-in_err-add-2-clause-shut : goal.returns-in_err-add-2-clause-shut
returns-in_err-add-2-clause-shut g c = stays_joined c.in_ok-add.ensures.adds c.add.ensures.shut c.add-2.ensures.shut

pub returns-in_err-add-3-clause-shut : goal.returns-in_err-add-3-clause-shut
returns-in_err-add-3-clause-shut g c = stays_joined c.in_ok-add.ensures.adds c.add.ensures.shut (stays_joined c.in_ok-add-2.ensures.adds c.add-2.ensures.shut c.add-3.ensures.shut)

pub returns-clause-shut : goal.returns-clause-shut
returns-clause-shut g c = stays_joined c.in_ok-add.ensures.adds c.add.ensures.shut (stays_joined c.in_ok-add-2.ensures.adds c.add-2.ensures.shut c.add-3.ensures.shut)
