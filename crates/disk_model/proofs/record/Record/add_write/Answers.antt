use Rattle.std.proofs.Common.{rules, ◌≡◌, List, ◌∷◌, ◌∙◌, ap, arith}
use Rattle.disk_model.specs.Memory.{Deed, Wrote, RecordState, record_size}
use Rattle.disk_model.specs.Entries.{deeds_of}
use Rattle.disk_model.proofs.Records.{kept_write, deeds_write}
use Rattle.disk_model.proofs.record.Record.add_write.Goals as goal

pub invariant_of-self : goal.invariant_of-self
invariant_of-self c =
    let deeds : deeds_of c.self.inside.pool.items c.self.inside.entries.items ≡ c.args.self.now.deeds = ap (λ (r : RecordState). r.deeds) c.self.view_is in
    let capacity : c.self.inside.capacity ≡ c.args.self.now.capacity = ap (λ (r : RecordState). r.capacity) c.self.view_is in
    let size : record_size (deeds_of c.self.inside.pool.items c.self.inside.entries.items) ≡ record_size c.args.self.now.deeds = ap record_size deeds in (
      kept_write _ _ _ _ _ _ _ _ _ c.self.invariant.0 (search rules) (search rules) c.push_reserved.ensures.items (λ some. let within = c.requires.within some in omega (arith, within, capacity)) (omega (arith, c.requires.room, size, capacity)),
      search rules,
      search rules,
    )

pub returns : goal.returns
returns c =
    let deeds : deeds_of c.self.inside.pool.items c.self.inside.entries.items ≡ c.args.self.now.deeds = ap (λ (r : RecordState). r.deeds) c.self.view_is in
    let more : deeds_of c.extend_from_slice.new.self.items c.push_reserved.new.self.items ≡ Wrote c.args.at c.args.bytes.now c.args.done ∷ c.args.self.now.deeds =
    deeds_write _ _ _ _ _ c.self.inside.capacity _ _ _ c.self.invariant.0 (search rules) (search rules) c.push_reserved.ensures.items ∙ ap (λ (ds : List Deed). Wrote c.args.at c.args.bytes.now c.args.done ∷ ds) deeds in
    let capacity : c.self.inside.capacity ≡ c.args.self.now.capacity = ap (λ (r : RecordState). r.capacity) c.self.view_is in
    λ i. record { deeds = more i; capacity = capacity i }
