use Rattle.std.proofs.Common.{◌≡◌, ◌+◌, ◌-◌, ◌∷◌, ◌++◌, [], length, drop, arith, ap, subst}
use Rattle.std.specs.Prelude.{IfSome}
use Rattle.obs_journal.specs.Formats.{room_in, kept_seal}
use Rattle.obs_journal.specs.Fronts.{StandsAtFront, IsInside, IsSealed}
use Rattle.obs_journal.proofs.Quiet.{unwritten_joined}
use Rattle.obs_journal.proofs.Places.{sealed_more, told_more, place_more, places_more}
use Rattle.obs_journal.proofs.opening.read_row.Goals as goal

pub gates-preserved : goal.gates-preserved
gates-preserved g c =
    let h = c.gates.invariant in
    let f = c.args.format in
    let parcel = c.in-Open.parcel in
    let last = kept_seal f c.gates.last in
    let next : c.gates.gate + c.room.result ≡ c.gates.gate + room_in f parcel = ap (λ n. c.gates.gate + n) c.room.ensures in
    let new : c.push.new.self ≡ c.gates.parcels ++ record { offset = c.gates.gate; parcel = parcel } ∷ [] = c.in_ok-push-in-Open.ensures.ok in
    let inside = subst (λ r. IsInside f r (c.args.end - c.gates.gate)) c.in-Open.is c.in_ok-read_front.ensures.inside in
    let own = subst (λ r. IsSealed f last r) c.in-Open.is c.in_ok-read_front.ensures.sealed in
    record {
      inside = omega (arith, next, inside);
      place = place_more f c.gates.parcels c.push.new.self parcel c.gates.gate _ next new h.place;
      offsets = places_more f c.gates.parcels c.push.new.self parcel c.gates.gate new h.place h.offsets;
      sealed = sealed_more f last (kept_seal f c.in-Open.digest) c.gates.parcels c.push.new.self parcel c.gates.gate new h.sealed own;
      told = told_more f (g.D.Disk.reads c.args.disk.now) last c.in-Open.digest c.gates.parcels c.push.new.self c.in_ok-read_front.field-0 parcel c.gates.gate _ c.args.end c.in-Open.is next new h.sealed h.told
          (subst (λ r. IfSome r (λ file. length file ≡ c.args.end → StandsAtFront f last (drop c.gates.gate file) c.in_ok-read_front.field-0)) h.unwritten.same c.in_ok-read_front.ensures.front);
      unwritten = unwritten_joined h.unwritten c.read_front.ensures.unwritten;
      counts = omega (arith, h.counts, c.read_front.ensures.counts);
    }
