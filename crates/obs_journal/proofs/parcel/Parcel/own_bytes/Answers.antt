use Rattle.std.proofs.Common.{◌≡◌, ◌-◌, length, take, ◌∙◌, ap, subst}
use Rattle.obs_journal.specs.Parcels.{RawParcel, IsParcel, parcel_bytes}
use Rattle.obs_journal.proofs.Bytes.{length-parcel_bytes, without_gate}
use Rattle.obs_journal.proofs.parcel.Parcel.own_bytes.Goals as goal

pub returns : goal.returns
returns c =
    let are : c.without.result.now ≡ parcel_bytes c.args.self.now = c.without.ensures ∙ ap (λ l. take (length l - 33) l) c.deref.ensures.value ∙ without_gate _ _ c.self.invariant.bytes_are ∙ ap (λ (p : RawParcel). parcel_bytes p) c.self.view_is in
    record { bytes = are; length = ap length are ∙ length-parcel_bytes c.args.self.now; fits = subst (λ (p : RawParcel). IsParcel p) c.self.view_is c.self.invariant.fits }
