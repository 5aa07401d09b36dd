use Rattle.std.proofs.Common.{◌≡◌, ◌-◌, ℕ, List, [], ◌∷◌, ◌++◌, length, take, ◌∙◌, ap, subst, arith, length-append}
use Rattle.obs_journal.specs.Parcels.{RawParcel, IsParcel, parcel_bytes, room}
use Rattle.obs_journal.proofs.Bytes.{length-parcel_bytes, with_gate}
use Rattle.obs_journal.proofs.parcel.Parcel.bytes.Goals as goal

long : (p : RawParcel) (bytes : List ℕ) → bytes ≡ parcel_bytes p ++ 0 ∷ [] → length bytes ≡ room p
long p bytes e = omega (arith, ap length e, length-append (parcel_bytes p) (0 ∷ []), length-parcel_bytes p)

pub returns : goal.returns
returns c =
    let are : c.without.result.now ≡ parcel_bytes c.args.self.now ++ 0 ∷ [] = c.without.ensures ∙ ap (λ l. take (length l - 32) l) c.deref.ensures.value ∙ with_gate _ _ c.self.invariant.bytes_are ∙ ap (λ (p : RawParcel). parcel_bytes p ++ 0 ∷ []) c.self.view_is in
    record { bytes = are; length = long _ _ are; fits = subst (λ (p : RawParcel). IsParcel p) c.self.view_is c.self.invariant.fits }
