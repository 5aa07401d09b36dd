-- The seals of the two formats, and what stands with one at the front of bytes.
use Rattle.std.proofs.Common.{◌≡◌, ◌≢◌, ℕ, ◌+◌, ◌≤◌, List, ◌∷◌, ◌++◌, length, refl, sym, ◌∙◌, ap, arith, length-append}
use Rattle.sha2.proofs.Facts256.{length-sha256}
use Rattle.obs_journal.specs.Parcels.{RawParcel, IsParcel, parcel_bytes}
use Rattle.obs_journal.specs.Formats.{seal, seal_length, room_in}
use Rattle.obs_journal.specs.declared.format.Format.{Format}
use Rattle.obs_journal.specs.declared.format.Format.TheVariants.{Plain, Chained}
use Rattle.obs_journal.specs.Files.{NoParcelIn}
use Rattle.obs_journal.proofs.Bytes.{length-parcel_bytes, cut, one_parcel}

pub length-seal : (f : Format) (last bytes : List ℕ) → length (seal f last bytes) ≡ seal_length f
length-seal Plain last bytes = refl
length-seal Chained last bytes = length-sha256 (last ++ bytes)

pub room_is : (f : Format) (p : RawParcel) → room_in f p ≡ 26 + length p.body + seal_length f
room_is Plain p = omega arith
room_is Chained p = omega arith

-- one parcel with its seal stands at the front of bytes
pub one_sealed : (f : Format) (last : List ℕ) (p q : RawParcel) (x y : List ℕ) → IsParcel p → IsParcel q → parcel_bytes p ++ (seal f last (parcel_bytes p) ++ x) ≡ parcel_bytes q ++ (seal f last (parcel_bytes q) ++ y) → (p ≡ q) × (x ≡ y)
one_sealed f last p q x y fp fq e =
    let first = one_parcel p q (seal f last (parcel_bytes p) ++ x) (seal f last (parcel_bytes q) ++ y) fp fq e in
    (first.0, (cut (seal_length f) (seal f last (parcel_bytes p)) (seal f last (parcel_bytes q)) x y (length-seal f last (parcel_bytes p)) (length-seal f last (parcel_bytes q)) first.1).1)

-- none where the bytes are too few
pub too_few : (f : Format) (last bytes : List ℕ) (p : RawParcel) (gate : ℕ) (rest : List ℕ) → bytes ≡ parcel_bytes p ++ (seal f last (parcel_bytes p) ++ gate ∷ rest) → 26 + length p.body + seal_length f ≤ length bytes
too_few f last bytes p gate rest e =
    let own = seal f last (parcel_bytes p) in
    omega (arith, ap length e, length-append (parcel_bytes p) (own ++ gate ∷ rest), length-append own (gate ∷ rest), length-parcel_bytes p, length-seal f last (parcel_bytes p))

-- none where another seal stands behind a parcel
pub wrong_seal : (f : Format) (last other rest bytes : List ℕ) (p : RawParcel) → IsParcel p → length other ≡ seal_length f → other ≢ seal f last (parcel_bytes p) → bytes ≡ parcel_bytes p ++ (other ++ rest) → NoParcelIn f last bytes
wrong_seal f last other rest bytes p fits long wrong is = λ q gate more fits_q is_q.
    let own = seal f last (parcel_bytes q) in
    let first = one_parcel p q (other ++ rest) (own ++ gate ∷ more) fits fits_q (sym is ∙ is_q) in
    let same = (cut (seal_length f) other own rest (gate ∷ more) long (length-seal f last (parcel_bytes q)) first.1).0 in
    wrong (same ∙ ap (λ (r : RawParcel). seal f last (parcel_bytes r)) (sym first.0))
