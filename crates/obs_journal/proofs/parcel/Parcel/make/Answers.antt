use Rattle.std.proofs.Common.{◌≡◌, [], ◌∷◌, ◌++◌, sym, ◌∙◌, ap, subst}
use Rattle.std.specs.Prelude.{replicate}
use Rattle.std.proofs.lemmas.Int.{to_z-of_z}
use Rattle.std.specs.Int.{w64, cast_signed, cast_unsigned}
use Rattle.std.specs.Int.RustNames.{FitsSigned}
use Rattle.obs_journal.specs.Parcels.{RawParcel, IsParcel, parcel_bytes}
use Rattle.obs_journal.specs.Stored.{IsStored, body_of}
use Rattle.obs_journal.proofs.Bytes.{laid, body_of_bytes}
use Rattle.obs_journal.proofs.parcel.Parcel.make.Goals as goal

-- the parcel, with the moment as it is kept
abbrev kept : goal.In_ok-extend_from_slice-6 → RawParcel
kept c = record { caller = c.args.caller; number = c.args.number; moment = cast_signed w64 (cast_unsigned w64 c.args.moment); verb = c.args.verb; body = c.args.body.now }

laid_out : (c : goal.In_ok-extend_from_slice-6) → c.push-2.new.self.items ≡ parcel_bytes (kept c) ++ 0 ∷ []
laid_out c =
    let e1 : c.extend_from_slice.new.self.items ≡ c.in_ok-bytes.bytes.items ++ c.to_be_bytes.result = c.in_ok-extend_from_slice.ensures.items in
    let e2 : c.extend_from_slice-2.new.self.items ≡ c.extend_from_slice.new.self.items ++ c.to_be_bytes-2.result = c.in_ok-extend_from_slice-2.ensures.items in
    let e3 : c.extend_from_slice-3.new.self.items ≡ c.extend_from_slice-2.new.self.items ++ c.to_be_bytes-3.result = c.in_ok-extend_from_slice-3.ensures.items in
    let e4 : c.extend_from_slice-4.new.self.items ≡ c.extend_from_slice-3.new.self.items ++ c.to_be_bytes-4.result = c.in_ok-extend_from_slice-4.ensures.items in
    let e5 : c.push.new.self.items ≡ c.extend_from_slice-4.new.self.items ++ c.args.verb ∷ [] = c.in_ok-push.ensures.items in
    let e6 : c.extend_from_slice-5.new.self.items ≡ c.push.new.self.items ++ c.args.body.now = c.in_ok-extend_from_slice-5.ensures.items in
    laid (kept c) _ _ _ _ _ _ _
    (e1 ∙ ap (λ b. b ++ c.to_be_bytes.result) c.in_ok-bytes.ensures.items ∙ c.to_be_bytes.ensures)
    (e2 ∙ ap (λ b. c.extend_from_slice.new.self.items ++ b) c.to_be_bytes-2.ensures)
    (e3 ∙ ap (λ b. c.extend_from_slice-2.new.self.items ++ b) c.to_be_bytes-3.ensures)
    (e4 ∙ ap (λ b. c.extend_from_slice-3.new.self.items ++ b) c.to_be_bytes-4.ensures)
    e5 e6 c.in_ok-push-2.ensures.items

bytes_are : (c : goal.In_ok-extend_from_slice-6) → c.extend_from_slice-6.new.self.items ≡ (parcel_bytes (kept c) ++ 0 ∷ []) ++ replicate 32 0
bytes_are c =
    let e8 : c.extend_from_slice-6.new.self.items ≡ c.push-2.new.self.items ++ replicate 32 0 = c.in_ok-extend_from_slice-6.ensures.items in
    e8 ∙ ap (λ b. b ++ replicate 32 0) (laid_out c)

body_is : (c : goal.In_ok-extend_from_slice-6) → body_of c.extend_from_slice-6.new.self.items ≡ c.args.body.now
body_is c = body_of_bytes (kept c) _ (bytes_are c)

pub invariant_of-result : goal.invariant_of-result
invariant_of-result c =
    let same = to_z-of_z w64 c.args.moment c.ranges.moment in
    let fits : IsParcel (kept c) = record { caller = c.ranges.caller.fits; number = c.ranges.number.fits; moment = subst (λ m. FitsSigned w64 m) (sym same) c.ranges.moment; body = c.requires } in
    let now : IsStored (kept c) c.extend_from_slice-6.new.self.items = record { fits = fits; bytes_are = bytes_are c } in
    subst (λ b. IsStored (record (kept c) { body = b }) c.extend_from_slice-6.new.self.items) (sym (body_is c)) now

pub returns : goal.returns
returns c =
    let same = to_z-of_z w64 c.args.moment c.ranges.moment in
    λ i. record { caller = c.args.caller; number = c.args.number; moment = same i; verb = c.args.verb; body = body_is c i }
