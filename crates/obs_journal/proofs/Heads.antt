-- The head of a parcel, read and spelled.
use Rattle.std.proofs.Common.{◌≡◌, ℕ, ℤ, ◌+◌, ◌-◌, ◌^◌, ◌<◌, ◌≤◌, List, [], ◌∷◌, ◌++◌, length, get_or, take, refl, sym, ◌∙◌, ap, arith, length-append}
use Rattle.std.proofs.lemmas.Int.{of_z-to_z, to_z-of_z}
use Rattle.std.specs.Int.RustNames.{FitsSigned}
use Rattle.std.specs.Int.{w32, w64, to_be_bytes, from_be_bytes, cast_unsigned, cast_signed}
use Rattle.obs_journal.specs.Parcels.{RawParcel, IsParcel, counted, parcel_bytes}
use Rattle.std.proofs.lemmas.Nat.{from_be_bytes-to_be_bytes_4}
use Rattle.std.proofs.lemmas.List.{take-take}
use Rattle.obs_journal.specs.Fronts.{head_spelled, HasRoom}
use Rattle.obs_journal.specs.Formats.{seal, seal_length}
use Rattle.obs_journal.specs.Files.{NoParcelIn}
use Rattle.obs_journal.specs.declared.format.Format.{Format}
use Rattle.obs_journal.proofs.Bytes.{says_length}
use Rattle.obs_journal.proofs.Seals.{too_few}
use Rattle.obs_journal.specs.declared.gates.Head.{Head}

one_left : (bytes : List ℕ) → length bytes ≡ 1 → bytes ≡ get_or bytes 0 0 ∷ []
one_left [] e = cc
one_left (b ∷ []) e = refl
one_left (b ∷ c ∷ bytes) e = absurd (omega (arith, e))

pub spelled_by : (bytes r1 r2 r3 r4 : List ℕ) (head : Head) (d : ℕ) → length bytes ≡ 25 → bytes ≡ to_be_bytes w32 head.counted ++ r1 → r1 ≡ to_be_bytes w32 head.caller ++ r2 → r2 ≡ to_be_bytes w64 head.number ++ r3
    → r3 ≡ to_be_bytes w64 d ++ r4 → cast_unsigned w64 head.moment ≡ d → head.verb ≡ get_or r4 0 0 → bytes ≡ head_spelled head
unfolding head_spelled
spelled_by bytes r1 r2 r3 r4 head d long e1 e2 e3 e4 moment verb =
    let whole : bytes ≡ to_be_bytes w32 head.counted ++ (to_be_bytes w32 head.caller ++ (to_be_bytes w64 head.number ++ (to_be_bytes w64 d ++ r4))) = e1 ∙ ap (λ l. to_be_bytes w32 head.counted ++ l) (e2 ∙ ap (λ l. to_be_bytes w32 head.caller ++ l) (e3 ∙ ap (λ l. to_be_bytes w64 head.number ++ l) e4)) in
    let one : length r4 ≡ 1 = omega (arith, long, ap length whole) in
    whole ∙ ap (λ l. to_be_bytes w32 head.counted ++ (to_be_bytes w32 head.caller ++ (to_be_bytes w64 head.number ++ (to_be_bytes w64 d ++ l)))) (one_left r4 one ∙ ap (λ v. v ∷ []) (sym verb))
    ∙ ap (λ n. to_be_bytes w32 head.counted ++ (to_be_bytes w32 head.caller ++ (to_be_bytes w64 head.number ++ (to_be_bytes w64 n ++ head.verb ∷ [])))) (sym moment)

-- a signed number as it is kept, once more as bits
pub kept_bits : (z : ℤ) (d : ℕ) → z ≡ cast_signed w64 d → d < 2 ^ 64 → FitsSigned w64 z → cast_unsigned w64 (cast_signed w64 (cast_unsigned w64 z)) ≡ d
kept_bits z d is fits fits_z = ap (λ y. cast_unsigned w64 y) (to_z-of_z w64 z fits_z ∙ is) ∙ of_z-to_z w64 d fits

-- a head that was read says the length that stands at the front of the file's bytes
pub says : (bytes behind : List ℕ) (head : Head) → length bytes ≡ 25 → head.counted < 2 ^ 32 → bytes ≡ head_spelled head → bytes ≡ take (length bytes) behind → from_be_bytes w32 (take 4 behind) ≡ head.counted
unfolding head_spelled
says bytes behind head long fits spelled front =
    let same : take 4 bytes ≡ take 4 behind = ap (λ l. take 4 l) (front ∙ ap (λ n. take n behind) long) ∙ take-take 4 25 behind (omega arith) in
    ap (λ l. from_be_bytes w32 l) (sym same ∙ ap (λ l. take 4 l) spelled) ∙ from_be_bytes-to_be_bytes_4 head.counted fits

-- a parcel that stands there has room
pub has_its_room : (f : Format) (last behind rest : List ℕ) (gate left count : ℕ) (p : RawParcel) → IsParcel p → behind ≡ parcel_bytes p ++ (seal f last (parcel_bytes p) ++ gate ∷ rest) → length behind + 1 ≡ left → from_be_bytes w32 (take 4 behind) ≡ count → HasRoom f count left
has_its_room f last behind rest gate left count p fits is long said =
    let count_is : count ≡ counted p = sym said ∙ says_length behind p (seal f last (parcel_bytes p) ++ gate ∷ rest) fits is in
    let enough = too_few f last behind p gate rest is in
    record { least = omega (arith, count_is); most = omega (arith, count_is, fits.body); inside = omega (arith, count_is, enough, long) }

length-head_spelled : (head : Head) → length (head_spelled head) ≡ 25
unfolding head_spelled
length-head_spelled head = omega arith

head_says : (head : Head) (behind : List ℕ) → head.counted < 2 ^ 32 → from_be_bytes w32 (take 4 (head_spelled head ++ behind)) ≡ head.counted
unfolding head_spelled
head_says head behind fits = from_be_bytes-to_be_bytes_4 head.counted fits

-- behind a head stand too few bytes for its parcel
pub no_room : (f : Format) (last behind : List ℕ) (head : Head) → 21 ≤ head.counted → head.counted < 2 ^ 32 → length behind ≤ head.counted - 21 + seal_length f → NoParcelIn f last (head_spelled head ++ behind)
no_room f last behind head least fits short = λ q gate rest fits_q is.
    let said : head.counted ≡ counted q = sym (head_says head behind fits) ∙ says_length (head_spelled head ++ behind) q (seal f last (parcel_bytes q) ++ gate ∷ rest) fits_q is in
    let enough = too_few f last (head_spelled head ++ behind) q gate rest is in
    absurd (omega (arith, said, enough, short, length-append (head_spelled head) behind, length-head_spelled head))
