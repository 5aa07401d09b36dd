-- The bytes of a parcel are its own.
use Rattle.std.proofs.Common.{◌≡◌, ℕ, ℤ, ◌+◌, ◌-◌, ◌^◌, ◌<◌, List, [], ◌∷◌, ◌++◌, length, take, drop, refl, sym, ◌∙◌, ap, arith, append_assoc, length-append}
use Rattle.std.specs.Prelude.{replicate}
use Rattle.std.proofs.lemmas.List.{take_at, drop_at}
use Rattle.std.proofs.lemmas.Nat.{from_be_bytes-to_be_bytes_4, from_be_bytes-to_be_bytes_8}
use Rattle.std.proofs.lemmas.Int.{to_z-of_z}
use Rattle.std.specs.Int.{w32, w64, to_be_bytes, from_be_bytes, cast_unsigned, cast_signed}
use Rattle.std.specs.Int.RustNames.{FitsSigned}
use Rattle.std.proofs.Math.Facts.{Fits-of_z}
use Rattle.obs_journal.specs.Parcels.{RawParcel, IsParcel, counted, head_bytes, parcel_bytes}
use Rattle.obs_journal.specs.Stored.{body_of}

pub length-parcel_bytes : (p : RawParcel) → length (parcel_bytes p) ≡ 25 + length p.body
unfolding parcel_bytes
length-parcel_bytes p = omega arith

-- the head, the body, and what follows
pub parcel_parts : (p : RawParcel) (rest : List ℕ) → parcel_bytes p ++ rest ≡ head_bytes p ++ (p.body ++ rest)
unfolding parcel_bytes
parcel_parts p rest = refl

-- the parts one after another
pub laid : (p : RawParcel) (b1 b2 b3 b4 b5 b6 b7 : List ℕ) → b1 ≡ to_be_bytes w32 (counted p) → b2 ≡ b1 ++ to_be_bytes w32 p.caller → b3 ≡ b2 ++ to_be_bytes w64 p.number
    → b4 ≡ b3 ++ to_be_bytes w64 (cast_unsigned w64 p.moment) → b5 ≡ b4 ++ p.verb ∷ [] → b6 ≡ b5 ++ p.body → b7 ≡ b6 ++ 0 ∷ [] → b7 ≡ parcel_bytes p ++ 0 ∷ []
unfolding parcel_bytes
laid p b1 b2 b3 b4 b5 b6 b7 e1 e2 e3 e4 e5 e6 e7 =
    e7 ∙ ap (λ b. b ++ 0 ∷ []) (e6 ∙ ap (λ b. b ++ p.body) (e5 ∙ ap (λ b. b ++ p.verb ∷ []) (e4 ∙ ap (λ b. b ++ to_be_bytes w64 (cast_unsigned w64 p.moment)) (e3 ∙ ap (λ b. b ++ to_be_bytes w64 p.number) (e2 ∙ ap (λ b. b ++ to_be_bytes w32 p.caller) e1)))))

-- the bytes of a parcel, as they lie in memory, and what lies behind them
kept_parts : (p : RawParcel) (bytes : List ℕ) → bytes ≡ (parcel_bytes p ++ 0 ∷ []) ++ replicate 32 0 → bytes ≡ parcel_bytes p ++ replicate 33 0
kept_parts p bytes e = e ∙ append_assoc (parcel_bytes p) (0 ∷ []) (replicate 32 0)

pub length-kept : (p : RawParcel) (bytes : List ℕ) → bytes ≡ (parcel_bytes p ++ 0 ∷ []) ++ replicate 32 0 → length bytes ≡ 58 + length p.body
length-kept p bytes e = omega (arith, ap length (kept_parts p bytes e), length-append (parcel_bytes p) (replicate 33 0), length-parcel_bytes p)

-- the body among them
pub body_of_bytes : (p : RawParcel) (bytes : List ℕ) → bytes ≡ (parcel_bytes p ++ 0 ∷ []) ++ replicate 32 0 → body_of bytes ≡ p.body
body_of_bytes p bytes e =
    let behind : drop 25 bytes ≡ p.body ++ replicate 33 0 = ap (λ b. drop 25 b) (kept_parts p bytes e ∙ parcel_parts p (replicate 33 0)) in
    let long : length (drop 25 bytes) - 33 ≡ length p.body = omega (arith, ap length behind, length-append p.body (replicate 33 0)) in
    ap (λ n. take n (drop 25 bytes)) long ∙ ap (λ b. take (length p.body) b) behind ∙ take_at p.body (replicate 33 0) (length p.body) refl

-- with the closed gate, and without it
pub with_gate : (p : RawParcel) (bytes : List ℕ) → bytes ≡ (parcel_bytes p ++ 0 ∷ []) ++ replicate 32 0 → take (length bytes - 32) bytes ≡ parcel_bytes p ++ 0 ∷ []
with_gate p bytes e =
    let long : length bytes - 32 ≡ length (parcel_bytes p ++ 0 ∷ []) = omega (arith, length-kept p bytes e, length-append (parcel_bytes p) (0 ∷ []), length-parcel_bytes p) in
    ap (λ n. take n bytes) long ∙ ap (λ b. take (length (parcel_bytes p ++ 0 ∷ [])) b) e ∙ take_at (parcel_bytes p ++ 0 ∷ []) (replicate 32 0) (length (parcel_bytes p ++ 0 ∷ [])) refl

pub without_gate : (p : RawParcel) (bytes : List ℕ) → bytes ≡ (parcel_bytes p ++ 0 ∷ []) ++ replicate 32 0 → take (length bytes - 33) bytes ≡ parcel_bytes p
without_gate p bytes e =
    let long : length bytes - 33 ≡ length (parcel_bytes p) = omega (arith, length-kept p bytes e, length-parcel_bytes p) in
    ap (λ n. take n bytes) long ∙ ap (λ b. take (length (parcel_bytes p)) b) (kept_parts p bytes e) ∙ take_at (parcel_bytes p) (replicate 33 0) (length (parcel_bytes p)) refl

-- a number in four bytes, and in eight
four : (m n : ℕ) (x y : List ℕ) → m < 2 ^ 32 → n < 2 ^ 32 → to_be_bytes w32 m ++ x ≡ to_be_bytes w32 n ++ y → (m ≡ n) × (x ≡ y)
four m n x y fits_m fits_n e =
    (sym (from_be_bytes-to_be_bytes_4 m fits_m) ∙ ap (λ b. from_be_bytes w32 (take 4 b)) e ∙ from_be_bytes-to_be_bytes_4 n fits_n, ap (λ b. drop 4 b) e)

eight : (m n : ℕ) (x y : List ℕ) → m < 2 ^ 64 → n < 2 ^ 64 → to_be_bytes w64 m ++ x ≡ to_be_bytes w64 n ++ y → (m ≡ n) × (x ≡ y)
eight m n x y fits_m fits_n e =
    (sym (from_be_bytes-to_be_bytes_8 m fits_m) ∙ ap (λ b. from_be_bytes w64 (take 8 b)) e ∙ from_be_bytes-to_be_bytes_8 n fits_n, ap (λ b. drop 8 b) e)

-- lists that go on, cut at one length
pub cut : (n : ℕ) (a b x y : List ℕ) → length a ≡ n → length b ≡ n → a ++ x ≡ b ++ y → (a ≡ b) × (x ≡ y)
cut n a b x y la lb e = (sym (take_at a x n la) ∙ ap (λ l. take n l) e ∙ take_at b y n lb, sym (drop_at a x n la) ∙ ap (λ l. drop n l) e ∙ drop_at b y n lb)

head_of : ℕ → List ℕ → ℕ
head_of d [] = d
head_of d (x ∷ xs) = x

-- one parcel stands at the front of bytes
pub one_parcel : (p q : RawParcel) (x y : List ℕ) → IsParcel p → IsParcel q → parcel_bytes p ++ x ≡ parcel_bytes q ++ y → (p ≡ q) × (x ≡ y)
unfolding parcel_bytes head_of
one_parcel p q x y fp fq e =
    let a = four (counted p) (counted q) _ _ (omega (arith, fp.body)) (omega (arith, fq.body)) e in
    let b = four p.caller q.caller _ _ fp.caller fq.caller a.1 in
    let c = eight p.number q.number _ _ fp.number fq.number b.1 in
    let d = eight (cast_unsigned w64 p.moment) (cast_unsigned w64 q.moment) (p.verb ∷ (p.body ++ x)) (q.verb ∷ (q.body ++ y)) (of_z_fits p.moment fp.moment) (of_z_fits q.moment fq.moment) c.1 in
    let moment : p.moment ≡ q.moment = sym (to_z-of_z w64 p.moment fp.moment) ∙ ap (λ n. cast_signed w64 n) d.0 ∙ to_z-of_z w64 q.moment fq.moment in
    let verb : p.verb ≡ q.verb = ap (λ l. head_of 0 l) d.1 in
    let rest : p.body ++ x ≡ q.body ++ y = ap (λ l. drop 1 l) d.1 in
    let f = cut (length p.body) p.body q.body x y refl (omega (arith, a.0)) rest in
    (λ i. record { caller = b.0 i; number = c.0 i; moment = moment i; verb = verb i; body = f.0 i }, f.1)
  where
    of_z_fits : (z : ℤ) → FitsSigned w64 z → cast_unsigned w64 z < 2 ^ 64
    of_z_fits z fits = (Fits-of_z {w = w64} {z = z} fits).fits

-- the length that stands before a parcel
pub says_length : (bytes : List ℕ) (p : RawParcel) (rest : List ℕ) → IsParcel p → bytes ≡ parcel_bytes p ++ rest → from_be_bytes w32 (take 4 bytes) ≡ counted p
unfolding parcel_bytes
says_length bytes p rest fits e = ap (λ b. from_be_bytes w32 (take 4 b)) e ∙ from_be_bytes-to_be_bytes_4 (counted p) (omega (arith, fits.body))
