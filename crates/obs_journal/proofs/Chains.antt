-- Chained files, and a chained journal with one parcel more.
use Rattle.std.proofs.Common.{◌≡◌, ℕ, ◌+◌, List, [], ◌∷◌, ◌++◌, length, get_or, sym, ◌∙◌, ap, arith}
use Rattle.std.specs.Prelude.{IfSome, IsSome}
use Rattle.std.specs.declared.option.Option.{Option}
use Rattle.std.specs.declared.option.Option.TheVariants.{Some}
use Rattle.sha2.specs.Sha256.{sha256}
use Rattle.obs_journal.specs.Parcels.{RawParcel, parcel_bytes}
use Rattle.obs_journal.specs.Formats.{first_seal, last_seal, next_seal, row_length_in, front_length}
use Rattle.obs_journal.specs.declared.format.Format.TheVariants.{Chained}
use Rattle.obs_journal.specs.Chains.{IsInForce, IsChain, IsBrokenAt, reached_after}
use Rattle.obs_journal.specs.declared.journal.Reached.{Reached}
use Rattle.obs_journal.proofs.Quiet.{never_both}
use Rattle.obs_journal.proofs.Rows.{length-file_of, row_length-append, last_seal-append, row_or_damage, one_damage, behind_head}

pub chain_in_force : (file : List ℕ) (ps : List RawParcel) → IsChain file ps → IsInForce file
chain_in_force file ps row = (omega (arith, ap length row.file_is, length-file_of Chained ps (row.gate ∷ row.rest)), ap (λ l. get_or l 0 0) row.file_is)

pub broken_in_force : (file : List ℕ) (offset : ℕ) → IsBrokenAt file offset → IsInForce file
broken_in_force file offset d = (omega (arith, ap length d.file_is, length-file_of Chained d.before (1 ∷ d.rest)), ap (λ l. get_or l 0 0) d.file_is)

pub broken_spells_nothing : (file : List ℕ) (offset : ℕ) (ps : List RawParcel) → IsBrokenAt file offset → IsChain file ps → ⊥
broken_spells_nothing file offset ps d row = row_or_damage Chained (first_seal Chained) ps d.before row.gate row.rest d.rest row.each d.each row.closed d.stops (behind_head Chained _ _ (sym row.file_is ∙ d.file_is))

pub one_break : (file : List ℕ) (m n : ℕ) → IsBrokenAt file m → IsBrokenAt file n → m ≡ n
one_break file m n d e =
    let same = one_damage Chained (first_seal Chained) d.before e.before d.rest e.rest d.each e.each d.stops e.stops (behind_head Chained _ _ (sym d.file_is ∙ e.file_is)) in
    omega (arith, same, d.offset_is, e.offset_is)

-- a file that spells a list isn't damaged
pub never_broken : (known : Option (List ℕ)) (offset : ℕ) → IfSome known (λ file. IsBrokenAt file offset) → IsSome known → ((file : List ℕ) → known ≡ Some file → (ps : List RawParcel) × IsChain file ps) → ⊥
never_broken known offset = never_both known (λ file. IsBrokenAt file offset) (λ file. (ps : List RawParcel) × IsChain file ps) (λ file broken list. broken_spells_nothing file offset list.0 broken list.1)

-- where the chain stands before a parcel
pub at_gate : (r : Reached) (ps : List RawParcel) → r ≡ reached_after ps → r.position ≡ front_length Chained ps + 1
at_gate r ps is = omega (arith, ap (λ (x : Reached). x.position) is)

-- the digest that follows
pub digest_next : (r : Reached) (ps : List RawParcel) (p : RawParcel) (digest : List ℕ) → r ≡ reached_after ps → digest ≡ sha256 (r.last ++ parcel_bytes p) → digest ≡ next_seal Chained ps p
digest_next r ps p digest is digest_is = digest_is ∙ ap (λ (x : Reached). sha256 (x.last ++ parcel_bytes p)) is

pub bytes_next : (r : Reached) (ps : List RawParcel) (p : RawParcel) (digest bytes : List ℕ) → r ≡ reached_after ps → digest ≡ sha256 (r.last ++ parcel_bytes p) → bytes ≡ parcel_bytes p ++ (digest ++ 0 ∷ []) → bytes ≡ parcel_bytes p ++ (next_seal Chained ps p ++ 0 ∷ [])
bytes_next r ps p digest bytes is digest_is bytes_are = bytes_are ∙ ap (λ d. parcel_bytes p ++ (d ++ 0 ∷ [])) (digest_next r ps p digest is digest_is)

-- and where it stands after it
pub reached_more : (r : Reached) (ps : List RawParcel) (p : RawParcel) (n : ℕ) (digest : List ℕ) → r ≡ reached_after ps → n ≡ 58 + length p.body → digest ≡ sha256 (r.last ++ parcel_bytes p) → record { position = r.position + n; last = digest } ≡ reached_after (ps ++ p ∷ [])
reached_more r ps p n digest is long digest_is =
    let position : r.position + n ≡ row_length_in Chained (ps ++ p ∷ []) + 2 = omega (arith, ap (λ (x : Reached). x.position) is, long, row_length-append Chained ps (p ∷ [])) in
    let last : digest ≡ last_seal Chained (first_seal Chained) (ps ++ p ∷ []) = digest_next r ps p digest is digest_is ∙ sym (last_seal-append Chained (first_seal Chained) ps (p ∷ [])) in
    λ i. record { position = position i; last = last i }
