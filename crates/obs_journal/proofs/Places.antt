-- Parcels and their places, while a row is read.
use Rattle.std.proofs.Common.{◌≡◌, ℕ, ◌+◌, List, [], ◌∷◌, ◌++◌, length, drop, sym, ◌∙◌, ap, subst, arith, append_assoc, length-append}
use Rattle.std.proofs.lemmas.List.{map-append, drop-drop, drop_at}
use Rattle.std.specs.List.{AllByRecursion}
use Rattle.obs_journal.specs.Parcels.{RawParcel, IsParcel, parcel_bytes}
use Rattle.obs_journal.specs.Formats.{head, first_seal, seal, last_seal, room_in, row_length_in, front_length, file_of}
use Rattle.obs_journal.specs.declared.format.Format.{Format}
use Rattle.obs_journal.specs.Fronts.{StandsAtFront}
use Rattle.obs_journal.specs.Opening.{parcels_of, placed_in}
use Rattle.obs_journal.specs.declared.opening.Placed.{Placed}
use Rattle.std.specs.Prelude.{IfSome}
use Rattle.std.specs.declared.option.Option.{Option}
use Rattle.obs_journal.proofs.Quiet.{if_both}
use Rattle.obs_journal.specs.declared.gates.Front.{Front}
use Rattle.obs_journal.specs.declared.gates.Front.TheVariants.{Open}
use Rattle.obs_journal.proofs.Bytes.{length-parcel_bytes}
use Rattle.obs_journal.proofs.Seals.{length-seal, room_is}
use Rattle.obs_journal.proofs.Rows.{row-append, row_length-append, last_seal-append}
use Rattle.obs_journal.proofs.Appends.{each_more}

-- these parcels stand before the gate at this offset
pub record IsRead (f : Format) (file : List ℕ) (ps : List RawParcel) (gate : ℕ) : Type 0 where
  pub file_is : file ≡ file_of f ps (drop gate file)
  pub each : AllByRecursion IsParcel ps

-- one parcel more is read
pub more_read : (f : Format) (file last digest : List ℕ) (ps : List RawParcel) (gate next : ℕ) (p : RawParcel) → next ≡ gate + room_in f p → last ≡ last_seal f (first_seal f) ps → IsRead f file ps gate → StandsAtFront f last (drop gate file) (Open p digest)
    → IsRead f file (ps ++ p ∷ []) next
more_read f file last digest ps gate next p next_is last_is read front =
    let tail = front.0 ∷ front.1 in
    let own = seal f last (parcel_bytes p) in
    let whole : drop gate file ≡ (1 ∷ (parcel_bytes p ++ own)) ++ tail = front.2 ∙ ap (λ l. 1 ∷ l) (sym (append_assoc (parcel_bytes p) own tail)) in
    let long : length (1 ∷ (parcel_bytes p ++ own)) ≡ room_in f p = omega (arith, length-append (parcel_bytes p) own, length-parcel_bytes p, length-seal f last (parcel_bytes p), room_is f p) in
    let behind : drop next file ≡ tail = ap (λ n. drop n file) next_is ∙ sym (drop-drop (room_in f p) gate file) ∙ ap (λ l. drop (room_in f p) l) whole ∙ drop_at (1 ∷ (parcel_bytes p ++ own)) tail (room_in f p) long in
    record {
      file_is = read.file_is ∙ ap (λ l. file_of f ps l) (front.2 ∙ ap (λ l. 1 ∷ (parcel_bytes p ++ (own ++ l))) (sym behind))
          ∙ ap (λ s. file_of f ps (1 ∷ (parcel_bytes p ++ (seal f s (parcel_bytes p) ++ drop next file)))) last_is ∙ ap (λ l. head f ++ l) (sym (row-append f (first_seal f) ps (p ∷ []) (drop next file)));
      each = each_more ps p read.each front.3;
    }

parcels_more : (places : List Placed) (last : Placed) → parcels_of (places ++ last ∷ []) ≡ parcels_of places ++ last.parcel ∷ []
parcels_more places last = map-append (λ (placed : Placed). placed.parcel) places (last ∷ [])

-- what is kept of the last seal, one parcel further
pub sealed_more : (f : Format) (kept_last kept_digest : List ℕ) (places new : List Placed) (p : RawParcel) (gate : ℕ) → new ≡ places ++ record { offset = gate; parcel = p } ∷ [] → kept_last ≡ last_seal f (first_seal f) (parcels_of places) → kept_digest ≡ seal f kept_last (parcel_bytes p)
    → kept_digest ≡ last_seal f (first_seal f) (parcels_of new)
sealed_more f kept_last kept_digest places new p gate new_is last_is digest_is =
    digest_is ∙ ap (λ s. seal f s (parcel_bytes p)) last_is ∙ sym (last_seal-append f (first_seal f) (parcels_of places) (p ∷ [])) ∙ ap (λ l. last_seal f (first_seal f) l) (sym (ap parcels_of new_is ∙ parcels_more places (record { offset = gate; parcel = p })))

-- places with one parcel more
placed_more : (f : Format) (offset : ℕ) (ps : List RawParcel) (p : RawParcel) → placed_in f offset (ps ++ p ∷ []) ≡ placed_in f offset ps ++ record { offset = offset + row_length_in f ps; parcel = p } ∷ []
placed_more f offset [] p = ap (λ (n : ℕ). let placed : Placed = record { offset = n; parcel = p } in placed ∷ []) (omega arith)
placed_more f offset (q ∷ ps) p = ap (λ l. let placed : Placed = record { offset = offset; parcel = q } in placed ∷ l) (placed_more f (offset + room_in f q) ps p ∙ ap (λ (n : ℕ). let placed : Placed = record { offset = n; parcel = p } in placed_in f (offset + room_in f q) ps ++ placed ∷ []) (omega arith))

pub places_more : (f : Format) (places new : List Placed) (p : RawParcel) (gate : ℕ) → new ≡ places ++ record { offset = gate; parcel = p } ∷ [] → gate ≡ front_length f (parcels_of places) → places ≡ placed_in f (length (head f)) (parcels_of places) → new ≡ placed_in f (length (head f)) (parcels_of new)
places_more f places new p gate new_is place offsets =
    let last : Placed = record { offset = gate; parcel = p } in
    let start = length (head f) in
    new_is ∙ ap (λ l. l ++ last ∷ []) offsets ∙ ap (λ (n : ℕ). let placed : Placed = record { offset = n; parcel = p } in placed_in f start (parcels_of places) ++ placed ∷ []) (omega (arith, place)) ∙ sym (placed_more f start (parcels_of places) p)
    ∙ ap (λ l. placed_in f start l) (sym (ap parcels_of new_is ∙ parcels_more places last))

-- the known bytes, one parcel further
pub told_more : (f : Format) (known : Option (List ℕ)) (last digest : List ℕ) (places new : List Placed) (front : Front) (p : RawParcel) (gate next end : ℕ) → front ≡ Open p digest → next ≡ gate + room_in f p → new ≡ places ++ record { offset = gate; parcel = p } ∷ []
    → last ≡ last_seal f (first_seal f) (parcels_of places) → IfSome known (λ file. length file ≡ end → IsRead f file (parcels_of places) gate) → IfSome known (λ file. length file ≡ end → StandsAtFront f last (drop gate file) front)
    → IfSome known (λ file. length file ≡ end → IsRead f file (parcels_of new) next)
told_more f known last digest places new front p gate next end front_is next_is new_is last_is read stands =
    if_both (λ file. length file ≡ end → IsRead f file (parcels_of places) gate) (λ file. length file ≡ end → StandsAtFront f last (drop gate file) front) (λ file. length file ≡ end → IsRead f file (parcels_of new) next) known
    (λ file was is at_end. subst (λ ps. IsRead f file ps next) (sym (ap parcels_of new_is ∙ parcels_more places (record { offset = gate; parcel = p })))
    (more_read f file last digest (parcels_of places) gate next p next_is last_is (was at_end) (subst (λ r. StandsAtFront f last (drop gate file) r) front_is (is at_end))))
    read stands

pub place_more : (f : Format) (places new : List Placed) (p : RawParcel) (gate next : ℕ) → next ≡ gate + room_in f p → new ≡ places ++ record { offset = gate; parcel = p } ∷ [] → gate ≡ front_length f (parcels_of places) → next ≡ front_length f (parcels_of new)
place_more f places new p gate next next_is new_is place =
    omega (arith, place, next_is, ap (λ l. row_length_in f (parcels_of l)) new_is, ap (λ l. row_length_in f l) (parcels_more places (record { offset = gate; parcel = p })), row_length-append f (parcels_of places) (p ∷ []))
