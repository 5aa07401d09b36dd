-- What a crash may leave of a file while a parcel is added.
use Rattle.std.proofs.Common.{◌≡◌, ◌≢◌, ◌⊎◌, inl, inr, ℕ, ◌+◌, ◌-◌, ◌<◌, min, List, [], ◌∷◌, ◌++◌, length, get_or, take, drop, refl, sym, ◌∙◌, ap, arith, append_assoc, length-append, take-append-drop}
use Rattle.std.specs.Prelude.{replicate}
use Rattle.std.proofs.lemmas.List.{take_at, drop_at, drop-drop, drop_more, get_or_at}
use Rattle.std.proofs.lemmas.Bool.{cases_eq}
use Rattle.std.specs.List.{AllByRecursion}
use Rattle.disk_model.specs.Files.{written}
use Rattle.disk_model.specs.Crashes.{Torn}
use Rattle.obs_journal.specs.Parcels.{RawParcel, IsParcel, parcel_bytes}
use Rattle.obs_journal.specs.Formats.{head, first_seal, next_seal, file_of, front_length}
use Rattle.obs_journal.specs.declared.format.Format.{Format}
use Rattle.obs_journal.specs.Files.{IsRowIn}
use Rattle.obs_journal.specs.Journals.{IsDoubtfulIn}
use Rattle.obs_journal.proofs.Rows.{length-file_of, row-append, file_behind}

-- a write inside a file, between a front and a rest
pub written_between : (at : ℕ) (bytes front rest file : List ℕ) → bytes ≢ [] → length front ≡ at → file ≡ front ++ rest → written at bytes file ≡ front ++ (bytes ++ drop (length bytes) rest)
written_between at [] front rest file some long is = absurd (some refl)
written_between at (b ∷ bs) front rest file some long is =
    let taken : take at (file ++ replicate (at - length file) 0) ≡ front = ap (λ l. take at (l ++ replicate (at - length file) 0)) is ∙ ap (λ l. take at l) (append_assoc front rest (replicate (at - length file) 0)) ∙ take_at front (rest ++ replicate (at - length file) 0) at long in
    let left : drop (at + length (b ∷ bs)) file ≡ drop (length (b ∷ bs)) rest = sym (drop-drop (length (b ∷ bs)) at file) ∙ ap (λ l. drop (length (b ∷ bs)) (drop at l)) is ∙ ap (λ l. drop (length (b ∷ bs)) l) (drop_at front rest at long) in
    ap (λ l. l ++ (b ∷ bs) ++ drop (at + length (b ∷ bs)) file) taken ∙ ap (λ l. front ++ (b ∷ bs) ++ l) left ∙ append_assoc front (b ∷ bs) (drop (length (b ∷ bs)) rest)

-- a write inside a file that a crash cuts short leaves what stands before it
torn_front : (at n : ℕ) (front rest file image : List ℕ) → length front ≡ at → file ≡ front ++ rest → Torn at n file image → image ≡ front ++ drop at image
torn_front at n front rest file image long is torn =
    let within : min at (length file) ≡ at = omega (arith, ap length is, length-append front rest, long) in
    let kept : take at image ≡ front = ap (λ n. take n image) (sym within) ∙ torn.before ∙ ap (λ l. take at l) is ∙ take_at front rest at long in
    sym (take-append-drop at image) ∙ ap (λ l. l ++ drop at image) kept

-- and what stands after it
pub torn_back : (at : ℕ) (front rest file image : List ℕ) (byte : ℕ) → length front ≡ at → file ≡ front ++ byte ∷ rest → Torn at 1 file image → image ≡ front ++ get_or image at 0 ∷ rest
torn_back at front rest file image byte long is torn =
    let longer : at < length image = omega (arith, torn.no_shorter, ap length is, length-append front (byte ∷ rest), long) in
    let behind : drop (at + 1) image ≡ rest = torn.after ∙ ap (λ l. drop (at + 1) l) is ∙ sym (drop-drop 1 at (front ++ byte ∷ rest)) ∙ ap (λ l. drop 1 l) (drop_at front (byte ∷ rest) at long) in
    torn_front at 1 front (byte ∷ rest) file image long is torn ∙ ap (λ l. front ++ l) (drop_more image at 0 longer ∙ ap (λ l. get_or image at 0 ∷ l) behind)

-- a file in two parts, at its closed gate
gate_front : (f : Format) (ps : List RawParcel) (gate : ℕ) (rest : List ℕ) → file_of f ps (gate ∷ rest) ≡ file_of f ps (gate ∷ []) ++ rest
gate_front f ps gate rest = sym (file_behind f ps (gate ∷ []) rest)

row_front : (f : Format) (ps : List RawParcel) (rest : List ℕ) → file_of f ps rest ≡ file_of f ps [] ++ rest
row_front f ps rest = sym (file_behind f ps [] rest)

length-gate_front : (f : Format) (ps : List RawParcel) (gate : ℕ) → length (file_of f ps (gate ∷ [])) ≡ front_length f ps + 1
length-gate_front f ps gate = omega (arith, length-file_of f ps (gate ∷ []))

length-row_front : (f : Format) (ps : List RawParcel) → length (file_of f ps []) ≡ front_length f ps
length-row_front f ps = omega (arith, length-file_of f ps [])

-- one parcel more
pub each_more : (ps : List RawParcel) (p : RawParcel) → AllByRecursion IsParcel ps → IsParcel p → AllByRecursion IsParcel (ps ++ p ∷ [])
each_more [] p each fits = (fits, tt)
each_more (q ∷ ps) p each fits = (each.0, each_more ps p each.1 fits)

module _ (f : Format) (ps : List RawParcel) (p : RawParcel) where
  pub row_more : (next : ℕ) (rest : List ℕ) → file_of f (ps ++ p ∷ []) (next ∷ rest) ≡ file_of f ps (1 ∷ (parcel_bytes p ++ (next_seal f ps p ++ next ∷ rest)))
  row_more next rest = ap (λ l. head f ++ l) (row-append f (first_seal f) ps (p ∷ []) (next ∷ rest))

  -- a write after the closed gate, cut short or whole, leaves the parcels before it
  pub torn_behind : (at n : ℕ) (file image : List ℕ) → at ≡ front_length f ps + 1 → IsRowIn f file ps → Torn at n file image → IsRowIn f image ps
  torn_behind at n file image at_is row torn = record {
    gate = row.gate;
    rest = drop at image;
    file_is = torn_front at n (file_of f ps (row.gate ∷ [])) row.rest file image (length-gate_front f ps row.gate ∙ sym at_is) (row.file_is ∙ gate_front f ps row.gate row.rest) torn ∙ sym (gate_front f ps row.gate (drop at image));
    closed = row.closed;
    each = row.each;
  }

  -- the parcel and a closed gate stand after the closed gate
  pub record IsStaged (image : List ℕ) : Type 0 where
    pub doubtful : IsDoubtfulIn f image ps p
    pub closed : doubtful.gate ≢ 1

  some_bytes : (bytes more : List ℕ) → bytes ++ (more ++ 0 ∷ []) ≢ []
  some_bytes [] [] e = cc
  some_bytes [] (b ∷ more) e = cc
  some_bytes (b ∷ bytes) more e = cc

  pub staged : (at : ℕ) (file image : List ℕ) → at ≡ front_length f ps + 1 → IsParcel p → IsRowIn f file ps → image ≡ written at (parcel_bytes p ++ (next_seal f ps p ++ 0 ∷ [])) file → IsStaged image
  staged at file image at_is fits row is =
      let own = next_seal f ps p in
      let bytes = parcel_bytes p ++ (own ++ 0 ∷ []) in
      let rest = drop (length bytes) row.rest in
      let whole : written at bytes file ≡ file_of f ps (row.gate ∷ []) ++ (bytes ++ rest) = written_between at bytes (file_of f ps (row.gate ∷ [])) row.rest file (some_bytes (parcel_bytes p) own) (length-gate_front f ps row.gate ∙ sym at_is) (row.file_is ∙ gate_front f ps row.gate row.rest) in
      let joined : bytes ++ rest ≡ parcel_bytes p ++ (own ++ 0 ∷ rest) = append_assoc (parcel_bytes p) (own ++ 0 ∷ []) rest ∙ ap (λ l. parcel_bytes p ++ l) (append_assoc own (0 ∷ []) rest) in
      record {
        doubtful = record {
          gate = row.gate;
          next = 0;
          rest = rest;
          image_is = is ∙ whole ∙ sym (gate_front f ps row.gate (bytes ++ rest)) ∙ ap (λ l. file_of f ps (row.gate ∷ l)) joined;
          closed = omega arith;
          each = row.each;
          fits = fits;
        };
        closed = row.closed;
      }

  -- while the gate is written it may be any byte
  pub torn_gate : (at : ℕ) (file image : List ℕ) → at ≡ front_length f ps → IsDoubtfulIn f file ps p → Torn at 1 file image → IsDoubtfulIn f image ps p
  torn_gate at file image at_is doubtful torn =
      let behind = parcel_bytes p ++ (next_seal f ps p ++ doubtful.next ∷ doubtful.rest) in
      record {
        gate = get_or image at 0;
        next = doubtful.next;
        rest = doubtful.rest;
        image_is = torn_back at (file_of f ps []) behind file image doubtful.gate (length-row_front f ps ∙ sym at_is) (doubtful.image_is ∙ row_front f ps (doubtful.gate ∷ behind)) torn ∙ sym (row_front f ps (get_or image at 0 ∷ behind));
        closed = doubtful.closed;
        each = doubtful.each;
        fits = doubtful.fits;
      }

  -- an open gate adds the parcel, any other leaves it out
  pub added_where_open : (image : List ℕ) (doubtful : IsDoubtfulIn f image ps p) → doubtful.gate ≡ 1 → IsRowIn f image (ps ++ p ∷ [])
  added_where_open image doubtful open_gate = record {
    gate = doubtful.next;
    rest = doubtful.rest;
    file_is = doubtful.image_is ∙ ap (λ g. file_of f ps (g ∷ (parcel_bytes p ++ (next_seal f ps p ++ doubtful.next ∷ doubtful.rest)))) open_gate ∙ sym (row_more doubtful.next doubtful.rest);
    closed = doubtful.closed;
    each = each_more ps p doubtful.each doubtful.fits;
  }

  pub left_out_where_closed : (image : List ℕ) (doubtful : IsDoubtfulIn f image ps p) → doubtful.gate ≢ 1 → IsRowIn f image ps
  left_out_where_closed image doubtful shut = record {
    gate = doubtful.gate;
    rest = parcel_bytes p ++ (next_seal f ps p ++ doubtful.next ∷ doubtful.rest);
    file_is = doubtful.image_is;
    closed = shut;
    each = doubtful.each;
  }

  pub either_row : (image : List ℕ) → IsDoubtfulIn f image ps p → IsRowIn f image ps ⊎ IsRowIn f image (ps ++ p ∷ [])
  either_row image doubtful = elim (cases_eq doubtful.gate 1) [
    | inl is_open ↦ inr (added_where_open image doubtful is_open)
    | inr shut ↦ inl (left_out_where_closed image doubtful shut)
  ]

  -- the gate was opened
  pub opened_gate : (at : ℕ) (file image : List ℕ) → at ≡ front_length f ps → IsDoubtfulIn f file ps p → image ≡ written at (1 ∷ []) file → IsRowIn f image (ps ++ p ∷ [])
  opened_gate at file image at_is doubtful is =
      let behind = parcel_bytes p ++ (next_seal f ps p ++ doubtful.next ∷ doubtful.rest) in
      record {
        gate = doubtful.next;
        rest = doubtful.rest;
        file_is = is ∙ written_between at (1 ∷ []) (file_of f ps []) (doubtful.gate ∷ behind) file (λ e. cc) (length-row_front f ps ∙ sym at_is) (doubtful.image_is ∙ row_front f ps (doubtful.gate ∷ behind))
            ∙ sym (row_front f ps (1 ∷ behind)) ∙ sym (row_more doubtful.next doubtful.rest);
        closed = doubtful.closed;
        each = each_more ps p doubtful.each doubtful.fits;
      }

  -- what stands at the gate
  pub gate_is : (position : ℕ) (image : List ℕ) → position ≡ front_length f ps + 1 → (doubtful : IsDoubtfulIn f image ps p) → get_or image (position - 1) 0 ≡ doubtful.gate
  gate_is position image position_is doubtful =
      let behind = parcel_bytes p ++ (next_seal f ps p ++ doubtful.next ∷ doubtful.rest) in
      let at : length (file_of f ps []) ≡ position - 1 = omega (arith, length-row_front f ps, position_is) in
      ap (λ l. get_or l (position - 1) 0) (doubtful.image_is ∙ row_front f ps (doubtful.gate ∷ behind)) ∙ get_or_at (file_of f ps []) doubtful.gate behind 0 (position - 1) at
