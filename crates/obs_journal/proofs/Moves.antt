-- How parcels are carried into a second file.
use Rattle.std.proofs.Common.{◌≡◌, inl, inr, ⊎_elim, ℕ, ◌+◌, ◌<◌, ◌≤◌, min, List, [], ◌∷◌, ◌++◌, length, get_or, take, drop, refl, sym, ◌∙◌, ap, subst, arith, append_assoc, length-append, take-append-drop}
use Rattle.std.proofs.lemmas.List.{get_or-take, append-nil, drop_all, take_more, map-append}
use Rattle.std.proofs.lemmas.Bool.{cases_eq}
use Rattle.std.specs.Prelude.{IfSome, IsSome, IsSomeAnd}
use Rattle.std.specs.declared.option.Option.{Option}
use Rattle.std.specs.declared.option.Option.TheVariants.{None, Some}
use Rattle.std.specs.List.{AllByRecursion}
use Rattle.disk_model.specs.Files.{written}
use Rattle.disk_model.specs.Crashes.{Torn, After, Passes, EachSince, During}
use Rattle.disk_model.specs.Moments.{during_call, during_joined, during_one_more, during_weaker, images_after}
use Rattle.obs_journal.specs.Parcels.{RawParcel, IsParcel, parcel_bytes}
use Rattle.sha2.specs.Sha256.{sha256}
use Rattle.obs_journal.specs.Formats.{first_seal, seal, last_seal, room_in, row, row_length_in}
use Rattle.obs_journal.specs.declared.format.Format.TheVariants.{Chained}
use Rattle.obs_journal.specs.Opening.{parcels_of}
use Rattle.obs_journal.specs.declared.opening.Placed.{Placed}
use Rattle.obs_journal.proofs.Rows.{length-row, row-append, row_behind, row_length-append, last_seal-append}
use Rattle.obs_journal.specs.Writing.{IsSafe}
use Rattle.obs_journal.specs.Chains.{IsChain}
use Rattle.obs_journal.specs.Moves.{IsIdle, IsShut, IsOneByte, IsCarried, IsCarriedInto, IsKnownAnd, Adds, StaysShut}
use Rattle.obs_journal.proofs.Steps.{at_known}
use Rattle.obs_journal.proofs.Appends.{written_between, torn_back, each_more}

-- a write behind the first byte leaves the file shut
pub torn_shut : (at n : ℕ) (old new : List ℕ) → 0 < at → IsShut old → Torn at n old new → IsShut new
torn_shut at n old new behind shut torn =
    let m = min at (length old) in
    let inside : 0 < m = omega (arith, behind, shut.some) in
    let same : get_or new 0 0 ≡ get_or old 0 0 = sym (get_or-take m new 0 0 inside) ∙ ap (λ l. get_or l 0 0) torn.before ∙ get_or-take at old 0 0 behind in
    record { some = omega (arith, shut.some, torn.no_shorter); first = λ is. shut.first (sym same ∙ is) }

pub shut_is_idle : (file : List ℕ) → IsShut file → IsIdle file
shut_is_idle file shut force = shut.first force.1

pub one_byte_is_shut : (file : List ℕ) → IsOneByte file → IsShut file
one_byte_is_shut file one = record {
  some = omega (arith, ap length one.file_is);
  first = λ is. one.shut (ap (λ l. get_or l 0 0) (sym one.file_is) ∙ is);
}

-- at the end bytes are added
written_end : (at : ℕ) (bytes file : List ℕ) → length file ≡ at → written at bytes file ≡ file ++ bytes
written_end at [] file long = sym (append-nil file)
written_end at (b ∷ bs) file long =
    written_between at (b ∷ bs) file [] file (λ e. cc) long (sym (append-nil file)) ∙ ap (λ l. file ++ ((b ∷ bs) ++ l)) (drop_all (length (b ∷ bs)) [] (omega arith)) ∙ ap (λ l. file ++ l) (append-nil (b ∷ bs))

grown_by : (at : ℕ) (bytes : List ℕ) (before now : Option (List ℕ)) → IfSome before (λ file. now ≡ Some (written at bytes file)) → IfSome before (λ file. length file ≡ at → now ≡ Some (file ++ bytes))
grown_by at bytes None now wrote = tt
grown_by at bytes (Some file) now wrote = λ long. wrote ∙ ap Some (written_end at bytes file long)

grown_joined : (at next : ℕ) (x y : List ℕ) (before mid now : Option (List ℕ)) → next ≡ at + length x → IfSome before (λ file. length file ≡ at → mid ≡ Some (file ++ x)) → IfSome mid (λ file. length file ≡ next → now ≡ Some (file ++ y))
    → IfSome before (λ file. length file ≡ at → now ≡ Some (file ++ (x ++ y)))
grown_joined at next x y None mid now next_is first second = tt
grown_joined at next x y (Some file) mid now next_is first second = λ long.
    at_known mid (λ file. length file ≡ next → now ≡ Some (file ++ y)) (file ++ x) second (first long) (omega (arith, length-append file x, long, next_is)) ∙ ap Some (append_assoc file x y)

module _ {D : Type 0} (reads : D → Option (List ℕ)) (leaves : D → List ℕ → Type 0) (moment : D → ℕ) (since : D → ℕ → List ℕ → Type 0)
    (counts_now : (disk : D) (t : ℕ) (image : List ℕ) → t ≤ moment disk → leaves disk image → since disk t image) where
  pub adds_written : {old new : D} (at : ℕ) (bytes : List ℕ) → 0 < at → IfSome (reads old) (λ file. reads new ≡ Some (written at bytes file)) → Passes moment since old new → EachSince moment since old new (After (Torn at (length bytes)) (leaves old))
      → Adds reads leaves at bytes old new
  adds_written {old = old} {new = new} at bytes behind wrote passes torn =
      let came : (image : List ℕ) → leaves new image → After (Torn at (length bytes)) (leaves old) image = λ image now. torn image (counts_now new (moment old) image passes.later now) in
      record {
        grown = grown_by at bytes (reads old) (reads new) wrote;
        shut = λ before image now. let from = came image now in torn_shut at (length bytes) from.0 image behind (before from.0 from.1) from.2;
        from = λ image now. let from = came image now in (from.0, from.1);
      }

  pub stays_written : {old new : D} (at n : ℕ) → 0 < at → Passes moment since old new → EachSince moment since old new (After (Torn at n) (leaves old)) → StaysShut leaves moment since old new
  stays_written at n behind passes torn = λ known before.
      during_call (IsKnownAnd known IsShut) passes (λ image was. let from = torn image was in let shut = before from.0 from.1 in (shut.0, torn_shut at n from.0 image behind shut.1 from.2))

-- one after the other
pub adds_joined : {D : Type 0} {reads : D → Option (List ℕ)} {leaves : D → List ℕ → Type 0} {old mid new : D} {at : ℕ} {x : List ℕ} (next : ℕ) (y : List ℕ) → next ≡ at + length x → Adds reads leaves at x old mid → Adds reads leaves next y mid new
    → Adds reads leaves at (x ++ y) old new
adds_joined {reads = reads} {old = old} {mid = mid} {new = new} {at = at} {x = x} next y next_is first second = record {
  grown = grown_joined at next x y (reads old) (reads mid) (reads new) next_is first.grown second.grown;
  shut = λ before. second.shut (first.shut before);
  from = λ image now. let middle = second.from image now in first.from middle.0 middle.1;
}

pub stays_joined : {D : Type 0} {reads : D → Option (List ℕ)} {leaves : D → List ℕ → Type 0} {moment : D → ℕ} {since : D → ℕ → List ℕ → Type 0} {old mid new : D} {at : ℕ} {x : List ℕ} → Adds reads leaves at x old mid → StaysShut leaves moment since old mid
    → StaysShut leaves moment since mid new → StaysShut leaves moment since old new
stays_joined adds first second = λ known before.
    during_joined (first known before) (second known (λ image now. let from = adds.from image now in ((before from.0 from.1).0, adds.shut (λ i was. (before i was).1) image now)))

-- ---- the row behind that byte, and the byte that puts it in force

-- the row of these parcels stands behind one byte
pub record IsLaid (ps : List RawParcel) (image : List ℕ) : Type 0 where
  pub byte : ℕ
  pub image_is : image ≡ byte ∷ row Chained (first_seal Chained) ps (0 ∷ [])

chain_of : (ps : List RawParcel) (image : List ℕ) → AllByRecursion IsParcel ps → image ≡ 1 ∷ row Chained (first_seal Chained) ps (0 ∷ []) → IsChain image ps
chain_of ps image each is = record { gate = 0; rest = []; file_is = is; closed = omega arith; each = each }

pub opening_byte : (ps : List RawParcel) (before image : List ℕ) → AllByRecursion IsParcel ps → IsLaid ps before → Torn 0 1 before image → IsCarried ps image
opening_byte ps before image each laid torn =
    let is = torn_back 0 [] (row Chained (first_seal Chained) ps (0 ∷ [])) before image laid.byte refl laid.image_is torn in
    elim (cases_eq (get_or image 0 0) 1) [
      | inl is_open ↦ inr (chain_of ps image each (is ∙ ap (λ b. b ∷ row Chained (first_seal Chained) ps (0 ∷ [])) is_open))
      | inr shut ↦ inl (λ force. shut force.1)
    ]

opened_row : (ps : List RawParcel) (file : List ℕ) → IsLaid ps file → written 0 (1 ∷ []) file ≡ 1 ∷ row Chained (first_seal Chained) ps (0 ∷ [])
opened_row ps file laid = ap (λ l. written 0 (1 ∷ []) l) laid.image_is

module _ {D : Type 0} (reads : D → Option (List ℕ)) (leaves : D → List ℕ → Type 0) (moment : D → ℕ) (since : D → ℕ → List ℕ → Type 0)
    (as_read : (disk : D) (file : List ℕ) → reads disk ≡ Some file → leaves disk file)
    (known : (disk : D) (image : List ℕ) → leaves disk image → IsSome (reads disk))
    (counts_now : (disk : D) (t : ℕ) (image : List ℕ) → t ≤ moment disk → leaves disk image → since disk t image)
    (only_now : (disk : D) (image : List ℕ) → since disk (moment disk) image → leaves disk image)
    (ps : List RawParcel) where
  pub laid : {old mid new : D} → ((image : List ℕ) → leaves old image → (reads old ≡ Some image) × IsOneByte image) → Adds reads leaves 1 (row Chained (first_seal Chained) ps (0 ∷ [])) old mid → reads new ≡ reads mid → Passes moment since mid new → EachSince moment since mid new (leaves mid)
      → ((image : List ℕ) → leaves new image → reads new ≡ Some image) → (image : List ℕ) → leaves new image → IsLaid ps image
  laid {old = old} {mid = mid} {new = new} one adds same passes kept safe image now =
      let from = adds.from image (kept image (counts_now new (moment mid) image passes.later now)) in
      let first = one from.0 from.1 in
      let grown : reads mid ≡ Some (from.0 ++ row Chained (first_seal Chained) ps (0 ∷ [])) = at_known (reads old) (λ file. length file ≡ 1 → reads mid ≡ Some (file ++ row Chained (first_seal Chained) ps (0 ∷ []))) from.0 adds.grown first.0 (omega (arith, ap length first.1.file_is)) in
      let whole : Some image ≡ Some (from.0 ++ row Chained (first_seal Chained) ps (0 ∷ [])) = sym (safe image now) ∙ same ∙ grown in
      let image_is : image ≡ from.0 ++ row Chained (first_seal Chained) ps (0 ∷ []) = cc in
      record { byte = first.1.byte; image_is = image_is ∙ ap (λ l. l ++ row Chained (first_seal Chained) ps (0 ∷ [])) first.1.file_is }

  pub all_shut : {old : D} → ((image : List ℕ) → leaves old image → (reads old ≡ Some image) × IsOneByte image) → (image : List ℕ) → leaves old image → IsShut image
  all_shut one image now = one_byte_is_shut image (one image now).1

  -- an image at the end says that the file was known at the start
  known_first : {first mid : D} {P : List ℕ → Type 0} → During moment since first mid (IsKnownAnd (reads first) P) → (image : List ℕ) → leaves mid image → IsSome (reads first)
  known_first {first = first} run image now = ⊎_elim (λ was. known first image was) (λ has. has.0) (images_after leaves counts_now only_now run image now)

  -- until the row is safe
  pub during_row : {first old mid : D} → During moment since first old (IsKnownAnd (reads first) IsIdle) → ((image : List ℕ) → leaves old image → (reads old ≡ Some image) × IsOneByte image) → StaysShut leaves moment since old mid → During moment since first mid (IsKnownAnd (reads first) IsIdle)
  during_row {first = first} run one stays =
      during_joined run (during_weaker (IsKnownAnd (reads first) IsIdle) (λ image shut. (shut.0, shut_is_idle image shut.1)) (stays (reads first) (λ image now. (known_first run image now, all_shut one image now))))

  pub during_sync : {first old mid new : D} {bytes : List ℕ} → During moment since first old (IsKnownAnd (reads first) IsIdle) → ((image : List ℕ) → leaves old image → (reads old ≡ Some image) × IsOneByte image) → Adds reads leaves 1 bytes old mid → StaysShut leaves moment since old mid
      → Passes moment since mid new → EachSince moment since mid new (leaves mid) → During moment since first new (IsKnownAnd (reads first) IsIdle)
  during_sync run one adds stays passes kept =
      let so_far = during_row run one stays in
      during_one_more so_far passes (λ image was. (known_first so_far image (kept image was), shut_is_idle image (adds.shut (all_shut one) image (kept image was))))

  pub idle_carried : {old new : D} {r : Option (List ℕ)} → During moment since old new (IsKnownAnd r IsIdle) → During moment since old new (IsCarriedInto r ps)
  idle_carried {r = r} run = during_weaker (IsCarriedInto r ps) (λ image idle. record { known = idle.0; now = inl idle.1 }) run

  -- while the byte is written, and then
  pub during_byte : {first mid new : D} → AllByRecursion IsParcel ps → During moment since first mid (IsKnownAnd (reads first) IsIdle) → ((image : List ℕ) → leaves mid image → IsLaid ps image) → Passes moment since mid new → EachSince moment since mid new (After (Torn 0 1) (leaves mid))
      → During moment since first new (IsCarriedInto (reads first) ps)
  during_byte each run laid_out passes torn = during_one_more (idle_carried run) passes (λ image was.
      let from = torn image was in
      record { known = known_first run from.0 from.1; now = opening_byte ps from.0 image each (laid_out from.0 from.1) from.2 })

  pub chained : {mid new : D} → AllByRecursion IsParcel ps → ((image : List ℕ) → leaves mid image → IsLaid ps image) → IsSafe reads leaves 0 (1 ∷ []) mid new → (image : List ℕ) → leaves new image → IsChain image ps
  chained {mid = mid} each laid_out safe image now =
      let from = safe image now in
      chain_of ps image each (from.2 ∙ opened_row ps from.0 (laid_out from.0 (as_read mid from.0 from.1)))

  -- what reads give then
  pub reads_whole : {mid : D} (before now : Option (List ℕ)) → IfSome before (λ _. IsSome (reads mid)) → ((image : List ℕ) → leaves mid image → IsLaid ps image) → IfSome (reads mid) (λ file. now ≡ Some (written 0 (1 ∷ []) file))
      → IfSome before (λ _. now ≡ Some (1 ∷ row Chained (first_seal Chained) ps (0 ∷ [])))
  reads_whole {mid = mid} None now known laid_out wrote = tt
  reads_whole {mid = mid} (Some file) now known laid_out wrote = whole (reads mid) refl known wrote
    where
      whole : (r : Option (List ℕ)) → reads mid ≡ r → IsSome r → IfSome r (λ file. now ≡ Some (written 0 (1 ∷ []) file)) → now ≡ Some (1 ∷ row Chained (first_seal Chained) ps (0 ∷ []))
      whole None is some said = cc
      whole (Some file) is some said = said ∙ ap Some (opened_row ps file (laid_out file (as_read mid file is)))

-- a file whose end grew is known
pub known_grown : (before first mid new : Option (List ℕ)) (bytes : List ℕ) → IfSome before (λ _. IsSomeAnd first IsOneByte) → IfSome first (λ file. length file ≡ 1 → mid ≡ Some (file ++ bytes)) → new ≡ mid → IfSome before (λ _. IsSome new)
known_grown None first mid new bytes one grown same = tt
known_grown (Some file) None mid new bytes one grown same = absurd one
known_grown (Some file) (Some byte) mid new bytes one grown same = subst (λ r. IsSome r) (sym (same ∙ grown (omega (arith, ap length one.file_is)))) refl

-- ---- the row, parcel by parcel

pub parcels_of-more : (places : List Placed) (i : ℕ) (p : Placed) → i < length places → p ≡ get_or places i p → parcels_of (take (i + 1) places) ≡ parcels_of (take i places) ++ p.parcel ∷ []
parcels_of-more places i p within here =
    ap parcels_of (take_more places i p within ∙ ap (λ (x : Placed). take i places ++ x ∷ []) (sym here)) ∙ map-append (λ (x : Placed). x.parcel) (take i places) (p ∷ [])

row_one_more : (ps : List RawParcel) (p : RawParcel) (digest : List ℕ) → digest ≡ seal Chained (last_seal Chained (first_seal Chained) ps) (parcel_bytes p) → row Chained (first_seal Chained) ps [] ++ (1 ∷ (parcel_bytes p ++ digest)) ≡ row Chained (first_seal Chained) (ps ++ p ∷ []) []
row_one_more ps p digest is =
    row_behind Chained (first_seal Chained) ps [] (1 ∷ (parcel_bytes p ++ digest)) ∙ ap (λ l. row Chained (first_seal Chained) ps (1 ∷ (parcel_bytes p ++ l))) (is ∙ sym (append-nil (seal Chained (last_seal Chained (first_seal Chained) ps) (parcel_bytes p))))
    ∙ sym (row-append Chained (first_seal Chained) ps (p ∷ []) [])

-- this many parcels are written behind the first byte
pub record IsWritten {D : Type 0} (reads : D → Option (List ℕ)) (leaves : D → List ℕ → Type 0) (ps : List RawParcel) (gate : ℕ) (last : List ℕ) (old new : D) : Type 0 where
  pub gate_is : gate ≡ row_length_in Chained ps + 1
  pub last_is : last ≡ last_seal Chained (first_seal Chained) ps
  pub fit : AllByRecursion IsParcel ps
  pub adds : Adds reads leaves 1 (row Chained (first_seal Chained) ps []) old new

module _ {D : Type 0} (reads : D → Option (List ℕ)) (leaves : D → List ℕ → Type 0) where
  pub more_written : {old mid new : D} (places : List Placed) (i gate next : ℕ) (last digest : List ℕ) (p : Placed) → i < length places → p ≡ get_or places i p → IsWritten reads leaves (parcels_of (take i places)) gate last old mid → next ≡ gate + room_in Chained p.parcel → IsParcel p.parcel
      → digest ≡ sha256 (last ++ parcel_bytes p.parcel) → Adds reads leaves gate (1 ∷ (parcel_bytes p.parcel ++ digest)) mid new → IsWritten reads leaves (parcels_of (take (i + 1) places)) next digest old new
  more_written {old = old} {new = new} places i gate next last digest p within here was next_is fits digest_is adds =
      let ps = parcels_of (take i places) in
      let own : digest ≡ seal Chained (last_seal Chained (first_seal Chained) ps) (parcel_bytes p.parcel) = digest_is ∙ ap (λ l. sha256 (l ++ parcel_bytes p.parcel)) was.last_is in
      let at : gate ≡ 1 + length (row Chained (first_seal Chained) ps []) = omega (arith, was.gate_is, length-row Chained (first_seal Chained) ps []) in
      let more : IsWritten reads leaves (ps ++ p.parcel ∷ []) next digest old new = record {
        gate_is = omega (arith, was.gate_is, next_is, row_length-append Chained ps (p.parcel ∷ []));
        last_is = own ∙ sym (last_seal-append Chained (first_seal Chained) ps (p.parcel ∷ []));
        fit = each_more ps p.parcel was.fit fits;
        adds = subst (λ b. Adds reads leaves 1 b old new) (row_one_more ps p.parcel digest own) (adds_joined gate (1 ∷ (parcel_bytes p.parcel ++ digest)) at was.adds adds);
      } in
      subst (λ l. IsWritten reads leaves l next digest old new) (sym (parcels_of-more places i p within here)) more

  -- with the closed gate
  pub all_written : {old mid new : D} (ps : List RawParcel) (gate : ℕ) (last : List ℕ) → IsWritten reads leaves ps gate last old mid → Adds reads leaves gate (0 ∷ []) mid new → Adds reads leaves 1 (row Chained (first_seal Chained) ps (0 ∷ [])) old new
  all_written {old = old} {new = new} ps gate last was adds =
      subst (λ b. Adds reads leaves 1 b old new) (row_behind Chained (first_seal Chained) ps [] (0 ∷ [])) (adds_joined gate (0 ∷ []) (omega (arith, was.gate_is, length-row Chained (first_seal Chained) ps [])) was.adds adds)

-- a part of the parcels takes no more than all
pub room_left : (places : List Placed) (i : ℕ) (p : Placed) → i < length places → p ≡ get_or places i p → row_length_in Chained (parcels_of (take i places)) + room_in Chained p.parcel ≤ row_length_in Chained (parcels_of places)
room_left places i p within here =
    let more = ap (λ l. row_length_in Chained l) (parcels_of-more places i p within here) in
    let front = parcels_of (take (i + 1) places) in
    let back = parcels_of (drop (i + 1) places) in
    let whole : parcels_of places ≡ front ++ back = ap parcels_of (sym (take-append-drop (i + 1) places)) ∙ map-append (λ (x : Placed). x.parcel) (take (i + 1) places) (drop (i + 1) places) in
    omega (arith, more, row_length-append Chained (parcels_of (take i places)) (p.parcel ∷ []), ap (λ l. row_length_in Chained l) whole, row_length-append Chained front back)
