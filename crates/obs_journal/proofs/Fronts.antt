-- What was read at a gate, put together.
use Rattle.std.proofs.Common.{◌≡◌, ◌≢◌, ℕ, ◌+◌, ◌-◌, ◌<◌, ◌≤◌, List, [], ◌∷◌, ◌++◌, length, get_or, take, drop, refl, sym, ◌∙◌, ap, arith, length-append, length-drop, append_assoc, take-append-drop}
use Rattle.std.proofs.lemmas.List.{drop-drop, drop_more, get_or_default, take_all}
use Rattle.obs_journal.proofs.Quiet.{if_both}
use Rattle.std.specs.Prelude.{Result, Ok, Err, IfOk, IfSome}
use Rattle.std.specs.declared.option.Option.{Option}
use Rattle.std.specs.Int.{w32, w64, to_be_bytes, cast_unsigned, cast_signed}
use Rattle.std.specs.Int.RustNames.{FitsSigned}
use Rattle.std.proofs.lemmas.Int.{to_z-of_z}
use Rattle.obs_journal.specs.Parcels.{RawParcel, IsParcel, parcel_bytes}
use Rattle.obs_journal.specs.Formats.{seal, seal_length, room_in}
use Rattle.obs_journal.specs.Files.{NoParcelIn}
use Rattle.obs_journal.specs.Fronts.{head_spelled, with_body, HasRoom, StandsAtFront, StandsBehind, IsInside}
use Rattle.obs_journal.specs.declared.format.Format.{Format}
use Rattle.obs_journal.proofs.Bytes.{length-parcel_bytes}
use Rattle.obs_journal.proofs.Seals.{length-seal, room_is, wrong_seal}
use Rattle.obs_journal.specs.declared.gates.Head.{Head}
use Rattle.obs_journal.specs.declared.gates.Front.{Front}
use Rattle.obs_journal.specs.declared.gates.Front.TheVariants.{Closed, Damaged, Open}

-- the bytes of the parcel of a head and a body
with_body_bytes : (head : Head) (body : List ℕ) → length body + 21 ≡ head.counted → parcel_bytes (with_body head body) ≡ head_spelled head ++ body
unfolding parcel_bytes head_spelled
with_body_bytes head body long =
    let same : 21 + length body ≡ head.counted = omega (arith, long) in
    ap (λ n. to_be_bytes w32 n ++ (to_be_bytes w32 head.caller ++ (to_be_bytes w64 head.number ++ (to_be_bytes w64 (cast_unsigned w64 head.moment) ++ head.verb ∷ []))) ++ body) same

first_and_rest : (bytes : List ℕ) (byte : ℕ) → 1 ≤ length bytes → get_or bytes 0 byte ≡ byte → bytes ≡ byte ∷ drop 1 bytes
first_and_rest [] byte long is = absurd (omega (arith, long))
first_and_rest (b ∷ bytes) byte long is = ap (λ x. x ∷ bytes) is

-- the parcel that is made of a head and a body, its moment kept as bits
pub made_of : (head : Head) (body : List ℕ) → FitsSigned w64 head.moment → record { caller = head.caller; number = head.number; moment = cast_signed w64 (cast_unsigned w64 head.moment); verb = head.verb; body = body } ≡ with_body head body
made_of head body fits = let same = to_z-of_z w64 head.moment fits in λ i. record { caller = head.caller; number = head.number; moment = same i; verb = head.verb; body = body }

-- a head, a body, a seal and what is after them
behind_is : (behind got body own : List ℕ) (n m : ℕ) (head : Head) → got ≡ take m behind → body ≡ take n got → own ≡ drop n got → length body + 21 ≡ head.counted → head_spelled head ++ behind ≡ parcel_bytes (with_body head body) ++ (own ++ drop m behind)
behind_is behind got body own n m head got_is body_is own_is long =
    let whole : got ≡ body ++ own = sym (take-append-drop n got) ∙ ap (λ l. l ++ drop n got) (sym body_is) ∙ ap (λ l. body ++ l) (sym own_is) in
    let parts : behind ≡ body ++ (own ++ drop m behind) = sym (take-append-drop m behind) ∙ ap (λ l. l ++ drop m behind) (sym got_is ∙ whole) ∙ append_assoc body own (drop m behind) in
    ap (λ l. head_spelled head ++ l) parts ∙ sym (append_assoc (head_spelled head) body (own ++ drop m behind)) ∙ ap (λ l. l ++ (own ++ drop m behind)) (sym (with_body_bytes head body long))

-- a parcel with its seal was read behind a head, or with another seal
pub sealed_behind : (f : Format) (last digest behind got body own : List ℕ) (n m : ℕ) (head : Head) (p : RawParcel) → got ≡ take m behind → body ≡ take n got → own ≡ drop n got → length body + 21 ≡ head.counted → p ≡ with_body head body
    → digest ≡ seal f last (parcel_bytes p) → own ≡ digest → (rest : List ℕ) × (head_spelled head ++ behind ≡ parcel_bytes p ++ (seal f last (parcel_bytes p) ++ rest))
sealed_behind f last digest behind got body own n m head p got_is body_is own_is long p_is digest_is own_digest =
    (drop m behind, behind_is behind got body own n m head got_is body_is own_is long ∙ ap (λ (q : RawParcel). parcel_bytes q ++ (own ++ drop m behind)) (sym p_is) ∙ ap (λ l. parcel_bytes p ++ (l ++ drop m behind)) (own_digest ∙ digest_is))

pub wrong_behind : (f : Format) (last digest behind got body own : List ℕ) (n m : ℕ) (head : Head) (p : RawParcel) → got ≡ take m behind → body ≡ take n got → own ≡ drop n got → length body + 21 ≡ head.counted → p ≡ with_body head body
    → digest ≡ seal f last (parcel_bytes p) → IsParcel p → length own ≡ seal_length f → own ≢ digest → NoParcelIn f last (head_spelled head ++ behind)
wrong_behind f last digest behind got body own n m head p got_is body_is own_is long p_is digest_is fits own_long other =
    wrong_seal f last own (drop m behind) (head_spelled head ++ behind) p fits own_long (λ same. other (same ∙ sym digest_is)) (behind_is behind got body own n m head got_is body_is own_is long ∙ ap (λ (q : RawParcel). parcel_bytes q ++ (own ++ drop m behind)) (sym p_is))

-- what holds of each value that a result may be
pub each_ok : {T E : Type 0} (result : Result T E) (P : T → Type 0) → ((value : T) → result ≡ Ok value → P value) → IfOk result P
each_ok (Ok value) P each = each value refl
each_ok (Err fault) P each = tt

-- where a gate and a head stand, what is behind them
gate_read : (file bytes : List ℕ) (gate count : ℕ) (head : Head) → count ≡ 26 → bytes ≡ take count (drop gate file) → bytes ≡ 1 ∷ head_spelled head → drop gate file ≡ 1 ∷ (head_spelled head ++ drop (gate + 26) file)
gate_read file bytes gate count head count_is front spelled =
    sym (take-append-drop 26 (drop gate file)) ∙ ap (λ l. l ++ drop 26 (drop gate file)) (sym (front ∙ ap (λ c. take c (drop gate file)) count_is) ∙ spelled) ∙ ap (λ l. (1 ∷ head_spelled head) ++ l) (drop-drop 26 gate file)

-- a gate after a parcel that is inside
gate_after : (f : Format) (last bytes rest : List ℕ) (p : RawParcel) (left : ℕ) → bytes ≡ 1 ∷ (parcel_bytes p ++ (seal f last (parcel_bytes p) ++ rest)) → length bytes ≡ left → room_in f p < left → rest ≡ get_or rest 0 0 ∷ drop 1 rest
gate_after f last bytes rest p left is long inside =
    let own = seal f last (parcel_bytes p) in
    drop_more rest 0 0 (omega (arith, ap length is, long, inside, length-append (parcel_bytes p) (own ++ rest), length-append own rest, length-parcel_bytes p, length-seal f last (parcel_bytes p), room_is f p))

-- a parcel whose head has room is inside
pub inside_of : (f : Format) (front : Front) (counted left : ℕ) → HasRoom f counted left → ((parcel : RawParcel) (digest : List ℕ) → front ≡ Open parcel digest → length parcel.body + 21 ≡ counted) → IsInside f front left
inside_of f Closed counted left room long = tt
inside_of f Damaged counted left room long = tt
inside_of f (Open parcel digest) counted left room long = omega (arith, long parcel digest refl, room.inside, room_is f parcel)

-- what was read at an open gate
pub front_read : (f : Format) (last : List ℕ) (front : Front) (known : Option (List ℕ)) (bytes : List ℕ) (gate end count : ℕ) (head : Head) → count ≡ 26 → IfSome known (λ file. bytes ≡ take count (drop gate file)) → bytes ≡ 1 ∷ head_spelled head
    → IfSome known (λ file. StandsBehind f last head (drop (gate + 26) file) front) → ((parcel : RawParcel) (digest : List ℕ) → front ≡ Open parcel digest → IsParcel parcel) → IsInside f front (end - gate)
    → IfSome known (λ file. length file ≡ end → StandsAtFront f last (drop gate file) front)
front_read f last Closed known bytes gate end count head count_is whole spelled behind fits inside =
    if_both (λ file. bytes ≡ take count (drop gate file)) (λ file. StandsBehind f last head (drop (gate + 26) file) Closed) (λ file. length file ≡ end → StandsAtFront f last (drop gate file) Closed) known (λ file was none at_end. absurd none) whole behind
front_read f last Damaged known bytes gate end count head count_is whole spelled behind fits inside =
    if_both (λ file. bytes ≡ take count (drop gate file)) (λ file. StandsBehind f last head (drop (gate + 26) file) Damaged) (λ file. length file ≡ end → StandsAtFront f last (drop gate file) Damaged) known
    (λ file was none at_end. (head_spelled head ++ drop (gate + 26) file, gate_read file bytes gate count head count_is was spelled, none)) whole behind
front_read f last (Open parcel digest) known bytes gate end count head count_is whole spelled behind fits inside =
    if_both (λ file. bytes ≡ take count (drop gate file)) (λ file. StandsBehind f last head (drop (gate + 26) file) (Open parcel digest)) (λ file. length file ≡ end → StandsAtFront f last (drop gate file) (Open parcel digest)) known
    (λ file was there at_end.
    let own = seal f last (parcel_bytes parcel) in
    let rest = there.0 in
    let is : drop gate file ≡ 1 ∷ (parcel_bytes parcel ++ (own ++ rest)) = gate_read file bytes gate count head count_is was spelled ∙ ap (λ l. 1 ∷ l) there.1 in
    let more = gate_after f last (drop gate file) rest parcel (end - gate) is (length-drop gate file ∙ ap (λ n. n - gate) at_end) inside in
    (get_or rest 0 0, drop 1 rest, is ∙ ap (λ l. 1 ∷ (parcel_bytes parcel ++ (own ++ l))) more, fits parcel digest refl)) whole behind

-- the gate and the head among the bytes that were read
pub gate_and_head : (bytes all : List ℕ) (byte : ℕ) (head : Head) → all ≡ bytes → 1 ≤ length bytes → byte ≡ get_or bytes 0 byte → byte ≡ 1 → take (length all - 1) (drop 1 all) ≡ head_spelled head → bytes ≡ 1 ∷ head_spelled head
gate_and_head bytes all byte head same long first open_gate spelled =
    let e : get_or bytes 0 1 ≡ 1 = get_or_default bytes 0 1 byte (omega (arith, long)) ∙ sym first ∙ open_gate in
    let rest : drop 1 bytes ≡ head_spelled head = sym (take_all (length bytes - 1) (drop 1 bytes) (omega (arith, length-drop 1 bytes))) ∙ ap (λ (l : List ℕ). take (length l - 1) (drop 1 l)) (sym same) ∙ spelled in
    first_and_rest bytes 1 long e ∙ ap (λ l. 1 ∷ l) rest
