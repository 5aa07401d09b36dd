-- Callers, by their keys and by their numbers.
use Rattle.std.proofs.Common.{◌≡◌, ℕ, ◌≤◌, List, [], ◌∷◌, length, Bool, true, false, cond, Option, Some, refl, sym, ap, ◌∙◌, inl, inr, arith}
use Rattle.std.specs.Prelude.{◌⊎◌, is_some, bytes_eq, ◌==◌}
use Rattle.std.specs.List.{AllByRecursion}
use Rattle.std.proofs.lemmas.Bool.Decides.{nat_tests}
use Rattle.std.proofs.lemmas.Slice.Eq.{bytes_eq-Decides}
use Rattle.act_bodies.specs.declared.key.Key.{Key}
use Rattle.act_bodies.specs.Keys.{same_key, key_text, begins_with_plus}
use Rattle.act_model.specs.declared.roster.Caller.{Caller}
use Rattle.act_model.specs.declared.roster.Member.{Member}
use Rattle.act_model.specs.Roster.{next_caller, enrolled_as, founding_officer, caller_of, key_at}

-- a key is itself
same_key-refl : (key : Key) → same_key key key ≡ true
same_key-refl key = (bytes_eq-Decides (key_text key) (key_text key)).1 refl

-- keys that are one have one text
same_text : (a b : Key) → same_key a b ≡ true → key_text a ≡ key_text b
same_text a b same = (bytes_eq-Decides (key_text a) (key_text b)).0 same

-- the enrolled caller that the newest member is
abbrev newest_as : Member → List Member → Caller
newest_as member older = record { number = next_caller older; rank = member.rank }

-- who has a key depends on its text alone
enrolled_by_text : (members : List Member) (a b : Key) → key_text a ≡ key_text b → enrolled_as members a ≡ enrolled_as members b
enrolled_by_text [] a b same = refl
enrolled_by_text (member ∷ older) a b same =
    ap (λ (text : List ℕ). cond (bytes_eq text (key_text member.key)) (Some (newest_as member older)) (enrolled_as older a)) same
    ∙ ap (λ (o : Option Caller). cond (same_key b member.key) (Some (newest_as member older)) o) (enrolled_by_text older a b same)

caller_by_text : (founder : Key) (members : List Member) (a b : Key) → key_text a ≡ key_text b → caller_of founder members a ≡ caller_of founder members b
caller_by_text founder members a b same =
    ap (λ (text : List ℕ). cond (bytes_eq text (key_text founder)) (Some founding_officer) (enrolled_as members a)) same
    ∙ ap (λ (o : Option Caller). cond (same_key b founder) (Some founding_officer) o) (enrolled_by_text members a b same)

-- who has a key, by the answer of the test on the newest
newest_has : (b : Bool) (newest caller : Caller) (older : Option Caller) → cond b (Some newest) older ≡ Some caller → ((b ≡ true) × (newest ≡ caller)) ⊎ ((b ≡ false) × (older ≡ Some caller))
newest_has true newest caller older found = inl (refl, cc)
newest_has false newest caller older found = inr (refl, found)

-- an enrolled caller's number is one of those that were given
enrolled_within : (members : List Member) (key : Key) (caller : Caller) → enrolled_as members key ≡ Some caller → caller.number ≤ length members
enrolled_within [] key caller found = absurd cc
enrolled_within (member ∷ older) key caller found =
    elim (newest_has (same_key key member.key) (newest_as member older) caller (enrolled_as older key) found) [
      | inl here ↦ let number : next_caller older ≡ caller.number = ap (λ (c : Caller). c.number) here.1 in omega arith
      | inr behind ↦ let within = enrolled_within older key caller behind.1 in omega arith
    ]

-- the key at an enrolled caller's number has the text that the caller was found by
enrolled_key : (founder : Key) (members : List Member) (key : Key) (caller : Caller) → enrolled_as members key ≡ Some caller → key_text (key_at founder members caller.number) ≡ key_text key
enrolled_key founder [] key caller found = absurd cc
enrolled_key founder (member ∷ older) key caller found =
    elim (newest_has (same_key key member.key) (newest_as member older) caller (enrolled_as older key) found) [
      | inl here ↦
          let number : next_caller older ≡ caller.number = ap (λ (c : Caller). c.number) here.1 in
          let test : (caller.number == next_caller older) ≡ true = grind (arith, nat_tests) in
          ap (λ (b : Bool). key_text (cond b member.key (key_at founder older caller.number))) test ∙ sym (same_text key member.key here.0)
      | inr behind ↦
          let within = enrolled_within older key caller behind.1 in
          let test : (caller.number == next_caller older) ≡ false = grind (arith, nat_tests) in
          ap (λ (b : Bool). key_text (cond b member.key (key_at founder older caller.number))) test ∙ enrolled_key founder older key caller behind.1
    ]

-- the founding officer's number is nobody else's
founder_key : (founder : Key) (members : List Member) → key_at founder members 0 ≡ founder
founder_key founder [] = refl
founder_key founder (member ∷ older) =
    let test : (0 == next_caller older) ≡ false = grind (arith, nat_tests) in
    ap (λ (b : Bool). cond b member.key (key_at founder older 0)) test ∙ founder_key founder older

-- the founding officer is found by the founder's key, under the number 0
founder_again : (founder : Key) (members : List Member) (caller : Caller) → founding_officer ≡ caller → caller_of founder members (key_at founder members caller.number) ≡ Some caller
founder_again founder members caller is =
    ap (λ (c : Caller). caller_of founder members (key_at founder members c.number)) (sym is)
    ∙ ap (λ (k : Key). caller_of founder members k) (founder_key founder members)
    ∙ ap (λ (b : Bool). cond b (Some founding_officer) (enrolled_as members founder)) (same_key-refl founder)
    ∙ ap (λ (c : Caller). Some c) is

-- whoever was found by a key is found again by the key at the number
pub caller_again : (founder : Key) (members : List Member) (key : Key) (caller : Caller) → caller_of founder members key ≡ Some caller
    → caller_of founder members (key_at founder members caller.number) ≡ Some caller
caller_again founder members key caller found =
    elim (newest_has (same_key key founder) founding_officer caller (enrolled_as members key) found) [
      | inl here ↦ founder_again founder members caller here.1
      | inr behind ↦ caller_by_text founder members (key_at founder members caller.number) key (enrolled_key founder members key caller behind.1) ∙ found
    ]

-- ---- callers stay

-- a caller with another key doesn't take a caller's place
new_caller : (test : Bool) (members : List Member) (member : Member) (key : Key) (caller : Caller) → same_key key member.key ≡ test
    → is_some (enrolled_as members member.key) ≡ false → enrolled_as members key ≡ Some caller → enrolled_as (member ∷ members) key ≡ Some caller
new_caller true members member key caller is absent behind =
    let here : enrolled_as members member.key ≡ Some caller = sym (enrolled_by_text members key member.key (same_text key member.key is)) ∙ behind in
    let some : is_some (enrolled_as members member.key) ≡ true = ap (λ (o : Option Caller). is_some o) here in
    absurd cc
new_caller false members member key caller is absent behind =
    ap (λ (b : Bool). cond b (Some (newest_as member members)) (enrolled_as members key)) is ∙ behind

pub caller_stays : (founder : Key) (members : List Member) (member : Member) (key : Key) (caller : Caller) → is_some (enrolled_as members member.key) ≡ false
    → caller_of founder members key ≡ Some caller → caller_of founder (member ∷ members) key ≡ Some caller
caller_stays founder members member key caller absent found =
    elim (newest_has (same_key key founder) founding_officer caller (enrolled_as members key) found) [
      | inl here ↦ ap (λ (b : Bool). cond b (Some founding_officer) (enrolled_as (member ∷ members) key)) here.0 ∙ ap (λ (c : Caller). Some c) here.1
      | inr behind ↦
          ap (λ (b : Bool). cond b (Some founding_officer) (enrolled_as (member ∷ members) key)) behind.0
          ∙ new_caller (same_key key member.key) members member key caller refl absent behind.1
    ]

-- ---- another founder

-- no enrolled caller's key begins with a plus
abbrev pub ArePlain : List Member → Type 0
ArePlain members = AllByRecursion (λ member. begins_with_plus (key_text member.key) ≡ false) members

enrolled_plain : (members : List Member) (key : Key) (caller : Caller) → ArePlain members → enrolled_as members key ≡ Some caller → begins_with_plus (key_text key) ≡ false
enrolled_plain [] key caller plain found = absurd cc
enrolled_plain (member ∷ older) key caller (here, others) found =
    elim (newest_has (same_key key member.key) (newest_as member older) caller (enrolled_as older key) found) [
      | inl newest ↦ ap begins_with_plus (same_text key member.key newest.0) ∙ here
      | inr behind ↦ enrolled_plain older key caller others behind.1
    ]

-- a key without a plus isn't a founder's
not_founder : (test : Bool) (key founder : Key) → same_key key founder ≡ test → begins_with_plus (key_text key) ≡ false → begins_with_plus (key_text founder) ≡ true → same_key key founder ≡ false
not_founder true key founder is plain plus = let same = ap begins_with_plus (same_text key founder is) in absurd cc
not_founder false key founder is plain plus = is

-- whoever was found under one founder is found under another
pub caller_under : (founder other : Key) (members : List Member) (key : Key) (caller : Caller) → ArePlain members → begins_with_plus (key_text other) ≡ true → caller_of founder members key ≡ Some caller
    → caller_of other members (key_at other members caller.number) ≡ Some caller
caller_under founder other members key caller plain plus found =
    elim (newest_has (same_key key founder) founding_officer caller (enrolled_as members key) found) [
      | inl here ↦ founder_again other members caller here.1
      | inr behind ↦
          let is = not_founder (same_key key other) key other refl (enrolled_plain members key caller plain behind.1) plus in
          caller_by_text other members (key_at other members caller.number) key (enrolled_key other members key caller behind.1)
          ∙ ap (λ (b : Bool). cond b (Some founding_officer) (enrolled_as members key)) is
          ∙ behind.1
    ]
