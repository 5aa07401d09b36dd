-- The roster: the founding officer, who is caller 0, and the callers that were enrolled, 1, 2, 3 and so on in order.
use Rattle.std.specs.Prelude.{◌≡◌, ℕ, ◌+◌, ◌≤◌, Bool, true, false, ◌==◌, if◌then◌else◌, List, [], ◌∷◌, length, Option}
use Rattle.std.specs.Prelude.{Some, None}
use Rattle.act_bodies.specs.declared.key.Key.{Key}
use Rattle.act_bodies.specs.declared.enrol.Rank.{Rank}
use Rattle.act_bodies.specs.declared.enrol.Rank.TheVariants.{Observer, Officer}
use Rattle.act_bodies.specs.Keys.{key_text, same_key, begins_with_plus}
use Rattle.act_model.specs.declared.deed.Deed.{Deed}
use Rattle.act_model.specs.declared.deed.Deed.TheVariants.{Enrolled}
use Rattle.act_model.specs.declared.roster.Member.{Member}
use Rattle.act_model.specs.declared.roster.Caller.{Caller}

-- an enrolment adds a caller, and no other deed does; the newest stands first
abbrev pub with_enrolled : Deed → List Member → List Member
with_enrolled (Enrolled member) members = member ∷ members
with_enrolled _ members = members

-- the callers that were enrolled, the newest first
abbrev pub members : List Deed → List Member
members [] = []
members (deed ∷ past) = with_enrolled deed (members past)

-- the number that the next caller gets: the founding officer has 0
abbrev pub next_caller : List Member → ℕ
next_caller enrolled = length enrolled + 1

-- the enrolled caller with this key
abbrev pub enrolled_as : List Member → Key → Option Caller
enrolled_as [] key = None
enrolled_as (member ∷ older) key =
    if same_key key member.key then Some (record { number = next_caller older; rank = member.rank })
    else enrolled_as older key

-- the founding officer
abbrev pub founding_officer : Caller
founding_officer = record { number = 0; rank = Officer }

-- the caller with this key, the founding officer's first
abbrev pub caller_of : Key → List Member → Key → Option Caller
caller_of founder enrolled key = if same_key key founder then Some founding_officer else enrolled_as enrolled key

-- the key of the caller with this number
abbrev pub key_at : Key → List Member → ℕ → Key
key_at founder [] caller = founder
key_at founder (member ∷ older) caller = if caller == next_caller older then member.key else key_at founder older caller

abbrev pub is_observer : Rank → Bool
is_observer Observer = true
is_observer Officer = false

-- a founding officer's key begins with a plus, as no enrolled caller's does, and has at most 33 bytes
abbrev pub IsFounder : Key → Type 0
IsFounder key = (begins_with_plus (key_text key) ≡ true) × (length (key_text key) ≤ 33)
