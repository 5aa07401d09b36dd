-- The callers on the roster, and the index of their keys.
use Rattle.std.specs.Prelude.{◌≡◌, ℕ, List, reverse, Option}
use Rattle.std.specs.Option.{option_map}
use Rattle.std.specs.declared.cmp.Ordering.{Ordering}
use Rattle.ordered_list.specs.Orders.{found}
use Rattle.act_bodies.specs.declared.key.Key.{Key}
use Rattle.act_model.specs.declared.roster.Caller.{Caller}
use Rattle.act_model.specs.declared.roster.Member.{Member}
use Rattle.act_model.specs.Roster.{enrolled_as, founding_officer}
use Rattle.desk_core.specs.declared.known_key.KnownKey.{KnownKey}

-- the callers in the order in which they were enrolled, and for how many more there is room
pub record RosterValue : Type 0 where
  pub items : List Member
  pub room : ℕ

-- an item of the index that finds the one with this key
abbrev pub key_item : Key → KnownKey
key_item key = record { key = key; caller = founding_officer }

-- the caller that an item gives
abbrev pub known_caller : Option KnownKey → Option Caller
known_caller item = option_map (λ k. k.caller) item

-- each key finds the caller who has it, the newest where several have, and nobody where no caller has
abbrev pub IsIndexed : (KnownKey → KnownKey → Ordering) → List KnownKey → List Member → Type 0
IsIndexed cmp keys members =
    (key : Key) → known_caller (found cmp (key_item key) keys) ≡ enrolled_as (reverse members) key
