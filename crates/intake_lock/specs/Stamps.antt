-- The stamps of a keeper, and how they go on.
use Rattle.std.specs.Prelude.{◌≡◌, ◌≤◌, List, ◌++◌, Option, Some, None, IsSomeAnd, Contains}
use Rattle.act_model.specs.declared.keeper.Stamp.{Stamp}
use Rattle.act_model.specs.declared.keeper.Stamps.{Stamps}

-- this stamp was given
abbrev pub Gave : Option Stamps → Stamp → Type 0
Gave None stamp = ⊥
Gave (Some stamps) stamp = Contains stamps.given stamp

-- the moment is no earlier, and newer stamps may stand after these
pub record GoesOn (before after : Stamps) : Type 0 where
  pub later : before.moment ≤ after.moment
  pub newer : List Stamp
  pub grown : after.given ≡ before.given ++ newer

-- these stamps go on from those; no act is stamped where none was
abbrev pub StampsOn : Option Stamps → Option Stamps → Type 0
StampsOn None after = after ≡ None
StampsOn (Some stamps) after = IsSomeAnd after (GoesOn stamps)
