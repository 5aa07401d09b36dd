-- The comets of a register, and the indexes by which they are found.
use Rattle.std.specs.Prelude.{◌≡◌, ℕ, List, length, Option}
use Rattle.std.specs.List.{AllByRecursion}
use Rattle.std.specs.Option.{option_map, option_map_or}
use Rattle.std.specs.declared.cmp.Ordering.{Ordering}
use Rattle.packed_names.specs.declared.half_month.HalfMonth.{HalfMonth}
use Rattle.packed_names.specs.declared.name.Designation.{Designation}
use Rattle.ordered_list.specs.Orders.{found}
use Rattle.comet_names.specs.declared.comet.Comet.{Comet}
use Rattle.comet_model.specs.declared.named.NamedComet.{NamedComet}
use Rattle.comet_model.specs.Comets.{count_in, comet_of}
use Rattle.comet_model.specs.Texts.{packed_comet_text}
use Rattle.comet_model.specs.Translation.{object_named}
use Rattle.comet_core.specs.declared.index.Count.{Count}
use Rattle.comet_core.specs.declared.index.KnownObject.{KnownObject}
use Rattle.comet_core.specs.declared.names.KnownName.{KnownName}
use Rattle.comet_core.specs.Names.{object_of}

-- the comets, the newest first, and for how many more there is room
pub record CometsValue : Type 0 where
  pub items : List NamedComet
  pub room : ℕ

-- the item of a half-month that has this many comets
abbrev pub count_key : HalfMonth → ℕ → Count
count_key half comets = record { half = half; comets = comets }

-- how many an item gives
abbrev pub count_by : Option Count → ℕ
count_by item = option_map_or (λ count. count.comets) item 0

-- the item of a designation that has this name
abbrev pub object_key : Designation → Comet → KnownObject
object_key object comet = record { object = object; comet = comet }

-- the name that an item gives
abbrev pub comet_by : Option KnownObject → Option Comet
comet_by item = option_map (λ known. known.comet) item

-- each packed name has eight characters
abbrev pub AreLong : List NamedComet → Type 0
AreLong named = AllByRecursion (λ n. length (packed_comet_text n.comet) ≡ 8) named

-- Each packed name has eight characters. Each half-month finds how many comets it has, each designation its name, and
-- each packed name its designation; what else is in the key plays no part.
pub record AreKept (count_cmp : Count → Count → Ordering) (object_cmp : KnownObject → KnownObject → Ordering)
    (named : List NamedComet) (counts : List Count) (objects : List KnownObject) (names : List KnownName)
    : Type 0 where
  pub long : AreLong named
  pub counted : (half : HalfMonth) → count_by (found count_cmp (count_key half 0) counts) ≡ count_in half named
  pub by_object : (d : Designation) (comet : Comet) → comet_by (found object_cmp (object_key d comet) objects)
      ≡ comet_of d named
  pub by_name : (text : List ℕ) → object_of names text ≡ object_named named text
