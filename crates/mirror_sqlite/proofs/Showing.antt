-- What a row that shows an object or an observation has in its columns, and what is no designation.
use Rattle.std.proofs.Common.{◌≡◌, ◌↔◌, ◌⊎◌, inl, inr, ℕ, ◌≤◌, true, List, [], length, Result, Ok, ap, sym, subst, arith}
use Rattle.obs_time.specs.Instants.{IsInstantNs}
use Rattle.packed_names.specs.declared.label.Label.{Label}
use Rattle.packed_names.specs.declared.name.Designation.{Designation}
use Rattle.packed_names.specs.declared.name.Name.{Name}
use Rattle.packed_names.specs.declared.name.Name.TheVariants as names
use Rattle.packed_names.specs.declared.name.NameFault.{NameFault}
use Rattle.packed_names.specs.declared.number.TheConstants.{GREATEST_NUMBER}
use Rattle.packed_names.specs.Printed.{IsPrintedAs}
use Rattle.packed_names.specs.Ranges.{IsNumber}
use Rattle.act_bodies.specs.Members.{is_station_code}
use Rattle.sqlite.specs.declared.types.Value.TheVariants.{Text as Words}
use Rattle.sqlite.specs.Order.{Row, column}
use Rattle.mirror_store.specs.Rows.{IsPrintedDesignation, IsEmpty}
use Rattle.mirror_sqlite.specs.Stored.{name_text, code_text}
use Rattle.mirror_sqlite.specs.Shown.{IsCount, greatest_count, IsIntegerIn, IsRightAscension, IsDeclination, IsDesignationText}
use Rattle.mirror_sqlite.specs.Shown.{ShowsObject, ShowsSight}

-- a text that is read as no designation is the printed form of none
pub not_printed : (read : Result Name NameFault) (text : List ℕ)
    → ((name : Name) → (read ≡ Ok name) ↔ IsPrintedAs name text)
    → ((d : Designation) → ¬ (read ≡ Ok (names.Designation d))) → ¬ IsDesignationText text
not_printed read text exactly other (d, printed) = other d ((exactly (names.Designation d)).1 printed)

-- the text of a designation's label is printed
is_text : (label : Label) → IsPrintedDesignation label → IsDesignationText (name_text label)
is_text label (d, text, printed, held) = (d, subst (λ t. IsPrintedAs (names.Designation d) t) (sym held.text_is) printed)

-- the text of such a label or of an empty one
is_text_or_none : (label : Label) → IsPrintedDesignation label ⊎ IsEmpty label
    → IsDesignationText (name_text label) ⊎ (name_text label ≡ [])
is_text_or_none label (inl printed) = inl (is_text label printed)
is_text_or_none label (inr empty) = inr empty.text_is

-- a number or 0 is no greater than the greatest one
number_fits : (n : ℕ) → (n ≡ 0) ⊎ IsNumber n → n ≤ GREATEST_NUMBER
number_fits n (inl none) = omega arith
number_fits n (inr number) = omega arith

-- the columns of a row that shows an object
pub record ObjectColumns (row : Row) : Type 0 where
  pub columns : length row ≡ 4
  pub place : IsCount greatest_count (column row 0)
  pub principal : (text : List ℕ) × IsDesignationText text × (column row 1 ≡ Words text)
  pub number : IsCount GREATEST_NUMBER (column row 2)
  pub observations : IsCount greatest_count (column row 3)

pub object_columns : (row : Row) → ShowsObject row → ObjectColumns row
object_columns row (object, within, place, observations, is) = record {
  columns = ap length is;
  place = (object.place, place, ap (λ (r : Row). column r 0) is);
  principal = (name_text object.principal, is_text object.principal within.principal, ap (λ (r : Row). column r 1) is);
  number = (object.number, number_fits object.number within.number, ap (λ (r : Row). column r 2) is);
  observations = (object.observations, observations, ap (λ (r : Row). column r 3) is);
}

-- the columns of a row that shows an observation
pub record SightColumns (row : Row) : Type 0 where
  pub columns : length row ≡ 6
  pub id : IsCount greatest_count (column row 0)
  pub object : (text : List ℕ) × (IsDesignationText text ⊎ (text ≡ [])) × (column row 1 ≡ Words text)
  pub time : IsIntegerIn IsInstantNs (column row 2)
  pub ra : IsIntegerIn IsRightAscension (column row 3)
  pub dec : IsIntegerIn IsDeclination (column row 4)
  pub station : (code : List ℕ) × (is_station_code code ≡ true) × (column row 5 ≡ Words code)

pub sight_columns : (row : Row) → ShowsSight row → SightColumns row
sight_columns row (sight, within, id, is) = record {
  columns = ap length is;
  id = (sight.id, id, ap (λ (r : Row). column r 0) is);
  object = (name_text sight.object, is_text_or_none sight.object within.object, ap (λ (r : Row). column r 1) is);
  time = (sight.time, within.time, ap (λ (r : Row). column r 2) is);
  ra = (sight.ra, within.ra, ap (λ (r : Row). column r 3) is);
  dec = (sight.dec, within.dec, ap (λ (r : Row). column r 4) is);
  station = (code_text sight.station, within.station.1, ap (λ (r : Row). column r 5) is);
}
