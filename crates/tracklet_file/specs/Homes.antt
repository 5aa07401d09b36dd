-- The index of homes: an entry for each tracklet that was given to a designation, by the designation and its number.
use Rattle.std.specs.Prelude.{◌≡◌, ◌≤◌, ℕ, Bool, false, List, Option, Some, None, is_some, is_none, count_by}
use Rattle.std.specs.Prelude.{if◌then◌else◌}
use Rattle.std.specs.Ordering.{eq_by_cmp}
use Rattle.std.specs.declared.cmp.Ordering.{Ordering}
use Rattle.packed_names.specs.declared.name.Designation.{Designation}
use Rattle.packed_names.specs.Order.{designation_cmp}
use Rattle.ordered_list.specs.Orders.{ties, found}
use Rattle.tracklet_file.specs.declared.homes.HomeEntry.{HomeEntry}
use Rattle.tracklet_file.specs.declared.tracklet.Tracklet.{Tracklet}
use Rattle.tracklet_file.specs.Tracklets.{home_of, is_home}

-- the entry of a tracklet that was given to the designation
abbrev pub home_entry : Designation → ℕ → HomeEntry
home_entry d t = record { home = d; track = t }

-- the key is that of the tracklet's entry; an isolated tracklet has none
abbrev pub is_entry : (HomeEntry → HomeEntry → Ordering) → HomeEntry → Option Designation → ℕ → Bool
is_entry cmp key None t = false
is_entry cmp key (Some d) t = ties cmp key (home_entry d t)

-- the index has an entry for a designation and a number exactly where the tracklet with the number was given to the
-- designation
abbrev pub AreHomed : (HomeEntry → HomeEntry → Ordering) → List HomeEntry → List Tracklet → Type 0
AreHomed cmp entries tracklets =
    (d : Designation) (t : ℕ) → is_some (found cmp (home_entry d t) entries) ≡ is_home d (home_of tracklets t)

-- how many tracklets have no home
abbrev pub isolated_tracks_in : List Tracklet → ℕ
isolated_tracks_in tracklets = count_by (λ tracklet. is_none tracklet.home) tracklets

-- the entries of the index, for how many more there is room, and how many tracklets are counted as isolated
pub record KeptHomes : Type 0 where
  pub entries : List HomeEntry
  pub room : ℕ
  pub isolated : ℕ

-- entries and count are those of the tracklets, and there is room for an entry of each isolated one
pub record IsHomed (cmp : HomeEntry → HomeEntry → Ordering) (tracklets : List Tracklet) (homes : KeptHomes) : Type 0
  where
    pub entered : AreHomed cmp homes.entries tracklets
    pub isolated_are : homes.isolated ≡ isolated_tracks_in tracklets
    pub enough : homes.isolated ≤ homes.room

-- the tracklet's number, where the entry is one of the designation
abbrev pub number_at : Designation → Option HomeEntry → Option ℕ
number_at d None = None
number_at d (Some entry) = if eq_by_cmp designation_cmp entry.home d then Some entry.track else None
