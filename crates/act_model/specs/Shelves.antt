-- What can be read of the office: the places of observations, the heads of tracklets, and the live observations of
-- objects in the order of their times.
use Rattle.std.specs.Prelude.{ℕ, suc, zero, Bool, is_none, if◌then◌else◌, List, [], ◌∷◌, ◌++◌, length, map, filter}
use Rattle.std.specs.Prelude.{filter_map, Option, Some, None, option_map, unwrap_or}
use Rattle.packed_names.specs.declared.name.Designation.{Designation}
use Rattle.identify_core.specs.Acts.{LinkAct, principal}
use Rattle.tracklet_file.specs.declared.observation.Observation.{Observation}
use Rattle.tracklet_file.specs.declared.tracklet.Tracklet.{Tracklet}
use Rattle.tracklet_file.specs.Numbering.{numbered}
use Rattle.tracklet_file.specs.Tracklets.{home_of}
use Rattle.act_model.specs.declared.reply.Reply.{Reply}
use Rattle.act_model.specs.declared.reply.Reply.TheVariants.{Done}
use Rattle.act_model.specs.declared.seen.Seen.{Seen}
use Rattle.act_model.specs.declared.shelf.Place.{Place}
use Rattle.act_model.specs.declared.shelf.Place.TheVariants.{Retracted, Isolated, Object}
use Rattle.act_model.specs.declared.shelf.TrackHead.{TrackHead}
use Rattle.act_model.specs.Discoveries.{seen_at, is_sooner}
use Rattle.act_model.specs.Holdings.{Holdings}
use Rattle.act_model.specs.History.{Kept}
use Rattle.act_model.specs.Places.{object_of}
use Rattle.act_model.specs.Replies.{entry_answer}

-- ---- places

-- the principal designation of the object that a designation belongs to; each home is one that the office gave, and so
-- has one
abbrev pub principal_by : List LinkAct → Designation → Designation
principal_by acts d = unwrap_or (principal acts d) d

-- the place of a live observation whose tracklet has this home
abbrev pub place_at_home : List LinkAct → Option Designation → Place
place_at_home acts None = Isolated
place_at_home acts (Some home) = Object (principal_by acts home)

-- the place of an observation: retracted, or else where its tracklet is
abbrev pub place_of_observation : Holdings → List LinkAct → Observation → Place
place_of_observation held acts o = if o.live then place_at_home acts (home_of held.tracklets o.track) else Retracted

abbrev pub place_of : Holdings → List LinkAct → ℕ → Option Place
place_of held acts k = option_map (place_of_observation held acts) (numbered held.observations k)

-- ---- tracklets

-- what is known of a tracklet beside its observations
abbrev pub head_of : Tracklet → TrackHead
head_of t = record { name = t.name; station = t.station; home = t.home }

abbrev pub track_head : List Tracklet → ℕ → Option TrackHead
track_head tracklets t = option_map head_of (numbered tracklets t)

-- the numbers from 1 to this one
abbrev pub numbers_to : ℕ → List ℕ
numbers_to zero = []
numbers_to (suc n) = numbers_to n ++ suc n ∷ []

-- the tracklet has no home
abbrev pub has_no_home : List Tracklet → ℕ → Bool
has_no_home tracklets t = is_none (home_of tracklets t)

-- the isolated tracklets, by number
abbrev pub isolated_tracklets : List Tracklet → List ℕ
isolated_tracklets tracklets = filter (has_no_home tracklets) (numbers_to (length tracklets))

-- ---- observations by time

-- an observation put in its place among others that stand by time, ties by number
abbrev pub placed_by_time : Seen → List Seen → List Seen
placed_by_time s [] = s ∷ []
placed_by_time s (next ∷ more) = if is_sooner next s then next ∷ placed_by_time s more else s ∷ next ∷ more

-- observations by time, ties by number
abbrev pub by_time : List Seen → List Seen
by_time [] = []
by_time (s ∷ more) = placed_by_time s (by_time more)

-- the live ones among observations with these numbers, by time
abbrev pub live_by_time : List Observation → List ℕ → List ℕ
live_by_time observations numbers = map (λ s. s.number) (by_time (filter_map (seen_at observations) numbers))

-- the live observations of the object with this principal, by time
abbrev pub live_of : Holdings → List LinkAct → Designation → List ℕ
live_of held acts p = live_by_time held.observations (object_of held acts p)

-- ---- kept replies

-- the reply of an entry, worked out at the history before it
abbrev pub reply_kept : Option Kept → Option Reply
reply_kept kept = option_map (λ k. Done (entry_answer k.before k.entry)) kept
