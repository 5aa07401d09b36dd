-- What a deed asks of the file of observations and tracklets.
use Rattle.std.specs.Prelude.{ℕ, length, if◌then◌else◌, IsTrue}
use Rattle.tracklet_file.specs.Contents.{Contents}
use Rattle.tracklet_file.specs.Observations.{is_live}
use Rattle.tracklet_file.specs.Tracklets.{IsTracklet}
use Rattle.act_model.specs.Fitting.{AreTracklets}
use Rattle.act_model.specs.declared.deed.Deed.{Deed}
use Rattle.act_model.specs.declared.deed.Deed.TheVariants.{Submitted, Designated, Attributed, Released, Retracted}
use Rattle.act_model.specs.declared.taken.Taken.{Taken}
use Rattle.act_model.specs.Taken.{is_accepted}
use Rattle.desk_core.specs.Office.{AreTracked}

-- how many observations a line adds
abbrev pub is_added : Taken → ℕ
is_added taken = if is_accepted taken then 1 else 0

-- the tracklets of a batch's lines are there or begin one after the other, those that get a home or lose it are there,
-- and what is retracted is live
abbrev pub HoldsDeed : Contents → Deed → Type 0
HoldsDeed file (Submitted lines) = AreTracked (length file.tracklets) lines
HoldsDeed file (Designated tracklets given discovery) = AreTracklets file.tracklets tracklets
HoldsDeed file (Attributed t to) = IsTracklet file.tracklets t
HoldsDeed file (Released t) = IsTracklet file.tracklets t
HoldsDeed file (Retracted k) = IsTrue (is_live file.observations k)
HoldsDeed file _ = Unit {0}
