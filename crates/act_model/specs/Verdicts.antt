-- Verdicts on the orbits of objects, and by which deeds they are voided.
use Rattle.std.specs.Prelude.{ℕ, List, [], ◌∷◌, ◌++◌, Option, Some, None}
use Rattle.std.specs.Option.{option_and_then}
use Rattle.packed_names.specs.declared.name.Designation.{Designation}
use Rattle.identify_core.specs.Acts.{LinkAct, principal}
use Rattle.numbering_core.specs.Verdicts.{VerdictAct}
use Rattle.numbering_core.specs.Verdicts.VerdictAct.{Set, Voided}
use Rattle.tracklet_file.specs.Observations.{track_of}
use Rattle.tracklet_file.specs.Tracklets.{home_of}
use Rattle.act_model.specs.declared.deed.Deed.{Deed}
use Rattle.act_model.specs.declared.deed.Deed.TheVariants.{Attributed, Released, Identified, Separated, Judged}
use Rattle.act_model.specs.declared.deed.Deed.TheVariants.{Retracted}
use Rattle.act_model.specs.Holdings.{Holdings, holdings}
use Rattle.act_model.specs.Designations.{links_of}

-- the principal of the object that a tracklet is in, and that of the object that an observation's tracklet is in
abbrev pub object_of_track : Holdings → List LinkAct → ℕ → Option Designation
object_of_track held acts t = option_and_then (principal acts) (home_of held.tracklets t)

abbrev pub object_of_seen : Holdings → List LinkAct → ℕ → Option Designation
object_of_seen held acts k = option_and_then (object_of_track held acts) (track_of held.observations k)

-- the verdict on an object is voided
abbrev pub voided_verdicts : Option Designation → List VerdictAct
voided_verdicts None = []
voided_verdicts (Some p) = Voided p ∷ []

-- What a deed does to verdicts, where so much is held and these are the links. A verdict sets U and the oppositions.
-- One on an object is voided by what touches the object: a tracklet that is added to it or is taken out of it, its
-- identification with another one, the separation of a secondary, and the retraction of an observation of it. A batch
-- voids none.
abbrev pub judged_by : Holdings → List LinkAct → Deed → List VerdictAct
judged_by held acts (Judged p u oppositions) = Set p u oppositions ∷ []
judged_by held acts (Attributed t to) = voided_verdicts (principal acts to)
judged_by held acts (Released t) = voided_verdicts (object_of_track held acts t)
judged_by held acts (Identified p s) = Voided p ∷ Voided s ∷ []
judged_by held acts (Separated s) = voided_verdicts (principal acts s)
judged_by held acts (Retracted k) = voided_verdicts (object_of_seen held acts k)
judged_by held acts _ = []

-- what all deeds did, the newest first
abbrev pub verdicts_of : List Deed → List VerdictAct
verdicts_of [] = []
verdicts_of (deed ∷ past) = judged_by (holdings past) (links_of past) deed ++ verdicts_of past
