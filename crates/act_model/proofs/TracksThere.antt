-- The tracklet of each observation is there.
use Rattle.std.proofs.Common.{◌≡◌, ℕ, ℤ, ◌+◌, ◌≤◌, List, [], ◌∷◌, length, Bool, true, false, cond, Option, Some, None, Result, Ok, Err, refl, sym, ap, suc, ◌∙◌, subst, arith, max, eqb-true}
use Rattle.std.specs.Prelude.{◌==◌, nat_le}
use Rattle.std.proofs.lemmas.Bool.Decides.{nat_tests}
use Rattle.obs_record.specs.declared.line.Line.{Line}
use Rattle.obs_record.specs.declared.rule.RuleCode.{RuleCode}
use Rattle.obs_record.specs.declared.sighting.Sighting.{Sighting}
use Rattle.packed_names.specs.declared.name.Designation.{Designation}
use Rattle.tracklet_file.specs.declared.observation.Observation.{Observation}
use Rattle.tracklet_file.specs.declared.tracklet.Tracklet.{Tracklet}
use Rattle.tracklet_file.specs.Numbering.{next_number, numbered}
use Rattle.tracklet_file.specs.Observations.{with_retraction}
use Rattle.tracklet_file.specs.Tracklets.{with_tracklet, with_home}
use Rattle.act_model.specs.declared.act.Act.{Act}
use Rattle.act_model.specs.declared.act.Act.TheVariants as act
use Rattle.act_model.specs.declared.deed.Deed.{Deed}
use Rattle.act_model.specs.declared.deed.Deed.TheVariants.{Submitted}
use Rattle.act_model.specs.declared.entry.Entry.{Entry}
use Rattle.act_model.specs.declared.ruling.Ruling.{Ruling}
use Rattle.act_model.specs.declared.taken.Placed.{Placed}
use Rattle.act_model.specs.declared.taken.Taken.{Taken}
use Rattle.act_model.specs.BatchRules.{name_of, batch_rulings}
use Rattle.act_model.specs.Deeds.{deeds}
use Rattle.act_model.specs.Designations.{row_acts_of}
use Rattle.act_model.specs.Doing.{taken_after, does}
use Rattle.act_model.specs.Holdings.{Holdings, with_found, with_batch, with_homes, with_deed, holdings}
use Rattle.act_model.specs.Knowing.{known_of}
use Rattle.act_model.specs.Known.{KnownOffice}
use Rattle.act_model.specs.OfficeTables.{tables_of}
use Rattle.act_model.specs.Taken.{track_of_group, found_in, tracks_with, taken_lines}
use Rattle.act_model.proofs.DeedCases.{deed_cases}
use Rattle.act_model.proofs.Designating.{designated}
use Rattle.act_model.proofs.Legal.{by_deed}

abbrev IsThere : ℕ → ℕ → Type 0
IsThere n track = (1 ≤ track) × (track ≤ n)

-- the tracklets of all are among this many
abbrev pub AreThere : ℕ → List Observation → Type 0
AreThere n [] = Unit {0}
AreThere n (o ∷ observations) = IsThere n o.track × AreThere n observations

there_more : (n m : ℕ) → n ≤ m → (observations : List Observation) → AreThere n observations → AreThere m observations
there_more n m more [] are = tt
there_more n m more (o ∷ observations) are = ((are.0.0, omega (arith, are.0.1, more)), there_more n m more observations are.1)

there_at : (n : ℕ) (observations : List Observation) (k : ℕ) (o : Observation) → AreThere n observations → numbered observations k ≡ Some o → IsThere n o.track
there_at n [] k o all found = absurd cc
there_at n (newest ∷ older) k o all found = by (k == next_number older) (there_at n older k o all.1) found
  where
    by : (b : Bool) → (numbered older k ≡ Some o → IsThere n o.track) → cond b (Some newest) (numbered older k) ≡ Some o → IsThere n o.track
    by true rest is = let same : newest ≡ o = cc in subst (λ (x : Observation). IsThere n x.track) same all.0
    by false rest is = rest is

there_retracted : (n : ℕ) (observations : List Observation) (k : ℕ) → AreThere n observations → AreThere n (with_retraction observations k)
there_retracted n [] k all = tt
there_retracted n (newest ∷ older) k all = by (k == next_number older) (there_retracted n older k all.1)
  where
    by : (b : Bool) → AreThere n (with_retraction older k) → AreThere n (cond b (record newest { live = false } ∷ older) (newest ∷ with_retraction older k))
    by true rest = (all.0, all.1)
    by false rest = (all.0, rest)

length-with_home : (tracklets : List Tracklet) (t : ℕ) (home : Option Designation) → length (with_home tracklets t home) ≡ length tracklets
length-with_home [] t home = refl
length-with_home (newest ∷ older) t home = by (t == next_number older) (length-with_home older t home)
  where
    by : (b : Bool) → length (with_home older t home) ≡ length older → length (cond b (record newest { home = home } ∷ older) (newest ∷ with_home older t home)) ≡ length (newest ∷ older)
    by true rest = refl
    by false rest = ap suc rest

length-with_homes : (tracklets : List Tracklet) (ts : List ℕ) (home : Option Designation) → length (with_homes tracklets ts home) ≡ length tracklets
length-with_homes tracklets [] home = refl
length-with_homes tracklets (t ∷ more) home = length-with_homes (with_home tracklets t home) more home ∙ length-with_home tracklets t home

-- ---- lines that were taken

abbrev pub IsFoundThere : ℕ → Result Placed RuleCode → Type 0
IsFoundThere now (Ok placed) = IsThere (now + 1) placed.track
IsFoundThere now (Err rule) = Unit {0}

abbrev pub AreTakenThere : ℕ → List Taken → Type 0
AreTakenThere now [] = Unit {0}
AreTakenThere now (taken ∷ lines) = IsFoundThere now taken.found × AreTakenThere (tracks_with now taken.found) lines

-- the tracklets are this many, and have all observations
record Stands (held : Holdings) (now : ℕ) : Type 0 where
  count : length held.tracklets ≡ now
  there : AreThere now held.observations

begun_by : (b : Bool) (placed : Placed) (tracklets : List Tracklet) (now : ℕ) → length tracklets ≡ now → (placed.track == now + 1) ≡ b → IsThere (now + 1) placed.track
    → length (cond b (with_tracklet tracklets (name_of placed.sighting) placed.sighting.station placed.home) tracklets) ≡ max now placed.track
begun_by true placed tracklets now count same is = let e : placed.track ≡ now + 1 = eqb-true placed.track (now + 1) same in omega (arith, count)
begun_by false placed tracklets now count other is = let e : placed.track ≤ now = grind (arith, nat_tests) in omega (arith, count)

found_stands : (receipt : ℕ) (found : Result Placed RuleCode) (held : Holdings) (now : ℕ) → IsFoundThere now found → Stands held now → Stands (with_found receipt found held) (tracks_with now found)
found_stands receipt (Err rule) held now is stands = stands
found_stands receipt (Ok placed) held now is stands =
    let next : next_number held.tracklets ≡ now + 1 = ap (λ (n : ℕ). n + 1) stands.count in
    record {
      count = begun_by (placed.track == next_number held.tracklets) placed held.tracklets now stands.count (ap (λ (n : ℕ). placed.track == n) (sym next)) is;
      there = ((is.0, omega arith), there_more now (max now placed.track) (omega arith) held.observations stands.there);
    }

batch_stands : (receipt : ℕ) (lines : List Taken) (held : Holdings) (now : ℕ) → AreTakenThere now lines → Stands held now → AreThere (length (with_batch receipt lines held).tracklets) (with_batch receipt lines held).observations
batch_stands receipt [] held now are stands = subst (λ (n : ℕ). AreThere n held.observations) (sym stands.count) stands.there
batch_stands receipt (taken ∷ lines) held now are stands =
    batch_stands receipt lines (with_found receipt taken.found held) (tracks_with now taken.found) are.1 (found_stands receipt taken.found held now are.0 stands)

-- the tracklet of a group is there, or it is the next one
track_there : (before now group : ℕ) → IsThere (now + 1) (track_of_group before now group)
track_there before now group = by (nat_le (before + group + 1) now) refl
  where
    by : (is_begun : Bool) → nat_le (before + group + 1) now ≡ is_begun → IsThere (now + 1) (cond is_begun (before + group + 1) (now + 1))
    by true is = (omega arith, grind (arith, nat_tests))
    by false is = (omega arith, omega arith)

found_there : (known : KnownOffice) (before now group : ℕ) (read : Result Sighting RuleCode) (fault : Option RuleCode) → IsFoundThere now (found_in known (track_of_group before now group) read fault)
found_there known before now group read (Some rule) = tt
found_there known before now group (Ok s) None = track_there before now group
found_there known before now group (Err rule) None = tt

lines_there : (known : KnownOffice) (before now : ℕ) (lines : List Line) (rulings : List Ruling) → AreTakenThere now (taken_lines known before now lines rulings)
lines_there known before now [] rulings = tt
lines_there known before now (line ∷ lines) [] = tt
lines_there known before now (line ∷ lines) (ruling ∷ rulings) = (
  found_there known before now ruling.group line.read ruling.fault,
  lines_there known before (tracks_with now (found_in known (track_of_group before now ruling.group) line.read ruling.fault)) lines rulings,
)

-- ---- deeds

module _ (past : List Deed) (moment : ℤ) (all : AreThere (length (holdings past).tracklets) (holdings past).observations) where
  abbrev keeps : Deed → Type 0
  keeps deed = AreThere (length (with_deed (next_number past) deed (holdings past)).tracklets) (with_deed (next_number past) deed (holdings past)).observations

  submit_keeps : (lines : List Line) → keeps (Submitted (taken_after past moment lines))
  submit_keeps lines =
      let n = length (holdings past).tracklets in
      batch_stands (next_number past) (taken_after past moment lines) (holdings past) n
      (lines_there (known_of past) n n lines (batch_rulings (known_of past) (tables_of past) moment lines))
      (record { count = refl; there = all })

  homed : (tracklets : List Tracklet) → length tracklets ≡ length (holdings past).tracklets → AreThere (length tracklets) (holdings past).observations
  homed tracklets same = subst (λ (n : ℕ). AreThere n (holdings past).observations) (sym same) all

  act_keeps : (a : Act) (deed : Deed) → does past moment a ≡ Ok deed → keeps deed
  unfolding does
  act_keeps (act.Submit80 lines) deed is = by_deed keeps _ _ deed (submit_keeps lines) is
  act_keeps (act.SubmitPsv lines) deed is = by_deed keeps _ _ deed (submit_keeps lines) is
  act_keeps (act.Designate tracklets) deed is =
      let d = designated (holdings past) (row_acts_of past) tracklets deed is in
      subst keeps d.deed_is (homed _ (length-with_homes (holdings past).tracklets tracklets _))
  act_keeps (act.Attribute t to) deed is = by_deed keeps _ _ deed (homed _ (length-with_home (holdings past).tracklets t (Some to))) is
  act_keeps (act.Release t) deed is = by_deed keeps _ _ deed (homed _ (length-with_home (holdings past).tracklets t None)) is
  act_keeps (act.Retract k) deed is = by_deed keeps _ _ deed (there_retracted (length (holdings past).tracklets) (holdings past).observations k all) is
  act_keeps _ deed is = by_deed keeps _ _ deed all is

-- ---- histories

are_there : (history : List Entry) → AreThere (length (holdings (deeds history)).tracklets) (holdings (deeds history)).observations
are_there [] = tt
are_there (e ∷ past) =
    let before = are_there past in
    deed_cases (λ (deed : Deed). AreThere (length (with_deed (next_number (deeds past)) deed (holdings (deeds past))).tracklets) (with_deed (next_number (deeds past)) deed (holdings (deeds past))).observations) (deeds past) e before
    (λ a deed read done. act_keeps (deeds past) e.moment before a deed done)

-- the tracklet of an observation is one of those that are there
pub tracks_there : (history : List Entry) (k : ℕ) (o : Observation) → numbered (holdings (deeds history)).observations k ≡ Some o
    → (1 ≤ o.track) × (o.track ≤ length (holdings (deeds history)).tracklets)
tracks_there history k o found = there_at (length (holdings (deeds history)).tracklets) (holdings (deeds history)).observations k o (are_there history) found
