-- The observation lines of a batch, as the office takes them in by the rulings on them: each is an observation of a
-- tracklet, or broke a rule. All else about the batch is read from this list.
use Rattle.std.specs.Prelude.{ℕ, ◌+◌, ◌-◌, max, Bool, nat_le, List, [], ◌∷◌, length, count_by, filter_map, Option, Some}
use Rattle.std.specs.Prelude.{None, Result, Ok, Err, is_ok, if◌then◌else◌}
use Rattle.packed_names.specs.declared.name.Designation.{Designation}
use Rattle.packed_names.specs.declared.name.Name.TheVariants as names
use Rattle.obs_record.specs.declared.line.Line.{Line}
use Rattle.obs_record.specs.declared.name.TrackName.{TrackName}
use Rattle.obs_record.specs.declared.name.TrackName.TheVariants as tracks
use Rattle.obs_record.specs.declared.rule.RuleCode.{RuleCode}
use Rattle.obs_record.specs.declared.sighting.Sighting.{Sighting}
use Rattle.act_model.specs.declared.reply.Fault.{Fault}
use Rattle.act_model.specs.declared.ruling.Ruling.{Ruling}
use Rattle.act_model.specs.declared.taken.Placed.{Placed}
use Rattle.act_model.specs.declared.taken.Placing.{Placing}
use Rattle.act_model.specs.declared.taken.Taken.{Taken}
use Rattle.act_model.specs.BatchRules.{name_of}
use Rattle.act_model.specs.Known.{KnownOffice}

-- ---- one line

-- the designation in which a tracklet of this name starts: the one that its number or its designation stands for; a
-- tracklet of the observer's own name starts isolated
abbrev pub first_home : KnownOffice → TrackName → Option Designation
first_home known (tracks.Number number) = known.stands_for (names.Number number)
first_home known (tracks.Designation designation) = known.stands_for (names.Designation designation)
first_home known (tracks.Sub sub) = None

-- The tracklet of a group, where there were `before` tracklets before the batch and there are `now` by this line.
-- Groups count from 0 in the order in which they begin: one that has begun has its tracklet, another begins the next.
abbrev pub track_of_group : (before now group : ℕ) → ℕ
track_of_group before now group = if nat_le (before + group + 1) now then before + group + 1 else now + 1

abbrev pub placed_in : KnownOffice → ℕ → Sighting → Placed
placed_in known track s = record { sighting = s; track = track; home = first_home known (name_of s) }

-- what becomes of a line that was read so, with this fault
abbrev pub found_in : KnownOffice → ℕ → Result Sighting RuleCode → Option RuleCode → Result Placed RuleCode
found_in known track read (Some rule) = Err rule
found_in known track (Ok s) None = Ok (placed_in known track s)
found_in known track (Err rule) None = Err rule

abbrev pub taken_line : KnownOffice → (before now : ℕ) → Line → Ruling → Taken
taken_line known before now line ruling =
    record {
      line = line.number;
      found = found_in known (track_of_group before now ruling.group) line.read ruling.fault;
    }

-- ---- a batch

-- a line that was read so, with what was found of it: where its observation is filed, or the rule that it breaks
abbrev pub placed_by : Result Sighting RuleCode → Result Placing RuleCode → Result Placed RuleCode
placed_by read (Err rule) = Err rule
placed_by (Err rule) (Ok placing) = Err rule
placed_by (Ok s) (Ok placing) = Ok (record { sighting = s; track = placing.track; home = placing.home })

abbrev pub taken_by : Line → Result Placing RuleCode → Taken
taken_by line found = record { line = line.number; found = placed_by line.read found }

-- lines as they were read, with what was found of each, line by line
abbrev pub taken_with : List Line → List (Result Placing RuleCode) → List Taken
taken_with [] found = []
taken_with (line ∷ lines) [] = []
taken_with (line ∷ lines) (first ∷ found) = taken_by line first ∷ taken_with lines found

-- how many tracklets there are after a line of which this became
abbrev pub tracks_with : ℕ → Result Placed RuleCode → ℕ
tracks_with now (Ok placed) = max now placed.track
tracks_with now (Err rule) = now

-- the lines of a batch with the rulings on them, line by line
abbrev pub taken_lines : KnownOffice → (before now : ℕ) → List Line → List Ruling → List Taken
taken_lines known before now [] rulings = []
taken_lines known before now (line ∷ lines) [] = []
taken_lines known before now (line ∷ lines) (ruling ∷ rulings) =
    taken_line known before now line ruling
    ∷ taken_lines known before
    (tracks_with now (found_in known (track_of_group before now ruling.group) line.read ruling.fault)) lines rulings

-- ---- counts and faults

abbrev pub is_accepted : Taken → Bool
is_accepted taken = is_ok taken.found

abbrev pub accepted_in : List Taken → ℕ
accepted_in lines = count_by is_accepted lines

abbrev pub refused_in : List Taken → ℕ
refused_in lines = length lines - accepted_in lines

-- the number of a line, with the rule that it breaks
abbrev pub fault_with : ℕ → Result Placed RuleCode → Option Fault
fault_with line (Ok placed) = None
fault_with line (Err rule) = Some (record { line = line; rule = rule })

-- the lines that aren't accepted, each with the rule that it breaks
abbrev pub faults_in : List Taken → List Fault
faults_in lines = filter_map (λ taken. fault_with taken.line taken.found) lines
