-- The grammar of the command line: the command is the first word, and its options stand after it in any order, each
-- exactly once.
use Rattle.std.specs.Prelude.{ℕ, ◌≤◌, bytes_eq, codes, if◌then◌else◌, List, [], ◌∷◌, Option, Some, None}
use Rattle.ascii_text.specs.Reading.{◌>>=◌}
use Rattle.act_bodies.specs.Keys.{key_of}
use Rattle.act_model.specs.Roster.{IsFounder}
use Rattle.obs_time.specs.Dates.{IsObservedDay}
use Rattle.command_line.specs.declared.command.Command.{Command}
use Rattle.command_line.specs.declared.command.Command.TheVariants.{Run, Serve, Export, Workload, Mirror, Look, Comets}
use Rattle.command_line.specs.Days.{day_in}
use Rattle.command_line.specs.Keys.{founder_key}
use Rattle.command_line.specs.Numbers.{number_in}
use Rattle.command_line.specs.Options.{one_value, two_values, if_last}

-- `run --key K`
abbrev pub run_of : List (List ℕ) → Option Command
run_of words = do
  value ← one_value (codes "--key") words
  key ← founder_key value
  Some (Run (key_of key))

-- `serve --key K --connections N`, N from 1 to 1,000
abbrev pub serve_of : List (List ℕ) → Option Command
serve_of words = do
  values ← two_values (codes "--key") (codes "--connections") words
  key ← founder_key values.0
  connections ← number_in 1 1000 values.1
  Some (Serve (key_of key) connections)

-- `export`
abbrev pub export_of : List (List ℕ) → Option Command
export_of words = if_last Export words

-- `workload --seed S --count M`, S below 2 to the 64th, M from 1 to 20,000
abbrev pub workload_of : List (List ℕ) → Option Command
workload_of words = do
  values ← two_values (codes "--seed") (codes "--count") words
  seed ← number_in 0 18446744073709551615 values.0
  count ← number_in 1 20000 values.1
  Some (Workload seed count)

-- `mirror`
abbrev pub mirror_of : List (List ℕ) → Option Command
mirror_of words = if_last Mirror words

-- `look --from A --to B`, two dates
abbrev pub look_of : List (List ℕ) → Option Command
look_of words = do
  values ← two_values (codes "--from") (codes "--to") words
  from ← day_in values.0
  to ← day_in values.1
  Some (Look from to)

-- `comets --key K`
abbrev pub comets_of : List (List ℕ) → Option Command
comets_of words = do
  value ← one_value (codes "--key") words
  key ← founder_key value
  Some (Comets (key_of key))

-- the command of this name with these options
abbrev pub command_named : List ℕ → List (List ℕ) → Option Command
command_named name options =
    if bytes_eq name (codes "run") then run_of options
    else (if bytes_eq name (codes "serve") then serve_of options
    else (if bytes_eq name (codes "export") then export_of options
    else (if bytes_eq name (codes "workload") then workload_of options
    else (if bytes_eq name (codes "mirror") then mirror_of options
    else (if bytes_eq name (codes "look") then look_of options
    else (if bytes_eq name (codes "comets") then comets_of options else None))))))

-- the command that the words of a command line name, and None for all other words
unfoldable pub command_of : List (List ℕ) → Option Command
command_of [] = None
command_of (name ∷ options) = command_named name options

-- what a command says of its parts: its key is a founding officer's, its numbers lie in their ranges, its days are of
-- the years 1800 to 2199
abbrev pub IsInRange : Command → Type 0
IsInRange (Run key) = IsFounder key
IsInRange (Serve key connections) = IsFounder key × (1 ≤ connections) × (connections ≤ 1000)
IsInRange Export = Unit {0}
IsInRange (Workload seed count) = (seed ≤ 18446744073709551615) × (1 ≤ count) × (count ≤ 20000)
IsInRange Mirror = Unit {0}
IsInRange (Look from to) = IsObservedDay from × IsObservedDay to
IsInRange (Comets key) = IsFounder key
