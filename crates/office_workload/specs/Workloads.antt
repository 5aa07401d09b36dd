-- The requests of the workload, and the office after them.
use Rattle.std.specs.Prelude.{ℕ, ◌+◌, ◌*◌, ℤ, pos, List, [], ◌∷◌, flat_map, codes, Some, None, Result, Ok, Err}
use Rattle.std.specs.List.{range_with_len}
use Rattle.act_bodies.specs.declared.key.Key.{Key}
use Rattle.act_bodies.specs.Keys.{key_of}
use Rattle.act_model.specs.declared.entry.Entry.{Entry}
use Rattle.act_model.specs.declared.reply.Refusal.{Refusal}
use Rattle.act_model.specs.declared.reply.Reply.{Reply}
use Rattle.act_model.specs.declared.reply.Reply.TheVariants.{Done, Refused}
use Rattle.read_ahead.specs.declared.body.Body.TheVariants.{Whole}
use Rattle.act_model.specs.declared.request.Request.{Request}
use Rattle.act_model.specs.declared.request.Verb.{Verb}
use Rattle.act_model.specs.declared.request.Verb.TheVariants.{Station, Submit80, Designate}
use Rattle.act_model.specs.Step.{step}
use Rattle.office_workload.specs.Generating.{number_at}
use Rattle.office_workload.specs.Lines.{submission_body, designation_body}

-- ---- requests

-- the key of the founding officer, whose requests all of them are
abbrev pub officer : Key
officer = key_of (codes "+workload-1")

abbrev pub request_with : ℕ → Verb → List ℕ → Request
request_with number verb body = record { key = officer; number = Some number; verb = verb; body = Whole body }

-- the station of all lines, on duty from 1998 to 2199
abbrev pub station_body : List ℕ
station_body = codes "{\"code\":\"703\",\"from\":\"1998-01-01\",\"name\":\"Catalina\",\"to\":\"2199-12-31\"}"

abbrev pub station_request : Request
station_request = request_with 1 Station station_body

-- the four lines of object i with the number x
abbrev pub submission : (i x : ℕ) → Request
submission i x = request_with (2 * i) Submit80 (submission_body i x)

-- the two tracklets of object i, which are to become an object
abbrev pub designation : ℕ → Request
designation i = request_with (2 * i + 1) Designate (designation_body i)

abbrev pub object_requests : (seed i : ℕ) → List Request
object_requests seed i = submission i (number_at seed i) ∷ designation i ∷ []

-- the requests under the numbers from 1 on: the station's, and then those of this many objects
unfoldable pub workload : (seed count : ℕ) → List Request
workload seed count = station_request ∷ flat_map (object_requests seed) (range_with_len 1 count)

-- ---- the office

-- when all of them come: 2025-01-01T00:00:00Z
abbrev pub moment : ℤ
moment = pos 1_735_689_600_000_000_000

-- the first refusal, or else what the requests after this one come to
abbrev pub unless_refused : Reply × List Entry → (List Entry → Result (List Entry) Refusal)
    → Result (List Entry) Refusal
unless_refused (Done text, after) goes_on = goes_on after
unless_refused (Refused refusal, after) goes_on = Err refusal

-- the history that the step makes of requests one after another, in an office without a limit; or the first refusal
unfoldable pub history_after : List Entry → List Request → Result (List Entry) Refusal
history_after past [] = Ok past
history_after past (request ∷ requests) =
    unless_refused (step officer None past request moment) (λ after. history_after after requests)
