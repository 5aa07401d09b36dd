-- Legal histories: every entry is one that the office would have taken in where it stands.
use Rattle.std.specs.Prelude.{◌≡◌, List, [], ◌∷◌, Some, None}
use Rattle.obs_time.specs.Instants.{IsInstantNs}
use Rattle.act_bodies.specs.declared.key.Key.{Key}
use Rattle.read_ahead.specs.declared.body.Body.TheVariants.{Whole}
use Rattle.act_model.specs.declared.request.Request.{Request}
use Rattle.act_model.specs.declared.entry.Entry.{Entry}
use Rattle.act_model.specs.Deeds.{deeds}
use Rattle.act_model.specs.Roster.{members, key_at}
use Rattle.act_model.specs.Step.{step}

-- the request of an entry that came at this history: the caller's key on the roster, the number, the verb and the whole
-- body
abbrev pub entry_request : Key → List Entry → Entry → Request
entry_request founder past entry =
    record {
      key = key_at founder (members (deeds past)) entry.caller;
      number = Some entry.number;
      verb = entry.verb;
      body = Whole entry.body;
    }

-- The entry's moment is one that a clock gives, in the years 1800 to 2199. The entry is what the step adds to the
-- history for the entry's request, with that moment as the reading. How many bytes a journal may have plays no part.
abbrev pub IsAdded : Key → List Entry → Entry → Type 0
IsAdded founder past entry =
    IsInstantNs entry.moment × ((step founder None past (entry_request founder past entry) entry.moment).1
    ≡ entry ∷ past)

-- each entry is what the step adds to the history before it
abbrev pub IsLegal : Key → List Entry → Type 0
IsLegal founder [] = Unit {0}
IsLegal founder (entry ∷ past) = IsAdded founder past entry × IsLegal founder past
