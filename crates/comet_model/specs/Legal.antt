-- Legal registers: every entry is one that the register would have taken in where it stands.
use Rattle.std.specs.Prelude.{◌≡◌, List, [], ◌∷◌, Some, None}
use Rattle.obs_time.specs.Instants.{IsInstantNs}
use Rattle.read_ahead.specs.declared.body.Body.TheVariants.{Whole}
use Rattle.act_bodies.specs.declared.key.Key.{Key}
use Rattle.act_model.specs.declared.deed.Deed.{Deed}
use Rattle.act_model.specs.declared.entry.Entry.{Entry}
use Rattle.comet_model.specs.declared.request.CometRequest.{CometRequest}
use Rattle.comet_model.specs.declared.request.CometVerb.TheVariants.{Comet}
use Rattle.comet_model.specs.Step.{step}

-- the request of an entry: the founding officer's key, the number, and the whole body
abbrev pub entry_request : Key → Entry → CometRequest
entry_request founder entry =
    record { key = founder; number = Some entry.number; verb = Comet; body = Whole entry.body }

-- The entry's moment is one that a clock gives, in the years 1800 to 2199. The entry is what the step adds to the
-- register for the entry's request, with that moment as the reading. How many bytes a journal may have plays no part.
abbrev pub IsAdded : Key → List Deed → List Entry → Entry → Type 0
IsAdded founder desk past entry =
    IsInstantNs entry.moment
    × ((step founder None desk past (entry_request founder entry) entry.moment).1 ≡ entry ∷ past)

-- each entry is what the step adds to the register before it, where these are the office's deeds
abbrev pub IsLegal : Key → List Deed → List Entry → Type 0
IsLegal founder desk [] = Unit {0}
IsLegal founder desk (entry ∷ past) = IsAdded founder desk past entry × IsLegal founder desk past
