-- Deeds: each entry's act, with what it worked out where it stands. The roster, the tables, the observations and the
-- answers read them.
use Rattle.std.specs.Prelude.{ℤ, List, [], ◌∷◌, Result, Ok, Err}
use Rattle.act_model.specs.declared.act.Act.{Act}
use Rattle.act_model.specs.declared.act.ActFault.{ActFault}
use Rattle.act_model.specs.declared.deed.Deed.{Deed}
use Rattle.act_model.specs.declared.deed.Deed.TheVariants.{Nothing}
use Rattle.act_model.specs.declared.entry.Entry.{Entry}
use Rattle.act_model.specs.declared.reply.Refusal.{Refusal}
use Rattle.act_model.specs.Acts.{act_of}
use Rattle.act_model.specs.Doing.{does}

-- an act that is refused does nothing, and stands in no legal history
abbrev pub unless_refused_deed : Result Deed Refusal → Deed
unless_refused_deed (Ok deed) = deed
unless_refused_deed (Err refusal) = Nothing

-- what was read is done; what can't be read does nothing, and stands in no legal history
abbrev pub done_if_read : List Deed → ℤ → Result Act ActFault → Deed
done_if_read past moment (Ok act) = unless_refused_deed (does past moment act)
done_if_read past moment (Err fault) = Nothing

-- the deed of an entry that comes after these deeds
unfoldable pub deed_of : List Deed → Entry → Deed
deed_of past entry = done_if_read past entry.moment (act_of entry.verb entry.body)

-- the deeds of a history, the newest first
abbrev pub deeds : List Entry → List Deed
deeds [] = []
deeds (entry ∷ past) = deed_of (deeds past) entry ∷ deeds past
