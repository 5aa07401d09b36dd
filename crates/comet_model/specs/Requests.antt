-- Requests to the register: their verbs.
use Rattle.std.specs.Prelude.{ℕ, Bool, true, false, bytes_eq, codes, if◌then◌else◌, List}
use Rattle.comet_model.specs.declared.request.CometVerb.{CometVerb}
use Rattle.comet_model.specs.declared.request.CometVerb.TheVariants.{Comet, Register, Translate, Unknown}

-- the verb that a word names
abbrev pub verb_of : List ℕ → CometVerb
verb_of word =
    if bytes_eq word (codes "comet") then Comet
    else (if bytes_eq word (codes "register") then Register
    else (if bytes_eq word (codes "translate") then Translate
    else Unknown))

-- a verb that names nothing
abbrev pub is_unknown : CometVerb → Bool
is_unknown Comet = false
is_unknown Register = false
is_unknown Translate = false
is_unknown Unknown = true

-- the verb of the act, which may become an entry; any other is that of a query, which only reads
abbrev pub is_act : CometVerb → Bool
is_act Comet = true
is_act Register = false
is_act Translate = false
is_act Unknown = false
