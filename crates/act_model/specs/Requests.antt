-- Requests: their verbs and their bodies.
use Rattle.std.specs.Prelude.{ℕ, ◌==◌, Bool, true, false, bytes_eq, codes, if◌then◌else◌, List, length, nat_lt}
use Rattle.std.specs.Prelude.{count_by}
use Rattle.act_model.specs.declared.request.Verb.{Verb}
use Rattle.act_model.specs.declared.request.Verb.TheVariants.{Enrol, Station, Code, Submit80, SubmitPsv, Designate}
use Rattle.act_model.specs.declared.request.Verb.TheVariants.{Attribute, Release, Identify, Separate, Verdict, Number}
use Rattle.act_model.specs.declared.request.Verb.TheVariants.{Retract, Opening, Receipt, Tally, Object, Tracklet}
use Rattle.act_model.specs.declared.request.Verb.TheVariants.{Isolated, HalfMonth, Name, Catalogue, Unknown}
use Rattle.read_ahead.specs.declared.body.Body.{Body}
use Rattle.read_ahead.specs.declared.body.Body.TheVariants.{Whole, TooLong}
use Rattle.act_model.specs.declared.request.TheConstants.{BODY_BYTES}

-- the verb that a word names
abbrev pub verb_of : List ℕ → Verb
verb_of word =
    if bytes_eq word (codes "enrol") then Enrol
    else (if bytes_eq word (codes "station") then Station
    else (if bytes_eq word (codes "code") then Code
    else (if bytes_eq word (codes "submit80") then Submit80
    else (if bytes_eq word (codes "submitpsv") then SubmitPsv
    else (if bytes_eq word (codes "designate") then Designate
    else (if bytes_eq word (codes "attribute") then Attribute
    else (if bytes_eq word (codes "release") then Release
    else (if bytes_eq word (codes "identify") then Identify
    else (if bytes_eq word (codes "separate") then Separate
    else (if bytes_eq word (codes "verdict") then Verdict
    else (if bytes_eq word (codes "number") then Number
    else (if bytes_eq word (codes "retract") then Retract
    else (if bytes_eq word (codes "opening") then Opening
    else (if bytes_eq word (codes "receipt") then Receipt
    else (if bytes_eq word (codes "tally") then Tally
    else (if bytes_eq word (codes "object") then Object
    else (if bytes_eq word (codes "tracklet") then Tracklet
    else (if bytes_eq word (codes "isolated") then Isolated
    else (if bytes_eq word (codes "halfmonth") then HalfMonth
    else (if bytes_eq word (codes "name") then Name
    else (if bytes_eq word (codes "catalogue") then Catalogue
    else Unknown)))))))))))))))))))))

-- a verb that names nothing
abbrev pub is_unknown : Verb → Bool
is_unknown Unknown = true
is_unknown _ = false

-- a verb of an act, which may become an entry; any other is that of a query, which only reads
abbrev pub is_act : Verb → Bool
is_act Enrol = true
is_act Station = true
is_act Code = true
is_act Submit80 = true
is_act SubmitPsv = true
is_act Designate = true
is_act Attribute = true
is_act Release = true
is_act Identify = true
is_act Separate = true
is_act Verdict = true
is_act Number = true
is_act Retract = true
is_act Opening = true
is_act _ = false

-- a verb of officers alone
abbrev pub is_officers : Verb → Bool
is_officers Enrol = true
is_officers Station = true
is_officers Code = true
is_officers Designate = true
is_officers Attribute = true
is_officers Release = true
is_officers Identify = true
is_officers Separate = true
is_officers Verdict = true
is_officers Number = true
is_officers Opening = true
is_officers _ = false

-- the number of a verb of an act, and 0 for no act
abbrev pub verb_code : Verb → ℕ
verb_code Enrol = 1
verb_code Station = 2
verb_code Code = 3
verb_code Submit80 = 4
verb_code SubmitPsv = 5
verb_code Designate = 6
verb_code Attribute = 7
verb_code Release = 8
verb_code Identify = 9
verb_code Separate = 10
verb_code Verdict = 11
verb_code Number = 12
verb_code Retract = 13
verb_code Opening = 14
verb_code _ = 0

abbrev pub same_verb : Verb → Verb → Bool
same_verb a b = verb_code a == verb_code b

-- the body of a request that came with these bytes: one that is too long isn't kept
abbrev pub body_of : List ℕ → Body
body_of bytes = if nat_lt BODY_BYTES (length bytes) then TooLong (length bytes) else Whole bytes

-- how many line feeds a body has
unfoldable pub line_feeds : List ℕ → ℕ
line_feeds bytes = count_by (λ byte. byte == 10) bytes
