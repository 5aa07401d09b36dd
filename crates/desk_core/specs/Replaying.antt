-- Entries that come again from a journal, field by field.
use Rattle.std.specs.Prelude.{◌≡◌, ℕ, ℤ, ◌==◌, true, if◌then◌else◌, List, Option, Some, None, option_map}
use Rattle.act_bodies.specs.declared.key.Key.{Key}
use Rattle.act_model.specs.declared.entry.Entry.{Entry}
use Rattle.act_model.specs.declared.roster.Member.{Member}
use Rattle.act_model.specs.Deeds.{deeds}
use Rattle.act_model.specs.Hearing.{size_rows, is_number_of}
use Rattle.act_model.specs.History.{next_moment, IsUnused}
use Rattle.act_model.specs.Roster.{members, caller_of, key_at}
use Rattle.act_model.specs.Rows.{first_row}
use Rattle.act_model.specs.declared.request.Verb.{Verb}
use Rattle.act_model.specs.declared.request.Verb.TheVariants.{Enrol, Station, Code, Submit80, SubmitPsv, Designate}
use Rattle.act_model.specs.declared.request.Verb.TheVariants.{Attribute, Release, Identify, Separate, Verdict, Number}
use Rattle.act_model.specs.declared.request.Verb.TheVariants.{Retract, Opening}

-- the verb of an act with this number
abbrev pub act_with : ℕ → Option Verb
act_with code =
    if code == 1 then Some Enrol
    else (if code == 2 then Some Station
    else (if code == 3 then Some Code
    else (if code == 4 then Some Submit80
    else (if code == 5 then Some SubmitPsv
    else (if code == 6 then Some Designate
    else (if code == 7 then Some Attribute
    else (if code == 8 then Some Release
    else (if code == 9 then Some Identify
    else (if code == 10 then Some Separate
    else (if code == 11 then Some Verdict
    else (if code == 12 then Some Number
    else (if code == 13 then Some Retract
    else (if code == 14 then Some Opening
    else None)))))))))))))

-- the entry of these fields; None where the number is no act's
abbrev pub entry_of : (caller number : ℕ) (moment : ℤ) (code : ℕ) (body : List ℕ) → Option Entry
entry_of caller number moment code body =
    option_map
    (λ verb. record { caller = caller; number = number; moment = moment; verb = verb; body = body })
    (act_with code)

-- the number of the caller that has the key of the caller with this number
abbrev pub caller_named : Key → List Member → ℕ → Option ℕ
caller_named founder enrolled caller =
    option_map (λ known. known.number) (caller_of founder enrolled (key_at founder enrolled caller))

-- The entry may come next, as far as is seen without the meaning of its body: its body is small enough, its number one
-- that its verb may have, its caller there and the number new to it, and its moment not before the last entry's.
pub record MayFollow (founder : Key) (past : List Entry) (entry : Entry) : Type 0 where
  pub size : first_row (size_rows entry.body) ≡ None
  pub number : is_number_of entry.verb entry.number ≡ true
  pub caller : caller_named founder (members (deeds past)) entry.caller ≡ Some entry.caller
  pub unused : IsUnused past entry
  pub moment : next_moment past entry.moment ≡ entry.moment
