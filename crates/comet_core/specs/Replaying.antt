-- Entries that come again from a journal, field by field.
use Rattle.std.specs.Prelude.{◌≡◌, ℕ, ℤ, true, List, None}
use Rattle.act_model.specs.declared.entry.Entry.{Entry}
use Rattle.act_model.specs.declared.request.Verb.TheVariants.{Enrol}
use Rattle.act_model.specs.History.{next_moment, IsUnused}
use Rattle.act_model.specs.Requests.{verb_code}
use Rattle.act_model.specs.Rows.{first_row}
use Rattle.comet_model.specs.declared.request.CometVerb.TheVariants.{Comet}
use Rattle.comet_model.specs.Hearing.{size_rows, is_number_of}

-- the entry has these fields, with the number of its verb
pub record HasFields (caller number : ℕ) (moment : ℤ) (code : ℕ) (body : List ℕ) (entry : Entry) : Type 0 where
  pub caller_is : entry.caller ≡ caller
  pub number_is : entry.number ≡ number
  pub moment_is : entry.moment ≡ moment
  pub code_is : verb_code entry.verb ≡ code
  pub body_is : entry.body ≡ body

-- The entry may come next, as far as is seen without the meaning of its body: it is the founding officer's, with the
-- code that each entry of a register has, its body is small enough, its number one that an act may have and that wasn't
-- used, and its moment not before the last entry's.
pub record MayFollow (past : List Entry) (entry : Entry) : Type 0 where
  pub caller : entry.caller ≡ 0
  pub verb : entry.verb ≡ Enrol
  pub size : first_row (size_rows entry.body) ≡ None
  pub number : is_number_of Comet entry.number ≡ true
  pub unused : IsUnused past entry
  pub moment : next_moment past entry.moment ≡ entry.moment
