-- What a request says of itself before its body is read, and what becomes of it then.
use Rattle.std.specs.Prelude.{ℕ, ℤ, List, Option, Result, Ok}
use Rattle.std.specs.Option.{option_and_then}
use Rattle.act_bodies.specs.declared.key.Key.{Key}
use Rattle.act_model.specs.declared.entry.Entry.{Entry}
use Rattle.act_model.specs.declared.heard.Asked.TheVariants as asked
use Rattle.act_model.specs.declared.heard.Heard.{Heard}
use Rattle.act_model.specs.declared.query.Query.{Query}
use Rattle.act_model.specs.declared.reply.Refusal.{Refusal}
use Rattle.act_model.specs.declared.request.Request.{Request}
use Rattle.act_model.specs.declared.request.Verb.{Verb}
use Rattle.act_model.specs.declared.roster.Caller.{Caller}
use Rattle.act_model.specs.declared.roster.Member.{Member}
use Rattle.act_model.specs.Rows.{first_row, unless, ◌>>=◌}
use Rattle.act_model.specs.History.{Kept, numbered_entry}
use Rattle.act_model.specs.Hearing.{bytes_in, verb_rows, number_in, asked_of, caller_in}
use Rattle.act_model.specs.Roster.{caller_of}
use Rattle.act_model.specs.Step.{Outcome, unless_unheard, act_step, query_in, answer_of_query}
use Rattle.desk_core.specs.declared.hearing.Claim.{Claim}

-- what a request with this verb, number and key says of itself, where these are enrolled
abbrev pub claim_of : Key → List Member → Verb → Option ℕ → Key → Result Claim Refusal
claim_of founder enrolled verb number key =
    unless (first_row (verb_rows verb)) do
      number ← number_in verb number
      Ok (record { number = number; caller = caller_of founder enrolled key })

-- the same of a whole request, or the refusal that it meets before memory is asked for
abbrev pub announcement : Key → List Member → Request → Result Claim Refusal
announcement founder enrolled request = do
  bytes ← bytes_in request.body
  claim_of founder enrolled request.verb request.number request.key

-- what is heard of a request with this verb and these bytes, which said so much of itself
abbrev pub heard_by : Claim → Verb → List ℕ → Result Heard Refusal
heard_by claim verb bytes = do
  asked ← asked_of verb bytes
  caller ← caller_in claim.caller
  Ok (record { verb = verb; number = claim.number; asked = asked; caller = caller })

-- what is heard of a query that this caller asks
abbrev pub query_heard : Claim → Verb → Caller × Query → Heard
query_heard claim verb asks =
    record { verb = verb; number = claim.number; asked = asked.Query asks.1; caller = asks.0 }

-- the entry that the number of such a request stands for, where its caller has used the number
abbrev pub kept_for : List Entry → Claim → Option Kept
kept_for past claim = option_and_then (λ caller. numbered_entry past caller.number claim.number) claim.caller

-- what becomes of an act that said so much of itself, at this moment
abbrev pub act_by : Option ℕ → List Entry → Claim → Verb → List ℕ → ℤ → Outcome
act_by limit past claim verb bytes moment = unless_unheard do
  heard ← heard_by claim verb bytes
  Ok (act_step limit past heard bytes moment)

-- what a query is told that said so much of itself
abbrev pub told_by : List Entry → Claim → Verb → List ℕ → Result (List ℕ) Refusal
told_by past claim verb bytes = do
  heard ← heard_by claim verb bytes
  query ← query_in heard.asked
  answer_of_query past heard.caller.number query
