-- A request that is sent again: the body of the entry that it became was read.
use Rattle.std.proofs.Common.{◌≡◌, ℕ, ◌+◌, ◌<◌, ◌++◌, ℤ, Bool, true, false, cond, List, [], ◌∷◌, length, take, drop, Option, Some, None, Result, Ok, refl, sym, ap, subst, ◌∙◌, append_assoc}
use Rattle.std.specs.Prelude.{bytes_eq, ◌&&◌, reverse}
use Rattle.std.specs.Option.{option_map}
use Rattle.std.proofs.lemmas.Bool.{eqb-true}
use Rattle.std.proofs.lemmas.Slice.Eq.{bytes_eq-Decides}
use Rattle.act_model.specs.declared.entry.Entry.{Entry}
use Rattle.act_model.specs.declared.heard.Asked.{Asked}
use Rattle.act_model.specs.declared.heard.Heard.{Heard}
use Rattle.act_model.specs.declared.reply.Refusal.{Refusal}
use Rattle.act_model.specs.declared.reply.Reply.TheVariants.{Done, Refused}
use Rattle.act_model.specs.declared.reply.Refusal.TheVariants.{OtherRequest}
use Rattle.act_model.specs.declared.request.Verb.{Verb}
use Rattle.act_model.specs.declared.request.Verb.TheVariants.{Enrol, Station, Code, Submit80, SubmitPsv, Designate, Attribute, Release, Identify, Separate, Verdict, Number, Retract, Opening}
use Rattle.act_model.specs.declared.roster.Caller.{Caller}
use Rattle.act_model.specs.Hearing.{asked_of}
use Rattle.act_model.specs.History.{Kept, numbered_entry, next_receipt}
use Rattle.act_model.specs.Replies.{entry_answer}
use Rattle.act_model.specs.Requests.{is_act, verb_code, same_verb}
use Rattle.act_model.specs.Rows.{◌>>=◌}
use Rattle.act_model.specs.Step.{Keeps, is_resend}
use Rattle.desk_core.specs.declared.filed.Filed.{Filed}
use Rattle.desk_core.specs.declared.hearing.Claim.{Claim}
use Rattle.desk_core.specs.Claims.{heard_by, kept_for, act_by}
use Rattle.desk_core.specs.Filed.{history_of, IsFiledAt, WasRead, WereRead}
use Rattle.desk_core.specs.Replaying.{act_with}
use Rattle.desk_core.proofs.BookLemmas.{placed}
use Rattle.desk_core.proofs.ClaimLemmas.{hears, act_kept}
use Rattle.desk_core.proofs.Kept.{split_at}
use Rattle.std.proofs.lemmas.List.{reverse-append}

-- ---- the same act

-- the verb of an act is told by its number
verb_coded : (v : Verb) → is_act v ≡ true → act_with (verb_code v) ≡ Some v
verb_coded Enrol act = refl
verb_coded Station act = refl
verb_coded Code act = refl
verb_coded Submit80 act = refl
verb_coded SubmitPsv act = refl
verb_coded Designate act = refl
verb_coded Attribute act = refl
verb_coded Release act = refl
verb_coded Identify act = refl
verb_coded Separate act = refl
verb_coded Verdict act = refl
verb_coded Number act = refl
verb_coded Retract act = refl
verb_coded Opening act = refl
verb_coded _ act = absurd cc

same_act : (a b : Verb) → is_act a ≡ true → is_act b ≡ true → verb_code a ≡ verb_code b → a ≡ b
same_act a b act_a act_b same =
    let both : Some a ≡ Some b = sym (verb_coded a act_a) ∙ ap act_with same ∙ verb_coded b act_b in
    cc

both_true : (a b : Bool) → (a && b) ≡ true → (a ≡ true) × (b ≡ true)
both_true true b is = (refl, is)
both_true false b is = absurd cc

-- what was asked then is what is asked now
asked_again : (verb : Verb) (bytes : List ℕ) (entry : Entry) → is_act verb ≡ true → WasRead entry → is_resend verb bytes entry ≡ true → (asked : Asked) × (asked_of verb bytes ≡ Ok asked)
asked_again verb bytes entry act read same =
    let both = both_true (same_verb verb entry.verb) (bytes_eq bytes entry.body) same in
    let verbs : verb ≡ entry.verb = same_act verb entry.verb act read.0 (eqb-true (verb_code verb) (verb_code entry.verb) both.0) in
    let bodies : bytes ≡ entry.body = (bytes_eq-Decides bytes entry.body).0 both.1 in
    (read.1, ap (λ (v : Verb). asked_of v bytes) verbs ∙ ap (asked_of entry.verb) bodies ∙ read.2)

-- ---- the entry that a number stands for

-- where a number was used, somebody has the key
record Used (past : List Entry) (claim : Claim) (k : Kept) : Type 0 where
  caller : Caller
  who : claim.caller ≡ Some caller
  there : numbered_entry past caller.number claim.number ≡ Some k

used_by : (past : List Entry) (number : ℕ) (who : Option Caller) (k : Kept) → kept_for past (record { number = number; caller = who }) ≡ Some k
    → (caller : Caller) × (who ≡ Some caller) × (numbered_entry past caller.number number ≡ Some k)
used_by past number None k is = absurd cc
used_by past number (Some caller) k is = (caller, refl, is)

used : (past : List Entry) (claim : Claim) (k : Kept) → kept_for past claim ≡ Some k → Used past claim k
used past claim k is =
    let by = used_by past claim.number claim.caller k is in
    record { caller = by.0; who = by.1; there = by.2 }

some_placed : (o : Option Kept) (place : ℕ) → Some place ≡ option_map (λ k. length k.before) o → (k : Kept) × (o ≡ Some k) × (place ≡ length k.before)
some_placed None place is = absurd (cc)
some_placed (Some k) place is = (k, refl, cc)

no_place : (o : Option Kept) → option_map (λ k. length k.before) o ≡ None → o ≡ None
no_place None is = refl
no_place (Some k) is = absurd cc

pub none_placed : (past : List Entry) (claim : Claim) → option_map (λ k. length k.before) (kept_for past claim) ≡ None → kept_for past claim ≡ None
none_placed past claim is = no_place (kept_for past claim) is

-- what stands at the place of a number that was used
pub record StandsAt (filed : List Filed) (past : List Entry) (claim : Claim) (place : ℕ) : Type 0 where
  pub k : Kept
  pub kept_is : kept_for past claim ≡ Some k
  pub before : place ≡ length k.before
  pub within : place < length filed
  pub at : IsFiledAt filed place k

pub stands_at : (filed : List Filed) (past : List Entry) (claim : Claim) (place : ℕ) → history_of filed ≡ past → Some place ≡ option_map (λ k. length k.before) (kept_for past claim) → StandsAt filed past claim place
stands_at filed past claim place history is =
    let some = some_placed (kept_for past claim) place is in
    let k = some.0 in
    let by = used past claim k some.1 in
    let there : numbered_entry (history_of filed) by.caller.number claim.number ≡ Some k = ap (λ (h : List Entry). numbered_entry h by.caller.number claim.number) history ∙ by.there in
    let at = placed filed by.caller.number claim.number k there in
    record {
      k = k;
      kept_is = some.1;
      before = some.2;
      within = subst (λ (n : ℕ). n < length filed) (sym some.2) at.within;
      at = subst (λ (n : ℕ). IsFiledAt filed n k) (sym some.2) at.at;
    }

read_behind : (newer : List Filed) (f : Filed) (older : List Filed) → WereRead (newer ++ f ∷ older) → WasRead f.entry
read_behind [] f older read = read.0
read_behind (g ∷ newer) f older read = read_behind newer f older read.1

-- the entry at a place was read
read_at : (filed : List Filed) (place : ℕ) (k : Kept) → WereRead (reverse filed) → IsFiledAt filed place k → WasRead k.entry
read_at filed place k read at =
    let behind = drop (place + 1) filed in
    let turned : reverse filed ≡ reverse behind ++ (at.at ∷ reverse (take place filed)) =
    ap reverse (split_at filed place at.at at.there) ∙ reverse-append (take place filed) (at.at ∷ behind) ∙ ap (λ (newer : List Filed). newer ++ reverse (take place filed)) (reverse-append (at.at ∷ []) behind) ∙ append_assoc (reverse behind) (at.at ∷ []) (reverse (take place filed)) in
    subst WasRead (sym at.entry) (read_behind (reverse behind) at.at (reverse (take place filed)) (subst WereRead turned read))

module _ (limit : Option ℕ) (filed : List Filed) (past : List Entry) (claim : Claim) (place : ℕ) (verb : Verb) (bytes : List ℕ) (moment : ℤ) (stands : StandsAt filed past claim place) where
  -- a request that is sent again is kept, though its body isn't read again
  pub act_again : (text : List ℕ) → is_act verb ≡ true → WereRead (reverse filed) → is_resend verb bytes stands.k.entry ≡ true → text ≡ entry_answer stands.k.before stands.k.entry
      → act_by limit past claim verb bytes moment ≡ Keeps (Done text)
  act_again text act read same answer =
      let by = used past claim stands.k stands.kept_is in
      let asks = asked_again verb bytes stands.k.entry act (read_at filed place stands.k read stands.at) same in
      let heard : Heard = record { verb = verb; number = claim.number; asked = asks.0; caller = by.caller } in
      let heard_is : heard_by claim verb bytes ≡ Ok heard =
      ap (λ (a : Result Asked Refusal). hears verb claim.number a claim.caller) asks.1 ∙ ap (hears verb claim.number (Ok asks.0)) by.who in
      act_kept limit past claim verb bytes moment heard heard_is stands.k stands.kept_is
      ∙ ap (λ (b : Bool). Keeps (cond b (Done (entry_answer stands.k.before stands.k.entry)) (Refused (OtherRequest (next_receipt stands.k.before))))) same
      ∙ ap (λ (t : List ℕ). Keeps (Done t)) (sym answer)
