-- Entries that come again.
use Rattle.std.proofs.Common.{◌≡◌, ℕ, ℤ, Bool, true, false, cond, List, [], ◌∷◌, length, Option, Some, None, Ok, Err, refl, sym, ap, subst, ◌∙◌, arith}
use Rattle.std.specs.Prelude.{◌==◌, IfSome, IsErrOf, IsSomeAnd, option_map}
use Rattle.obs_time.specs.Instants.{IsInstantNs}
use Rattle.act_bodies.specs.declared.key.Key.{Key}
use Rattle.act_model.specs.declared.entry.Entry.{Entry}
use Rattle.act_model.specs.declared.request.Request.{Request}
use Rattle.act_model.specs.declared.request.Verb.{Verb}
use Rattle.act_model.specs.declared.roster.Member.{Member}
use Rattle.act_model.specs.Legal.{entry_request, IsAdded}
use Rattle.act_model.specs.declared.reply.Refusal.{Refusal}
use Rattle.act_model.specs.declared.roster.Caller.{Caller}
use Rattle.act_model.specs.Hearing.{size_rows, is_number_of}
use Rattle.act_model.specs.History.{numbered_entry, next_moment}
use Rattle.act_model.specs.Requests.{is_act}
use Rattle.act_model.specs.Roster.{key_at, next_caller}
use Rattle.act_model.specs.Rows.{first_row, unless}
use Rattle.act_model.specs.Step.{Outcome, Refuses, Keeps, Tells, Adds, outcome, step, reply_and_history}
use Rattle.tracklet_file.specs.Numbering.{numbered}
use Rattle.desk_core.specs.declared.replaying.ReplayFault.{ReplayFault}
use Rattle.desk_core.specs.Replaying.{act_with, entry_of, MayFollow}
use Rattle.desk_core.proofs.ClaimLemmas.{adds_new}

-- ---- an entry that is added

longer : (e : Entry) (past : List Entry) → past ≡ e ∷ past → {A : Type 0} → A
longer e past is = let lengths = ap length is in absurd (omega arith)

made_entry : (past : List Entry) (e : Entry) (o : Outcome) → (reply_and_history past o).1 ≡ e ∷ past → o ≡ Adds e
made_entry past e (Refuses r) is = longer e past is
made_entry past e (Keeps reply) is = longer e past is
made_entry past e (Tells text) is = longer e past is
made_entry past e (Adds other) is = cc

module _ (founder : Key) (past : List Entry) (e : Entry) where
  -- the step adds what becomes of the entry's request
  pub adds_entry : outcome founder None past (entry_request founder past e) e.moment ≡ Adds e → (step founder None past (entry_request founder past e) e.moment).1 ≡ e ∷ past
  unfolding step
  adds_entry is = ap (λ (o : Outcome). (reply_and_history past o).1) is

  -- and an entry that is added is what becomes of its request
  pub entry_added : IsAdded founder past e → outcome founder None past (entry_request founder past e) e.moment ≡ Adds e
  unfolding step
  entry_added is = made_entry past e (outcome founder None past (entry_request founder past e) e.moment) is.1

-- an error stays the same, whatever would have come in its place
pub same_fault : {A : Type 0} (f g : ReplayFault) → IsErrOf {T = Unit {0}} (Err f) g → IsErrOf {T = A} (Err f) g
same_fault {A} f g is = let same : f ≡ g = cc in subst (λ (x : ReplayFault). IsErrOf {T = A} (Err x) g) (sym same) refl

-- ---- the caller's key

unfoldable pub key_or : Key → Option Member → Key
key_or founder (Some member) = member.key
key_or founder None = founder

key_here : (founder : Key) (b : Bool) (member : Member) (key : Key) (found : Option Member) → key ≡ key_or founder found → cond b member.key key ≡ key_or founder (cond b (Some member) found)
unfolding key_or
key_here founder true member key found is = refl
key_here founder false member key found is = is

pub key_numbered : (founder : Key) (members : List Member) (caller : ℕ) → key_at founder members caller ≡ key_or founder (numbered members caller)
unfolding key_or
key_numbered founder [] caller = refl
key_numbered founder (member ∷ older) caller =
    key_here founder (caller == next_caller older) member (key_at founder older caller) (numbered older caller) (key_numbered founder older caller)

pub key_found : (founder : Key) (members : List Member) (caller : ℕ) (found : Option Member) → found ≡ numbered members caller → key_or founder found ≡ key_at founder members caller
key_found founder members caller found is = ap (key_or founder) is ∙ sym (key_numbered founder members caller)

-- ---- what may follow

size_taken : (row : Option Refusal) (body bytes : List ℕ) → unless row (Ok body) ≡ Ok bytes → (row ≡ None) × (body ≡ bytes)
size_taken None body bytes is = (refl, cc)
size_taken (Some r) body bytes is = absurd cc

number_taken : (b : Bool) (number n : ℕ) (r : Refusal) → cond b (Ok number) (Err r) ≡ Ok n → (b ≡ true) × (number ≡ n)
number_taken true number n r is = (refl, cc)
number_taken false number n r is = absurd cc

module _ (founder : Key) (past : List Entry) (e : Entry) (act : is_act e.verb ≡ true) where
  -- an entry that is added may follow
  pub follows : outcome founder None past (entry_request founder past e) e.moment ≡ Adds e → MayFollow founder past e
  follows adds =
      let new = adds_new founder None past (entry_request founder past e) e.moment e act adds in
      let caller : e.caller ≡ new.caller.number = ap (λ (x : Entry). x.caller) new.is in
      let number : e.number ≡ new.number = ap (λ (x : Entry). x.number) new.is in
      record {
        size = (size_taken (first_row (size_rows e.body)) e.body new.bytes new.body_is).0;
        number = (number_taken (is_number_of e.verb e.number) e.number new.number _ new.number_is).0;
        caller = ap (option_map (λ (known : Caller). known.number)) new.who ∙ ap (λ (n : ℕ). Some n) (sym caller);
        unused = ap (λ (c : ℕ). numbered_entry past c e.number) caller ∙ ap (numbered_entry past new.caller.number) number ∙ new.unused;
        moment = sym (ap (λ (x : Entry). x.moment) new.is);
      }

  -- and what is added for the request of one that may follow is this one
  pub same_entry : (f : Entry) → MayFollow founder past e → outcome founder None past (entry_request founder past e) e.moment ≡ Adds f → f ≡ e
  same_entry f may adds =
      let new = adds_new founder None past (entry_request founder past e) e.moment f act adds in
      let named : Some new.caller.number ≡ Some e.caller = sym (ap (option_map (λ (known : Caller). known.number)) new.who) ∙ may.caller in
      let caller : new.caller.number ≡ e.caller = cc in
      let number : e.number ≡ new.number = (number_taken (is_number_of e.verb e.number) e.number new.number _ new.number_is).1 in
      let body : e.body ≡ new.bytes = (size_taken (first_row (size_rows e.body)) e.body new.bytes new.body_is).1 in
      new.is
      ∙ ap (λ (c : ℕ). record { caller = c; number = new.number; moment = next_moment past e.moment; verb = e.verb; body = new.bytes }) caller
      ∙ ap (λ (n : ℕ). record { caller = e.caller; number = n; moment = next_moment past e.moment; verb = e.verb; body = new.bytes }) (sym number)
      ∙ ap (λ (m : ℤ). record { caller = e.caller; number = e.number; moment = m; verb = e.verb; body = new.bytes }) may.moment
      ∙ ap (λ (b : List ℕ). record { caller = e.caller; number = e.number; moment = e.moment; verb = e.verb; body = b }) (sym body)

-- ---- an entry of these fields

module _ (founder : Key) (past : List Entry) (caller number : ℕ) (moment : ℤ) (code : ℕ) (body : List ℕ) (verb : Verb) (is : act_with code ≡ Some verb) where
  abbrev pub entry : Entry
  entry = record { caller = caller; number = number; moment = moment; verb = verb; body = body }

  entry_is : entry_of caller number moment code body ≡ Some entry
  entry_is = ap (option_map (λ (v : Verb). record { caller = caller; number = number; moment = moment; verb = v; body = body })) is

  abbrev pub at : ℤ → Entry
  at t = record { caller = caller; number = number; moment = t; verb = verb; body = body }

  module _ (t : ℤ) (same : t ≡ moment) (act : is_act verb ≡ true) where
    here : (P : Entry → Type 0) → P (at t) → P entry
    here P holds = subst (λ (m : ℤ). P (at m)) same holds

    -- it is taken in where its request becomes what may follow
    pub comes_back : (q : Request) (e : Entry) (now : List Entry) → IsInstantNs moment → q ≡ entry_request founder past (at t) → MayFollow founder past (at t) → outcome founder None past q t ≡ Adds e → now ≡ e ∷ past
        → IsSomeAnd (entry_of caller number moment code body) (λ entry. IsAdded founder past entry × (now ≡ entry ∷ past))
    comes_back q e now instant asks may adds more =
        let own : outcome founder None past (entry_request founder past (at t)) t ≡ Adds e = ap (λ (r : Request). outcome founder None past r t) (sym asks) ∙ adds in
        let is : e ≡ at t = same_entry founder past (at t) act e may own in
        subst (λ (o : Option Entry). IsSomeAnd o (λ entry. IsAdded founder past entry × (now ≡ entry ∷ past))) (sym entry_is)
        (here (λ (x : Entry). (IsInstantNs x.moment × ((step founder None past (entry_request founder past x) x.moment).1 ≡ x ∷ past)) × (now ≡ x ∷ past))
        ((subst IsInstantNs (sym same) instant, adds_entry founder past (at t) (own ∙ ap (λ (x : Entry). Adds x) is)), more ∙ ap (λ (x : Entry). x ∷ past) is))

    -- it isn't legal where its request doesn't become it
    pub stays_out : (q : Request) → q ≡ entry_request founder past (at t) → (outcome founder None past q t ≡ Adds (at t) → ⊥)
        → IfSome (entry_of caller number moment code body) (λ entry. IsAdded founder past entry → ⊥)
    stays_out q asks never =
        subst (λ (o : Option Entry). IfSome o (λ entry. IsAdded founder past entry → ⊥)) (sym entry_is)
        (here (λ (x : Entry). IsAdded founder past x → ⊥) (λ is. never (ap (λ (r : Request). outcome founder None past r t) asks ∙ entry_added founder past (at t) is)))

    -- nor where it may not follow
    pub never_follows : (MayFollow founder past (at t) → ⊥) → IfSome (entry_of caller number moment code body) (λ entry. IsAdded founder past entry → ⊥)
    never_follows never =
        subst (λ (o : Option Entry). IfSome o (λ entry. IsAdded founder past entry → ⊥)) (sym entry_is)
        (here (λ (x : Entry). IsAdded founder past x → ⊥) (λ is. never (follows founder past (at t) act (entry_added founder past (at t) is))))
