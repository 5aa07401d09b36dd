-- What is worked out for a request that was heard, question by question.
use Rattle.std.proofs.Common.{◌≡◌, ℕ, ℤ, List, Bool, true, false, cond, Option, Some, None, Result, Ok, Err, refl, sym, ap, subst, ◌∙◌, inl, inr}
use Rattle.act_model.specs.declared.act.Act.{Act}
use Rattle.act_model.specs.declared.deed.Deed.{Deed}
use Rattle.act_model.specs.declared.entry.Entry.{Entry}
use Rattle.act_model.specs.declared.heard.Asked.{Asked}
use Rattle.act_model.specs.declared.heard.Asked.TheVariants as asked
use Rattle.act_model.specs.declared.heard.Heard.{Heard}
use Rattle.act_model.specs.declared.reply.Refusal.{Refusal}
use Rattle.act_model.specs.declared.reply.Refusal.TheVariants.{Role}
use Rattle.act_model.specs.Deeds.{deeds}
use Rattle.act_model.specs.Doing.{does}
use Rattle.act_model.specs.Refusals.{role_rows, act_in, work_out, full_rows, work_within}
use Rattle.act_model.specs.Rows.{first_row, unless, ◌>>=◌, IsDue}
use Rattle.std.specs.Prelude.{is_some}
use Rattle.desk_core.specs.Doing.{IsActAtOnce, IsAskedAtOnce, IsAtOnce}

module _ (past : List Entry) (moment : ℤ) (heard : Heard) where
  -- working out, by the refusal of what the caller may not, and by what is asked
  abbrev parts : Option Refusal → Result Act Refusal → Result Deed Refusal
  parts barred what = unless barred (what >>= does (deeds past) moment)

  work_is : work_out past moment heard ≡ parts (first_row (role_rows past heard)) (act_in heard.asked)
  unfolding work_out
  work_is = refl

  by_bar : (b : Bool) → first_row (role_rows past heard) ≡ cond b (Some Role) None → work_out past moment heard ≡ parts (cond b (Some Role) None) (act_in heard.asked)
  by_bar b is = work_is ∙ ap (λ (o : Option Refusal). parts o (act_in heard.asked)) is

  pub work_barred : (b : Bool) → b ≡ true → first_row (role_rows past heard) ≡ cond b (Some Role) None → work_out past moment heard ≡ Err Role
  work_barred b barred is = by_bar b is ∙ ap (λ (b : Bool). parts (cond b (Some Role) None) (act_in heard.asked)) barred

  free : (b : Bool) → b ≡ false → first_row (role_rows past heard) ≡ cond b (Some Role) None → work_out past moment heard ≡ parts None (act_in heard.asked)
  free b may is = by_bar b is ∙ ap (λ (b : Bool). parts (cond b (Some Role) None) (act_in heard.asked)) may

  pub work_other : (b : Bool) (what : Asked) (refusal : Refusal) → b ≡ false → first_row (role_rows past heard) ≡ cond b (Some Role) None → heard.asked ≡ what → act_in what ≡ Err refusal
      → work_out past moment heard ≡ Err refusal
  work_other b what refusal may is asks none = free b may is ∙ ap (λ (w : Asked). parts None (act_in w)) asks ∙ ap (parts None) none

  free_act : (b : Bool) (act : Act) → b ≡ false → first_row (role_rows past heard) ≡ cond b (Some Role) None → heard.asked ≡ asked.Act act → work_out past moment heard ≡ does (deeds past) moment act
  free_act b act may is asks = free b may is ∙ ap (λ (w : Asked). parts None (act_in w)) asks

  pub due_act : (b : Bool) (act : Act) (result : Result Deed Refusal) → b ≡ false → first_row (role_rows past heard) ≡ cond b (Some Role) None → heard.asked ≡ asked.Act act
      → IsDue (does (deeds past) moment act) result → IsDue (work_out past moment heard) result
  due_act b act result may is asks due =
      subst (λ (x : Result Deed Refusal). IsDue x result) (sym (free_act b act may is asks)) due

  -- the same where no memory is needed for it
  pub exact_act : (b : Bool) (act : Act) (result : Result Deed Refusal) → b ≡ false → first_row (role_rows past heard) ≡ cond b (Some Role) None → heard.asked ≡ asked.Act act
      → (IsActAtOnce (deeds past) act → result ≡ does (deeds past) moment act) → IsAtOnce past heard → result ≡ work_out past moment heard
  exact_act b act result may is asks exact (inl barred) =
      let none : first_row (role_rows past heard) ≡ None = is ∙ ap (λ (b : Bool). cond b (Some Role) None) may in
      let never : false ≡ true = ap is_some (sym none) ∙ barred in
      absurd cc
  exact_act b act result may is asks exact (inr once) = exact (subst (IsAskedAtOnce (deeds past)) asks once) ∙ sym (free_act b act may is asks)

-- what a request that was heard does, where the journal has room for its entry
module _ (limit : Option ℕ) (past : List Entry) (bytes : List ℕ) (moment : ℤ) (heard : Heard) where
  pub within_refused : (r : Refusal) → work_out past moment heard ≡ Err r → work_within limit past bytes moment heard ≡ Err r
  within_refused r is = ap (λ (x : Result Deed Refusal). x >>= λ deed. unless (first_row (full_rows limit past bytes)) (Ok deed)) is

  pub within_row : (deed : Deed) (row : Option Refusal) → work_out past moment heard ≡ Ok deed → row ≡ first_row (full_rows limit past bytes) → work_within limit past bytes moment heard ≡ unless row (Ok deed)
  within_row deed row is row_is =
      ap (λ (x : Result Deed Refusal). x >>= λ deed. unless (first_row (full_rows limit past bytes)) (Ok deed)) is ∙ ap (λ (o : Option Refusal). unless o (Ok deed)) (sym row_is)
