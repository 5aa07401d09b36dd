-- The act that a body asks, and the deed of an entry: nothing, or what its act does.
use Rattle.std.proofs.Common.{◌≡◌, ℕ, List, Option, Some, None, IfOk, Result, Ok, Err, refl}
use Rattle.obs_record.specs.declared.line.Line.{Line}
use Rattle.obs_record.specs.declared.rule.HeaderFault.{HeaderFault}
use Rattle.act_model.specs.declared.act.Act.{Act}
use Rattle.act_model.specs.declared.act.Act.TheVariants as act
use Rattle.act_model.specs.declared.act.ActFault.{ActFault}
use Rattle.act_model.specs.declared.deed.Deed.{Deed}
use Rattle.act_model.specs.declared.deed.Deed.TheVariants.{Nothing}
use Rattle.act_model.specs.declared.entry.Entry.{Entry}
use Rattle.act_model.specs.declared.reply.Refusal.{Refusal}
use Rattle.act_model.specs.Acts.{read_as, psv_act, act_of}
use Rattle.act_model.specs.Doing.{does}
use Rattle.act_model.specs.Deeds.{unless_refused_deed, done_if_read, deed_of}

-- what holds of the act of each body that was read holds of the act that was read
pub of_body : {B : Type 0} (P : Act → Type 0) (asked : B → Act) (o : Option B) → ((body : B) → o ≡ Some body → P (asked body)) → IfOk (read_as asked o) P
of_body P asked (Some body) is = is body refl
of_body P asked None is = tt

pub of_psv : (P : Act → Type 0) (o : Result (List Line) (HeaderFault × ℕ)) → ((lines : List Line) → o ≡ Ok lines → P (act.SubmitPsv lines)) → IfOk (psv_act o) P
of_psv P (Ok lines) is = is lines refl
of_psv P (Err fault) is = tt

pub deed_cases : (P : Deed → Type 0) (past : List Deed) (e : Entry) → P Nothing → ((a : Act) (deed : Deed) → act_of e.verb e.body ≡ Ok a → does past e.moment a ≡ Ok deed → P deed) → P (deed_of past e)
unfolding deed_of
deed_cases P past e nothing done = of_read (act_of e.verb e.body) refl
  where
    of_done : (a : Act) → act_of e.verb e.body ≡ Ok a → (r : Result Deed Refusal) → does past e.moment a ≡ r → P (unless_refused_deed r)
    of_done a read (Ok deed) is = done a deed read is
    of_done a read (Err refusal) is = nothing

    of_read : (r : Result Act ActFault) → act_of e.verb e.body ≡ r → P (done_if_read past e.moment r)
    of_read (Ok a) is = of_done a is (does past e.moment a) refl
    of_read (Err fault) is = nothing
