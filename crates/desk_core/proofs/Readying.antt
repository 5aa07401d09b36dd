-- An act that is ready at a history.
use Rattle.std.proofs.Common.{◌≡◌, ◌<◌, List, length, sym, ap, subst, ◌∙◌}
use Rattle.std.specs.Prelude.{unwrap_or}
use Rattle.act_model.specs.declared.deed.Deed.{Deed}
use Rattle.act_model.specs.declared.entry.Entry.{Entry}
use Rattle.act_model.specs.Deeds.{deed_of, deeds}
use Rattle.act_model.specs.History.{next_receipt}
use Rattle.act_model.specs.OfficeTables.{tables_of, with_row}
use Rattle.act_model.specs.Roster.{members, with_enrolled}
use Rattle.act_model.specs.declared.roster.TheConstants.{CALLERS}
use Rattle.act_model.specs.Replies.{deed_answer, entry_answer}
use Rattle.desk_core.specs.Office.{Ready, IsReadyAt, Fits}
use Rattle.desk_core.proofs.Steps.{callers_with}

module _ (past : List Entry) (ready : Ready) (deed : Deed) (done : deed_of (deeds past) ready.entry ≡ deed) where
  answer_at : ready.answer ≡ deed_answer (next_receipt past) (deeds past) deed → ready.answer ≡ entry_answer past ready.entry
  unfolding entry_answer
  answer_at is = is ∙ ap (deed_answer (next_receipt past) (deeds past)) (sym done)

  -- what was worked out for a deed stands with the entry that does it
  pub ready_at : ready.deed ≡ deed → ready.answer ≡ deed_answer (next_receipt past) (deeds past) deed
      → unwrap_or ready.tables (tables_of (deeds past)) ≡ with_row deed (tables_of (deeds past)) → Fits (deeds past) deed → length (members (deeds past)) < CALLERS → IsReadyAt past ready
  ready_at deed_is answer tables fits few =
      record {
        answer = answer_at answer;
        deed = deed_is ∙ sym done;
        fits = subst (Fits (deeds past)) (sym deed_is) fits;
        callers = subst (λ (d : Deed). length (with_enrolled d (members (deeds past))) < CALLERS) (sym done) (callers_with (deeds past) deed few fits);
        tables = tables ∙ ap (λ (d : Deed). with_row d (tables_of (deeds past))) (sym done);
      }
