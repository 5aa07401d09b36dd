use Rattle.std.proofs.Common.{length, refl}
use Rattle.intake_lock.proofs.Histories.{takes_extend, takes_place, takes_true, true_later}
use Rattle.intake_lock.proofs.StampLemmas.{one_counts}
use Rattle.intake_lock.proofs.laws.calls_are_true.Goals as goal

pub returns : goal.returns
returns c =
    let steps = c.steps_add_one_entry.ensures in
    record {
      here = λ before after item is. takes_true steps before.founder before.limit before.state item after.state item.reading refl is.reads
          (one_counts item (length after.state.settled) after.stamps before.stamps item.reading is.stamps) is.takes;
      grows = λ before after item is. takes_extend steps before.founder before.limit before.state item after.state item.reading is.takes;
      place = λ before after item is. takes_place steps before.founder before.limit before.state item after.state item.reading is.takes;
      later = true_later steps;
    }
