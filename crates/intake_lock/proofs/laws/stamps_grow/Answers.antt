use Rattle.std.proofs.Common.{length}
use Rattle.intake_lock.proofs.StampLemmas.{one_has, one_grows, stamps_on, stamped_later}
use Rattle.intake_lock.proofs.laws.stamps_grow.Goals as goal

pub returns : goal.returns
returns c =
    record {
      here = λ before after item is. one_has item (length after.state.settled) after.stamps before.stamps item.reading is.stamps;
      grows = λ before after item is. one_grows item (length after.state.settled) after.stamps before.stamps item.reading is.stamps;
      follow = stamps_on;
      later = stamped_later;
    }
