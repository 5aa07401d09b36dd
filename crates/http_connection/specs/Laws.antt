-- What the laws of lower crates say, together, of calls in one history and of the messages of a connection.
use Rattle.std.specs.Prelude.{◌≡◌, ℕ, ℤ, ◌≤◌, ◌<◌, List, [], ◌++◌, length, Option}
use Rattle.act_bodies.specs.declared.key.Key.{Key}
use Rattle.act_model.specs.declared.entry.Entry.{Entry}
use Rattle.act_model.specs.declared.keeper.Office.{Office}
use Rattle.act_model.specs.Clocks.{ClockState, Gives}
use Rattle.act_model.specs.Conducts.{Extends}
use Rattle.intake_lock.specs.declared.view.Item.{Item}
use Rattle.act_model.specs.declared.keeper.Stamps.{Stamps}
use Rattle.intake_lock.specs.Stamps.{StampsOn}
use Rattle.intake_lock.specs.Items.{IsTrue, Calls, HasStamp, AreStamped}
use Rattle.desk_http.specs.Heads.{Message, IsMessage, NoMessage, NeverMessage}

-- histories that begin one another, calls that are true of them, and readings of a clock
pub record CallLaws : Type 0 where
  pub readings : (before between after : ClockState) (xs ys : List ℤ) → Gives before between xs
      → Gives between after ys → Gives before after (xs ++ ys)
  pub follow : (a b c : List Entry) → Extends a b → Extends b c → Extends a c
  pub longer : (a b : List Entry) → Extends a b → length a ≤ length b
  pub one : (a b c : List Entry) → Extends a c → Extends b c → length a ≡ length b → a ≡ b
  pub here : (before after : Office) (item : Item) → Calls before item after
      → IsTrue before.founder before.limit after.state.settled item
  pub grows : (before after : Office) (item : Item) → Calls before item after
      → Extends before.state.settled after.state.settled
  pub place : (before after : Office) (item : Item) → Calls before item after
      → length before.state.settled ≤ item.position
  pub later : (founder : Key) (limit : Option ℕ) (history later : List Entry) (item : Item)
      → Extends history later → IsTrue founder limit history item → IsTrue founder limit later item
  pub has_stamp : (before after : Office) (item : Item) → Calls before item after
      → HasStamp after.stamps item.reading item.stamp
  pub stamps : (before after : Office) (item : Item) → Calls before item after → StampsOn before.stamps after.stamps
  pub stamps_follow : (a b c : Option Stamps) → StampsOn a b → StampsOn b c → StampsOn a c
  pub stamped_later : (a b : Option Stamps) (items : List Item) → StampsOn a b → AreStamped a items
      → AreStamped b items

-- messages in bytes of which more may come
pub record StreamLaws : Type 0 where
  pub goes_on : (bytes : List ℕ) (m : Message) (rest more : List ℕ) → IsMessage bytes m rest
      → IsMessage (bytes ++ more) m (rest ++ more)
  pub now : (bytes : List ℕ) → NeverMessage bytes → NoMessage bytes
  pub later : (bytes more : List ℕ) → NeverMessage bytes → NeverMessage (bytes ++ more)
  pub some : (bytes : List ℕ) → NeverMessage bytes → 0 < length bytes
  pub nothing : NoMessage []
