-- What holds of the lock between any two steps.
--
-- The words are the tickets drawn, the ticket served, and the length of the history, all modulo 2^64. The one slot has
-- the keeper while no pass has the turn.
use Rattle.std.specs.Prelude.{◌≡◌, ◌⊎◌, ℕ, ◌+◌, ◌^◌, ◌%◌, ◌<◌, ◌≤◌, List, [], ◌∷◌, ◌++◌, length, sum_by, Option, Some}
use Rattle.std.specs.Prelude.{IfSome, Contains}
use mathlib.Core.Option as slot
use lib.ListN.{get_elem?}
use Rattle.atomic_table.specs.Table.{State}
use Rattle.act_model.specs.declared.entry.Entry.{Entry}
use Rattle.act_model.specs.declared.keeper.Office.{Office}
use Rattle.act_model.specs.declared.keeper.Stamp.{Stamp}
use Rattle.act_model.specs.Conducts.{Extends, EitherWay}
use Rattle.act_model.specs.Legal.{IsLegal}
use Rattle.intake_lock.specs.declared.view.Item.{Item}
use Rattle.intake_lock.specs.declared.view.Role.{Role}
use Rattle.intake_lock.specs.declared.view.Role.TheVariants.{Root, Branch, Spent}
use Rattle.intake_lock.specs.declared.view.Stage.{Stage}
use Rattle.intake_lock.specs.declared.view.Stage.TheVariants.{Idle, Waiting, Holding}
use Rattle.intake_lock.specs.declared.view.View.{View}
use Rattle.intake_lock.specs.Stamps.{Gave, StampsOn}
use Rattle.intake_lock.specs.Items.{AddsEntry, AreTrue, AreStamped, IsStampOf, RisesBy}
use Rattle.intake_lock.specs.Views.{history_seen, live, ticket_count, made_by, rises_by, HasTicket, HasTurn}

-- the greatest number of passes that may be live
abbrev pub MOST : ℕ
MOST = 1000

-- a number as a word has it
abbrev pub word : ℕ → ℕ
word n = n % 2 ^ 64

-- ---- one view

-- what a pass waits for, where these tickets are drawn and this one is served: one that waits has a ticket that was
-- drawn and not called past; the one that has the turn has the ticket that is served, and knows the office as it is
abbrev pub FitsStage : Office → ℕ → ℕ → View → Stage → Type 0
FitsStage office drawn served v Idle = Unit {0}
FitsStage office drawn served v (Waiting ticket) = (served ≤ ticket) × (ticket < drawn)
FitsStage office drawn served v (Holding ticket) = (ticket ≡ served) × (served < drawn) × (v.office ≡ office)

-- a live pass is of this office: it has seen a beginning of its history, and the first of its stamps; its calls are
-- true of what it has seen, and its acts have stamps of the office, where acts are stamped
pub record IsKnown (opening office : Office) (v : View) : Type 0 where
  pub founder : v.office.founder ≡ opening.founder
  pub limit : v.office.limit ≡ opening.limit
  pub first : Extends (history_seen v) office.state.settled
  pub also : Extends v.also office.state.settled
  pub true_of : AreTrue opening.founder opening.limit (history_seen v) v.mine
  pub stamps : StampsOn v.office.stamps office.stamps
  pub stamped : AreStamped office.stamps v.mine

-- a pass that was joined has no calls, waits for nothing, and made nothing
pub record IsGone (v : View) : Type 0 where
  pub stage : v.stage ≡ Idle
  pub calls : v.mine ≡ []
  pub made : v.made ≡ 0

abbrev pub FitsRole : Office → Office → ℕ → ℕ → View → Role → Type 0
FitsRole opening office drawn served v (Root out) = IsKnown opening office v × FitsStage office drawn served v v.stage
FitsRole opening office drawn served v Branch = IsKnown opening office v × FitsStage office drawn served v v.stage
FitsRole opening office drawn served v Spent = IsGone v

abbrev pub Fits : Office → Office → ℕ → ℕ → View → Type 0
Fits opening office drawn served v = FitsRole opening office drawn served v v.role

-- ---- all views

abbrev pub At : List View → ℕ → View → Type 0
At views id v = get_elem? views id ≡ slot.some v

-- the tickets that are out are different
abbrev pub Apart : List View → Type 0
Apart views = (i j : ℕ) (v w : View) (ticket : ℕ) → At views i v → At views j w → HasTicket v ticket
    → HasTicket w ticket → i ≡ j

-- one view is the root, and it has as many branches out as there are live branches
pub record Rooted (views : List View) : Type 0 where
  pub root : ℕ
  pub out : ℕ
  pub most : out ≤ MOST
  pub count : sum_by live views ≡ out + 1
  pub there : (v : View) × At views root v × (v.role ≡ Root out)
  pub one : (id n : ℕ) (v : View) → At views id v → v.role ≡ Root n → (id ≡ root) × (n ≡ out)

-- some pass has seen the whole history
abbrev pub Latest : Office → List View → Type 0
Latest office views = (id : ℕ) × (v : View) × At views id v × (history_seen v ≡ office.state.settled)

-- the call of some pass
abbrev pub IsCall : List View → Item → Type 0
IsCall views item = (id : ℕ) × (v : View) × At views id v × Contains v.mine item

-- a call of some pass added the entry at this history, or left it in doubt there
abbrev pub IsOrigin : Office → List View → List Entry → Entry → Type 0
IsOrigin opening views past entry =
    (item : Item) × IsCall views item × AddsEntry opening.founder opening.limit past item entry

-- each of the newer entries that came to the history at the opening has such a call
abbrev pub Origins : Office → List View → List Entry → Type 0
Origins opening views [] = Unit {0}
Origins opening views (entry ∷ newer) = IsOrigin opening views (newer ++ opening.state.settled) entry
    × Origins opening views newer

-- each stamp that wasn't given at the opening is that of some pass's call
abbrev pub StampsCome : Office → Office → List View → Type 0
StampsCome opening office views = (stamp : Stamp) → Gave office.stamps stamp
    → Gave opening.stamps stamp ⊎ ((item : Item) × IsCall views item × IsStampOf item stamp)

-- the history is that at the opening with newer entries, each of which some call added, and so is the act in doubt; and
-- no act was stamped that isn't some pass's call
pub record Comes (opening office : Office) (views : List View) : Type 0 where
  pub newer : List Entry
  pub grown : office.state.settled ≡ newer ++ opening.state.settled
  pub origins : Origins opening views newer
  pub doubt : IfSome office.state.doubt (λ entry. IsOrigin opening views office.state.settled entry)
  pub stamps : StampsCome opening office views

-- the history is legal, also with the act in doubt, if that at the opening was
abbrev pub StaysLegal : Office → Office → Type 0
StaysLegal opening office = IsLegal opening.founder opening.state.settled
    → EitherWay (IsLegal opening.founder) office.state

-- ---- the slot

module _ {V : Type 0} (office_of : V → Office) where
  -- the keeper is at home, and no pass has the turn
  pub record IsHome (office : Office) (homes : List (slot.Option (Option V))) (views : List View) : Type 0 where
    pub keeper : V
    pub home : homes ≡ slot.some (Some keeper) ∷ []
    pub stands : office_of keeper ≡ office
    pub free : (id : ℕ) (v : View) → At views id v → ¬ HasTurn v

  -- the keeper is out with the pass that has the turn
  pub record IsOut (homes : List (slot.Option (Option V))) (views : List View) : Type 0 where
    pub home : homes ≡ slot.none ∷ []
    pub id : ℕ
    pub view : View
    pub at : At views id view
    pub turn : HasTurn view

  -- ---- the rule

  pub record Standing (opening : Office) (s : State (Option V) View) : Type 0 where
    pub office : Office
    pub drawn : ℕ
    pub served : ℕ
    pub words : s.words ≡ word drawn ∷ word served ∷ word (length office.state.settled) ∷ []
    pub founder : office.founder ≡ opening.founder
    pub limit : office.limit ≡ opening.limit
    pub tickets : drawn ≡ served + sum_by ticket_count s.views
    pub fits : (id : ℕ) (v : View) → At s.views id v → Fits opening office drawn served v
    pub apart : Apart s.views
    pub rooted : Rooted s.views
    pub latest : Latest office s.views
    pub kept : IsHome office s.homes s.views ⊎ IsOut s.homes s.views
    pub made : length office.state.settled ≡ length opening.state.settled + sum_by made_by s.views
    pub legal : StaysLegal opening office
    pub comes : Comes opening office s.views
    pub counts : RisesBy (sum_by rises_by s.views) opening.faults office.faults

-- ---- the end of a lock

-- What the keeper stands for once the root was closed. The history extends what the root has seen, by as many entries
-- as its passes made; each entry past that at the opening was added by a call of the root's, at its place, and so is
-- the act in doubt; the count of faults rose by at least what the root's calls say; and the root's acts have stamps of
-- the office, where acts are stamped.
pub record Closes (opening : Office) (view : View) (office : Office) : Type 0 where
  pub founder : office.founder ≡ opening.founder
  pub limit : office.limit ≡ opening.limit
  pub seen : Extends (history_seen view) office.state.settled
  pub made : length office.state.settled ≡ length opening.state.settled + view.made
  pub legal : StaysLegal opening office
  pub comes : Comes opening office (view ∷ [])
  pub counts : RisesBy (rises_by view) opening.faults office.faults
  pub stamped : AreStamped office.stamps view.mine
