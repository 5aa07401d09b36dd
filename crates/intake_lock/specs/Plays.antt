-- What each step of the lock tells its thread: of the seat before, the number that was found, and the seat after.
use Rattle.std.specs.Prelude.{◌≡◌, ◌≢◌, ◌⊎◌, ℕ, List, [], ◌∷◌, Option, Some}
use Rattle.atomic_table.specs.Table.{Me}
use Rattle.act_model.specs.declared.keeper.Office.{Office}
use Rattle.act_model.specs.Conducts.{Extends}
use Rattle.intake_lock.specs.declared.view.Item.{Item}
use Rattle.intake_lock.specs.declared.view.Stage.TheVariants.{Waiting}
use Rattle.intake_lock.specs.declared.view.View.{View}
use Rattle.intake_lock.specs.Stamps.{StampsOn}
use Rattle.intake_lock.specs.Rule.{word}
use Rattle.intake_lock.specs.Views.{history_seen, waiting_view, holding_view, published_view, idle}

-- a pass's view, and the slot if it holds it
abbrev pub Mine : Type 0 → Type 0
Mine V = Me (Option V) View

module _ {V : Type 0} where
  -- a ticket was drawn
  abbrev pub Draws : Mine V → ℕ → Mine V → Type 0
  Draws m found n = (ticket : ℕ) × (found ≡ word ticket) × (n ≡ (waiting_view ticket m.0, m.1))

  module _ (office_of : V → Office) where
    -- the ticket is served: the pass has the turn, with the keeper, and has seen the office that it stands for
    pub record Gets (ticket : ℕ) (m : Mine V) (n : Mine V) : Type 0 where
      pub keeper : V
      pub seat : n ≡ (holding_view ticket (office_of keeper) m.0, (0, Some keeper) ∷ [])
      pub founder : (office_of keeper).founder ≡ m.0.office.founder
      pub limit : (office_of keeper).limit ≡ m.0.office.limit
      pub grows : Extends (history_seen m.0) (office_of keeper).state.settled
      pub stamps : StampsOn m.0.office.stamps (office_of keeper).stamps

    -- another ticket is served, and nothing changed; or the pass's own
    abbrev pub Looks : Mine V → ℕ → Mine V → Type 0
    Looks m found n = (ticket : ℕ) → m.0.stage ≡ Waiting ticket → ((found ≢ word ticket) × (n ≡ m))
        ⊎ ((found ≡ word ticket) × Gets ticket m n)

  -- these calls were published, and this office seen
  abbrev pub Publishes : Office → List Item → Mine V → Mine V → Type 0
  Publishes office items m n = n ≡ (published_view office items m.0, m.1)

  -- the turn was given on, and the slot is at home
  abbrev pub Leaves : Mine V → Mine V → Type 0
  Leaves m n = n ≡ (idle m.0, [])

  -- nothing changed, and the shorter of two histories that were seen begins the longer
  abbrev pub Tells : Mine V → Mine V → Type 0
  Tells m n = (n ≡ m) × Extends m.0.also (history_seen m.0)
