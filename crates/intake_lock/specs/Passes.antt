-- Locks, passes and turns, as contracts see them.
use Rattle.std.specs.Prelude.{ℕ, ◌<◌, List, [], ◌∷◌}
use Rattle.atomic_table.specs.Seated.{TableId}
use Rattle.act_model.specs.declared.keeper.Office.{Office}
use Rattle.intake_lock.specs.declared.view.Item.{Item}
use Rattle.intake_lock.specs.declared.view.Role.{Role}
use Rattle.intake_lock.specs.declared.view.Role.TheVariants.{Root, Branch, Spent}
use Rattle.intake_lock.specs.declared.view.View.{View}
use Rattle.intake_lock.specs.Rule.{MOST}
use Rattle.intake_lock.specs.Views.{spent_view}

-- a lock: which one it is, and the office that its keeper stood for when it was made
pub record LockState : Type 0 where
  pub id : TableId
  pub opening : Office

-- a pass: of which lock, its number there, and what it knows
pub record PassState : Type 0 where
  pub lock : TableId
  pub id : ℕ
  pub view : View

-- a turn: the pass that has it, as it knew the office when it entered; the office as the keeper stands for it now; and
-- the calls between, the newest first
pub record TurnState : Type 0 where
  pub lock : TableId
  pub id : ℕ
  pub view : View
  pub office : Office
  pub items : List Item

-- the view that a pass keeps
abbrev pub view_in : List View → View
view_in [] = spent_view
view_in (v ∷ views) = v

-- a root with fewer branches out than there may be
abbrev pub MaySplit : Role → Type 0
MaySplit (Root out) = out < MOST
MaySplit Branch = ⊥
MaySplit Spent = ⊥

abbrev pub IsRoot : Role → Type 0
IsRoot (Root out) = Unit {0}
IsRoot Branch = ⊥
IsRoot Spent = ⊥
