-- Turns of a register, one after another.
use Rattle.std.proofs.Common.{◌≡◌, ℕ, ◌+◌, List, [], ◌∷◌, ◌++◌, refl, sym, ap, ◌∙◌, inl, append_assoc, arith}
use Rattle.act_model.specs.declared.entry.Entry.{Entry}
use Rattle.act_model.specs.declared.keeper.OfficeState.{OfficeState}
use Rattle.act_model.specs.Conducts.{Extends}
use Rattle.act_model.specs.Keepers.{RoseBy}
use Rattle.mpc_desk.specs.Desks.{RestsAt, count_of}
use Rattle.comet_model.specs.Turns.{CometTurn}
use Rattle.comets_command.specs.Terms.{Terms, IsTurnIn, ConductIn}
use Rattle.comets_command.specs.Conducted.{LeavesIn, IsEndOfEach, Grows}

-- an image of the register at rest at the start is one of the conduct
pub leaves_first : (terms : Terms) (before : OfficeState) (turns : List CometTurn) (after : OfficeState) (c : ConductIn terms before turns after) (image : List ℕ) → RestsAt before image → LeavesIn terms before turns after c image
leaves_first terms before [] after c image rests = rests
leaves_first terms before (turn ∷ turns) after (between, is, later) image rests = inl rests

-- ---- how entries follow one another

pub extends_on : (a b c : List Entry) → Extends a b → Extends b c → Extends a c
extends_on a b c (new, first) (newer, second) =
    (newer ++ new, second ∙ ap (λ (l : List Entry). newer ++ l) first ∙ sym (append_assoc newer new a))

module _ (terms : Terms) (grow : (before after : OfficeState) (turns : List CometTurn) → ConductIn terms before turns after → Extends before.settled after.settled) where
  turn_grows : (before : OfficeState) (turn : CometTurn) (after : OfficeState) → IsTurnIn terms before turn after → Extends before.settled after.settled
  turn_grows before turn after is = grow before after (turn ∷ []) (after, is, refl)

  ends_each : (entries : List Entry) (before : OfficeState) (turns : List CometTurn) (after : OfficeState) (c : ConductIn terms before turns after) → Extends entries before.settled → IsEndOfEach entries terms before turns after c
  ends_each entries before [] after c ends = ends
  ends_each entries before (turn ∷ turns) after (between, is, later) ends =
      (ends, ends_each entries between turns after later (extends_on entries before.settled between.settled ends (turn_grows before turn between is)))

  pub grows : (before : OfficeState) (turns : List CometTurn) (after : OfficeState) (c : ConductIn terms before turns after) → Grows terms before turns after c
  grows before [] after c = tt
  grows before (turn ∷ turns) after (between, is, later) =
      (ends_each before.settled between turns after later (turn_grows before turn between is), grows between turns after later)

-- ---- counts

pub rose_more : (a b c m n sum : ℕ) → RoseBy m (count_of a) (count_of b) → RoseBy n (count_of b) (count_of c) → sum ≡ m + n → RoseBy sum (count_of a) (count_of c)
rose_more a b c m n sum first second is = omega arith
