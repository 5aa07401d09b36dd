-- Turns of a desk, one after another.
use Rattle.std.proofs.Common.{◌≡◌, ℕ, ◌+◌, List, [], ◌∷◌, ◌++◌, Option, refl, sym, ap, ◌∙◌, inl, append_assoc, arith}
use Rattle.act_bodies.specs.declared.key.Key.{Key}
use Rattle.act_model.specs.declared.entry.Entry.{Entry}
use Rattle.act_model.specs.declared.keeper.OfficeState.{OfficeState}
use Rattle.act_model.specs.Conducts.{Extends}
use Rattle.act_model.specs.Keepers.{RoseBy}
use Rattle.act_model.specs.Turns.{Turn, IsTurn, Conduct}
use Rattle.mpc_desk.specs.Desks.{RestsAt, count_of}
use Rattle.run_command.specs.Conducted.{LeavesIn, IsEndOfEach, Grows}

module _ (founder : Key) (limit : Option ℕ) where
  -- an image of the office at rest at the start is one of the conduct
  pub leaves_first : (before : OfficeState) (turns : List Turn) (after : OfficeState) (c : Conduct founder limit before turns after) (image : List ℕ) → RestsAt before image → LeavesIn founder limit before turns after c image
  leaves_first before [] after c image rests = rests
  leaves_first before (turn ∷ turns) after (between, is, later) image rests = inl rests

-- ---- how histories grow

module _ (founder : Key) (limit : Option ℕ) where
  pub extends_on : (a b c : List Entry) → Extends a b → Extends b c → Extends a c
  extends_on a b c (new, first) (newer, second) =
      (newer ++ new, second ∙ ap (λ (l : List Entry). newer ++ l) first ∙ sym (append_assoc newer new a))

  module _ (grow : (before after : OfficeState) (turns : List Turn) → Conduct founder limit before turns after → Extends before.settled after.settled) where
    turn_grows : (before : OfficeState) (turn : Turn) (after : OfficeState) → IsTurn founder limit before turn after → Extends before.settled after.settled
    turn_grows before turn after is = grow before after (turn ∷ []) (after, is, refl)

    ends_each : (history : List Entry) (before : OfficeState) (turns : List Turn) (after : OfficeState) (c : Conduct founder limit before turns after) → Extends history before.settled → IsEndOfEach history founder limit before turns after c
    ends_each history before [] after c ends = ends
    ends_each history before (turn ∷ turns) after (between, is, later) ends =
        (ends, ends_each history between turns after later (extends_on history before.settled between.settled ends (turn_grows before turn between is)))

    pub grows : (before : OfficeState) (turns : List Turn) (after : OfficeState) (c : Conduct founder limit before turns after) → Grows founder limit before turns after c
    grows before [] after c = tt
    grows before (turn ∷ turns) after (between, is, later) =
        (ends_each before.settled between turns after later (turn_grows before turn between is), grows between turns after later)

-- ---- turns of a desk

pub rose_more : (a b c m n sum : ℕ) → RoseBy m (count_of a) (count_of b) → RoseBy n (count_of b) (count_of c) → sum ≡ m + n → RoseBy sum (count_of a) (count_of c)
rose_more a b c m n sum first second is = omega arith
