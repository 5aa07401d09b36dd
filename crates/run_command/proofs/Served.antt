-- The turns of a desk by which frames were answered, one after another.
use Rattle.std.proofs.Common.{◌≡◌, ℕ, ℤ, List, [], ◌∷◌, ◌++◌, Option, Some, None, map, refl, sym, ap, subst, ◌∙◌, arith}
use Rattle.std.specs.Prelude.{option_to_list}
use Rattle.std.specs.List.{cons_option}
use Rattle.std.proofs.lemmas.List.Sums.{sum_by-cons}
use Rattle.frame_service.specs.Exchanges.{Exchange, Attending, Attends}
use Rattle.act_bodies.specs.declared.key.Key.{Key}
use Rattle.act_model.specs.declared.request.Request.{Request}
use Rattle.act_model.specs.Keepers.{RoseBy}
use Rattle.act_model.specs.Turns.{Turn, Conduct, request_of, readings_of, rises_of, written_reply}
use Rattle.act_model.specs.Clocks.{ClockState, Gives}
use Rattle.mpc_desk.specs.Desks.{DeskState, IsAtRest, count_of}
use Rattle.command_ends.specs.Disks.{DiskWords, DiskRose}
use Rattle.run_command.specs.Conducted.{TurnsOn}
use Rattle.run_command.specs.Serving.{AnswersBy, AreTurnsOf}
use Rattle.run_command.proofs.DeskTurns.{OneTurn, one_turn, turn_with}
use Rattle.run_command.proofs.Conducting.{rose_more}
use Rattle.run_command.proofs.Readings.{gives_none}

-- turns of a desk, one after another: a conduct under this founder's key and limit, each turn on the disk that the one
-- before it left, and by how much the disk's count of faults rose in them
pub record TakesTurns {D : Type 0} (on : DiskWords D) (founder : Key) (limit : ℕ) (old : DeskState D) (turns : List Turn) (new : DeskState D) : Type 0 where
  pub conduct : Conduct founder (Some limit) old.state turns new.state
  pub each : TurnsOn on founder (Some limit) old.state turns new.state conduct old.disk new.disk
  pub counts : DiskRose on (rises_of turns) old.disk new.disk
  pub at_rest : IsAtRest on.leaves old → IsAtRest on.leaves new

none_more : (n : ℕ) → RoseBy (rises_of []) (count_of n) (count_of n)
none_more n = omega arith

readings_first : (reading : Option ℤ) (readings : List ℤ) → option_to_list reading ++ readings ≡ cons_option reading readings
readings_first None readings = refl
readings_first (Some t) readings = refl

module _ (go_on : (before between after : ClockState) (xs ys : List ℤ) → Gives before between xs → Gives between after ys → Gives before after (xs ++ ys)) {D : Type 0} (on : DiskWords D) (founder : Key) (limit : ℕ) where
  -- the turns by which these frames were answered
  pub record TurnsOf (old : DeskState D) (before : ClockState) (served : List Exchange) (new : DeskState D) (after : ClockState) : Type 0 where
    pub turns : List Turn
    pub are : AreTurnsOf before after served turns
    pub takes : TakesTurns on founder limit old turns new

  no_turn : (desk : DeskState D) (clock : ClockState) → TurnsOf desk clock [] desk clock
  no_turn desk clock = record {
    turns = [];
    are = record { requests = refl; replies = refl; clock = gives_none clock };
    takes = record { conduct = refl; each = refl; counts = none_more (on.faults desk.disk); at_rest = λ rests. rests };
  }

  -- the turn of one frame, before those of others
  turn_before : (old mid new : DeskState D) (before between after : ClockState) (one : Exchange) (served : List Exchange) → old.founder ≡ founder → old.limit ≡ limit
      → AnswersBy on old before one mid between → TurnsOf mid between served new after → TurnsOf old before (one ∷ served) new after
  turn_before old mid new before between after one served key most answered later =
      let t = answered.turn in
      let (rise, found) = one_turn on old mid (request_of one.frame) answered.reply t.reading t.reads t.does in
      let turn : Turn = turn_with on old mid (request_of one.frame) t.reading answered.reply rise in
      let first = subst (λ (n : ℕ). OneTurn on old mid founder (Some n) turn) most (subst (λ (k : Key). OneTurn on old mid k (Some old.limit) turn) key found) in
      record {
        turns = turn ∷ later.turns;
        are = record {
          requests = ap (λ (qs : List Request). request_of one.frame ∷ qs) later.are.requests;
          replies = ap (λ (bytes : List ℕ). bytes ∷ map (λ (t : Turn). written_reply t.reply) later.turns) (sym answered.written) ∙ ap (λ (rs : List (List ℕ)). one.reply ∷ rs) later.are.replies;
          clock = subst (Gives before after) (readings_first t.reading (readings_of later.turns)) (go_on before between after (option_to_list t.reading) (readings_of later.turns) t.clock later.are.clock);
        };
        takes = record {
          conduct = (mid.state, first.is, later.takes.conduct);
          each = (mid.disk, record { counts = first.counts; images = first.images; at_rest = t.stays.at_rest }, later.takes.each);
          counts = rose_more (on.faults old.disk) (on.faults mid.disk) (on.faults new.disk) rise (rises_of later.turns) (rises_of (turn ∷ later.turns)) first.counts later.takes.counts (sum_by-cons (λ (t : Turn). t.rise) turn later.turns);
          at_rest = λ rests. later.takes.at_rest (t.stays.at_rest rests);
        };
      }

  module _ {A : Type 0} (desk : A → DeskState D) where
    abbrev answers : Attending A → Exchange → Attending A → Type 0
    answers old one new = AnswersBy on (desk old.attendant) old.clock one (desk new.attendant) new.clock

    pub turns_of : (served : List Exchange) (old new : Attending A) → (desk old.attendant).founder ≡ founder → (desk old.attendant).limit ≡ limit → Attends answers old served new
        → TurnsOf (desk old.attendant) old.clock served (desk new.attendant) new.clock
    turns_of [] old new key most same =
        subst (λ (at : Attending A). TurnsOf (desk old.attendant) old.clock [] (desk at.attendant) at.clock) (sym same) (no_turn (desk old.attendant) old.clock)
    turns_of (one ∷ served) old new key most (mid, answered, later) =
        let stays = answered.turn.stays in
        turn_before (desk old.attendant) (desk mid.attendant) (desk new.attendant) old.clock mid.clock new.clock one served key most answered
        (turns_of served mid new (stays.founder ∙ key) (stays.limit ∙ most) later)
