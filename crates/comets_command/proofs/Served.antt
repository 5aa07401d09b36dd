-- The turns of a register by which frames were answered, one after another.
use Rattle.std.proofs.Common.{◌≡◌, ℕ, ℤ, List, [], ◌∷◌, ◌++◌, Option, Some, None, map, refl, sym, ap, subst, ◌∙◌, arith}
use Rattle.std.specs.Prelude.{option_to_list}
use Rattle.std.specs.List.{cons_option}
use Rattle.std.proofs.lemmas.List.Sums.{sum_by-cons}
use Rattle.frame_service.specs.Exchanges.{Exchange, Attending, Attends}
use Rattle.act_bodies.specs.declared.key.Key.{Key}
use Rattle.act_model.specs.Clocks.{ClockState, Gives}
use Rattle.act_model.specs.Deeds.{deeds}
use Rattle.act_model.specs.Keepers.{RoseBy}
use Rattle.mpc_desk.specs.Desks.{count_of}
use Rattle.mpc_desk.specs.Pairs.{PairState}
use Rattle.command_ends.specs.Disks.{DiskWords, DiskRose}
use Rattle.comet_model.specs.declared.request.CometRequest.{CometRequest}
use Rattle.comet_model.specs.Turns.{CometTurn, request_of, readings_of, rises_of, written_reply}
use Rattle.comet_desk.specs.Desks.{CometDeskState, IsAtRest}
use Rattle.comets_command.specs.Terms.{Terms, ConductIn}
use Rattle.comets_command.specs.Conducted.{TurnsOn, terms_of, StaysRegister}
use Rattle.comets_command.specs.Serving.{FrontState, AnswersBeside, AreTurnsOf}
use Rattle.comets_command.proofs.RegisterTurns.{OneTurn, one_turn, turn_with}
use Rattle.comets_command.proofs.Conducting.{rose_more}
use Rattle.comets_command.proofs.Readings.{gives_none}

-- turns of a register, one after another: a conduct on these terms, each turn on the disk that the one before it left,
-- and by how much the disk's count of faults rose in them
pub record TakesTurns {D : Type 0} (on : DiskWords D) (terms : Terms) (old : CometDeskState D) (turns : List CometTurn) (new : CometDeskState D) : Type 0 where
  pub conduct : ConductIn terms old.state turns new.state
  pub each : TurnsOn on terms old.state turns new.state conduct old.disk new.disk
  pub counts : DiskRose on (rises_of turns) old.disk new.disk
  pub at_rest : IsAtRest on.leaves old → IsAtRest on.leaves new

none_more : (n : ℕ) → RoseBy (rises_of []) (count_of n) (count_of n)
none_more n = omega arith

readings_first : (reading : Option ℤ) (readings : List ℤ) → option_to_list reading ++ readings ≡ cons_option reading readings
readings_first None readings = refl
readings_first (Some t) readings = refl

-- the terms of a register beside the office that is read
abbrev pub terms_in : {D : Type 0} → FrontState D → Terms
terms_in front = terms_of (deeds front.office.chained.state.settled) front.register

same_terms : {D : Type 0} (on : DiskWords D) (old new : FrontState D) → StaysRegister on old.register new.register → new.office ≡ old.office → terms_in new ≡ terms_in old
same_terms {D} on old new stays office =
    ap (λ (k : Key). record { founder = k; limit = new.register.limit; desk = deeds new.office.chained.state.settled }) stays.founder
    ∙ ap (λ (n : ℕ). record { founder = old.register.founder; limit = n; desk = deeds new.office.chained.state.settled }) stays.limit
    ∙ ap (λ (o : PairState D). record { founder = old.register.founder; limit = old.register.limit; desk = deeds o.chained.state.settled }) office

module _ (go_on : (before between after : ClockState) (xs ys : List ℤ) → Gives before between xs → Gives between after ys → Gives before after (xs ++ ys)) {D : Type 0} (on : DiskWords D) (terms : Terms) where
  -- the turns by which these frames were answered, and the office as it was
  pub record TurnsOf (old : FrontState D) (before : ClockState) (served : List Exchange) (new : FrontState D) (after : ClockState) : Type 0 where
    pub turns : List CometTurn
    pub are : AreTurnsOf before after served turns
    pub takes : TakesTurns on terms old.register turns new.register
    pub office : new.office ≡ old.office

  no_turn : (front : FrontState D) (clock : ClockState) → TurnsOf front clock [] front clock
  no_turn front clock = record {
    turns = [];
    are = record { requests = refl; replies = refl; clock = gives_none clock };
    takes = record { conduct = refl; each = refl; counts = none_more (on.faults front.register.disk); at_rest = λ rests. rests };
    office = refl;
  }

  -- the turn of one frame, before those of others
  turn_before : (old mid new : FrontState D) (before between after : ClockState) (one : Exchange) (served : List Exchange) → terms_in old ≡ terms
      → AnswersBeside on old before one mid between → TurnsOf mid between served new after → TurnsOf old before (one ∷ served) new after
  turn_before old mid new before between after one served same answered later =
      let t = answered.turn in
      let desk = deeds old.office.chained.state.settled in
      let (rise, found) = one_turn on desk old.register mid.register (request_of one.frame) answered.reply t.reading t.reads t.does in
      let turn : CometTurn = turn_with on desk old.register mid.register (request_of one.frame) t.reading answered.reply rise in
      let first = subst (λ (at : Terms). OneTurn on desk old.register mid.register at turn) same found in
      record {
        turns = turn ∷ later.turns;
        are = record {
          requests = ap (λ (qs : List CometRequest). request_of one.frame ∷ qs) later.are.requests;
          replies = ap (λ (bytes : List ℕ). bytes ∷ map (λ (t : CometTurn). written_reply t.reply) later.turns) (sym answered.written) ∙ ap (λ (rs : List (List ℕ)). one.reply ∷ rs) later.are.replies;
          clock = subst (Gives before after) (readings_first t.reading (readings_of later.turns)) (go_on before between after (option_to_list t.reading) (readings_of later.turns) t.clock later.are.clock);
        };
        takes = record {
          conduct = (mid.register.state, first.is, later.takes.conduct);
          each = (mid.register.disk, record { counts = first.counts; images = first.images; at_rest = t.stays.at_rest }, later.takes.each);
          counts = rose_more (on.faults old.register.disk) (on.faults mid.register.disk) (on.faults new.register.disk) rise (rises_of later.turns) (rises_of (turn ∷ later.turns)) first.counts later.takes.counts (sum_by-cons (λ (t : CometTurn). t.rise) turn later.turns);
          at_rest = λ rests. later.takes.at_rest (t.stays.at_rest rests);
        };
        office = later.office ∙ answered.office;
      }

  abbrev answers : Attending (FrontState D) → Exchange → Attending (FrontState D) → Type 0
  answers old one new = AnswersBeside on old.attendant old.clock one new.attendant new.clock

  pub turns_of : (served : List Exchange) (old new : Attending (FrontState D)) → terms_in old.attendant ≡ terms → Attends answers old served new
      → TurnsOf old.attendant old.clock served new.attendant new.clock
  turns_of [] old new is same =
      subst (λ (at : Attending (FrontState D)). TurnsOf old.attendant old.clock [] at.attendant at.clock) (sym same) (no_turn old.attendant old.clock)
  turns_of (one ∷ served) old new is (mid, answered, later) =
      turn_before old.attendant mid.attendant new.attendant old.clock mid.clock new.clock one served is answered
      (turns_of served mid new (same_terms on old.attendant mid.attendant answered.turn.stays answered.office ∙ is) later)
