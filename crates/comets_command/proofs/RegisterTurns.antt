-- One turn of a register: as the register took it, for the frame that came, and as a turn of a conduct.
use Rattle.std.proofs.Common.{◌≡◌, ◌⊎◌, ℕ, ◌+◌, ℤ, pos, true, false, List, ◌∷◌, Option, Some, None, refl, sym, ap, subst, inl, inr, ⊎_elim, arith}
use Rattle.std.proofs.Common.{◌∙◌}
use Rattle.std.specs.Prelude.{IfSome}
use Rattle.obs_time.specs.Instants.{IsInstantNs}
use Rattle.disk_model.specs.Crashes.{During}
use Rattle.disk_model.specs.Moments.{during_nothing, during_weaker}
use Rattle.read_ahead.specs.declared.body.Body.TheVariants.{NoRoom}
use Rattle.act_bodies.specs.declared.key.Key.{Key}
use Rattle.act_model.specs.declared.deed.Deed.{Deed}
use Rattle.act_model.specs.declared.entry.Entry.{Entry}
use Rattle.act_model.specs.Clocks.{ClockState}
use Rattle.act_model.specs.Keepers.{RoseBy}
use Rattle.mpc_desk.specs.Desks.{count_of}
use Rattle.command_ends.specs.Disks.{DiskWords, DiskRose}
use Rattle.comet_model.specs.declared.reply.CometRefusal.TheVariants.{NoMemory}
use Rattle.comet_model.specs.declared.reply.CometReply.{CometReply}
use Rattle.comet_model.specs.declared.reply.CometReply.TheVariants.{Done, Refused}
use Rattle.comet_model.specs.declared.request.CometRequest.{CometRequest}
use Rattle.comet_model.specs.declared.request.CometVerb.{CometVerb}
use Rattle.comet_model.specs.Replies.{entry_answer}
use Rattle.comet_model.specs.Requests.{is_act}
use Rattle.comet_model.specs.Step.{Adds, outcome, reply_and_entries, step}
use Rattle.comet_model.specs.Turns.{CometTurn, TakesReading, Answers, Settles, FailsToKeep}
use Rattle.comet_desk.specs.Desks.{CometDeskState, CometAct, MayLeave, FailsOn, ActsOn, ActsInTurn, turn_in}
use Rattle.comets_command.specs.Terms.{Terms, IsTurnIn}
use Rattle.comets_command.specs.Conducted.{LeavesInTurn, terms_of, ActsOrAsks, StaysRegister, TurnBeside}
use Rattle.comets_command.proofs.NoRoom.{NoRoomLaws}
use Rattle.comets_command.proofs.Readings.{gives_none}

-- a request that had no room becomes no entry
never_adds : (room : NoRoomLaws) (founder : Key) (limit : Option ℕ) (desk : List Deed) (past : List Entry) (q : CometRequest) (t : ℤ) (entry : Entry) → q.body ≡ NoRoom → outcome founder limit desk past q t ≡ Adds entry → ⊥
unfolding step
never_adds room founder limit desk past q t entry none adds =
    let both : ◌≡◌ {A = CometReply × List Entry} (Refused NoMemory, past) (Done (entry_answer desk past entry), entry ∷ past) = sym (room.step founder limit desk past q t none) ∙ ap (reply_and_entries desk past) adds in
    let first : ◌≡◌ {A = CometReply} (Refused NoMemory) (Done (entry_answer desk past entry)) = ap (λ (p : CometReply × List Entry). p.0) both in
    absurd cc

module _ {D : Type 0} (on : DiskWords D) (desk : List Deed) (register new : CometDeskState D) where
  abbrev act_of : CometRequest → ℤ → CometReply → CometAct D
  act_of q t reply = record { old = register; request = q; reading = t; reply = reply; new = new }

  -- the turn of an act, with the clock's next reading
  pub act_turn : (q : CometRequest) (reply : CometReply) (before after : ClockState) (reading : ℤ) → is_act q.verb ≡ true → IsInstantNs reading
      → IfSome (before.to_come 0) (λ t. reading ≡ t) → ((k : ℕ) → after.to_come k ≡ before.to_come (k + 1)) → after.last ≡ reading
      → ActsInTurn on.moment on.since on.faults desk (act_of q reading reply) → StaysRegister on register new → TurnBeside on desk register q reply new before after
  act_turn q reply before after reading act years told later last does stays = record {
    reading = Some reading;
    reads = (act, years);
    does = does;
    stays = stays;
    clock = record { known = (told, tt); later = later; last = last };
  }

  -- ---- for the frame that came

  -- a request that had no room stands for the one that came
  module _ (room : NoRoomLaws) (q came : CometRequest) (reply : CometReply) (none : q.body ≡ NoRoom) where
    standing : (reading : Option ℤ) → ActsOrAsks on desk register q reading reply new → ActsOrAsks on desk register came reading reply new
    standing None (answers, same) =
        (inr (room.turn register.founder (Some register.limit) desk register.state.settled register.state.settled q (pos 0) reply none answers), same)
    standing (Some t) acts = record { rise = acts.rise; counts = acts.counts; acts = by acts.rise acts.acts }
      where
        settled_so : (rise : ℕ) (mended : List Entry)
            → Settles register.founder (Some register.limit) desk mended (turn_in (act_of q t reply) rise) t new.state ⊎ FailsToKeep register.founder (Some register.limit) desk mended (turn_in (act_of q t reply) rise) t new.state
            → Settles register.founder (Some register.limit) desk mended (turn_in (act_of came t reply) rise) t new.state ⊎ FailsToKeep register.founder (Some register.limit) desk mended (turn_in (act_of came t reply) rise) t new.state
        settled_so rise mended (inl settles) =
            inl (record { answers = inr (room.turn register.founder (Some register.limit) desk mended new.state.settled q t reply none settles.answers); settled = settles.settled })
        settled_so rise mended (inr fails) =
            absurd (never_adds room register.founder (Some register.limit) desk mended q t fails.entry none fails.adds)

        may_leave : (mended : List Entry) (image : List ℕ) → MayLeave desk register mended q t image → MayLeave desk register mended came t image
        may_leave mended image (inl rests) = inl rests
        may_leave mended image (inr (entry, adds, stands)) =
            absurd (never_adds room register.founder (Some register.limit) desk mended q t entry none adds)

        by : (rise : ℕ) → FailsOn on.moment on.since (act_of q t reply) rise ⊎ ActsOn on.moment on.since desk (act_of q t reply) rise
            → FailsOn on.moment on.since (act_of came t reply) rise ⊎ ActsOn on.moment on.since desk (act_of came t reply) rise
        by rise (inl fails) = inl (record {
          fails = record { doubted = fails.fails.doubted; reply = fails.fails.reply; stays = fails.fails.stays; rose = fails.fails.rose };
          no_image = fails.no_image;
        })
        by rise (inr takes) = inr (record {
          mended = takes.mended;
          mends = takes.mends;
          acts = settled_so rise takes.mended takes.acts;
          images = during_weaker (MayLeave desk register takes.mended came t) (may_leave takes.mended) takes.images;
        })

    pub turn_standing : q.verb ≡ came.verb → (before after : ClockState) → TurnBeside on desk register q reply new before after → TurnBeside on desk register came reply new before after
    turn_standing verb before after t = record {
      reading = t.reading;
      reads = subst (λ (v : CometVerb). TakesReading v t.reading) verb t.reads;
      does = standing t.reading t.does;
      stays = t.stays;
      clock = t.clock;
    }

  -- ---- as a turn of a conduct

  -- a turn on these terms, the rise of the disk's count in it, and what a crash inside it may leave
  pub record OneTurn (terms : Terms) (turn : CometTurn) : Type 0 where
    pub is : IsTurnIn terms register.state turn new.state
    pub counts : DiskRose on turn.rise register.disk new.disk
    pub images : During on.moment on.since register.disk new.disk (LeavesInTurn terms register.state turn new.state is)

  abbrev pub turn_with : CometRequest → Option ℤ → CometReply → ℕ → CometTurn
  turn_with q reading reply rise = record { request = q; reading = reading; reply = reply; rise = rise }

  none_rose : (n m : ℕ) → m ≡ n → RoseBy 0 (count_of n) (count_of m)
  none_rose n m is = omega arith

  pub one_turn : (q : CometRequest) (reply : CometReply) (reading : Option ℤ) → TakesReading q.verb reading → ActsOrAsks on desk register q reading reply new
      → (rise : ℕ) × OneTurn (terms_of desk register) (turn_with q reading reply rise)
  one_turn q reply None reads (answers, same) =
      let is : IsTurnIn (terms_of desk register) register.state (turn_with q None reply 0) new.state =
      record { reads = reads; takes = record { answers = answers; stays = ap (λ (d : CometDeskState D). d.state) same } } in
      let P : List ℕ → Type 0 = LeavesInTurn (terms_of desk register) register.state (turn_with q None reply 0) new.state is in (
        0,
        record {
          is = is;
          counts = none_rose (on.faults register.disk) (on.faults new.disk) (ap (λ (d : CometDeskState D). on.faults d.disk) same);
          images = subst (λ (d : CometDeskState D). During on.moment on.since register.disk d.disk P) (sym same) (during_nothing register.disk P);
        },
      )
  one_turn q reply (Some t) reads acts = (acts.rise, by acts.rise acts.counts acts.acts)
    where
      by : (rise : ℕ) → DiskRose on rise register.disk new.disk → FailsOn on.moment on.since (act_of q t reply) rise ⊎ ActsOn on.moment on.since desk (act_of q t reply) rise
          → OneTurn (terms_of desk register) (turn_with q (Some t) reply rise)
      by rise counts (inl fails) = record {
        is = record { reads = reads; takes = inl fails.fails };
        counts = counts;
        images = during_weaker _ (λ image never. absurd never) fails.no_image;
      }
      by rise counts (inr takes) = record {
        is = record { reads = reads; takes = inr (record { mended = takes.mended; mends = takes.mends; acts = takes.acts }) };
        counts = counts;
        images = during_weaker _ (λ image may. ⊎_elim (λ rests. inl rests) (λ inside. inr (inl inside)) may) takes.images;
      }

-- the turn of a query
pub query_turn : {D : Type 0} (on : DiskWords D) (desk : List Deed) (register : CometDeskState D) (q : CometRequest) (reply : CometReply) (clock : ClockState) → is_act q.verb ≡ false
    → Answers register.founder (Some register.limit) desk register.state.settled q (pos 0) reply register.state.settled → TurnBeside on desk register q reply register clock clock
query_turn on desk register q reply clock query answers = record {
  reading = None;
  reads = query;
  does = (answers, refl);
  stays = record { founder = refl; limit = refl; at_rest = λ rests. rests };
  clock = gives_none clock;
}
