-- One turn of a desk: as the desk took it, for the frame that came, and as a turn of a conduct.
use Rattle.std.proofs.Common.{◌≡◌, ◌⊎◌, ℕ, ◌+◌, ℤ, pos, true, false, List, ◌∷◌, Option, Some, None, refl, sym, ap, subst, ◌∙◌, inl, inr, ⊎_elim, arith}
use Rattle.std.specs.Prelude.{IfSome}
use Rattle.obs_time.specs.Instants.{IsInstantNs}
use Rattle.disk_model.specs.Crashes.{During}
use Rattle.disk_model.specs.Moments.{during_nothing, during_weaker}
use Rattle.act_bodies.specs.declared.key.Key.{Key}
use Rattle.act_model.specs.declared.entry.Entry.{Entry}
use Rattle.read_ahead.specs.declared.body.Body.TheVariants.{NoRoom}
use Rattle.act_model.specs.declared.request.Verb.{Verb}
use Rattle.act_model.specs.declared.request.Request.{Request}
use Rattle.act_model.specs.declared.reply.Fault.{Fault}
use Rattle.act_model.specs.declared.reply.Refusal.TheVariants.{NoLine, NoMemory}
use Rattle.act_model.specs.declared.reply.Reply.{Reply}
use Rattle.act_model.specs.declared.reply.Reply.TheVariants.{Done, Refused}
use Rattle.act_model.specs.Keepers.{RoseBy}
use Rattle.act_model.specs.Replies.{entry_answer}
use Rattle.act_model.specs.Requests.{is_act}
use Rattle.act_model.specs.Step.{Adds, outcome, reply_and_history, step}
use Rattle.act_model.specs.Turns.{Turn, TakesReading, Answers, Settles, FailsToKeep, IsTurn}
use Rattle.mpc_desk.specs.Desks.{DeskState, MayLeave, FailsOn, ActsOn, ActsInTurn, count_of, turn_of}
use Rattle.act_model.specs.Clocks.{ClockState}
use Rattle.command_ends.specs.Disks.{DiskWords, DiskRose}
use Rattle.run_command.specs.Conducted.{LeavesInTurn, ActsOrAsks, StaysDesk, TakesTurn}
use Rattle.run_command.proofs.Readings.{gives_none}
use Rattle.run_command.proofs.Laws.{WantLaws}

-- a request that had no room becomes no entry
never_adds : (wants : WantLaws) (founder : Key) (limit : Option ℕ) (past : List Entry) (q : Request) (t : ℤ) (entry : Entry) → q.body ≡ NoRoom → outcome founder limit past q t ≡ Adds entry → ⊥
unfolding step
never_adds wants founder limit past q t entry none adds =
    let both : ◌≡◌ {A = Reply × List Entry} (Refused NoMemory, past) (Done (entry_answer past entry), entry ∷ past) = sym (wants.no_step founder limit past q t none) ∙ ap (reply_and_history past) adds in
    let first : ◌≡◌ {A = Reply} (Refused NoMemory) (Done (entry_answer past entry)) = ap (λ (p : Reply × List Entry). p.0) both in
    absurd cc

module _ {D : Type 0} (on : DiskWords D) (desk new : DeskState D) where
  -- the turn of an act, with the clock's next reading
  pub act_turn : (q : Request) (reply : Reply) (before after : ClockState) (reading : ℤ) → is_act q.verb ≡ true → IsInstantNs reading
      → IfSome (before.to_come 0) (λ t. reading ≡ t) → ((k : ℕ) → after.to_come k ≡ before.to_come (k + 1)) → after.last ≡ reading
      → ActsInTurn on.moment on.since on.faults (record { old = desk; request = q; reading = reading; reply = reply; new = new }) → StaysDesk on desk new → TakesTurn on desk q reply new before after
  act_turn q reply before after reading act years told later last does stays = record {
    reading = Some reading;
    reads = (act, years);
    does = does;
    stays = stays;
    clock = record { known = (told, tt); later = later; last = last };
  }

  -- ---- for the frame that came

  module _ (wants : WantLaws) where
    -- out of memory may stand in the place of the lines of a refusal
    wanting : (q : Request) (lines : List Fault) (reading : Option ℤ) → ActsOrAsks on desk q reading (Refused (NoLine lines)) new → ActsOrAsks on desk q reading (Refused NoMemory) new
    wanting q lines None (answers, same) =
        (wants.instead desk.founder (Some desk.limit) desk.state.settled desk.state.settled q (pos 0) (NoLine lines) answers, same)
    wanting q lines (Some t) acts = record { rise = acts.rise; counts = acts.counts; acts = by acts.rise acts.acts }
      where
        settled_so : (rise : ℕ) (mended : List Entry) → Settles desk.founder (Some desk.limit) mended (turn_of q t (Refused (NoLine lines)) rise) t new.state ⊎ FailsToKeep desk.founder (Some desk.limit) mended (turn_of q t (Refused (NoLine lines)) rise) t new.state
            → Settles desk.founder (Some desk.limit) mended (turn_of q t (Refused NoMemory) rise) t new.state ⊎ FailsToKeep desk.founder (Some desk.limit) mended (turn_of q t (Refused NoMemory) rise) t new.state
        settled_so rise mended (inl settles) =
            inl (record { answers = wants.instead desk.founder (Some desk.limit) mended new.state.settled q t (NoLine lines) settles.answers; settled = settles.settled })
        settled_so rise mended (inr fails) = let says = fails.reply in absurd cc

        by : (rise : ℕ) → FailsOn on.moment on.since desk (turn_of q t (Refused (NoLine lines)) rise) new ⊎ ActsOn on.moment on.since desk (turn_of q t (Refused (NoLine lines)) rise) t new
            → FailsOn on.moment on.since desk (turn_of q t (Refused NoMemory) rise) new ⊎ ActsOn on.moment on.since desk (turn_of q t (Refused NoMemory) rise) t new
        by rise (inl fails) = let says = fails.fails.reply in absurd cc
        by rise (inr takes) = inr (record { mended = takes.mended; mends = takes.mends; acts = settled_so rise takes.mended takes.acts; images = takes.images })

    pub turn_wanting : (q : Request) (lines : List Fault) (before after : ClockState) → TakesTurn on desk q (Refused (NoLine lines)) new before after → TakesTurn on desk q (Refused NoMemory) new before after
    turn_wanting q lines before after t =
        record { reading = t.reading; reads = t.reads; does = wanting q lines t.reading t.does; stays = t.stays; clock = t.clock }

    -- a request that had no room stands for the one that came
    module _ (q came : Request) (reply : Reply) (none : q.body ≡ NoRoom) where
      standing : (reading : Option ℤ) → ActsOrAsks on desk q reading reply new → ActsOrAsks on desk came reading reply new
      standing None (answers, same) =
          (inr (wants.no_room desk.founder (Some desk.limit) desk.state.settled desk.state.settled q (pos 0) reply none answers), same)
      standing (Some t) acts = record { rise = acts.rise; counts = acts.counts; acts = by acts.rise acts.acts }
        where
          settled_so : (rise : ℕ) (mended : List Entry) → Settles desk.founder (Some desk.limit) mended (turn_of q t reply rise) t new.state ⊎ FailsToKeep desk.founder (Some desk.limit) mended (turn_of q t reply rise) t new.state
              → Settles desk.founder (Some desk.limit) mended (turn_of came t reply rise) t new.state ⊎ FailsToKeep desk.founder (Some desk.limit) mended (turn_of came t reply rise) t new.state
          settled_so rise mended (inl settles) =
              inl (record { answers = inr (wants.no_room desk.founder (Some desk.limit) mended new.state.settled q t reply none settles.answers); settled = settles.settled })
          settled_so rise mended (inr fails) =
              absurd (never_adds wants desk.founder (Some desk.limit) mended q t fails.entry none fails.adds)

          may_leave : (mended : List Entry) (image : List ℕ) → MayLeave desk mended q t image → MayLeave desk mended came t image
          may_leave mended image (inl rests) = inl rests
          may_leave mended image (inr (entry, adds, stands)) =
              absurd (never_adds wants desk.founder (Some desk.limit) mended q t entry none adds)

          by : (rise : ℕ) → FailsOn on.moment on.since desk (turn_of q t reply rise) new ⊎ ActsOn on.moment on.since desk (turn_of q t reply rise) t new
              → FailsOn on.moment on.since desk (turn_of came t reply rise) new ⊎ ActsOn on.moment on.since desk (turn_of came t reply rise) t new
          by rise (inl fails) = inl (record {
            fails = record { doubted = fails.fails.doubted; reply = fails.fails.reply; stays = fails.fails.stays; rose = fails.fails.rose };
            no_image = fails.no_image;
          })
          by rise (inr takes) = inr (record {
            mended = takes.mended;
            mends = takes.mends;
            acts = settled_so rise takes.mended takes.acts;
            images = during_weaker (MayLeave desk takes.mended came t) (may_leave takes.mended) takes.images;
          })

      pub turn_standing : q.verb ≡ came.verb → (before after : ClockState) → TakesTurn on desk q reply new before after → TakesTurn on desk came reply new before after
      turn_standing verb before after t = record {
        reading = t.reading;
        reads = subst (λ (v : Verb). TakesReading v t.reading) verb t.reads;
        does = standing t.reading t.does;
        stays = t.stays;
        clock = t.clock;
      }

  -- ---- as a turn of a conduct

  -- a turn under this founder's key and limit, the rise of the disk's count in it, and what a crash inside it may leave
  pub record OneTurn (founder : Key) (limit : Option ℕ) (turn : Turn) : Type 0 where
    pub is : IsTurn founder limit desk.state turn new.state
    pub counts : DiskRose on turn.rise desk.disk new.disk
    pub images : During on.moment on.since desk.disk new.disk (LeavesInTurn founder limit desk.state turn new.state is)

  abbrev pub turn_with : Request → Option ℤ → Reply → ℕ → Turn
  turn_with q reading reply rise = record { request = q; reading = reading; reply = reply; rise = rise }

  none_rose : (n m : ℕ) → m ≡ n → RoseBy 0 (count_of n) (count_of m)
  none_rose n m is = omega arith

  pub one_turn : (q : Request) (reply : Reply) (reading : Option ℤ) → TakesReading q.verb reading → ActsOrAsks on desk q reading reply new
      → (rise : ℕ) × OneTurn desk.founder (Some desk.limit) (turn_with q reading reply rise)
  one_turn q reply None reads (answers, same) =
      let is : IsTurn desk.founder (Some desk.limit) desk.state (turn_with q None reply 0) new.state =
      record { reads = reads; takes = record { answers = answers; stays = ap (λ (d : DeskState D). d.state) same } } in
      let P : List ℕ → Type 0 = LeavesInTurn desk.founder (Some desk.limit) desk.state (turn_with q None reply 0) new.state is in (
        0,
        record {
          is = is;
          counts = none_rose (on.faults desk.disk) (on.faults new.disk) (ap (λ (d : DeskState D). on.faults d.disk) same);
          images = subst (λ (d : DeskState D). During on.moment on.since desk.disk d.disk P) (sym same) (during_nothing desk.disk P);
        },
      )
  one_turn q reply (Some t) reads acts = (acts.rise, by acts.rise acts.counts acts.acts)
    where
      by : (rise : ℕ) → DiskRose on rise desk.disk new.disk → FailsOn on.moment on.since desk (turn_of q t reply rise) new ⊎ ActsOn on.moment on.since desk (turn_of q t reply rise) t new
          → OneTurn desk.founder (Some desk.limit) (turn_with q (Some t) reply rise)
      by rise counts (inl fails) = record {
        is = record { reads = reads; takes = inl fails.fails };
        counts = counts;
        images = during_weaker _ (λ image never. absurd never) fails.no_image;
      }
      by rise counts (inr takes) = record {
        is = record { reads = reads; takes = inr (record { mended = takes.mended; mends = takes.mends; acts = takes.acts }) };
        counts = counts;
        images = during_weaker _ (λ image may. ⊎_elim (λ rests. inl rests) (λ inside. inr (inl inside)) may) takes.images;
      }

-- the turn of a query
pub query_turn : {D : Type 0} (on : DiskWords D) (desk : DeskState D) (q : Request) (reply : Reply) (clock : ClockState) → is_act q.verb ≡ false
    → Answers desk.founder (Some desk.limit) desk.state.settled q (pos 0) reply desk.state.settled → TakesTurn on desk q reply desk clock clock
query_turn on desk q reply clock query answers = record {
  reading = None;
  reads = query;
  does = (answers, refl);
  stays = record { founder = refl; limit = refl; at_rest = λ rests. rests };
  clock = gives_none clock;
}
