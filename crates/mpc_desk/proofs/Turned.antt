-- Turns of a desk.
use Rattle.std.proofs.Common.{◌≡◌, ℕ, ◌-◌, ◌<◌, ◌≤◌, ℤ, pos, true, false, List, ◌∷◌, Option, Some, None, refl, sym, ap, subst, ◌∙◌, inl, inr, ⊎_elim, arith}
use Rattle.std.specs.Prelude.{max, IsSome, IsSomeAnd}
use Rattle.obs_time.specs.Instants.{IsInstantNs}
use Rattle.act_bodies.specs.declared.key.Key.{Key}
use Rattle.call_log.specs.Counts.{Rises}
use Rattle.disk_model.specs.Crashes.{During}
use Rattle.disk_model.specs.Moments.{during_joined, during_weaker}
use Rattle.act_model.specs.declared.entry.Entry.{Entry}
use Rattle.act_model.specs.declared.keeper.OfficeState.{OfficeState}
use Rattle.act_model.specs.declared.reply.Refusal.TheVariants.{DiskFault}
use Rattle.act_model.specs.declared.reply.Reply.{Reply}
use Rattle.act_model.specs.declared.reply.Reply.TheVariants.{Refused}
use Rattle.act_model.specs.declared.request.Request.{Request}
use Rattle.act_model.specs.Keepers.{RoseBy, TakesTurn}
use Rattle.act_model.specs.Requests.{is_act}
use Rattle.act_model.specs.Step.{outcome}
use Rattle.act_model.specs.Turns.{Answers, Mends, Settles, FailsToKeep}
use Rattle.mpc_desk.specs.Files.{Stands}
use Rattle.mpc_desk.specs.Desks.{DeskState, RestsAt, MayLeave, ActsInTurn, TakesAct, count_of, office_of, turn_of}

-- ---- counts

-- a count rose by the difference
pub rose_any : (a b : ℕ) → a ≤ b → RoseBy (count_of b - count_of a) (count_of a) (count_of b)
rose_any a b later = omega arith

-- a count that rose, or stands at the end of its type, rose by something
pub rose_fault : (a b : ℕ) → a ≤ b → Rises a b → (rise : ℕ) × (0 < rise) × RoseBy rise (count_of a) (count_of b)
rose_fault a b later rises = (max 1 (count_of b - count_of a), omega arith, omega arith)

-- a count that rose by something
pub rose_rises : (a b rise : ℕ) → a ≤ b → 0 < rise → RoseBy rise (count_of a) (count_of b) → Rises a b
rose_rises a b rise later some counts = omega arith

pub rises_later : (a m b : ℕ) → a ≤ m → Rises m b → Rises a b
rises_later a m b later rises = omega arith

pub rose_none : (a : ℕ) → RoseBy 0 (count_of a) (count_of a)
rose_none a = omega arith

-- ---- what mending left

pub some_is : (o : Option Entry) → (o ≡ None → ⊥) → IsSome o
some_is None never = absurd (never refl)
some_is (Some entry) never = refl

by_doubt : (past : List Entry) (doubt : Option Entry) (mended : List Entry) → Mends past doubt mended → (image : List ℕ) → Stands image mended → RestsAt (record { settled = past; doubt = doubt }) image
by_doubt past None mended is image stands = inl (subst (Stands image) is stands)
by_doubt past (Some entry) mended (inl is) image stands = inr (subst (Stands image) is stands)
by_doubt past (Some entry) mended (inr is) image stands = inl (subst (Stands image) is stands)

by_none : (state : OfficeState) → state.doubt ≡ None → (image : List ℕ) → RestsAt state image → Stands image state.settled
by_none state none image (inl stands) = stands
by_none state none image (inr with) = absurd (subst (λ (o : Option Entry). IsSomeAnd o (λ entry. Stands image (entry ∷ state.settled))) none with)

module _ {D : Type 0} (moment : D → ℕ) (since : D → ℕ → List ℕ → Type 0) (faults : D → ℕ) (old new : DeskState D) (q : Request) (t : ℤ) (reply : Reply) where
  -- the disk failed in mending
  pub failed_turn : IsSome old.state.doubt → reply ≡ Refused (DiskFault false) → new.state ≡ old.state → During moment since old.disk new.disk (λ _. ⊥) → faults old.disk ≤ faults new.disk → Rises (faults old.disk) (faults new.disk)
      → ActsInTurn moment since faults (record { old = old; request = q; reading = t; reply = reply; new = new })
  failed_turn doubted says stays none later rises =
      let (rise, some, counts) = rose_fault (faults old.disk) (faults new.disk) later rises in
      record { rise = rise; counts = counts; acts = inl (record { fails = record { doubted = doubted; reply = says; stays = stays; rose = some }; no_image = none }) }

  -- the act was taken at what mending left
  module _ (mid : DeskState D) (mends : Mends old.state.settled old.state.doubt mid.state.settled) (settled : mid.state.doubt ≡ None) (founder : mid.founder ≡ old.founder) (limit : mid.limit ≡ old.limit)
      (none : During moment since old.disk mid.disk (λ _. ⊥)) (first : faults old.disk ≤ faults mid.disk) (second : faults mid.disk ≤ faults new.disk) (takes : TakesAct moment since faults (record { old = mid; request = q; reading = t; reply = reply; new = new })) where
    weaker : (image : List ℕ) → MayLeave mid mid.state.settled q t image → MayLeave old mid.state.settled q t image
    weaker image (inl rests) = inl (by_doubt old.state.settled old.state.doubt mid.state.settled mends image (by_none mid.state settled image rests))
    weaker image (inr (entry, adds, stands)) =
        inr (entry, ap (λ (k : Key). outcome k (Some old.limit) mid.state.settled q t) (sym founder) ∙ ap (λ (n : ℕ). outcome mid.founder (Some n) mid.state.settled q t) (sym limit) ∙ adds, stands)

    images : During moment since old.disk new.disk (MayLeave old mid.state.settled q t)
    images = during_joined (during_weaker (MayLeave old mid.state.settled q t) (λ image never. absurd never) none) (during_weaker (MayLeave old mid.state.settled q t) weaker takes.images)

    as_old : (P : Key → ℕ → Type 0) → P mid.founder mid.limit → P old.founder old.limit
    as_old P has = subst (λ (n : ℕ). P old.founder n) limit (subst (λ (k : Key). P k mid.limit) founder has)

    pub taken_turn : ActsInTurn moment since faults (record { old = old; request = q; reading = t; reply = reply; new = new })
    taken_turn =
        ⊎_elim
        (λ settles.
        let rise : ℕ = count_of (faults new.disk) - count_of (faults old.disk) in
        record {
          rise = rise;
          counts = rose_any (faults old.disk) (faults new.disk) (omega (arith, first, second));
          acts = inr (record { mended = mid.state.settled; mends = mends; acts = inl (as_old (λ k n. Settles k (Some n) mid.state.settled (turn_of q t reply rise) t new.state) (settles rise)); images = images });
        })
        (λ fails.
        let (rise, some, counts) = rose_fault (faults old.disk) (faults new.disk) (omega (arith, first, second)) (rises_later (faults old.disk) (faults mid.disk) (faults new.disk) first fails.0) in
        record {
          rise = rise;
          counts = counts;
          acts = inr (record { mended = mid.state.settled; mends = mends; acts = inr (as_old (λ k n. FailsToKeep k (Some n) mid.state.settled (turn_of q t reply rise) t new.state) (fails.1 rise some)); images = images });
        })
        takes.acts

  -- the turn of an act
  pub act_turn : is_act q.verb ≡ true → IsInstantNs t → new.founder ≡ old.founder → new.limit ≡ old.limit → ActsInTurn moment since faults (record { old = old; request = q; reading = t; reply = reply; new = new }) → TakesTurn (office_of faults old) q (Some t) reply (office_of faults new)
  act_turn act instant founder limit acts = record {
    rise = acts.rise;
    turn = record {
      reads = (act, instant);
      takes =
          ⊎_elim
          (λ fails. inl fails.fails)
          (λ takes. inr (record { mended = takes.mended; mends = takes.mends; acts = takes.acts }))
          acts.acts;
    };
    counts = acts.counts;
    founder = founder;
    limit = ap (λ (n : ℕ). Some n) limit;
    stamps = refl;
  }

-- the turn of a query
pub ask_turn : {D : Type 0} (faults : D → ℕ) (desk : DeskState D) (q : Request) (reply : Reply) → is_act q.verb ≡ false → Answers desk.founder (Some desk.limit) desk.state.settled q (pos 0) reply desk.state.settled
    → TakesTurn (office_of faults desk) q None reply (office_of faults desk)
ask_turn faults desk q reply query answers = record {
  rise = 0;
  turn = record { reads = query; takes = record { answers = answers; stays = refl } };
  counts = rose_none (faults desk.disk);
  founder = refl;
  limit = refl;
  stamps = refl;
}
