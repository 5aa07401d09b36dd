-- Turns of the office in memory alone.
use Rattle.std.proofs.Common.{◌≡◌, ◌≢◌, ℕ, ℤ, pos, Bool, true, false, List, ◌∷◌, Option, Some, None, refl, sym, ap, ◌∙◌, inl, inr}
use Rattle.obs_time.specs.Instants.{IsInstantNs}
use Rattle.act_bodies.specs.declared.key.Key.{Key}
use Rattle.act_model.specs.declared.entry.Entry.{Entry}
use Rattle.act_model.specs.declared.reply.Refusal.{Refusal}
use Rattle.act_model.specs.declared.reply.Refusal.TheVariants.{DiskFault}
use Rattle.act_model.specs.declared.reply.Reply.{Reply}
use Rattle.act_model.specs.declared.reply.Reply.TheVariants.{Done, Refused}
use Rattle.act_model.specs.declared.request.Request.{Request}
use Rattle.act_model.specs.Keepers.{TakesTurn}
use Rattle.act_model.specs.Replies.{entry_answer}
use Rattle.act_model.specs.Requests.{is_act}
use Rattle.act_model.specs.Step.{Keeps, Adds, outcome, reply_and_history, step}
use Rattle.act_model.specs.Turns.{Answers}
use Rattle.desk_core.specs.Office.{Office}
use Rattle.desk_core.specs.Preparing.{IsRefused}
use Rattle.plain_keeper.specs.Plain.{plain_office}

-- ---- what answers an act

module _ (founder : Key) (limit : Option ℕ) (past : List Entry) (q : Request) (t : ℤ) where
  pub answers_kept : (reply : Reply) → outcome founder limit past q t ≡ Keeps reply → Answers founder limit past q t reply past
  unfolding step
  answers_kept reply is = inl (ap (reply_and_history past) is)

  pub answers_refused : (refusal : Refusal) → IsRefused (outcome founder limit past q t) refusal → Answers founder limit past q t (Refused refusal) past
  unfolding step
  answers_refused refusal (inl is) = inl (ap (reply_and_history past) is)
  answers_refused refusal (inr wants) = inr (ap (λ (r : Refusal). Refused r) wants, refl)

  pub answers_ready : (entry : Entry) (reply : Reply) (text : List ℕ) → outcome founder limit past q t ≡ Adds entry → reply ≡ Done text → text ≡ entry_answer past entry → Answers founder limit past q t reply (entry ∷ past)
  unfolding step
  answers_ready entry reply text is says answer =
      inl (ap (reply_and_history past) is ∙ ap (λ (r : Reply). (r, entry ∷ past)) (sym (says ∙ ap (λ (x : List ℕ). Done x) answer)))

-- ---- turns

pub plain_turn : (old new : Office) (q : Request) (t : ℤ) (reply : Reply) → is_act q.verb ≡ true → IsInstantNs t → new.founder ≡ old.founder → Answers old.founder None old.history q t reply new.history
    → TakesTurn (plain_office old) q (Some t) reply (plain_office new)
plain_turn old new q t reply act instant founder answers = record {
  rise = 0;
  turn = record { reads = (act, instant); takes = inr (record { mended = old.history; mends = refl; acts = inl (record { answers = answers; settled = refl }) }) };
  counts = refl;
  founder = founder;
  limit = refl;
  stamps = refl;
}

pub plain_query : (core : Office) (q : Request) (reply : Reply) → is_act q.verb ≡ false → Answers core.founder None core.history q (pos 0) reply core.history → TakesTurn (plain_office core) q None reply (plain_office core)
plain_query core q reply query answers = record {
  rise = 0;
  turn = record { reads = query; takes = record { answers = answers; stays = refl } };
  counts = refl;
  founder = refl;
  limit = refl;
  stamps = refl;
}

-- no answer of the step, or that memory was refused, is that a disk failed
pub no_disk : (never : (founder : Key) (limit : Option ℕ) (past after : List Entry) (q : Request) (t : ℤ) (doubt : Bool) → step founder limit past q t ≡ (Refused (DiskFault doubt), after) → ⊥)
    (founder : Key) (limit : Option ℕ) (past : List Entry) (q : Request) (t : ℤ) (reply : Reply) (after : List Entry) → Answers founder limit past q t reply after → (doubt : Bool) → reply ≢ Refused (DiskFault doubt)
no_disk never founder limit past q t reply after (inl is) doubt fails = never founder limit past after q t doubt (is ∙ ap (λ (r : Reply). (r, after)) fails)
no_disk never founder limit past q t reply after (inr (wants, same)) doubt fails = let both = sym wants ∙ fails in absurd cc
