-- Calls that are true of a history, and where they stand in it.
use Rattle.std.proofs.Common.{◌≡◌, ℕ, ℤ, Bool, ◌≤◌, ◌<◌, List, [], ◌∷◌, ◌+◌, length, Option, Some, None, refl, sym, ap, subst, ◌∙◌, inl, inr, arith}
use Rattle.std.specs.Prelude.{◌⊎◌, IsSome, IfSome}
use Rattle.std.specs.List.{AllByRecursion}
use Rattle.act_bodies.specs.declared.key.Key.{Key}
use Rattle.act_model.specs.declared.entry.Entry.{Entry}
use Rattle.act_model.specs.declared.reply.Reply.{Reply}
use Rattle.act_model.specs.declared.reply.Reply.TheVariants.{Refused}
use Rattle.act_model.specs.declared.reply.Refusal.TheVariants.{DiskFault}
use Rattle.act_model.specs.declared.request.Request.{Request}
use Rattle.act_model.specs.Conducts.{Extends}
use Rattle.act_model.specs.Step.{Outcome, Adds, outcome, reply_and_history, step}
use Rattle.act_model.specs.Turns.{Answers}
use Rattle.intake_lock.specs.declared.view.Item.{Item}
use Rattle.act_model.specs.declared.keeper.Stamp.{Stamp}
use Rattle.intake_lock.specs.Items.{reading_of, StampTells, IsTrue, AreTrue, Failed}
use Rattle.http_connection.specs.Calls.{HasCause, IsAdded, StandsBehind, AreInOrder, HadNoRise, IsStepped}
use Rattle.http_connection.specs.Laws.{CallLaws}

-- where the step adds an entry, the history has it
step_adds : (founder : Key) (limit : Option ℕ) (past : List Entry) (q : Request) (t : ℤ) (e : Entry) (reply : Reply) (next : List Entry) → outcome founder limit past q t ≡ Adds e
    → step founder limit past q t ≡ (reply, next) → next ≡ e ∷ past
unfolding step
step_adds founder limit past q t e reply next adds is = sym (ap (λ (p : Reply × List Entry). p.1) is) ∙ ap (λ (o : Outcome). (reply_and_history past o).1) adds

module _ (laws : CallLaws) (founder : Key) (limit : Option ℕ) where
  -- ---- where a call stands

  module _ (history : List Entry) (item : Item) (is : IsTrue founder limit history item) where
    place_within : item.position ≤ length history
    place_within = let l = laws.longer is.past history is.first in let p = is.place in omega arith

    -- a call that added an entry stands before that
    added_within : IsAdded founder limit history item → item.position < length history
    added_within a = by is.answered
      where
        same : is.past ≡ a.past
        same = laws.one is.past a.past history is.first a.first (sym is.place ∙ a.place)

        adds : outcome founder limit is.past item.request (reading_of item) ≡ Adds a.entry
        adds = subst (λ (h : List Entry). outcome founder limit h item.request (reading_of item) ≡ Adds a.entry) (sym same) a.adds

        next_is : (next : List Entry) → Answers founder limit is.past item.request (reading_of item) item.reply next → next ≡ a.entry ∷ is.past
        next_is next (inl stepped) = step_adds founder limit is.past item.request (reading_of item) a.entry item.reply next adds stepped
        next_is next (inr (wants, stays)) = let done = a.done in absurd cc

        by : ((next : List Entry) × Answers founder limit is.past item.request (reading_of item) item.reply next × Extends next history × StampTells is.past item.reading item.stamp next) ⊎ Failed founder limit is.past item → item.position < length history
        by (inl (next, answers, goes_on, tells)) =
            let l = laws.longer next history goes_on in
            let n = ap length (next_is next answers) in
            let p = is.place in
            omega arith
        by (inr failed) = let done = a.done in let reply = failed.reply in absurd cc

    -- it is an act, its entry stands in the history, and its stamp has as many entries as there were with it
    added_call : (a : IsAdded founder limit history item) → IsSome item.reading × Extends (a.entry ∷ a.past) history
        × IfSome item.stamp (λ stamp. stamp.entries ≡ item.position + 1)
    added_call a = by is.answered
      where
        same : is.past ≡ a.past
        same = laws.one is.past a.past history is.first a.first (sym is.place ∙ a.place)

        adds : outcome founder limit is.past item.request (reading_of item) ≡ Adds a.entry
        adds = subst (λ (h : List Entry). outcome founder limit h item.request (reading_of item) ≡ Adds a.entry) (sym same) a.adds

        next_is : (next : List Entry) → Answers founder limit is.past item.request (reading_of item) item.reply next → next ≡ a.entry ∷ is.past
        next_is next (inl stepped) = step_adds founder limit is.past item.request (reading_of item) a.entry item.reply next adds stepped
        next_is next (inr (wants, stays)) = let done = a.done in absurd cc

        counts : (stamp : Option Stamp) (n : ℕ) → n ≡ item.position + 1 → IfSome stamp (λ given. given.entries ≡ n) → IfSome stamp (λ given. given.entries ≡ item.position + 1)
        counts None n more has = tt
        counts (Some given) n more has = has ∙ more

        told : (reading : Option ℤ) (next : List Entry) → next ≡ a.entry ∷ is.past → StampTells is.past reading item.stamp next
            → IsSome reading × IfSome item.stamp (λ stamp. stamp.entries ≡ item.position + 1)
        told None next next_is same =
            let both : length (a.entry ∷ is.past) ≡ length is.past = ap length (sym next_is ∙ same) in absurd (omega arith)
        told (Some reading) next next_is tells =
            let n = ap length next_is in
            let p = is.place in
            (refl, counts item.stamp (length next) (omega arith) tells)

        stands : (next : List Entry) → next ≡ a.entry ∷ is.past → Extends next history → Extends (a.entry ∷ a.past) history
        stands next next_is goes_on =
            subst (λ (h : List Entry). Extends (a.entry ∷ h) history) same (subst (λ (h : List Entry). Extends h history) next_is goes_on)

        by : ((next : List Entry) × Answers founder limit is.past item.request (reading_of item) item.reply next × Extends next history × StampTells is.past item.reading item.stamp next) ⊎ Failed founder limit is.past item
            → IsSome item.reading × Extends (a.entry ∷ a.past) history × IfSome item.stamp (λ stamp. stamp.entries ≡ item.position + 1)
        by (inl (next, answers, goes_on, tells)) =
            let has = told item.reading next (next_is next answers) tells in (has.0, stands next (next_is next answers) goes_on, has.1)
        by (inr failed) = let done = a.done in let reply = failed.reply in absurd cc

  -- a call that was true before added its entry before
  added_earlier : (history later : List Entry) (item : Item) → Extends history later → IsTrue founder limit history item → IsAdded founder limit later item → IsAdded founder limit history item
  added_earlier history later item goes_on is a =
      let same = laws.one is.past a.past later (laws.follow is.past history later is.first goes_on) a.first (sym is.place ∙ a.place) in
      record {
        past = a.past;
        place = a.place;
        first = subst (λ (h : List Entry). Extends h history) same is.first;
        entry = a.entry;
        adds = a.adds;
        text = a.text;
        done = a.done;
      }

  -- the same of a later history that has the entry
  pub added_later : (history later : List Entry) (item : Item) → Extends history later → IsTrue founder limit history item → (a : IsAdded founder limit later item)
      → IsSome item.reading × Extends (a.entry ∷ a.past) history × IfSome item.stamp (λ stamp. stamp.entries ≡ item.position + 1)
  unfolding added_earlier
  added_later history later item goes_on is a = added_call history item is (added_earlier history later item goes_on is a)

  -- ---- calls in their order

  all_behind_later : (history later : List Entry) (item : Item) (items : List Item) → Extends history later → AreTrue founder limit history items
      → AllByRecursion (StandsBehind founder limit history item) items → AllByRecursion (StandsBehind founder limit later item) items
  all_behind_later history later item [] goes_on are behind = tt
  all_behind_later history later item (earlier ∷ items) goes_on (is, are) ((no_earlier, added), behind) =
      ((no_earlier, λ a. added (added_earlier history later earlier goes_on is a)), all_behind_later history later item items goes_on are behind)

  order_later : (history later : List Entry) (from : ℕ) (items : List Item) → Extends history later → AreTrue founder limit history items
      → AreInOrder founder limit history from items → AreInOrder founder limit later from items
  order_later history later from [] goes_on are order = tt
  order_later history later from (item ∷ items) goes_on (is, are) (place, behind, order) =
      (place, all_behind_later history later item items goes_on are behind, order_later history later from items goes_on are order)

  order_from : (history : List Entry) (from least : ℕ) (items : List Item) → least ≤ from
      → AreInOrder founder limit history from items → AreInOrder founder limit history least items
  order_from history from least [] earlier order = tt
  order_from history from least (item ∷ items) earlier (place, behind, order) = (omega arith, behind, order_from history from least items earlier order)

  -- in a later history, and from an earlier place on
  pub order_on : (history later : List Entry) (from least : ℕ) (items : List Item) → Extends history later → least ≤ from
      → AreTrue founder limit history items → AreInOrder founder limit history from items → AreInOrder founder limit later least items
  order_on history later from least items goes_on earlier are order =
      order_from later from least items earlier (order_later history later from items goes_on are order)

  all_before : (history later : List Entry) (item : Item) (items : List Item) → Extends history later → length history ≤ item.position → AreTrue founder limit history items
      → AllByRecursion (StandsBehind founder limit later item) items
  all_before history later item [] goes_on place are = tt
  all_before history later item (earlier ∷ items) goes_on place (is, are) =
      let within = place_within history earlier is in (
        (omega arith, λ a. let added = added_within history earlier is (added_earlier history later earlier goes_on is a) in omega arith),
        all_before history later item items goes_on place are,
      )

  pub are_true_later : (history later : List Entry) (items : List Item) → Extends history later → AreTrue founder limit history items → AreTrue founder limit later items
  are_true_later history later [] goes_on are = tt
  are_true_later history later (item ∷ items) goes_on (is, are) = (laws.later founder limit history later item goes_on is, are_true_later history later items goes_on are)

  -- one call more, at a place that isn't before the end of what was seen
  pub order_more : (from : ℕ) (history later : List Entry) (item : Item) (items : List Item) → from ≤ length history → Extends history later → length history ≤ item.position
      → AreTrue founder limit history items → AreInOrder founder limit history from items → AreInOrder founder limit later from (item ∷ items)
  order_more from history later item items least goes_on place are order =
      (omega arith, all_before history later item items goes_on place are, order_later history later from items goes_on are order)

-- ---- calls and the disk

-- what the office's laws say of the step: it never answers that the disk failed
abbrev pub StepKnowsNoDisk : Type 0
StepKnowsNoDisk = (founder : Key) (limit : Option ℕ) (past after : List Entry) (request : Request) (reading : ℤ) (doubt : Bool)
    → step founder limit past request reading ≡ (Refused (DiskFault doubt), after) → ⊥

-- a call that is true of a history is answered that the disk failed only where the count rose in it
pub caused : StepKnowsNoDisk → (founder : Key) (limit : Option ℕ) (history : List Entry) (item : Item) → IsTrue founder limit history item → HasCause item
caused never founder limit history item is doubt reply = by is.answered
  where
    by : ((next : List Entry) × Answers founder limit is.past item.request (reading_of item) item.reply next × Extends next history × StampTells is.past item.reading item.stamp next) ⊎ Failed founder limit is.past item → 0 < item.rise
    by (inl (next, inl stepped, goes_on, tells)) =
        absurd (never founder limit is.past next item.request (reading_of item) doubt (stepped ∙ ap (λ (r : Reply). (r, next)) reply))
    by (inl (next, inr (wants, stays), goes_on, tells)) = absurd cc
    by (inr failed) = failed.rose

-- ---- calls without a rise

stepped : (founder : Key) (limit : Option ℕ) (history : List Entry) (item : Item) → item.rise ≡ 0 → IsTrue founder limit history item → IsStepped founder limit history item
stepped founder limit history item none is = by is.answered
  where
    by : ((next : List Entry) × Answers founder limit is.past item.request (reading_of item) item.reply next × Extends next history × StampTells is.past item.reading item.stamp next) ⊎ Failed founder limit is.past item → IsStepped founder limit history item
    by (inl (next, answers, goes_on, tells)) = record { past = is.past; place = is.place; first = is.first; after = next; answers = answers; rest = goes_on }
    by (inr failed) = let rose = failed.rose in absurd (omega arith)

pub all_stepped : (founder : Key) (limit : Option ℕ) (history : List Entry) (items : List Item) → AreTrue founder limit history items → HadNoRise items
    → AllByRecursion (IsStepped founder limit history) items
all_stepped founder limit history [] are none = tt
all_stepped founder limit history (item ∷ items) (is, are) (none, others) = (stepped founder limit history item none is, all_stepped founder limit history items are others)
