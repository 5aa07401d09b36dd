-- What a query is told.
use Rattle.std.proofs.Common.{◌≡◌, ℕ, List, Option, Some, None, Result, Ok, Err, refl, sym, ap, subst, ◌∙◌}
use Rattle.std.specs.Prelude.{IfOk, IfErr}
use Rattle.packed_names.specs.declared.half_month.HalfMonth.{HalfMonth}
use Rattle.packed_names.specs.declared.name.Designation.{Designation}
use Rattle.packed_names.specs.declared.name.Name.{Name}
use Rattle.identify_core.specs.Acts.{principal}
use Rattle.act_model.specs.declared.entry.Entry.{Entry}
use Rattle.act_model.specs.declared.query.Query.TheVariants as query
use Rattle.act_model.specs.declared.reply.Refusal.{Refusal}
use Rattle.act_model.specs.declared.reply.Refusal.TheVariants.{UnknownThing}
use Rattle.act_model.specs.declared.reply.Reply.TheVariants.{Done}
use Rattle.act_model.specs.declared.reply.Thing.TheVariants as thing
use Rattle.act_model.specs.declared.shelf.TrackHead.{TrackHead}
use Rattle.act_model.specs.Catalogue.{catalogue}
use Rattle.act_model.specs.Deeds.{deeds}
use Rattle.act_model.specs.Designations.{row_acts_of, links_of}
use Rattle.act_model.specs.History.{Kept, numbered_entry}
use Rattle.act_model.specs.Holdings.{holdings}
use Rattle.act_model.specs.Numbers.{numbers_of}
use Rattle.act_model.specs.QueryTexts.{object_text, tracklet_text, isolated_text, half_month_line, name_text}
use Rattle.act_model.specs.Replies.{entry_answer}
use Rattle.act_model.specs.Shelves.{track_head, reply_kept}
use Rattle.act_model.specs.Step.{answer_of_receipt, answer_of_thing, answer_of_query}
use Rattle.act_model.specs.Tallies.{tally, tally_text}

-- what holds of a text that was made holds of what follows from it
pub if_made : {A E : Type 0} (r : Result A E) (P Q : A → Type 0) → ((a : A) → P a → Q a) → IfOk r P → IfOk r Q
if_made (Ok a) P Q follows holds = follows a holds
if_made (Err e) P Q follows holds = tt

-- no refusal is due where a text is
pub none_refused : (due : Result (List ℕ) Refusal) (text : List ℕ) (P : Refusal → Type 0) → due ≡ Ok text → IfErr due P
none_refused due text P is = subst (λ (d : Result (List ℕ) Refusal). IfErr d P) (sym is) tt

-- and the one that is due is answered
pub refused_so : (due : Result (List ℕ) Refusal) (answer : Refusal) → due ≡ Err answer → IfErr due (λ refusal. ◌≡◌ {A = Result (List ℕ) Refusal} (Err answer) (Err refusal))
refused_so due answer is = subst (λ (d : Result (List ℕ) Refusal). IfErr d (λ refusal. ◌≡◌ {A = Result (List ℕ) Refusal} (Err answer) (Err refusal))) (sym is) refl

-- the reply that is kept is an answer
kept_done : (number : ℕ) (o : Option Kept) (text : List ℕ) → Some (Done text) ≡ reply_kept o → answer_of_receipt number o ≡ Ok text
kept_done number (Some k) text is = let same : text ≡ entry_answer k.before k.entry = cc in ap (λ (t : List ℕ). Ok t) (sym same)
kept_done number None text is = absurd cc

kept_none : (number : ℕ) (o : Option Kept) → None ≡ reply_kept o → answer_of_receipt number o ≡ Err (UnknownThing (thing.Receipt number))
kept_none number None is = refl
kept_none number (Some k) is = absurd cc

module _ (past : List Entry) (caller : ℕ) where
  pub receipt_told : (number : ℕ) (text : List ℕ) → Some (Done text) ≡ reply_kept (numbered_entry past caller number)
      → answer_of_query past caller (query.Receipt number) ≡ Ok text
  unfolding answer_of_query
  receipt_told number text is = kept_done number (numbered_entry past caller number) text is

  pub receipt_unknown : (number : ℕ) → None ≡ reply_kept (numbered_entry past caller number)
      → answer_of_query past caller (query.Receipt number) ≡ Err (UnknownThing (thing.Receipt number))
  unfolding answer_of_query
  receipt_unknown number is = kept_none number (numbered_entry past caller number) is

  pub tally_told : (text : List ℕ) → text ≡ tally_text (tally past) → answer_of_query past caller query.Tally ≡ Ok text
  unfolding answer_of_query
  tally_told text is = ap (λ (t : List ℕ). Ok t) (sym is)

  pub object_told : (d p : Designation) (text : List ℕ) → Some p ≡ principal (links_of (deeds past)) d
      → text ≡ object_text (holdings (deeds past)) (links_of (deeds past)) (numbers_of (deeds past)) p
      → answer_of_query past caller (query.Object d) ≡ Ok text
  unfolding answer_of_query
  object_told d p text found is =
      ap (answer_of_thing (thing.Designation d) (object_text (holdings (deeds past)) (links_of (deeds past)) (numbers_of (deeds past)))) (sym found)
      ∙ ap (λ (t : List ℕ). Ok t) (sym is)

  pub object_unknown : (d : Designation) → None ≡ principal (links_of (deeds past)) d
      → answer_of_query past caller (query.Object d) ≡ Err (UnknownThing (thing.Designation d))
  unfolding answer_of_query
  object_unknown d none =
      ap (answer_of_thing (thing.Designation d) (object_text (holdings (deeds past)) (links_of (deeds past)) (numbers_of (deeds past)))) (sym none)

  pub tracklet_told : (t : ℕ) (head : TrackHead) (text : List ℕ) → Some head ≡ track_head (holdings (deeds past)).tracklets t
      → text ≡ tracklet_text (holdings (deeds past)) (links_of (deeds past)) t head
      → answer_of_query past caller (query.Tracklet t) ≡ Ok text
  unfolding answer_of_query
  tracklet_told t head text found is =
      ap (answer_of_thing (thing.Tracklet t) (tracklet_text (holdings (deeds past)) (links_of (deeds past)) t)) (sym found)
      ∙ ap (λ (t : List ℕ). Ok t) (sym is)

  pub tracklet_unknown : (t : ℕ) → None ≡ track_head (holdings (deeds past)).tracklets t
      → answer_of_query past caller (query.Tracklet t) ≡ Err (UnknownThing (thing.Tracklet t))
  unfolding answer_of_query
  tracklet_unknown t none =
      ap (answer_of_thing (thing.Tracklet t) (tracklet_text (holdings (deeds past)) (links_of (deeds past)) t)) (sym none)

  pub isolated_told : (text : List ℕ) → text ≡ isolated_text (holdings (deeds past)) → answer_of_query past caller query.Isolated ≡ Ok text
  unfolding answer_of_query
  isolated_told text is = ap (λ (t : List ℕ). Ok t) (sym is)

  pub half_month_told : (half : HalfMonth) (text : List ℕ) → text ≡ half_month_line (row_acts_of (deeds past)) half
      → answer_of_query past caller (query.HalfMonth half) ≡ Ok text
  unfolding answer_of_query
  half_month_told half text is = ap (λ (t : List ℕ). Ok t) (sym is)

  pub name_told : (name : Name) (text : List ℕ) → text ≡ name_text (links_of (deeds past)) (numbers_of (deeds past)) name
      → answer_of_query past caller (query.Name name) ≡ Ok text
  unfolding answer_of_query
  name_told name text is = ap (λ (t : List ℕ). Ok t) (sym is)

  pub catalogue_told : (text : List ℕ) → text ≡ catalogue past → answer_of_query past caller query.Catalogue ≡ Ok text
  unfolding answer_of_query
  catalogue_told text is = ap (λ (t : List ℕ). Ok t) (sym is)
