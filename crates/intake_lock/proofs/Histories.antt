-- Histories that begin one another, and calls that are true of them.
use Rattle.std.proofs.Common.{◌≡◌, ℕ, ℤ, pos, ◌+◌, ◌≤◌, ◌<◌, List, [], ◌∷◌, ◌++◌, length, Bool, true, false, Option, Some, None, refl, sym, ap, subst, ◌∙◌, append_assoc, inl, inr, arith}
use Rattle.std.specs.Prelude.{◌⊎◌, unwrap_or, IfSome, Contains}
use Rattle.std.proofs.lemmas.List.{length-append}
use Rattle.std.proofs.lemmas.List.Elements.{Contains-append_left, Contains-append_right}
use Rattle.std.proofs.lemmas.List.Sums.{sum_by-cons}
use Rattle.act_bodies.specs.declared.key.Key.{Key}
use Rattle.act_model.specs.declared.entry.Entry.{Entry}
use Rattle.act_model.specs.declared.keeper.Office.{Office}
use Rattle.act_model.specs.declared.keeper.OfficeState.{OfficeState}
use Rattle.act_model.specs.declared.reply.Reply.{Reply}
use Rattle.act_model.specs.declared.reply.Reply.TheVariants.{Done, Refused}
use Rattle.act_model.specs.declared.reply.Refusal.TheVariants.{DiskFault}
use Rattle.act_model.specs.Replies.{entry_answer}
use Rattle.act_model.specs.declared.request.Request.{Request}
use Rattle.act_model.specs.Requests.{is_act}
use Rattle.act_model.specs.Conducts.{Extends, EitherWay, Makes}
use Rattle.act_model.specs.Legal.{IsLegal}
use Rattle.act_model.specs.Keepers.{RoseBy}
use Rattle.act_model.specs.Step.{Adds, outcome, step}
use Rattle.act_model.specs.Turns.{Turn, TakesReading, Answers, unless_untouched, Mends, FailsToKeep, Settles, Takes, IsTurn, Conduct}
use Rattle.intake_lock.specs.declared.view.Item.{Item}
use Rattle.intake_lock.specs.declared.view.View.{View}
use Rattle.intake_lock.specs.Rule.{IsCall, IsOrigin, Origins, Comes}
use Rattle.intake_lock.proofs.StampLemmas.{one_counts, called_came, come_kept}
use Rattle.act_model.specs.declared.keeper.Stamp.{Stamp}
use Rattle.intake_lock.specs.Items.{reading_of, StampTells, IsTrue, AreTrue, rises, turn_of, TakesAt, Called, RisesBy}

-- ---- beginnings

pub extends_refl : (h : List Entry) → Extends h h
extends_refl h = ([], refl)

pub extends_on : (a b c : List Entry) → Extends a b → Extends b c → Extends a c
extends_on a b c (newer, is) (newest, more) = (newest ++ newer, more ∙ ap (λ (h : List Entry). newest ++ h) is ∙ sym (append_assoc newest newer a))

pub extends_same : (a b : List Entry) → b ≡ a → Extends a b
extends_same a b is = ([], is)

pub extends_length : (a b : List Entry) → Extends a b → length a ≤ length b
extends_length a b (newer, is) = let l = length-append newer a in let same = ap length is in omega arith

longer_self : (newer : List Entry) (e : Entry) (b : List Entry) → length b < length (e ∷ newer ++ b)
longer_self newer e b = let n = extends_length b (newer ++ b) (newer, refl) in omega arith

tail_or : List Entry → List Entry
tail_or [] = []
tail_or (e ∷ past) = past

-- of two beginnings of one history the shorter begins the longer
two_tails : (m n : List Entry) (a b : List Entry) → m ++ a ≡ n ++ b → length a ≤ length b → Extends a b
unfolding tail_or
two_tails m [] a b is short = (m, sym is)
two_tails [] (e ∷ n) a b is short = let l = longer_self n e b in let same = ap length is in absurd (omega arith)
two_tails (d ∷ m) (e ∷ n) a b is short = two_tails m n a b (ap tail_or is) short

pub shorter_begins : (a b c : List Entry) → Extends a c → Extends b c → length a ≤ length b → Extends a b
shorter_begins a b c (m, is) (n, more) short = two_tails m n a b (sym is ∙ more) short

-- a beginning that is as long is the whole
pub same_length : (a b : List Entry) → Extends a b → length b ≤ length a → a ≡ b
same_length a b ([], is) long = sym is
same_length a b (e ∷ newer, is) long = let l = longer_self newer e a in let same = ap length is in absurd (omega arith)

-- two beginnings that are as long are one
pub one_beginning : (a b c : List Entry) → Extends a c → Extends b c → length a ≡ length b → a ≡ b
one_beginning a b c first then long = same_length a b (shorter_begins a b c first then (omega arith)) (omega arith)

-- ---- counts

pub rises_none : (n : ℕ) → RisesBy 0 n n
rises_none n = omega arith

pub rises_on : (r s a b c : ℕ) → RisesBy r a b → RoseBy s b c → RisesBy (r + s) a c
rises_on r s a b c first then = omega arith

-- ---- calls

-- a step leaves the history or adds the newest entry
abbrev pub StepLaw : Type 0
StepLaw = (founder : Key) (limit : Option ℕ) (past after : List Entry) (request : Request) (reading : ℤ) (reply : Reply) → step founder limit past request reading ≡ (reply, after)
    → Makes past (outcome founder limit past request reading) reply after

-- the history is as it was, or it has one entry more, which becomes of the request, and the reply is its answer
abbrev pub OneMore : Key → Option ℕ → List Entry → Request → ℤ → Reply → List Entry → Type 0
OneMore founder limit past request reading reply after = Makes past (outcome founder limit past request reading) reply after

-- the reading of an item
reading_is : (item : Item) (reading : Option ℤ) → item.reading ≡ reading → unwrap_or reading (pos 0) ≡ reading_of item
reading_is item reading is = sym (ap (λ (o : Option ℤ). unwrap_or o (pos 0)) is)

module _ (steps : StepLaw) (founder : Key) (limit : Option ℕ) where
  one_more : (past : List Entry) (q : Request) (t : ℤ) (reply : Reply) (after : List Entry) → Answers founder limit past q t reply after → OneMore founder limit past q t reply after
  one_more past q t reply after (inl is) = steps founder limit past after q t reply is
  one_more past q t reply after (inr (wants, same)) = inl same

  more_extends : (past : List Entry) (q : Request) (t : ℤ) (reply : Reply) (after : List Entry) → OneMore founder limit past q t reply after → Extends past after
  more_extends past q t reply after (inl same) = ([], same)
  more_extends past q t reply after (inr (e, adds, done, is)) = (e ∷ [], is)

  answer_extends : (past : List Entry) (q : Request) (t : ℤ) (reply : Reply) (after : List Entry) → Answers founder limit past q t reply after → Extends past after
  answer_extends past q t reply after is = more_extends past q t reply after (one_more past q t reply after is)

  mends_extends : (past : List Entry) (doubt : Option Entry) (mended : List Entry) → Mends past doubt mended → Extends past mended
  mends_extends past None mended same = ([], same)
  mends_extends past (Some e) mended (inl more) = (e ∷ [], more)
  mends_extends past (Some e) mended (inr same) = ([], same)

  module _ (before : OfficeState) (item : Item) (after : OfficeState) where
    settled_is : {a b : OfficeState} → a ≡ b → a.settled ≡ b.settled
    settled_is is = ap (λ (s : OfficeState). s.settled) is

    abbrev pub Acts : List Entry → ℤ → Type 0
    Acts mended reading = Settles founder limit mended (turn_of item) reading after ⊎ FailsToKeep founder limit mended (turn_of item) reading after

    acts_extend : (mended : List Entry) (reading : ℤ) → Acts mended reading → Extends mended after.settled
    acts_extend mended reading (inl s) = answer_extends mended item.request reading item.reply after.settled s.answers
    acts_extend mended reading (inr f) = extends_same mended after.settled (settled_is f.leaves)

    pub takes_extend : (reading : Option ℤ) → TakesAt founder limit before item reading after → Extends before.settled after.settled
    takes_extend (Some reading) (inl (f, place)) = extends_same before.settled after.settled (settled_is f.stays)
    takes_extend (Some reading) (inr (a, place)) =
        extends_on before.settled a.mended after.settled (mends_extends before.settled before.doubt a.mended a.mends) (acts_extend a.mended reading a.acts)
    takes_extend None (a, place) = extends_same before.settled after.settled (settled_is a.stays)

    -- the stamp has as many entries as the history that the act left
    counts_at : (past : List Entry) → after.settled ≡ past → (stamp : Option Stamp) → IfSome stamp (λ given. given.entries ≡ length after.settled) → IfSome stamp (λ given. given.entries ≡ length past)
    counts_at past is None counts = tt
    counts_at past is (Some given) counts = counts ∙ ap length is

    acts_true : (mended : List Entry) (reading : ℤ) → reading ≡ reading_of item → TakesReading item.request.verb item.reading → is_act item.request.verb ≡ true → item.position ≡ length mended
        → IfSome item.stamp (λ given. given.entries ≡ length after.settled) → StampTells mended item.reading item.stamp after.settled → Acts mended reading → IsTrue founder limit after.settled item
    acts_true mended reading is reads act place counts left (inl s) =
        record {
          reads = reads;
          past = mended;
          place = place;
          first = answer_extends mended item.request reading item.reply after.settled s.answers;
          answered = inl (after.settled, subst (λ (t : ℤ). Answers founder limit mended item.request t item.reply after.settled) is s.answers, extends_refl after.settled, left);
        }
    acts_true mended reading is reads act place counts left (inr f) =
        record {
          reads = reads;
          past = mended;
          place = place;
          first = extends_same mended after.settled (settled_is f.leaves);
          answered = inr (record {
            doubt = f.doubt;
            act = act;
            reply = f.reply;
            rose = f.rose;
            adds = λ doubted. (f.entry, subst (λ (t : ℤ). outcome founder limit mended item.request t ≡ Adds f.entry) is f.adds);
            tells = counts_at mended (settled_is f.leaves) item.stamp counts;
          });
        }

    -- a call comes no earlier than at the end of the history before it
    pub takes_place : (reading : Option ℤ) → TakesAt founder limit before item reading after → length before.settled ≤ item.position
    takes_place (Some reading) (inl (f, place)) = omega arith
    takes_place (Some reading) (inr (a, place)) = let l = extends_length before.settled a.mended (mends_extends before.settled before.doubt a.mended a.mends) in omega arith
    takes_place None (a, place) = omega arith

    reads_as : (reading : Option ℤ) → item.reading ≡ reading → TakesReading item.request.verb reading → TakesReading item.request.verb item.reading
    reads_as reading is reads = subst (λ (r : Option ℤ). TakesReading item.request.verb r) (sym is) reads

    pub takes_true : (reading : Option ℤ) → item.reading ≡ reading → TakesReading item.request.verb reading → IfSome item.stamp (λ given. given.entries ≡ length after.settled) → TakesAt founder limit before item reading after → IsTrue founder limit after.settled item
    takes_true (Some reading) is reads counts (inl (f, place)) =
        record {
          reads = reads_as (Some reading) is reads;
          past = before.settled;
          place = place;
          first = extends_same before.settled after.settled (settled_is f.stays);
          answered = inr (record {
            doubt = false;
            act = reads.0;
            reply = f.reply;
            rose = f.rose;
            adds = λ doubted. absurd cc;
            tells = counts_at before.settled (settled_is f.stays) item.stamp counts;
          });
        }
    takes_true (Some reading) is reads counts (inr (a, place)) = acts_true a.mended reading (reading_is item (Some reading) is) (reads_as (Some reading) is reads) reads.0 place counts
        (subst (λ (r : Option ℤ). StampTells a.mended r item.stamp after.settled) (sym is) counts) a.acts
    takes_true None is reads counts (a, place) =
        record {
          reads = reads_as None is reads;
          past = before.settled;
          place = place;
          first = extends_same before.settled after.settled (settled_is a.stays);
          answered = inl (
            before.settled,
            subst (λ (t : ℤ). Answers founder limit before.settled item.request t item.reply before.settled) (reading_is item None is) a.answers,
            extends_same before.settled after.settled (settled_is a.stays),
            subst (λ (r : Option ℤ). StampTells before.settled r item.stamp before.settled) (sym is) refl,
          );
        }

  -- what is true of a history is true of a longer one
  pub true_later : (history later : List Entry) (item : Item) → Extends history later → IsTrue founder limit history item → IsTrue founder limit later item
  true_later history later item goes_on is =
      record {
        reads = is.reads;
        past = is.past;
        place = is.place;
        first = extends_on is.past history later is.first goes_on;
        answered = elim is.answered [
          | inl a ↦ inl (a.0, a.1, extends_on a.0 history later a.2 goes_on, a.3)
          | inr failed ↦ inr failed
        ];
      }

  pub are_true_later : (history later : List Entry) (items : List Item) → Extends history later → AreTrue founder limit history items → AreTrue founder limit later items
  are_true_later history later [] goes_on are = tt
  are_true_later history later (item ∷ items) goes_on (is, are) = (true_later history later item goes_on is, are_true_later history later items goes_on are)

pub are_true_both : (founder : Key) (limit : Option ℕ) (history : List Entry) (items more : List Item) → AreTrue founder limit history items → AreTrue founder limit history more → AreTrue founder limit history (items ++ more)
are_true_both founder limit history [] more are others = others
are_true_both founder limit history (item ∷ items) more (is, are) others = (is, are_true_both founder limit history items more are others)

-- ---- calls one after another

module _ (steps : StepLaw) where
  pub called_same : (before after : Office) (items : List Item) → Called before items after → (after.founder ≡ before.founder) × (after.limit ≡ before.limit)
  called_same before after [] is = (ap (λ (o : Office). o.founder) is, ap (λ (o : Office). o.limit) is)
  called_same before after (item ∷ items) (between, others, last) =
      let same = called_same before between items others in (last.founder ∙ same.0, last.limit ∙ same.1)

  pub called_extends : (before after : Office) (items : List Item) → Called before items after → Extends before.state.settled after.state.settled
  called_extends before after [] is = extends_same before.state.settled after.state.settled (ap (λ (o : Office). o.state.settled) is)
  called_extends before after (item ∷ items) (between, others, last) =
      extends_on before.state.settled between.state.settled after.state.settled (called_extends before between items others)
      (takes_extend steps between.founder between.limit between.state item after.state item.reading last.takes)

  pub called_true : (before after : Office) (items : List Item) → Called before items after → AreTrue before.founder before.limit after.state.settled items
  called_true before after [] is = tt
  called_true before after (item ∷ items) (between, others, last) =
      let same = called_same before between items others in
      let here = takes_true steps between.founder between.limit between.state item after.state item.reading refl last.reads
      (one_counts item (length after.state.settled) after.stamps between.stamps item.reading last.stamps) last.takes in (
        subst (λ (l : Option ℕ). IsTrue before.founder l after.state.settled item) same.1 (subst (λ (f : Key). IsTrue f between.limit after.state.settled item) same.0 here),
        are_true_later steps before.founder before.limit between.state.settled after.state.settled items
            (takes_extend steps between.founder between.limit between.state item after.state item.reading last.takes)
            (called_true before between items others),
      )

pub called_counts : (r first : ℕ) (before after : Office) (items : List Item) → RisesBy r first before.faults → Called before items after → RisesBy (r + rises items) first after.faults
called_counts r first before after [] rose is = let same = ap (λ (o : Office). o.faults) is in omega arith
called_counts r first before after (item ∷ items) rose (between, others, last) =
    let so_far = called_counts r first before between items rose others in
    let all = sum_by-cons (λ (i : Item). i.rise) item items in
    let here = rises_on (r + rises items) item.rise first between.faults after.faults so_far last.counts in
    omega arith

-- ---- where entries come from

module _ (steps : StepLaw) (opening : Office) (views : List View) where
  -- the history is that at the opening with newer entries, each of which some call added
  pub record Reaches (history : List Entry) : Type 0 where
    pub newer : List Entry
    pub grown : history ≡ newer ++ opening.state.settled
    pub origins : Origins opening views newer

  reaches_same : (history later : List Entry) → later ≡ history → Reaches history → Reaches later
  reaches_same history later is r = record { newer = r.newer; grown = is ∙ r.grown; origins = r.origins }

  reaches_more : (history later : List Entry) (e : Entry) → later ≡ e ∷ history → IsOrigin opening views history e → Reaches history → Reaches later
  reaches_more history later e is origin r =
      record {
        newer = e ∷ r.newer;
        grown = is ∙ ap (λ (h : List Entry). e ∷ h) r.grown;
        origins = (subst (λ (h : List Entry). IsOrigin opening views h e) r.grown origin, r.origins);
      }

  reaches_mended : (past : List Entry) (doubt : Option Entry) (mended : List Entry) → Reaches past → IfSome doubt (λ e. IsOrigin opening views past e) → Mends past doubt mended → Reaches mended
  reaches_mended past None mended r origin same = reaches_same past mended same r
  reaches_mended past (Some e) mended r origin (inl more) = reaches_more past mended e more origin r
  reaches_mended past (Some e) mended r origin (inr same) = reaches_same past mended same r

  abbrev Doubted : OfficeState → Type 0
  Doubted state = IfSome state.doubt (λ e. IsOrigin opening views state.settled e)

  module _ (item : Item) (call : IsCall views item) where
    origin_of : (past : List Entry) (reading : ℤ) (e : Entry) → reading ≡ reading_of item → item.position ≡ length past → outcome opening.founder opening.limit past item.request reading ≡ Adds e
        → (item.reply ≡ Done (entry_answer past e)) ⊎ (item.reply ≡ Refused (DiskFault true)) → IsOrigin opening views past e
    origin_of past reading e is place adds answered =
        (item, call, record { place = place; adds = subst (λ (t : ℤ). outcome opening.founder opening.limit past item.request t ≡ Adds e) is adds; answered = answered })

    reaches_answer : (past : List Entry) (reading : ℤ) (after : List Entry) → reading ≡ reading_of item → item.position ≡ length past → Reaches past → OneMore opening.founder opening.limit past item.request reading item.reply after → Reaches after
    reaches_answer past reading after is place r (inl same) = reaches_same past after same r
    reaches_answer past reading after is place r (inr (e, adds, done, more)) = reaches_more past after e more (origin_of past reading e is place adds (inl done)) r

    doubted : (doubt : Bool) (past : List Entry) (e : Entry) → (doubt ≡ true → IsOrigin opening views past e) → Doubted (unless_untouched doubt past e)
    doubted true past e origin = origin refl
    doubted false past e origin = tt

    comes_acts : (mended : List Entry) (after : OfficeState) (reading : ℤ) → reading ≡ reading_of item → item.position ≡ length mended → Reaches mended
        → Acts steps opening.founder opening.limit after item after mended reading → Reaches after.settled × Doubted after
    comes_acts mended after reading is place r (inl s) = (
      reaches_answer mended reading after.settled is place r (one_more steps opening.founder opening.limit mended item.request reading item.reply after.settled s.answers),
      subst (λ (d : Option Entry). IfSome d (λ e. IsOrigin opening views after.settled e)) (sym s.settled) tt,
    )
    comes_acts mended after reading is place r (inr f) = (
      reaches_same mended after.settled (ap (λ (s : OfficeState). s.settled) f.leaves) r,
      subst Doubted (sym f.leaves) (doubted f.doubt mended f.entry (λ told. origin_of mended reading f.entry is place f.adds (inr (f.reply ∙ ap (λ (d : Bool). Refused (DiskFault d)) told)))),
    )

    comes_takes : (before after : OfficeState) (reading : Option ℤ) → item.reading ≡ reading → Reaches before.settled → Doubted before → TakesAt opening.founder opening.limit before item reading after → Reaches after.settled × Doubted after
    comes_takes before after (Some reading) is r d (inl (f, place)) = (reaches_same before.settled after.settled (ap (λ (s : OfficeState). s.settled) f.stays) r, subst Doubted (sym f.stays) d)
    comes_takes before after (Some reading) is r d (inr (a, place)) =
        comes_acts a.mended after reading (reading_is item (Some reading) is) place (reaches_mended before.settled before.doubt a.mended r d a.mends) a.acts
    comes_takes before after None is r d (a, place) = (reaches_same before.settled after.settled (ap (λ (s : OfficeState). s.settled) a.stays) r, subst Doubted (sym a.stays) d)

  -- what calls make of a history whose entries come from calls
  comes_called : (before after : Office) (items : List Item) → before.founder ≡ opening.founder → before.limit ≡ opening.limit → ((i : Item) → Contains items i → IsCall views i)
      → Reaches before.state.settled → Doubted before.state → Called before items after → Reaches after.state.settled × Doubted after.state
  comes_called before after [] founder limit calls r d is = (reaches_same before.state.settled after.state.settled (ap (λ (o : Office). o.state.settled) is) r, subst (λ (o : Office). Doubted o.state) (sym is) d)
  comes_called before after (item ∷ items) founder limit calls r d (between, others, last) =
      let so_far = comes_called before between items founder limit (λ i in_it. calls i (Contains-append_right (item ∷ []) items i in_it)) r d others in
      let same = called_same steps before between items others in
      let takes = subst (λ (l : Option ℕ). TakesAt opening.founder l between.state item item.reading after.state) (same.1 ∙ limit)
      (subst (λ (f : Key). TakesAt f between.limit between.state item item.reading after.state) (same.0 ∙ founder) last.takes) in
      comes_takes item (calls item (Contains-append_left (item ∷ []) items item (0, omega arith, refl))) between.state after.state item.reading refl so_far.0 so_far.1 takes

-- the origins of calls that are still there
origin_kept : (opening : Office) (views views' : List View) (past : List Entry) (e : Entry) → ((i : Item) → IsCall views i → IsCall views' i) → IsOrigin opening views past e → IsOrigin opening views' past e
origin_kept opening views views' past e kept (item, call, adds) = (item, kept item call, adds)

origins_kept : (opening : Office) (views views' : List View) (newer : List Entry) → ((i : Item) → IsCall views i → IsCall views' i) → Origins opening views newer → Origins opening views' newer
origins_kept opening views views' [] kept origins = tt
origins_kept opening views views' (e ∷ newer) kept (here, others) = (origin_kept opening views views' (newer ++ opening.state.settled) e kept here, origins_kept opening views views' newer kept others)

doubt_kept : (opening : Office) (views views' : List View) (past : List Entry) (doubt : Option Entry) → ((i : Item) → IsCall views i → IsCall views' i) → IfSome doubt (λ e. IsOrigin opening views past e) → IfSome doubt (λ e. IsOrigin opening views' past e)
doubt_kept opening views views' past None kept origin = tt
doubt_kept opening views views' past (Some e) kept origin = origin_kept opening views views' past e kept origin

-- the same history, where each call is still some pass's
pub comes_kept : (opening office : Office) (views views' : List View) → ((i : Item) → IsCall views i → IsCall views' i) → Comes opening office views → Comes opening office views'
comes_kept opening office views views' kept c =
    record {
      newer = c.newer;
      grown = c.grown;
      origins = origins_kept opening views views' c.newer kept c.origins;
      doubt = doubt_kept opening views views' office.state.settled office.state.doubt kept c.doubt;
      stamps = come_kept opening office views views' kept c.stamps;
    }

-- the history after more calls
pub comes_more : (steps : StepLaw) (opening before after : Office) (items : List Item) (views views' : List View) → before.founder ≡ opening.founder → before.limit ≡ opening.limit
    → ((i : Item) → IsCall views i → IsCall views' i) → ((i : Item) → Contains items i → IsCall views' i) → Called before items after → Comes opening before views → Comes opening after views'
comes_more steps opening before after items views views' founder limit kept calls called c =
    let k = comes_kept opening before views views' kept c in
    let r = comes_called steps opening views' before after items founder limit calls (record { newer = k.newer; grown = k.grown; origins = k.origins }) k.doubt called in
    record { newer = r.0.newer; grown = r.0.grown; origins = r.0.origins; doubt = r.1; stamps = called_came opening before after views' items calls k.stamps called }

-- ---- legal histories

-- a conduct from a legal history leaves one
abbrev pub LegalLaw : Type 0
LegalLaw = (founder : Key) (limit : Option ℕ) (before after : OfficeState) (turns : List Turn) → EitherWay (IsLegal founder) before → Conduct founder limit before turns after → EitherWay (IsLegal founder) after

takes_of : (founder : Key) (limit : Option ℕ) (before : OfficeState) (item : Item) (reading : Option ℤ) (after : OfficeState) → TakesAt founder limit before item reading after → Takes founder limit before (turn_of item) reading after
takes_of founder limit before item (Some reading) after (inl (f, place)) = inl f
takes_of founder limit before item (Some reading) after (inr (a, place)) = inr a
takes_of founder limit before item None after (a, place) = a

pub called_legal : (steps : StepLaw) → LegalLaw → (before after : Office) (items : List Item) → EitherWay (IsLegal before.founder) before.state → Called before items after → EitherWay (IsLegal before.founder) after.state
called_legal steps law before after [] legal is = subst (λ (o : Office). EitherWay (IsLegal before.founder) o.state) (sym is) legal
called_legal steps law before after (item ∷ items) legal (between, others, last) =
    let so_far = called_legal steps law before between items legal others in
    let same = called_same steps before between items others in
    let turn : IsTurn between.founder between.limit between.state (turn_of item) after.state = record { reads = last.reads; takes = takes_of between.founder between.limit between.state item item.reading after.state last.takes } in
    subst (λ (f : Key). EitherWay (IsLegal f) after.state) same.0
    (law between.founder between.limit between.state after.state (turn_of item ∷ []) (subst (λ (f : Key). EitherWay (IsLegal f) between.state) (sym same.0) so_far) (after.state, turn, refl))
