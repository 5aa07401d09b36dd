-- Acts that were answered at a desk that is watched, and are kept since.
use Rattle.std.proofs.Common.{◌≡◌, ◌⊎◌, ℕ, suc, zero, ◌<◌, ◌≤◌, ◌+◌, ℤ, pos, List, [], ◌∷◌, ◌++◌, length, true, Option, Some, None, refl, sym, ap, subst, ◌∙◌, inl, inr, ⊎_elim, le_trans, le_refl, arith}
use Rattle.std.specs.Prelude.{map, slice_index_or, unwrap_or, Contains, IfSome, IsSomeAnd}
use Rattle.std.specs.List.{AllByRecursion}
use Rattle.std.proofs.lemmas.List.{map-append}
use Rattle.std.proofs.lemmas.List.Elements.{Contains-append_left, Contains-push}
use Rattle.disk_model.specs.Crashes.{During}
use Rattle.act_bodies.specs.declared.key.Key.{Key}
use Rattle.act_model.specs.declared.entry.Entry.{Entry}
use Rattle.act_model.specs.declared.keeper.OfficeState.{OfficeState}
use Rattle.act_model.specs.declared.reply.Reply.{Reply}
use Rattle.act_model.specs.declared.reply.Reply.TheVariants.{Done}
use Rattle.act_model.specs.declared.request.Request.{Request}
use Rattle.act_model.specs.Conducts.{Extends, IsAcknowledged, Makes}
use Rattle.act_model.specs.Keepers.{TakesTurn}
use Rattle.act_model.specs.Legal.{IsLegal}
use Rattle.act_model.specs.Requests.{is_act}
use Rattle.act_model.specs.Replies.{entry_answer}
use Rattle.act_model.specs.Step.{Adds, outcome, step}
use Rattle.act_model.specs.Turns.{Turn, Conduct, TakesReading, Answers, Mends, IsTurn, at_rest}
use Rattle.act_model.specs.declared.keeper.Stamp.{Stamp}
use Rattle.intake_lock.specs.declared.view.Item.{Item}
use Rattle.intake_lock.specs.Stamps.{Gave}
use Rattle.intake_lock.specs.Items.{reading_of, IsStampOf, HasStamp, StampTells, IsTrue, AreTrue, AreStamped, Failed}
use Rattle.http_connection.specs.Calls.{IsAdded}
use Rattle.mpc_desk.specs.Desks.{DeskState, IsAtRest, FailsOn, ActsOn, ActsInTurn, turn_of, office_of}
use Rattle.act_model.specs.Clocks.{ClockState}
use Rattle.serve_command.specs.declared.accepting.Stop.{Stop}
use Rattle.serve_command.specs.declared.ends.LinkEnd.{LinkEnd}
use Rattle.serve_command.specs.Gathering.{DoorState}
use Rattle.serve_command.specs.Links.{LinkWords}
use Rattle.serve_command.specs.Serving.{AreStampsOf, Serves}
use Rattle.serve_command.specs.Images.{Asks, AskedBy, WatchedState, StandsWithin, IsWatched, Answered, WasAsked, stamp_of, stamping_office, Keeps, HasPassed, WasBetween, IsKept, KeepsDone, Asked, request_in, reading_in}
use Rattle.serve_command.proofs.Gathering.{extends_on}
use Rattle.serve_command.proofs.WatchLemmas.{AllMore, GrowthLaws, step_adds, within_on, rests_within, act_within, watched_more, keeps_more, moved, watched_during}

-- ---- the turns of a desk that stamps its acts

module _ {D : Type 0} (moment : D → ℕ) (since : D → ℕ → List ℕ → Type 0) (faults : D → ℕ) (request : Request) (reply : Reply) where
  -- time goes on in an act
  pub act_later : (old new : DeskState D) (reading : ℤ) → ActsInTurn moment since faults (record { old = old; request = request; reading = reading; reply = reply; new = new }) → moment old.disk ≤ moment new.disk
  act_later old new reading inside = by inside.acts
    where
      by : FailsOn moment since old (turn_of request reading reply inside.rise) new ⊎ ActsOn moment since old (turn_of request reading reply inside.rise) reading new → moment old.disk ≤ moment new.disk
      by (inl fails) = fails.no_image.later
      by (inr acts) = acts.images.later

  pub stamped_act : (old new : DeskState D) (answered more : Answered D) (reading : ℤ) (noted : Asked) → request_in noted.items ≡ request → reading_in noted.items ≡ reading → more ≡ answered ++ (new, noted) ∷ []
      → TakesTurn (office_of faults old) request (Some reading) reply (office_of faults new)
      → ActsInTurn moment since faults (record { old = old; request = request; reading = reading; reply = reply; new = new })
      → TakesTurn (stamping_office moment faults old answered) request (Some reading) reply (stamping_office moment faults new more)
  stamped_act old new answered more reading noted request_is reading_is is turn inside = record {
    rise = turn.rise;
    turn = turn.turn;
    counts = turn.counts;
    founder = turn.founder;
    limit = turn.limit;
    stamps = record {
      given = stamp_of moment new noted;
      asked = sym request_is;
      read = sym reading_is;
      entries = refl;
      later = act_later old new reading inside;
      now = ap (λ (l : List Stamp). Some (record { moment = moment new.disk; given = l }))
          (ap (λ (l : Answered D). map (λ then. stamp_of moment then.0 then.1) l) is
          ∙ map-append (λ (then : DeskState D × Asked). stamp_of moment then.0 then.1) answered ((new, noted) ∷ []));
    };
  }

  pub stamped_query : (desk : DeskState D) (answered : Answered D) → TakesTurn (office_of faults desk) request None reply (office_of faults desk)
      → TakesTurn (stamping_office moment faults desk answered) request None reply (stamping_office moment faults desk answered)
  stamped_query desk answered turn =
      record { rise = turn.rise; turn = turn.turn; counts = turn.counts; founder = turn.founder; limit = turn.limit; stamps = refl }

-- ---- what is kept over an act

all_push : {X : Type 0} (P : X → Type 0) (xs : List X) (x : X) → AllByRecursion P xs → P x → AllByRecursion P (xs ++ x ∷ [])
all_push P [] x all here = (here, tt)
all_push P (y ∷ ys) x all here = (all.0, all_push P ys x all.1 here)

pub all_weaker : {X : Type 0} (P Q : X → Type 0) → ((x : X) → P x → Q x) → (xs : List X) → AllByRecursion P xs → AllByRecursion Q xs
all_weaker P Q weaker [] all = tt
all_weaker P Q weaker (x ∷ xs) all = (weaker x all.0, all_weaker P Q weaker xs all.1)

-- what was asked before an act was asked when it is answered, and so was the act
module _ {D : Type 0} (answered more : Answered D) (new : DeskState D) (noted : Asked) (is : more ≡ answered ++ (new, noted) ∷ []) where
  pub asked_before : (founder : Key) (limit : Option ℕ) → AllMore founder limit (WasAsked answered) (WasAsked more)
  asked_before founder limit past request reading entry adds (then, among, asks, reads, left) =
      (then, subst (λ (l : Answered D). Contains l then) (sym is) (Contains-append_left answered ((new, noted) ∷ []) then among), asks, reads, left)

  pub asked_now : (request : Request) (reading : ℤ) → request_in noted.items ≡ request → reading_in noted.items ≡ reading → WasAsked more new.state.settled request reading
  asked_now request reading request_is reading_is =
      ((new, noted), subst (λ (l : Answered D). Contains l (new, noted)) (sym is) (Contains-push answered (new, noted)), request_is, reading_is, refl)

module _ {D : Type 0} (laws : GrowthLaws) (moment : D → ℕ) (since : D → ℕ → List ℕ → Type 0) (faults : D → ℕ) (asked : Asks) where
  -- what was kept before an act is kept after it
  keeps_on : (first : List Entry) (from : ℕ) (images : ℕ → List ℕ → Type 0) (then old new : DeskState D) (request : Request) (reading : ℤ) (reply : Reply) → asked new.state.settled request reading
      → IsWatched moment since first from images asked old
      → TakesTurn (office_of faults old) request (Some reading) reply (office_of faults new) → ActsInTurn moment since faults (record { old = old; request = request; reading = reading; reply = reply; new = new })
      → new.founder ≡ old.founder → new.limit ≡ old.limit → Keeps moment since old.founder (Some old.limit) asked then old → Keeps moment since new.founder (Some new.limit) asked then new
  keeps_on first from images then old new request reading reply asks was turn inside same limit k =
      let taken : Turn = record { request = request; reading = Some reading; reply = reply; rise = turn.rise } in
      let one : Conduct old.founder (Some old.limit) old.state (taken ∷ []) new.state = (new.state, turn.turn, refl) in
      let goes_on = laws.grow old.founder (Some old.limit) old.state new.state (taken ∷ []) one in
      let during = act_within laws moment since faults asked then.state.settled old new k.grows was.legal was.doubt request reading asks reply turn.turn.reads.1 inside in
      record {
        later = le_trans k.later during.later;
        grows = extends_on then.state.settled old.state.settled new.state.settled k.grows goes_on;
        each = λ image now.
            moved old new same limit (λ key most. StandsWithin key most asked then.state.settled new.state.settled image)
            (⊎_elim
            (λ earlier. within_on old.founder (Some old.limit) asked then.state.settled old.state.settled new.state.settled image goes_on (k.each image earlier))
            (λ has. has)
            (during.either (moment then.disk) image k.later now));
      }

  -- what is there after an act is kept from then on
  keeps_now : (leaves : D → List ℕ → Type 0) → ((disk : D) (image : List ℕ) → since disk (moment disk) image → leaves disk image) → (first : List Entry) (from : ℕ) (images : ℕ → List ℕ → Type 0) (desk : DeskState D)
      → IsWatched moment since first from images asked desk → IsAtRest leaves desk → Keeps moment since desk.founder (Some desk.limit) asked desk desk
  keeps_now leaves only first from images desk is at_rest =
      record {
        later = le_refl (moment desk.disk);
        grows = ([], refl);
        each = λ image now.
            rests_within laws moment since faults asked desk.state.settled desk desk ([], refl) is.legal is.doubt desk.state.settled image ([], refl) (at_rest image (only desk.disk image now));
      }

-- all that was kept, and what the act left
pub passed_on : {D : Type 0} (laws : GrowthLaws) (moment : D → ℕ) (since : D → ℕ → List ℕ → Type 0) (faults : D → ℕ) (leaves : D → List ℕ → Type 0)
    → ((disk : D) (image : List ℕ) → since disk (moment disk) image → leaves disk image) → (first : List Entry) (from : ℕ)
    (images : ℕ → List ℕ → Type 0) (old new : DeskState D) (answered more : Answered D) (noted : Asked) (request : Request) (reading : ℤ) (reply : Reply)
    → request_in noted.items ≡ request → reading_in noted.items ≡ reading
    → IsWatched moment since first from images (WasAsked more) old → IsWatched moment since first from images (WasAsked more) new
    → TakesTurn (office_of faults old) request (Some reading) reply (office_of faults new) → ActsInTurn moment since faults (record { old = old; request = request; reading = reading; reply = reply; new = new })
    → IsAtRest leaves new → new.founder ≡ old.founder → new.limit ≡ old.limit → more ≡ answered ++ (new, noted) ∷ []
    → AllByRecursion (λ then. HasPassed moment since first from images (WasAsked answered) old then.0) answered
    → AllByRecursion (λ then. HasPassed moment since first from images (WasAsked more) new then.0) more
passed_on {D = D} laws moment since faults leaves only first from images old new answered more noted request reading reply request_is reading_is was is turn inside at_rest same limit more_is passed =
    let P : DeskState D × Asked → Type 0 = λ then. HasPassed moment since first from images (WasAsked more) new then.0 in
    let all = asked_before answered more new noted more_is in
    let asks = asked_now answered more new noted more_is request reading request_is reading_is in
    subst (λ (l : Answered D). AllByRecursion P l) (sym more_is)
    (all_push P answered (new, noted)
    (all_weaker (λ then. HasPassed moment since first from images (WasAsked answered) old then.0) P
    (λ then has. record {
      founder = has.founder ∙ sym same;
      limit = has.limit ∙ sym limit;
      watched = watched_more moment since (WasAsked answered) (WasAsked more) first from images then.0 (all then.0.founder (Some then.0.limit)) has.watched;
      keeps = keeps_on laws moment since faults (WasAsked more) first from images then.0 old new request reading reply asks was turn inside same limit
          (keeps_more old.founder (Some old.limit) (WasAsked answered) (WasAsked more) (all old.founder (Some old.limit)) moment since then.0 old has.keeps);
    })
    answered passed)
    (record {
      founder = refl;
      limit = refl;
      watched = is;
      keeps = keeps_now laws moment since faults (WasAsked more) leaves only first from images new is at_rest;
    }))

-- ---- at the end of a service

-- the service of a desk that is watched is that of the desk
module _ {D I O : Type 0} (on : LinkWords I O) (moment : D → ℕ) (faults : D → ℕ) (clock : ClockState) (door after : DoorState I O) (most : ℕ) (ends : List (LinkEnd I O)) (stop : Option Stop)
    (desk last : DeskState D) (opened closed : WatchedState D) where
  pub serves_watched : opened ≡ record { desk = desk; answered = [] } → last ≡ closed.desk
      → Serves on (record { clock = clock; office = stamping_office moment faults opened.desk opened.answered; door = door; most = most })
      (record { office = stamping_office moment faults closed.desk closed.answered; door = after; ends = ends; stop = stop })
      → Serves on (record { clock = clock; office = stamping_office moment faults desk []; door = door; most = most })
      (record { office = stamping_office moment faults last closed.answered; door = after; ends = ends; stop = stop })
  serves_watched opened_is last_is serves =
      subst
      (λ (d : DeskState D). Serves on (record { clock = clock; office = stamping_office moment faults desk []; door = door; most = most })
      (record { office = stamping_office moment faults d closed.answered; door = after; ends = ends; stop = stop }))
      (sym last_is)
      (subst
      (λ (w : WatchedState D). Serves on (record { clock = clock; office = stamping_office moment faults w.desk w.answered; door = door; most = most })
      (record { office = stamping_office moment faults closed.desk closed.answered; door = after; ends = ends; stop = stop }))
      opened_is serves)

pub same_limit : (a b : ℕ) → Some a ≡ Some b → a ≡ b
same_limit a b is = cc

-- a desk was between its opening and its end
pub was_between : {D : Type 0} (moment : D → ℕ) (since : D → ℕ → List ℕ → Type 0) (first : List Entry) (from : ℕ) (images : ℕ → List ℕ → Type 0) (asked : Asks) (opened last : DeskState D)
    → first ≡ opened.state.settled → from ≡ moment opened.disk → ((t : ℕ) (image : List ℕ) → images t image → since opened.disk t image) → last.founder ≡ opened.founder → last.limit ≡ opened.limit
    → (answered : Answered D) → AllByRecursion (λ then. HasPassed moment since first from images asked last then.0) answered
    → AllByRecursion (λ then. WasBetween moment since asked opened last then.0) answered
was_between moment since first from images asked opened last first_is from_is are founder limit answered passed =
    all_weaker (λ then. HasPassed moment since first from images asked last then.0) (λ then. WasBetween moment since asked opened last then.0)
    (λ then has. record {
      before = watched_during moment since first from images asked opened then.0 first_is from_is are (has.founder ∙ founder) (has.limit ∙ limit) has.watched.later has.watched.each;
      keeps = moved last opened (sym founder) (sym limit) (λ key most. Keeps moment since key most asked then.0 last) has.keeps;
    })
    answered passed

-- and before the last mending
between_mended : {D : Type 0} (moment : D → ℕ) (since : D → ℕ → List ℕ → Type 0) (asked : Asks) (opened left last then : DeskState D) → During moment since left.disk last.disk (λ _. ⊥)
    → Extends left.state.settled last.state.settled → WasBetween moment since asked opened left then → WasBetween moment since asked opened last then
between_mended moment since asked opened left last then none goes_on was =
    let k = was.keeps in
    record {
      before = was.before;
      keeps = record {
        later = le_trans k.later none.later;
        grows = extends_on then.state.settled left.state.settled last.state.settled k.grows goes_on;
        each = λ image now.
            within_on opened.founder (Some opened.limit) asked then.state.settled left.state.settled last.state.settled image goes_on
            (⊎_elim (λ earlier. k.each image earlier) (λ never. absurd never) (none.either (moment then.disk) image k.later now));
      };
    }

-- what is among the images of a list is that of one of it
found : {X Y : Type 0} (f : X → Y) (P : X → Type 0) (xs : List X) (y : Y) (k : ℕ) → k < length (map f xs) → slice_index_or (map f xs) k y ≡ y → AllByRecursion P xs → (x : X) × P x × (f x ≡ y)
found f P [] y k low is all = absurd (omega arith)
found f P (x ∷ xs) y zero low is all = (x, all.0, is)
found f P (x ∷ xs) y (suc k) low is all = found f P xs y k (omega arith) is all.1

-- and what is in a list has its image among theirs
has_image : {X Y : Type 0} (f : X → Y) (xs : List X) (x : X) (k : ℕ) → k < length xs → slice_index_or xs k x ≡ x → (k < length (map f xs)) × (slice_index_or (map f xs) k (f x) ≡ f x)
has_image f [] x k low is = absurd (omega arith)
has_image f (y ∷ ys) x zero low is = (omega arith, ap f is)
has_image f (y ∷ ys) x (suc k) low is = let rest = has_image f ys x k (omega arith) is in let below = rest.0 in (omega arith, rest.1)

-- the law that histories that begin one another and are as long are one
abbrev pub OneBeginning : Type 0
OneBeginning = (a b c : List Entry) → Extends a c → Extends b c → length a ≡ length b → a ≡ b

-- what the office's laws say of an act that is sent again
abbrev pub Resends : Type 0
Resends = (founder : Key) (limit other : Option ℕ) (past later : List Entry) (request : Request) (first again : ℤ) (text : List ℕ) (entry : Entry)
    → step founder limit past request first ≡ (Done text, entry ∷ past) → IsLegal founder later → Extends (entry ∷ past) later → step founder other later request again ≡ (Done text, later)

-- and of what stood before the newest entries
abbrev pub Begins : Type 0
Begins = (founder : Key) (earlier later : List Entry) → IsLegal founder later → Extends earlier later → IsLegal founder earlier

-- what holds of each holds of one of them
all_at : {X : Type 0} (P : X → Type 0) (xs : List X) (x : X) (k : ℕ) → k < length xs → slice_index_or xs k x ≡ x → AllByRecursion P xs → P x
all_at P [] x k low is all = absurd (omega arith)
all_at P (y ∷ ys) x zero low is all = subst P is all.0
all_at P (y ∷ ys) x (suc k) low is all = all_at P ys x k (omega arith) is all.1

no_stamp : (stamp : Stamp) → Contains [] stamp → ⊥
no_stamp stamp (n, low, is) = omega arith

module _ (one : OneBeginning) (laws : GrowthLaws) (resends : Resends) (founder : Key) (limit : Option ℕ) (later : List Entry) where
  -- A call whose stamp has as many entries as this history, and for which the step adds an entry there, stands there:
  -- it left that history, and if it had added the newest entry, it would be a resend there.
  stands_there : (past : List Entry) (request : Request) (reading : ℤ) (entry : Entry) → outcome founder limit past request reading ≡ Adds entry → IsLegal founder past → Extends past later
      → (item : Item) → IsTrue founder limit later item → (given : Stamp) → item.stamp ≡ Some given → given.entries ≡ length past → item.request ≡ request → item.reading ≡ Some reading
      → item.position ≡ length past
  stands_there past request reading entry adds legal begins item is given stamp_is entries request_is reading_is = by is.answered
    where
      stays : (after : List Entry) → after ≡ past → after ≡ is.past → item.position ≡ length past
      stays after same left = is.place ∙ ap length (sym left ∙ same)

      resent : (e : Entry) → step founder limit is.past item.request (reading_of item) ≡ (Done (entry_answer is.past e), e ∷ is.past) → past ≡ e ∷ is.past → ⊥
      resent e first grown =
          let again : step founder limit past item.request reading ≡ (Done (entry_answer is.past e), past) =
          resends founder limit limit is.past past item.request (reading_of item) reading (entry_answer is.past e) e first legal ([], grown) in
          let more : step founder limit past item.request reading ≡ (Done (entry_answer past entry), entry ∷ past) =
          step_adds founder limit past item.request reading entry (subst (λ (q : Request). outcome founder limit past q reading ≡ Adds entry) (sym request_is) adds) in
          let longer : past ≡ entry ∷ past = ap (λ (p : Reply × List Entry). p.1) (sym again ∙ more) in
          omega (arith, ap length longer)

      made : (after : List Entry) → after ≡ past → step founder limit is.past item.request (reading_of item) ≡ (item.reply, after)
          → Makes is.past (outcome founder limit is.past item.request (reading_of item)) item.reply after → item.position ≡ length past
      made after same stepped (inl left) = stays after same left
      made after same stepped (inr (e, adds_it, reply, grown)) =
          absurd (resent e (stepped ∙ ap (λ (r : Reply). (r, after)) reply ∙ ap (λ (h : List Entry). (Done (entry_answer is.past e), h)) grown) (sym same ∙ grown))

      answered_so : (after : List Entry) → after ≡ past → Answers founder limit is.past item.request (reading_of item) item.reply after → item.position ≡ length past
      answered_so after same (inl stepped) = made after same stepped (laws.makes founder limit is.past after item.request (reading_of item) item.reply stepped)
      answered_so after same (inr (wants, left)) = stays after same left

      by : ((after : List Entry) × Answers founder limit is.past item.request (reading_of item) item.reply after
          × Extends after later × StampTells is.past item.reading item.stamp after) ⊎ Failed founder limit is.past item → item.position ≡ length past
      by (inl (after, answers, stands, tells)) =
          let counts : IfSome item.stamp (λ stamp. stamp.entries ≡ length after) = subst (λ (r : Option ℤ). StampTells is.past r item.stamp after) reading_is tells in
          let count : given.entries ≡ length after = subst (λ (o : Option Stamp). IfSome o (λ stamp. stamp.entries ≡ length after)) stamp_is counts in
          answered_so after (one after past later stands begins (sym count ∙ entries)) answers
      by (inr failed) =
          let count : given.entries ≡ length is.past = subst (λ (o : Option Stamp). IfSome o (λ stamp. stamp.entries ≡ length is.past)) stamp_is failed.tells in
          is.place ∙ sym count ∙ entries

-- each act that a desk answered, and for which the step adds an entry at the history that it left, was asked there by a
-- call whose stamp it is
module _ {D : Type 0} (one : OneBeginning) (laws : GrowthLaws) (resends : Resends) (starts : Begins) (moment : D → ℕ) (since : D → ℕ → List ℕ → Type 0) (faults : D → ℕ) (opened left : DeskState D)
    (answered : Answered D) (were : AllByRecursion (λ then. WasBetween moment since (WasAsked answered) opened left then.0) answered)
    (legal : IsLegal opened.founder left.state.settled) (calls : List Item) (true_of : AreTrue opened.founder (Some opened.limit) left.state.settled calls)
    (stamps : AreStampsOf (stamping_office moment faults opened []) (stamping_office moment faults left answered) calls) where
  pub asked_by : AllMore opened.founder (Some opened.limit) (WasAsked answered) (AskedBy calls)
  asked_by past request reading entry adds (then, (k, low, at), request_is, reading_is, left_is) =
      let f : DeskState D × Asked → Stamp = λ one. stamp_of moment one.0 one.1 in
      let image = has_image f answered then k low at in
      let was = all_at (λ then. WasBetween moment since (WasAsked answered) opened left then.0) answered then k low at were in
      let begins : Extends past left.state.settled = subst (λ (h : List Entry). Extends h left.state.settled) left_is was.keeps.grows in
      by (f then) refl begins (stamps (f then) (k, image.0, image.1))
    where
      by : (given : Stamp) → given ≡ stamp_of moment then.0 then.1 → Extends past left.state.settled
          → Gave (stamping_office moment faults opened []).stamps given ⊎ ((item : Item) × Contains calls item × IsStampOf item given) → AskedBy calls past request reading
      by given given_is begins (inl none) = absurd (no_stamp given none)
      by given given_is begins (inr (item, (n, under, there), stamp)) =
          let asks : item.request ≡ request = stamp.request ∙ ap (λ (s : Stamp). s.request) given_is ∙ request_is in
          let reads : item.reading ≡ Some reading = stamp.reading ∙ ap (λ (s : Stamp). Some s.reading) given_is ∙ ap (λ (t : ℤ). Some t) reading_is in
          let entries : given.entries ≡ length past = ap (λ (s : Stamp). s.entries) given_is ∙ ap length left_is in (
            item,
            (n, under, there),
            asks,
            reads,
            stands_there one laws resends opened.founder (Some opened.limit) left.state.settled past request reading entry adds (starts opened.founder past left.state.settled legal begins) begins
                item (all_at (IsTrue opened.founder (Some opened.limit) left.state.settled) calls item n under there true_of) given stamp.stamp entries asks reads,
          )

-- what the office's laws say of an act that is answered
abbrev pub Acknowledges : Type 0
Acknowledges = (founder : Key) (limit : Option ℕ) (before after : OfficeState) (turn : Turn) (text : List ℕ) → IsTurn founder limit before turn after
    → is_act turn.request.verb ≡ true → turn.reply ≡ Done text
    → (mended : List Entry) × Mends before.settled before.doubt mended × IsAcknowledged founder mended turn.request text after.settled

-- what http_connection knows of a call that added an entry
pub record AddedLaws : Type 0 where
  pub stands : (founder : Key) (limit : Option ℕ) (history later : List Entry) (item : Item) → Extends history later → IsTrue founder limit history item
      → (added : IsAdded founder limit later item) → Extends (added.entry ∷ added.past) history
  pub stamp : (founder : Key) (limit : Option ℕ) (history later : List Entry) (item : Item) → Extends history later → IsTrue founder limit history item → IsAdded founder limit later item
      → IfSome item.stamp (λ stamp. stamp.entries ≡ item.position + 1)

-- an act that was answered at a history where nothing was in doubt is there then
acknowledged : Acknowledges → (founder : Key) (limit : Option ℕ) (past after : List Entry) (item : Item) (reading : ℤ) (text : List ℕ) → TakesReading item.request.verb (Some reading)
    → Answers founder limit past item.request reading item.reply after → item.reply ≡ Done text → IsAcknowledged founder past item.request text after
acknowledged law founder limit past after item reading text reads answers reply =
    let turn : Turn = record { request = item.request; reading = Some reading; reply = item.reply; rise = item.rise } in
    let is : IsTurn founder limit (at_rest past) turn (at_rest after) =
    record { reads = reads; takes = inr (record { mended = past; mends = refl; acts = inl (record { answers = answers; settled = refl }) }) } in
    let told = law founder limit (at_rest past) (at_rest after) turn text is reads.0 reply in
    subst (λ (h : List Entry). IsAcknowledged founder h item.request text after) told.1 told.2

module _ {D : Type 0} (moment : D → ℕ) (since : D → ℕ → List ℕ → Type 0) (asked : Asks) (opened left last : DeskState D) (one : OneBeginning) (acknowledges : Acknowledges) (laws : AddedLaws)
    (none : During moment since left.disk last.disk (λ _. ⊥)) (goes_on : Extends left.state.settled last.state.settled)
    (answered : Answered D) (were : AllByRecursion (λ then. WasBetween moment since asked opened left then.0) answered) where
  abbrev stamps : List Stamp
  stamps = map (λ (then : DeskState D × Asked). stamp_of moment then.0 then.1) answered

  module _ (item : Item) (reading : ℤ) (reading_is : item.reading ≡ Some reading) (text : List ℕ) (reply : item.reply ≡ Done text) (is : IsTrue opened.founder (Some opened.limit) left.state.settled item) where
    -- the stamp of a call that was done is that of the desk as it was then
    kept_by : (after : List Entry) (stamp : Option Stamp) → item.stamp ≡ stamp → step opened.founder (Some opened.limit) is.past item.request (reading_of item) ≡ (item.reply, after)
        → Extends after left.state.settled → IsSomeAnd stamp (λ given. Contains stamps given) → IfSome stamp (λ given. given.entries ≡ length after)
        → ((added : IsAdded opened.founder (Some opened.limit) last.state.settled item) → IfSome stamp (λ given. given.entries ≡ item.position + 1))
        → IsKept moment since asked opened last item text
    kept_by after None stamp_is stepped stands among counts newest = absurd among
    kept_by after (Some given) stamp_is stepped stands (k, low, at) counts newest =
        let f : DeskState D × Asked → Stamp = λ then. stamp_of moment then.0 then.1 in
        let (then, was, given_is) = found f (λ then. WasBetween moment since asked opened left then.0) answered given k low at were in
        let entries : length then.0.state.settled ≡ given.entries = ap (λ (s : Stamp). s.entries) given_is in
        let same : after ≡ then.0.state.settled = sym (one then.0.state.settled after left.state.settled was.keeps.grows stands (entries ∙ counts)) in
        let whole : step opened.founder (Some opened.limit) is.past item.request (reading_of item) ≡ (Done text, then.0.state.settled) =
        stepped ∙ ap (λ (r : Reply). (r, after)) reply ∙ ap (λ (h : List Entry). (Done text, h)) same in
        let reads : TakesReading item.request.verb (Some reading) = subst (λ (r : Option ℤ). TakesReading item.request.verb r) reading_is is.reads in
        let answers : Answers opened.founder (Some opened.limit) is.past item.request reading item.reply then.0.state.settled =
        inl (subst (λ (t : ℤ). step opened.founder (Some opened.limit) is.past item.request t ≡ (item.reply, then.0.state.settled))
        (ap (λ (r : Option ℤ). unwrap_or r (pos 0)) reading_is)
        (stepped ∙ ap (λ (h : List Entry). (item.reply, h)) same)) in
        record {
          then = then.0;
          noted = then.1;
          stamp = stamp_is ∙ ap (λ (s : Stamp). Some s) (sym given_is);
          past = is.past;
          place = is.place;
          stepped = whole;
          acknowledged = acknowledged acknowledges opened.founder (Some opened.limit) is.past then.0.state.settled item reading text reads answers reply;
          added = λ added.
              let place = added.place in
              let count = newest added in
              one then.0.state.settled (added.entry ∷ added.past) left.state.settled was.keeps.grows
              (laws.stands opened.founder (Some opened.limit) left.state.settled last.state.settled item goes_on is added) (omega arith);
          between = between_mended moment since asked opened left last then.0 none goes_on was;
        }

    kept_done : HasStamp (Some (record { moment = moment left.disk; given = stamps })) (Some reading) item.stamp → IsKept moment since asked opened last item text
    kept_done has = by is.answered
      where
        newest : (added : IsAdded opened.founder (Some opened.limit) last.state.settled item) → IfSome item.stamp (λ given. given.entries ≡ item.position + 1)
        newest added = laws.stamp opened.founder (Some opened.limit) left.state.settled last.state.settled item goes_on is added

        with_answer : (after : List Entry) → Answers opened.founder (Some opened.limit) is.past item.request (reading_of item) item.reply after → Extends after left.state.settled
            → StampTells is.past item.reading item.stamp after → IsKept moment since asked opened last item text
        with_answer after (inl stepped) stands tells = kept_by after item.stamp refl stepped stands has (subst (λ (r : Option ℤ). StampTells is.past r item.stamp after) reading_is tells) newest
        with_answer after (inr (wants, same)) stands tells = absurd cc

        by : ((after : List Entry) × Answers opened.founder (Some opened.limit) is.past item.request (reading_of item) item.reply after
            × Extends after left.state.settled × StampTells is.past item.reading item.stamp after) ⊎ Failed opened.founder (Some opened.limit) is.past item → IsKept moment since asked opened last item text
        by (inl (after, answers, stands, tells)) = with_answer after answers stands tells
        by (inr failed) = let told = failed.reply in absurd cc

  kept_call : (item : Item) (reading : Option ℤ) → item.reading ≡ reading → IsTrue opened.founder (Some opened.limit) left.state.settled item
      → HasStamp (Some (record { moment = moment left.disk; given = stamps })) reading item.stamp
      → IfSome reading (λ _. (text : List ℕ) → item.reply ≡ Done text → IsKept moment since asked opened last item text)
  kept_call item None is true_of has = tt
  kept_call item (Some reading) is true_of has = λ text reply. kept_done item reading is text reply true_of has

  pub kept_calls : (items : List Item) → AreTrue opened.founder (Some opened.limit) left.state.settled items → AreStamped (Some (record { moment = moment left.disk; given = stamps })) items
      → AllByRecursion (KeepsDone moment since asked opened last) items
  kept_calls [] true_of stamped = tt
  kept_calls (item ∷ items) true_of stamped = (kept_call item item.reading refl true_of.0 stamped.0, kept_calls items true_of.1 stamped.1)
