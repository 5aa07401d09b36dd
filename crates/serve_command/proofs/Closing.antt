-- From the root's last view to what the closed keeper stands for.
use Rattle.std.proofs.Common.{◌≡◌, ℕ, ◌≤◌, zero, suc, List, [], ◌∷◌, ◌++◌, length, map, reverse, Option, Some, None, IfSome, Contains, refl, sym, ap, subst, ◌∙◌, inl, inr, arith, append-nil, IsPermutation}
use Rattle.std.proofs.lemmas.List.{reverse-reverse}
use Rattle.std.proofs.lemmas.List.Elements.{All-from_recursion, recursion_from_All}
use Rattle.std.proofs.lemmas.List.Sorted.{IsPermutation-sym, Contains-permutation, All-permutation, sum_by-IsPermutation}
use Rattle.std.specs.List.{AllByRecursion}
use Rattle.desk_io.specs.Doors.{Gives-nil}
use Rattle.act_bodies.specs.declared.key.Key.{Key}
use Rattle.act_model.specs.declared.entry.Entry.{Entry}
use Rattle.act_model.specs.declared.keeper.Office.{Office}
use Rattle.act_model.specs.Conducts.{Extends}
use Rattle.act_model.specs.Legal.{IsLegal}
use Rattle.intake_lock.specs.declared.view.Item.{Item}
use Rattle.intake_lock.specs.declared.view.View.{View}
use Rattle.act_model.specs.declared.keeper.Stamps.{Stamps}
use Rattle.intake_lock.specs.Items.{IsTrue, AreTrue, HasStamp, AreStamped, RisesBy}
use Rattle.intake_lock.specs.Rule.{IsCall, IsOrigin, Origins, StampsCome, Closes}
use Rattle.intake_lock.specs.Views.{history_seen, first_view}
use Rattle.act_model.specs.Clocks.{ClockState}
use Rattle.http_connection.specs.Calls.{HasCause, AreInOrder}
use Rattle.serve_command.specs.declared.ends.LinkEnd.{LinkEnd}
use Rattle.serve_command.specs.Links.{LinkWords, Attendance, end_of, calls_of, calls_in}
use Rattle.serve_command.specs.Gathering.{DoorState, IsAnother, IsBetween, GatherEnd, Gathers}
use Rattle.serve_command.specs.Serving.{IsAddedBy, AreAddedBy, AreStampsOf, StandInOrder, ServiceStart, Serves}
use Rattle.serve_command.proofs.Gathering.{no_longer, between_on, extends_same}

-- ---- calls

-- what is true of each item of two lists is true of each of both
all_append : {X : Type 0} (P : X → Type 0) (xs ys : List X) → AllByRecursion P xs → AllByRecursion P ys → AllByRecursion P (xs ++ ys)
all_append P [] ys first second = second
all_append P (x ∷ xs) ys first second = (first.0, all_append P xs ys first.1 second)

all_weaker : {X : Type 0} (P Q : X → Type 0) → ((x : X) → P x → Q x) → (xs : List X) → AllByRecursion P xs → AllByRecursion Q xs
all_weaker P Q weaker [] all = tt
all_weaker P Q weaker (x ∷ xs) all = (weaker x all.0, all_weaker P Q weaker xs all.1)

-- the law that calls stay true
abbrev pub StaysTrue : Type 0
StaysTrue = (founder : Key) (limit : Option ℕ) (history later : List Entry) (item : Item) → Extends history later
    → IsTrue founder limit history item → IsTrue founder limit later item

-- the law that places stay in order
abbrev pub StaysInOrder : Type 0
StaysInOrder = (founder : Key) (limit : Option ℕ) (history later : List Entry) (from least : ℕ) (items : List Item) → Extends history later
    → least ≤ from → AreTrue founder limit history items → AreInOrder founder limit history from items
    → AreInOrder founder limit later least items

module _ {I O : Type 0} (on : LinkWords I O) where
  -- the calls for links that were attended are true of the history that all came to
  calls_true : StaysTrue → (clock : ClockState) (opening : Office) (history : List Entry) (attendances : List (Attendance on))
      → AllByRecursion (IsBetween clock opening history) attendances
      → AreTrue opening.founder opening.limit history (calls_in attendances)
  calls_true stays clock opening history [] each = tt
  calls_true stays clock opening history (a ∷ rest) each =
      all_append (IsTrue opening.founder opening.limit history) (calls_of a) (calls_in rest)
      (all_weaker (IsTrue a.start.view.office.founder a.start.view.office.limit (history_seen a.after)) (IsTrue opening.founder opening.limit history)
      (λ item true_there. subst (λ (k : Key). IsTrue k opening.limit history item) each.0.founder
      (subst (λ (l : Option ℕ). IsTrue a.start.view.office.founder l history item) each.0.limit
      (stays a.start.view.office.founder a.start.view.office.limit (history_seen a.after) history item each.0.last true_there)))
      (calls_of a) a.attended.attended.attends.true_of)
      (calls_true stays clock opening history rest each.1)

  -- the places of the calls for each link rise in the history that all came to
  all_in_order : StaysInOrder → (clock : ClockState) (opening : Office) (history : List Entry) (attendances : List (Attendance on))
      → AllByRecursion (IsBetween clock opening history) attendances → AllByRecursion (StandInOrder opening history) attendances
  all_in_order stays clock opening history [] each = tt
  all_in_order stays clock opening history (a ∷ rest) each =
      let was = a.attended.attended.attends in (
        subst (λ (k : Key). AreInOrder k opening.limit history (length opening.state.settled) (calls_of a)) each.0.founder
            (subst (λ (l : Option ℕ). AreInOrder a.start.view.office.founder l history (length opening.state.settled) (calls_of a)) each.0.limit
            (stays a.start.view.office.founder a.start.view.office.limit (history_seen a.after) history (length (history_seen a.start.view)) (length opening.state.settled)
            (calls_of a) each.0.last (no_longer opening.state.settled (history_seen a.start.view) each.0.first) was.true_of was.order)),
        all_in_order stays clock opening history rest each.1,
      )

  -- each call that is answered that the disk failed has its cause
  all_caused : (attendances : List (Attendance on)) → AllByRecursion HasCause (calls_in attendances)
  all_caused [] = tt
  all_caused (a ∷ rest) = all_append HasCause (calls_of a) (calls_in rest) a.attended.attended.attends.causes (all_caused rest)

-- the root's calls are all calls
called_by : (view : View) (calls : List Item) → IsPermutation view.mine calls → (item : Item) → IsCall (view ∷ []) item → Contains calls item
called_by view calls same item (zero, v, at, mine) =
    Contains-permutation view.mine calls item same (subst (λ (l : List Item). Contains l item) (let e = at in cc) mine)
called_by view calls same item (suc id, v, at, mine) = absurd (let e = at in cc)

module _ (opening : Office) (view : View) (calls : List Item) (same : IsPermutation view.mine calls) where
  added_by : (past : List Entry) (entry : Entry) → IsOrigin opening (view ∷ []) past entry → IsAddedBy opening calls past entry
  added_by past entry (item, called, adds) = (item, called_by view calls same item called, adds)

  all_added_by : (newer : List Entry) → Origins opening (view ∷ []) newer → AreAddedBy opening calls newer
  all_added_by [] origins = tt
  all_added_by (entry ∷ newer) origins = (added_by (newer ++ opening.state.settled) entry origins.0, all_added_by newer origins.1)

  doubt_added_by : (past : List Entry) (doubt : Option Entry) → IfSome doubt (λ entry. IsOrigin opening (view ∷ []) past entry)
      → IfSome doubt (λ entry. IsAddedBy opening calls past entry)
  doubt_added_by past None origin = tt
  doubt_added_by past (Some entry) origin = added_by past entry origin

  -- the stamps of the root's calls are those of all calls
  stamps_of_calls : (office : Office) → StampsCome opening office (view ∷ []) → AreStampsOf opening office calls
  stamps_of_calls office come stamp gave = elim (come stamp gave) [
    | inl opened ↦ inl opened
    | inr call ↦ inr (call.0, called_by view calls same call.0 call.1, call.2)
  ]

-- the stamps of calls in another order
stamped_same : (stamps : Option Stamps) (mine calls : List Item) → IsPermutation mine calls → AreStamped stamps mine → AreStamped stamps calls
stamped_same stamps mine calls same stamped =
    let P : Item → Type 0 = λ item. HasStamp stamps item.reading item.stamp in
    recursion_from_All P calls (All-permutation P mine calls same (All-from_recursion P mine stamped))

-- ---- the end

module _ {I O : Type 0} (on : LinkWords I O) where
  -- no link was taken, and nothing was in doubt
  pub serves_none : (start : ServiceStart I O) → start.office.state.doubt ≡ None
      → Serves on start (record { office = start.office; door = start.door; ends = []; stop = None })
  serves_none start settled =
      let opening = start.office in
      record {
        attendances = [];
        gave = Gives-nil start.door.links;
        ended = refl;
        each = tt;
        grows = record {
          newer = [];
          grown = refl;
          origins = tt;
          doubt = subst (λ (d : Option Entry). IfSome d (λ entry. IsAddedBy opening [] opening.state.settled entry)) (sym settled) tt;
          true_of = tt;
          counts = omega arith;
          stamped = tt;
          stamps = λ stamp gave. inl gave;
          legal = λ legal. (legal, subst (λ (d : Option Entry). IfSome d (λ entry. IsLegal opening.founder (entry ∷ opening.state.settled))) (sym settled) tt);
          founder = refl;
          limit = refl;
        };
        orders = tt;
        causes = tt;
        stops = (refl, refl);
      }

  -- what the links leave is what the closed keeper stands for
  pub serves_closed : StaysTrue → StaysInOrder → (start : ServiceStart I O) (other : ClockState) (office : Office) (gathered : GatherEnd I O)
      → IsAnother start.clock other
      → Gathers on (record { view = first_view start.office; clock = other; door = start.door; most = start.most; ends = [] }) gathered
      → Closes start.office gathered.view office
      → Serves on start (record { office = office; door = gathered.door; ends = reverse gathered.ends; stop = Some gathered.stop })
  serves_closed stays in_order start other office gathered another gathers closes =
      let opening = start.office in
      let view = gathered.view in
      let calls = calls_in gathers.attendances in
      let same : IsPermutation view.mine calls =
      IsPermutation-sym calls view.mine (subst (λ (l : List Item). IsPermutation l view.mine) (append-nil calls) gathers.calls) in
      let each : AllByRecursion (IsBetween start.clock opening office.state.settled) gathers.attendances =
      between_on on other start.clock opening opening (history_seen view) office.state.settled another refl refl (extends_same opening.state.settled)
      closes.seen gathers.attendances gathers.each in
      record {
        attendances = gathers.attendances;
        gave = gathers.gave;
        ended = ap reverse gathers.ended ∙ reverse-reverse (map end_of gathers.attendances);
        each = each;
        grows = record {
          newer = closes.comes.newer;
          grown = closes.comes.grown;
          origins = all_added_by opening view calls same closes.comes.newer closes.comes.origins;
          doubt = doubt_added_by opening view calls same office.state.settled office.state.doubt closes.comes.doubt;
          true_of = calls_true on stays start.clock opening office.state.settled gathers.attendances each;
          counts = subst (λ (n : ℕ). RisesBy n opening.faults office.faults)
              (sym (sum_by-IsPermutation (λ item. item.rise) view.mine calls same)) closes.counts;
          stamped = stamped_same office.stamps view.mine calls same closes.stamped;
          stamps = stamps_of_calls opening view calls same office closes.comes.stamps;
          legal = closes.legal;
          founder = closes.founder;
          limit = closes.limit;
        };
        orders = all_in_order on in_order start.clock opening office.state.settled gathers.attendances each;
        causes = all_caused on gathers.attendances;
        stops = gathers.stops;
      }

  -- the same, of what the calls ensure
  pub serves_none_from : {V : Type 0} (office_of : V → Office) (clock : ClockState) (keeper back : V) (door : DoorState I O) (most : ℕ)
      (ends : List (LinkEnd I O)) → back ≡ keeper → ends ≡ [] → (office_of keeper).state.doubt ≡ None
      → Serves on (record { clock = clock; office = office_of keeper; door = door; most = most })
      (record { office = office_of back; door = door; ends = ends; stop = None })
  serves_none_from office_of clock keeper back door most ends back_is none settled =
      let start : ServiceStart I O = record { clock = clock; office = office_of keeper; door = door; most = most } in
      subst (λ (l : List (LinkEnd I O)). Serves on start (record { office = office_of back; door = door; ends = l; stop = None })) (sym none)
      (subst (λ (o : Office). Serves on start (record { office = o; door = door; ends = []; stop = None })) (sym (ap office_of back_is))
      (serves_none start settled))

  pub serves_left : StaysTrue → StaysInOrder → (start : ServiceStart I O) (other : ClockState) (entered office : Office) (first : View)
      (after : DoorState I O) (room result : List (LinkEnd I O)) (gathered : GatherEnd I O) → IsAnother start.clock other
      → first ≡ first_view start.office → entered ≡ start.office → room ≡ [] → result ≡ reverse gathered.ends → after ≡ gathered.door
      → Gathers on (record { view = first; clock = other; door = start.door; most = start.most; ends = room }) gathered
      → Closes entered gathered.view office
      → Serves on start (record { office = office; door = after; ends = result; stop = Some gathered.stop })
  serves_left stays in_order start other entered office first after room result gathered another first_is entered_is room_is result_is after_is
      gathers closes =
      subst (λ (l : List (LinkEnd I O)). Serves on start (record { office = office; door = after; ends = l; stop = Some gathered.stop })) (sym result_is)
      (subst (λ (d : DoorState I O). Serves on start (record { office = office; door = d; ends = reverse gathered.ends; stop = Some gathered.stop })) (sym after_is)
      (serves_closed stays in_order start other office gathered another
      (subst (λ (v : View). Gathers on (record { view = v; clock = other; door = start.door; most = start.most; ends = [] }) gathered) first_is
      (subst (λ (l : List (LinkEnd I O)). Gathers on (record { view = first; clock = other; door = start.door; most = start.most; ends = l }) gathered)
      room_is gathers))
      (subst (λ (o : Office). Closes o gathered.view office) entered_is closes)))
