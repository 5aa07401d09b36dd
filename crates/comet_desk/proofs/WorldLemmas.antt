-- The calls of one register on a disk are a world.
use Rattle.std.proofs.Common.{◌≡◌, ◌⊎◌, ℕ, ℤ, true, false, List, [], ◌∷◌, map, Option, Some, None, Result, Ok, Err, refl, sym, ap, subst, ◌∙◌, inl, inr, ⊎_elim}
use Rattle.std.specs.Prelude.{IfSome, IsSome, IsSomeAnd, ◌≤◌}
use Rattle.obs_time.specs.Instants.{IsInstantNs}
use Rattle.disk_model.specs.declared.disk.Failed.{Failed}
use Rattle.disk_model.specs.Moments.{images_during}
use Rattle.obs_journal.specs.declared.fault.OpenFault.{OpenFault}
use Rattle.obs_journal.specs.declared.journal.Settled.{Settled}
use Rattle.obs_journal.specs.Chains.{IsInForce, IsChain}
use Rattle.obs_journal.specs.Parcels.{RawParcel}
use Rattle.act_bodies.specs.declared.key.Key.{Key}
use Rattle.act_model.specs.declared.deed.Deed.{Deed}
use Rattle.act_model.specs.declared.entry.Entry.{Entry}
use Rattle.act_model.specs.declared.keeper.OfficeState.{OfficeState}
use Rattle.act_model.specs.Conducts.{Extends, EitherWay}
use Rattle.act_model.specs.Deeds.{deeds}
use Rattle.act_model.specs.Turns.{at_rest, Mends}
use Rattle.act_model.specs.Worlds.{ComesToRest}
use Rattle.mpc_desk.specs.Desks.{RestsAt}
use Rattle.mpc_desk.specs.Disks.{DiskWords}
use Rattle.mpc_desk.specs.Files.{Stands}
use Rattle.comet_model.specs.declared.reply.CometReply.{CometReply}
use Rattle.comet_model.specs.declared.request.CometRequest.{CometRequest}
use Rattle.comet_model.specs.Legal.{IsLegal}
use Rattle.comet_model.specs.Requests.{is_act}
use Rattle.comet_model.specs.Turns.{CometTurn, IsTurn}
use Rattle.comet_model.specs.Worlds.{WorldState, running_world, new_register, Event, Received, Lost, LeavesInside, Happens, World, AreStillAcknowledged}
use Rattle.comet_model.specs.Worlds as worlds
use Rattle.comet_desk.specs.Files.{HoldsEntries}
use Rattle.comet_desk.specs.Desks.{CometDeskState, CometAct, IsAtRest, MayLeave, FailsOn, ActsOn, turn_in}
use Rattle.comet_desk.specs.Events.{IsAct, IsMending}
use Rattle.comet_desk.specs.Opening.{IsOpened, EndsOpening, disk_after}
use Rattle.comet_desk.specs.Worlds.{Place, OnDisk, InFile, Kept, Call, Acted, Asked, Mended, Stopped, StoppedInside, Opened, Unopened, Grew, IsBack, IsCalled, Calls, IsPlacedIn, reply_in, IsIn, AreKeptAt, AreAcknowledged}
use Rattle.comet_desk.proofs.OneRegister.{one_list, holds_stands}
use Rattle.comet_desk.proofs.Turned.{some_is}

same_some : (file image : List ℕ) → Some file ≡ Some image → file ≡ image
same_some file image is = cc

-- ---- the entries that a stop leaves

-- the image stands for the settled entries, or for these with the act in doubt
record LeftAt (before : OfficeState) (image : List ℕ) : Type 0 where
  entries : List Entry
  mends : Mends before.settled before.doubt entries
  stands : Stands image entries

mends_same : (past : List Entry) (doubt : Option Entry) → Mends past doubt past
mends_same past None = refl
mends_same past (Some entry) = inr refl

with_doubt : (past : List Entry) (doubt : Option Entry) (image : List ℕ) → IsSomeAnd doubt (λ entry. Stands image (entry ∷ past)) → LeftAt (record { settled = past; doubt = doubt }) image
with_doubt past None image with = absurd with
with_doubt past (Some entry) image with = record { entries = entry ∷ past; mends = inl refl; stands = with }

left_at : (state : OfficeState) (image : List ℕ) → RestsAt state image → LeftAt state image
left_at state image (inl stands) = record { entries = state.settled; mends = mends_same state.settled state.doubt; stands = stands }
left_at state image (inr with) = with_doubt state.settled state.doubt image with

-- what holds of known bytes holds of the ones that were read
at_file : (reads : Option (List ℕ)) (P : List ℕ → Type 0) (file : List ℕ) → reads ≡ Some file → IfSome reads P → P file
at_file reads P file is holds = subst (λ (o : Option (List ℕ)). IfSome o P) is holds

-- ---- one call

module _ {D : Type 0} (on : DiskWords D) (founder : Key) (limit : ℕ) (in_force : (file : List ℕ) (ps : List RawParcel) → IsChain file ps → IsInForce file)
    (one_second : (file : List ℕ) (h k : List Entry) → Stands file h → Stands file k → h ≡ k) where
  -- one event takes the world along
  record Reaches (world : WorldState) (after : Kept D) : Type 0 where
    event : Event
    reached : WorldState
    happens : Happens founder (Some limit) world event reached
    is_in : IsIn on founder limit after reached

  -- or nothing happens in it
  abbrev GoesAlong : WorldState → Kept D → Type 0
  GoesAlong world after = Reaches world after ⊎ IsIn on founder limit after world

  -- what is known where a call begins
  module _ (before after : Kept D) (world : WorldState) (is : IsIn on founder limit before world) where
    placed_at : (from : Place D) → before.place ≡ from → IsPlacedIn on founder limit from world
    placed_at from same = subst (λ (p : Place D). IsPlacedIn on founder limit p world) same is.place

    -- beside the same office
    module _ (office : after.history ≡ before.history) where
      -- the register is in the state that was reached
      reached_in : (to : Place D) (received : List (CometRequest × CometReply)) (reached : WorldState) → after.place ≡ to → after.received ≡ received → IsPlacedIn on founder limit to reached → received ≡ map reply_in reached.received → reached.history ≡ world.history → IsIn on founder limit after reached
      reached_in to received reached place replies placed same history = record {
        place = subst (λ (p : Place D). IsPlacedIn on founder limit p reached) (sym place) placed;
        received = replies ∙ same;
        history = history ∙ is.history ∙ sym office;
      }

      -- on its disk
      module _ (old : CometDeskState D) (from : before.place ≡ OnDisk old) where
        here : IsPlacedIn on founder limit (OnDisk old) world
        here = placed_at (OnDisk old) from

        -- what holds of the register on its disk holds of the world
        in_world : (P : Key → ℕ → List Deed → OfficeState → Type 0) → P old.founder old.limit (deeds before.history) old.state → P founder limit (deeds world.history) world.register
        in_world P holds =
            subst (λ (s : OfficeState). P founder limit (deeds world.history) s) (sym here.1)
            (subst (λ (h : List Entry). P founder limit (deeds h) old.state) (sym is.history)
            (subst (λ (n : ℕ). P founder n (deeds before.history) old.state) here.3 (subst (λ (k : Key). P k old.limit (deeds before.history) old.state) here.2 holds)))

        -- a turn whose reply was received, or lost
        turn_received : (turn : CometTurn) (new : CometDeskState D) → IsTurn old.founder (Some old.limit) (deeds before.history) old.state turn new.state → after.place ≡ OnDisk new → after.received ≡ reply_in turn ∷ before.received
            → new.founder ≡ old.founder → new.limit ≡ old.limit → IsAtRest on.leaves new → Reaches world after
        turn_received turn new takes place replies same_founder same_limit rests =
            let reached : WorldState = running_world world.history new.state (turn ∷ world.received) in
            record {
              event = Received turn;
              reached = reached;
              happens = ((here.0, refl, refl, refl), in_world (λ k n d s. IsTurn k (Some n) d s turn new.state) takes);
              is_in =
                  reached_in (OnDisk new) (reply_in turn ∷ before.received) reached place replies (refl, refl, same_founder ∙ here.2, same_limit ∙ here.3, rests)
                  (ap (λ (rs : List (CometRequest × CometReply)). reply_in turn ∷ rs) is.received) refl;
            }

        turn_lost : (turn : CometTurn) (new : CometDeskState D) → IsTurn old.founder (Some old.limit) (deeds before.history) old.state turn new.state → after.place ≡ OnDisk new → after.received ≡ before.received
            → new.founder ≡ old.founder → new.limit ≡ old.limit → IsAtRest on.leaves new → Reaches world after
        turn_lost turn new takes place replies same_founder same_limit rests =
            let reached : WorldState = running_world world.history new.state world.received in
            record {
              event = Lost turn;
              reached = reached;
              happens = ((here.0, refl, refl, refl), in_world (λ k n d s. IsTurn k (Some n) d s turn new.state) takes);
              is_in = reached_in (OnDisk new) before.received reached place replies (refl, refl, same_founder ∙ here.2, same_limit ∙ here.3, rests) is.received refl;
            }

        -- a mending
        mended : (result : Result Settled Failed) (new : CometDeskState D) → IsMending on old result new → after.place ≡ OnDisk new → after.received ≡ before.received → Reaches world after
        mended (Ok settled) new m place replies =
            let reached : WorldState = running_world world.history new.state world.received in
            record {
              event = worlds.Mended;
              reached = reached;
              happens = ((here.0, refl, refl, refl), in_world (λ k n d s. ComesToRest s new.state) (m.mends, m.settled));
              is_in = reached_in (OnDisk new) before.received reached place replies (refl, refl, m.founder ∙ here.2, m.limit ∙ here.3, m.at_rest) is.received refl;
            }
        mended (Err failed) new m place replies =
            let reached : WorldState = running_world world.history new.state world.received in
            let doubted : IsSome old.state.doubt = some_is old.state.doubt (λ none. let fails = m.nothing.1 none in absurd cc) in
            record {
              event = worlds.Unmended;
              reached = reached;
              happens = ((here.0, refl, refl, refl), in_world (λ k n d s. IsSome s.doubt) doubted, m.still_in_doubt ∙ sym here.1);
              is_in = reached_in (OnDisk new) before.received reached place replies (refl, refl, m.founder ∙ here.2, m.limit ∙ here.3, m.at_rest) is.received refl;
            }

        -- a stop between two calls
        abbrev left : List Entry → WorldState
        left entries = record { history = world.history; register = at_rest entries; stopped = true; received = world.received }

        left_in : (file : List ℕ) (entries : List Entry) → after.place ≡ InFile file → after.received ≡ before.received → Stands file entries → IsIn on founder limit after (left entries)
        left_in file entries place replies stands = reached_in (InFile file) before.received (left entries) place replies (refl, refl, holds_stands in_force file entries stands) is.received refl

        stopped : (file : List ℕ) → after.place ≡ InFile file → after.received ≡ before.received → on.leaves old.disk file → Reaches world after
        stopped file place replies leaves =
            let l = left_at old.state file (here.4 file leaves) in
            record {
              event = worlds.Stopped;
              reached = left l.entries;
              happens = ((here.0, refl, refl, refl), in_world (λ k n d s. ComesToRest s (at_rest l.entries)) (l.mends, refl));
              is_in = left_in file l.entries place replies l.stands;
            }

        -- a stop inside an act
        module _ (q : CometRequest) (t : ℤ) (act : is_act q.verb ≡ true) (instant : IsInstantNs t) (file : List ℕ) (place : after.place ≡ InFile file) (replies : after.received ≡ before.received) where
          inside_at : (entries : List Entry) → LeavesInside old.founder (Some old.limit) (deeds before.history) old.state q t (at_rest entries) → Stands file entries → Reaches world after
          inside_at entries leaves stands = record {
            event = worlds.StoppedInside q t;
            reached = left entries;
            happens = ((here.0, refl, refl, refl), act, instant, in_world (λ k n d s. LeavesInside k (Some n) d s q t (at_rest entries)) leaves);
            is_in = left_in file entries place replies stands;
          }

          inside_rest : RestsAt old.state file → Reaches world after
          inside_rest rests = (let l = left_at old.state file rests in inside_at l.entries (inl (l.mends, refl)) l.stands)

          inside_mended : (mended : List Entry) → Mends old.state.settled old.state.doubt mended → MayLeave (deeds before.history) old mended q t file → Reaches world after
          inside_mended mended mends (inl rests) = inside_rest rests
          inside_mended mended mends (inr (entry, adds, stands)) =
              inside_at (entry ∷ mended) (inr (record { mended = mended; mends = mends; entry = entry; adds = adds; leaves = refl })) stands

      -- ---- each call

      module _ (counts_now : (disk : D) (t : ℕ) (image : List ℕ) → t ≤ on.moment disk → on.leaves disk image → on.since disk t image)
          (only_now : (disk : D) (image : List ℕ) → on.since disk (on.moment disk) image → on.leaves disk image) where
        stopped_inside : (act : CometAct D) (file : List ℕ) → before.place ≡ OnDisk act.old → after.place ≡ InFile file → after.received ≡ before.received → IsAct on (deeds before.history) act → on.since act.new.disk (on.moment act.old.disk) file → Reaches world after
        stopped_inside act file from place replies a was = by a.inside.acts
          where
            rests : on.leaves act.old.disk file → RestsAt act.old.state file
            rests leaves = (here act.old from).4 file leaves

            by : FailsOn on.moment on.since act a.inside.rise ⊎ ActsOn on.moment on.since (deeds before.history) act a.inside.rise → Reaches world after
            by (inl fails) =
                ⊎_elim
                (λ leaves. inside_rest act.old from act.request act.reading a.act a.turn.turn.reads.1 file place replies (rests leaves))
                (λ never. absurd never)
                (images_during on.leaves counts_now only_now fails.no_image file was)
            by (inr acts) =
                ⊎_elim
                (λ leaves. inside_rest act.old from act.request act.reading a.act a.turn.turn.reads.1 file place replies (rests leaves))
                (λ may. inside_mended act.old from act.request act.reading a.act a.turn.turn.reads.1 file place replies acts.mended acts.mends may)
                (images_during on.leaves counts_now only_now acts.images file was)

        opened : (file : List ℕ) (disk : D) (register : CometDeskState D) → before.place ≡ InFile file → after.place ≡ OnDisk register → after.received ≡ before.received → on.reads disk ≡ Some file → IsOpened on founder limit (deeds before.history) disk register → Reaches world after
        opened file disk register from place replies reads o =
            let at = placed_at (InFile file) from in
            let holds = at_file (on.reads disk) (λ bytes. HoldsEntries bytes register.state.settled) file reads o.stood in
            let same : world.register.settled ≡ register.state.settled = one_list one_second file world.register.settled register.state.settled at.2 holds in
            let rests : at_rest register.state.settled ≡ register.state = ap (λ (d : Option Entry). record { settled = register.state.settled; doubt = d }) (sym o.settled) in
            let reached : WorldState = running_world world.history world.register world.received in
            record {
              event = worlds.Reopened;
              reached = reached;
              happens = ((at.0, refl, refl, refl), refl);
              is_in =
                  reached_in (OnDisk register) before.received reached place replies
                  (refl, at.1 ∙ ap (λ (h : List Entry). at_rest h) same ∙ rests, o.founder_is, o.limit_is, o.at_rest) is.received refl;
            }

        -- a file that an opening left holds the same entries
        still : (file : List ℕ) (disk : D) (result : Result (CometDeskState D) (OpenFault × D)) (left : List ℕ) (entries : List Entry)
            → IsBack on disk file → EndsOpening on founder limit (deeds before.history) disk result → on.since (disk_after result) (on.moment disk) left → HoldsEntries file entries → HoldsEntries left entries
        still file disk (Ok register) left entries back ends was holds =
            ⊎_elim
            (λ like. subst (λ (f : List ℕ). HoldsEntries f entries) (sym (back.1 left like)) holds)
            (λ now.
            let before_ = at_file (on.reads disk) (λ bytes. HoldsEntries bytes register.state.settled) file back.0 ends.stood in
            subst (HoldsEntries left) (one_list one_second file register.state.settled entries before_ holds) now)
            (images_during on.leaves counts_now only_now ends.images left was)
        still file disk (Err failed) left entries back ends was holds =
            ⊎_elim
            (λ like. subst (λ (f : List ℕ). HoldsEntries f entries) (sym (back.1 left like)) holds)
            (λ alike.
            let same : alike.file ≡ file = same_some alike.file file (sym alike.file_is ∙ back.0) in
            let before_ : HoldsEntries file alike.entries = subst (λ (f : List ℕ). HoldsEntries f alike.entries) same alike.before in
            subst (HoldsEntries left) (one_list one_second file alike.entries entries before_ holds) alike.now)
            (images_during on.leaves counts_now only_now ends.images left was)

        unopened : (file : List ℕ) (disk : D) (result : Result (CometDeskState D) (OpenFault × D)) (left : List ℕ) → before.place ≡ InFile file → after.place ≡ InFile left → after.received ≡ before.received
            → IsBack on disk file → EndsOpening on founder limit (deeds before.history) disk result → on.since (disk_after result) (on.moment disk) left → IsIn on founder limit after world
        unopened file disk result left from place replies back ends was =
            let at = placed_at (InFile file) from in
            reached_in (InFile left) before.received world place replies (at.0, at.1, still file disk result left world.register.settled back ends was at.2) is.received refl

    -- the office's history grows
    grew : (history : List Entry) → after.place ≡ before.place → after.received ≡ before.received → after.history ≡ history → Extends before.history history → Reaches world after
    grew history place replies office grows =
        let reached : WorldState = record { history = history; register = world.register; stopped = world.stopped; received = world.received } in
        record {
          event = worlds.Grew;
          reached = reached;
          happens = (subst (λ (h : List Entry). Extends h history) (sym is.history) grows, refl, refl, refl);
          is_in = record {
            place = subst (λ (p : Place D). IsPlacedIn on founder limit p reached) (sym place) (beside_same before.place history is.place);
            received = replies ∙ is.received;
            history = sym office;
          };
        }
      where
        beside_same : (place : Place D) (history : List Entry) → IsPlacedIn on founder limit place world → IsPlacedIn on founder limit place (record { history = history; register = world.register; stopped = world.stopped; received = world.received })
        beside_same (OnDisk register) history placed = placed
        beside_same (InFile file) history placed = placed

    called : (counts_now : (disk : D) (t : ℕ) (image : List ℕ) → t ≤ on.moment disk → on.leaves disk image → on.since disk t image)
        (only_now : (disk : D) (image : List ℕ) → on.since disk (on.moment disk) image → on.leaves disk image)
        (call : Call D) → IsCalled on founder limit before call after → GoesAlong world after
    called counts_now only_now (Acted act true) (goes, a) =
        inl (turn_received goes.3 act.old goes.0 (turn_in act a.turn.rise) act.new a.turn.turn goes.1 goes.2 a.founder a.limit a.at_rest)
    called counts_now only_now (Acted act false) (goes, a) =
        inl (turn_lost goes.3 act.old goes.0 (turn_in act a.turn.rise) act.new a.turn.turn goes.1 goes.2 a.founder a.limit a.at_rest)
    called counts_now only_now (Asked register q reply true) (goes, a) =
        inl (turn_received goes.3 register goes.0 (record { request = q; reading = None; reply = reply; rise = a.turn.rise }) register a.turn.turn goes.1 goes.2 refl refl (here goes.3 register goes.0).4)
    called counts_now only_now (Asked register q reply false) (goes, a) =
        inl (turn_lost goes.3 register goes.0 (record { request = q; reading = None; reply = reply; rise = a.turn.rise }) register a.turn.turn goes.1 goes.2 refl refl (here goes.3 register goes.0).4)
    called counts_now only_now (Mended old result new) (goes, m) = inl (mended goes.3 old goes.0 result new m goes.1 goes.2)
    called counts_now only_now (Stopped register file) (goes, leaves) = inl (stopped goes.3 register goes.0 file goes.1 goes.2 leaves)
    called counts_now only_now (StoppedInside act file) (goes, a, was) = inl (stopped_inside goes.3 counts_now only_now act file goes.0 goes.1 goes.2 a was)
    called counts_now only_now (Opened file disk register) (goes, reads, o) = inl (opened goes.3 counts_now only_now file disk register goes.0 goes.1 goes.2 reads o)
    called counts_now only_now (Unopened file disk result left) (goes, back, ends, was) = inr (unopened goes.3 counts_now only_now file disk result left goes.0 goes.1 goes.2 back ends was)
    called counts_now only_now (Grew history) (place, replies, office, grows) = inl (grew history place replies office grows)

  -- ---- calls

  module _ (counts_now : (disk : D) (t : ℕ) (image : List ℕ) → t ≤ on.moment disk → on.leaves disk image → on.since disk t image)
      (only_now : (disk : D) (image : List ℕ) → on.since disk (on.moment disk) image → on.leaves disk image) where
    pub calls_world : (before : Kept D) (calls : List (Call D)) (after : Kept D) (world : WorldState) → IsIn on founder limit before world → Calls on founder limit before calls after
        → (events : List Event) × (reached : WorldState) × World founder (Some limit) world events reached × IsIn on founder limit after reached
    calls_world before [] after world is same = ([], world, refl, subst (λ (k : Kept D). IsIn on founder limit k world) (sym same) is)
    calls_world before (call ∷ calls) after world is (between, first, others) =
        ⊎_elim
        (λ r.
        let (events, reached, goes_on, is_in) = calls_world between calls after r.reached r.is_in others in
        (r.event ∷ events, reached, (r.reached, r.happens, goes_on), is_in))
        (λ same. calls_world between calls after world same others)
        (called before between world is counts_now only_now call first)

    -- ---- what is kept, and what was answered

    acknowledged_in : (desk : List Deed) (now : List Entry) (received : List CometTurn) → AreStillAcknowledged desk now received → AreAcknowledged desk now (map reply_in received)
    acknowledged_in desk now [] all = tt
    acknowledged_in desk now (turn ∷ received) all = (all.0, acknowledged_in desk now received all.1)

    kept_in : (place : Place D) (reached : WorldState) (entries : List Entry) → IsPlacedIn on founder limit place reached → AreKeptAt place entries → reached.register.settled ≡ entries
    kept_in (OnDisk register) reached entries placed is = ap (λ (s : OfficeState). s.settled) placed.1 ∙ sym is
    kept_in (InFile file) reached entries placed is = one_list one_second file reached.register.settled entries placed.2 is

    -- the world that they reached from an empty file
    record FromEmpty (history : List Entry) (after : Kept D) (entries : List Entry) : Type 0 where
      pub events : List Event
      pub reached : WorldState
      pub goes : World founder (Some limit) (new_register history) events reached
      pub is_in : IsIn on founder limit after reached
      pub kept : reached.register.settled ≡ entries

    abbrev start : List Entry → List ℕ → Kept D
    start history file = record { history = history; place = InFile file; received = [] }

    from_empty : (history : List Entry) (file : List ℕ) (calls : List (Call D)) (after : Kept D) (entries : List Entry) → HoldsEntries file [] → Calls on founder limit (start history file) calls after → AreKeptAt after.place entries → FromEmpty history after entries
    from_empty history file calls after entries empty called kept =
        let world : WorldState = record { history = history; register = at_rest []; stopped = true; received = [] } in
        let is : IsIn on founder limit (start history file) world = record { place = (refl, refl, empty); received = refl; history = refl } in
        let (events, reached, goes_on, is_in) = calls_world (start history file) calls after world is called in
        record {
          events = worlds.Stopped ∷ events;
          reached = reached;
          goes = (world, ((refl, refl, refl, refl), (refl, refl)), goes_on);
          is_in = is_in;
          kept = kept_in after.place reached entries is_in.place kept;
        }

    module _ (history : List Entry) (file : List ℕ) (calls : List (Call D)) (after : Kept D) (entries : List Entry) (empty : HoldsEntries file []) (called : Calls on founder limit (start history file) calls after) (kept : AreKeptAt after.place entries) where
      abbrev from : FromEmpty history after entries
      from = from_empty history file calls after entries empty called kept

      -- what holds of the world's settled entries holds of what is kept
      pub holds_kept : (P : List Deed → List Entry → Type 0) → ((founder : Key) (limit : Option ℕ) (history : List Entry) (events : List Event) (after : WorldState) → World founder limit (new_register history) events after → EitherWay (P (deeds after.history)) after.register)
          → P (deeds after.history) entries
      holds_kept P law =
          subst (λ (h : List Entry). P (deeds h) entries) from.is_in.history
          (subst (P (deeds from.reached.history)) from.kept (law founder (Some limit) history from.events from.reached from.goes).0)

      pub legal_kept : ((founder : Key) (limit : Option ℕ) (history : List Entry) (events : List Event) (after : WorldState) → World founder limit (new_register history) events after → EitherWay (IsLegal founder (deeds after.history)) after.register)
          → IsLegal founder (deeds after.history) entries
      legal_kept law =
          subst (λ (h : List Entry). IsLegal founder (deeds h) entries) from.is_in.history
          (subst (IsLegal founder (deeds from.reached.history)) from.kept (law founder (Some limit) history from.events from.reached from.goes).0)

      pub acknowledged_kept : ((founder : Key) (limit : Option ℕ) (history : List Entry) (events : List Event) (after : WorldState) → World founder limit (new_register history) events after → AreStillAcknowledged (deeds after.history) after.register.settled after.received)
          → AreAcknowledged (deeds after.history) entries after.received
      acknowledged_kept law =
          let reached = from.reached in
          subst (λ (h : List Entry). AreAcknowledged (deeds h) entries after.received) from.is_in.history
          (subst (λ (h : List Entry). AreAcknowledged (deeds reached.history) h after.received) from.kept
          (subst (AreAcknowledged (deeds reached.history) reached.register.settled) (sym from.is_in.received)
          (acknowledged_in (deeds reached.history) reached.register.settled reached.received (law founder (Some limit) history from.events reached from.goes))))
