-- The calls of one office on disks are a world.
use Rattle.std.proofs.Common.{◌≡◌, ◌⊎◌, ℕ, ℤ, true, false, List, [], ◌∷◌, map, Option, Some, None, Result, Ok, Err, refl, sym, ap, subst, ◌∙◌, inl, inr, ⊎_elim}
use Rattle.std.specs.Prelude.{IsSome, IsSomeAnd, ◌≤◌}
use Rattle.obs_time.specs.Instants.{IsInstantNs}
use Rattle.disk_model.specs.declared.disk.Failed.{Failed}
use Rattle.disk_model.specs.Moments.{images_during}
use Rattle.obs_journal.specs.declared.fault.OpenFault.{OpenFault}
use Rattle.obs_journal.specs.declared.journal.Settled.{Settled}
use Rattle.obs_journal.specs.Parcels.{RawParcel}
use Rattle.obs_journal.specs.Files.{Spells}
use Rattle.obs_journal.specs.Chains.{IsInForce, IsChain}
use Rattle.act_bodies.specs.declared.key.Key.{Key}
use Rattle.act_model.specs.declared.entry.Entry.{Entry}
use Rattle.act_model.specs.declared.keeper.OfficeState.{OfficeState}
use Rattle.act_model.specs.declared.reply.Reply.{Reply}
use Rattle.act_model.specs.declared.request.Request.{Request}
use Rattle.act_model.specs.Requests.{is_act}
use Rattle.act_model.specs.Turns.{Turn, at_rest, Mends, IsTurn}
use Rattle.act_model.specs.Worlds.{WorldState, running_world, new_office, Event, Received, Lost, ComesToRest, LeavesInside, Happens, World, AreStillAcknowledged}
use Rattle.act_model.specs.Worlds as worlds
use Rattle.mpc_desk.specs.Files.{Stands}
use Rattle.mpc_desk.specs.Desks.{DeskAct, RestsAt, IsAtRest, MayLeave, FailsOn, ActsOn, turn_in}
use Rattle.mpc_desk.specs.Disks.{DiskWords}
use Rattle.mpc_desk.specs.Events.{IsAct, IsMending}
use Rattle.mpc_desk.specs.Opening.{IsOpened, EndsOpening, disks_after}
use Rattle.mpc_desk.specs.Pairs.{FilePair, StandBoth, SpellBoth, DiskPair, pair, AreRead, AreSince, PairState}
use Rattle.mpc_desk.specs.Worlds.{Place, AtDesk, InFiles, OnDisks, Call, Acted, Asked, Mended, Stopped, StoppedInside, Closed, Opened, Unopened, AreBack, beside, IsCalled, Calls, IsPlacedIn, reply_in, IsIn, IsKeptAt, AreAcknowledged}
use Rattle.mpc_desk.proofs.Pairing.{decides, alike_stand, one_both, spelled_stand}
use Rattle.mpc_desk.proofs.Turned.{some_is}

same_some : (file image : List ℕ) → Some file ≡ Some image → file ≡ image
same_some file image is = cc

same_files : (one other : FilePair) → one.first ≡ other.first → one.second ≡ other.second → one ≡ other
same_files one other first second = ap (λ (f : List ℕ). record { first = f; second = one.second }) first ∙ ap (λ (g : List ℕ). record { first = other.first; second = g }) second

-- ---- the history that a stop leaves

-- the image stands for the settled history, or for that with the act in doubt
record LeftAt (before : OfficeState) (image : List ℕ) : Type 0 where
  history : List Entry
  mends : Mends before.settled before.doubt history
  stands : Stands image history

mends_same : (past : List Entry) (doubt : Option Entry) → Mends past doubt past
mends_same past None = refl
mends_same past (Some entry) = inr refl

with_doubt : (past : List Entry) (doubt : Option Entry) (image : List ℕ) → IsSomeAnd doubt (λ entry. Stands image (entry ∷ past)) → LeftAt (record { settled = past; doubt = doubt }) image
with_doubt past None image with = absurd with
with_doubt past (Some entry) image with = record { history = entry ∷ past; mends = inl refl; stands = with }

left_at : (state : OfficeState) (image : List ℕ) → RestsAt state image → LeftAt state image
left_at state image (inl stands) = record { history = state.settled; mends = mends_same state.settled state.doubt; stands = stands }
left_at state image (inr with) = with_doubt state.settled state.doubt image with

-- ---- one call

module _ {D : Type 0} (on : DiskWords D) (founder : Key) (limit : ℕ) (in_force : (file : List ℕ) (ps : List RawParcel) → IsChain file ps → IsInForce file) where
  read_same : (disks : DiskPair D) (one other : FilePair) → AreRead on disks one → AreRead on disks other → one ≡ other
  read_same disks one other read again =
      same_files one other (same_some one.first other.first (sym read.first ∙ again.first)) (same_some one.second other.second (sym read.second ∙ again.second))

  -- one event takes the world along
  record Reaches (world : WorldState) (after : OnDisks D) : Type 0 where
    event : Event
    reached : WorldState
    happens : Happens founder (Some limit) world event reached
    is_in : IsIn on founder limit after reached

  -- or nothing happens in it
  abbrev GoesAlong : WorldState → OnDisks D → Type 0
  GoesAlong world after = Reaches world after ⊎ IsIn on founder limit after world

  -- what is known where a call begins
  module _ (before after : OnDisks D) (world : WorldState) (is : IsIn on founder limit before world) where
    placed_at : (from : Place D) → before.place ≡ from → IsPlacedIn on founder limit from world
    placed_at from same = subst (λ (p : Place D). IsPlacedIn on founder limit p world) same is.place

    -- the office is in the state that was reached
    reached_in : (to : Place D) (received : List (Request × Reply)) (reached : WorldState) → after.place ≡ to → after.received ≡ received → IsPlacedIn on founder limit to reached → received ≡ map reply_in reached.received → IsIn on founder limit after reached
    reached_in to received reached place replies placed same = record { place = subst (λ (p : Place D). IsPlacedIn on founder limit p reached) (sym place) placed; received = replies ∙ same }

    -- at a desk
    module _ (old : PairState D) (from : before.place ≡ AtDesk old) where
      here : IsPlacedIn on founder limit (AtDesk old) world
      here = placed_at (AtDesk old) from

      -- what holds of the desk holds of the world
      in_world : (P : Key → ℕ → OfficeState → Type 0) → P old.chained.founder old.chained.limit old.chained.state → P founder limit world.office
      in_world P holds =
          subst (λ (s : OfficeState). P founder limit s) (sym here.1) (subst (λ (n : ℕ). P founder n old.chained.state) here.3 (subst (λ (k : Key). P k old.chained.limit old.chained.state) here.2 holds))

      -- a turn whose reply was received, or lost
      turn_received : (turn : Turn) (new : PairState D) → IsTurn old.chained.founder (Some old.chained.limit) old.chained.state turn new.chained.state → after.place ≡ AtDesk new → after.received ≡ reply_in turn ∷ before.received
          → new.chained.founder ≡ old.chained.founder → new.chained.limit ≡ old.chained.limit → IsAtRest on.leaves new.chained → Reaches world after
      turn_received turn new takes place replies same_founder same_limit rests =
          let reached : WorldState = running_world new.chained.state (turn ∷ world.received) in
          record {
            event = Received turn;
            reached = reached;
            happens = ((here.0, refl, refl), in_world (λ k n s. IsTurn k (Some n) s turn new.chained.state) takes);
            is_in =
                reached_in (AtDesk new) (reply_in turn ∷ before.received) reached place replies (refl, refl, same_founder ∙ here.2, same_limit ∙ here.3, rests)
                (ap (λ (rs : List (Request × Reply)). reply_in turn ∷ rs) is.received);
          }

      turn_lost : (turn : Turn) (new : PairState D) → IsTurn old.chained.founder (Some old.chained.limit) old.chained.state turn new.chained.state → after.place ≡ AtDesk new → after.received ≡ before.received
          → new.chained.founder ≡ old.chained.founder → new.chained.limit ≡ old.chained.limit → IsAtRest on.leaves new.chained → Reaches world after
      turn_lost turn new takes place replies same_founder same_limit rests =
          let reached : WorldState = running_world new.chained.state world.received in
          record {
            event = Lost turn;
            reached = reached;
            happens = ((here.0, refl, refl), in_world (λ k n s. IsTurn k (Some n) s turn new.chained.state) takes);
            is_in = reached_in (AtDesk new) before.received reached place replies (refl, refl, same_founder ∙ here.2, same_limit ∙ here.3, rests) is.received;
          }

      -- a mending
      mended : (result : Result Settled Failed) (new : PairState D) → IsMending on old.chained result new.chained → after.place ≡ AtDesk new → after.received ≡ before.received → Reaches world after
      mended (Ok settled) new m place replies =
          let reached : WorldState = running_world new.chained.state world.received in
          record {
            event = worlds.Mended;
            reached = reached;
            happens = ((here.0, refl, refl), in_world (λ k n s. ComesToRest s new.chained.state) (m.mends, m.settled));
            is_in = reached_in (AtDesk new) before.received reached place replies (refl, refl, m.founder ∙ here.2, m.limit ∙ here.3, m.at_rest) is.received;
          }
      mended (Err failed) new m place replies =
          let reached : WorldState = running_world new.chained.state world.received in
          let doubted : IsSome old.chained.state.doubt = some_is old.chained.state.doubt (λ none. let fails = m.nothing.1 none in absurd cc) in
          record {
            event = worlds.Unmended;
            reached = reached;
            happens = ((here.0, refl, refl), in_world (λ k n s. IsSome s.doubt) doubted, m.still_in_doubt ∙ sym here.1);
            is_in = reached_in (AtDesk new) before.received reached place replies (refl, refl, m.founder ∙ here.2, m.limit ∙ here.3, m.at_rest) is.received;
          }

      -- a stop between two calls
      abbrev left : List Entry → WorldState
      left history = record { office = at_rest history; stopped = true; received = world.received }

      left_in : (files : FilePair) (history : List Entry) → after.place ≡ InFiles files → after.received ≡ before.received → Stands files.second history → IsIn on founder limit after (left history)
      left_in files history place replies stands = reached_in (InFiles files) before.received (left history) place replies (refl, refl, decides in_force files history stands) is.received

      stopped : (files : FilePair) → after.place ≡ InFiles files → after.received ≡ before.received → on.leaves old.chained.disk files.second → Reaches world after
      stopped files place replies leaves =
          let l = left_at old.chained.state files.second (here.4 files.second leaves) in
          record {
            event = worlds.Stopped;
            reached = left l.history;
            happens = ((here.0, refl, refl), in_world (λ k n s. ComesToRest s (at_rest l.history)) (l.mends, refl));
            is_in = left_in files l.history place replies l.stands;
          }

      -- a stop inside an act
      module _ (q : Request) (t : ℤ) (act : is_act q.verb ≡ true) (instant : IsInstantNs t) (files : FilePair) (place : after.place ≡ InFiles files) (replies : after.received ≡ before.received) where
        inside_at : (history : List Entry) → LeavesInside old.chained.founder (Some old.chained.limit) old.chained.state q t (at_rest history) → Stands files.second history → Reaches world after
        inside_at history leaves stands = record {
          event = worlds.StoppedInside q t;
          reached = left history;
          happens = ((here.0, refl, refl), act, instant, in_world (λ k n s. LeavesInside k (Some n) s q t (at_rest history)) leaves);
          is_in = left_in files history place replies stands;
        }

        inside_rest : RestsAt old.chained.state files.second → Reaches world after
        inside_rest rests = (let l = left_at old.chained.state files.second rests in inside_at l.history (inl (l.mends, refl)) l.stands)

        inside_mended : (mended : List Entry) → Mends old.chained.state.settled old.chained.state.doubt mended → MayLeave old.chained mended q t files.second → Reaches world after
        inside_mended mended mends (inl rests) = inside_rest rests
        inside_mended mended mends (inr (entry, adds, stands)) =
            inside_at (entry ∷ mended) (inr (record { mended = mended; mends = mends; entry = entry; adds = adds; leaves = refl })) stands

    -- ---- each call

    module _ (counts_now : (disk : D) (t : ℕ) (image : List ℕ) → t ≤ on.moment disk → on.leaves disk image → on.since disk t image)
        (only_now : (disk : D) (image : List ℕ) → on.since disk (on.moment disk) image → on.leaves disk image)
        (one_list : (file : List ℕ) (ps qs : List RawParcel) → Spells file ps → Spells file qs → ps ≡ qs)
        (one_chain : (file : List ℕ) (ps qs : List RawParcel) → IsChain file ps → IsChain file qs → ps ≡ qs) where
      stopped_inside : (first : D) (act : DeskAct D) (files : FilePair) → before.place ≡ AtDesk (beside first act.old) → after.place ≡ InFiles files → after.received ≡ before.received → IsAct on act → AreSince on (pair first act.new.disk) (pair first act.old.disk) files → Reaches world after
      stopped_inside first act files from place replies a was = by a.inside.acts
        where
          office : PairState D
          office = beside first act.old

          rests : on.leaves act.old.disk files.second → RestsAt act.old.state files.second
          rests leaves = (here office from).4 files.second leaves

          by : FailsOn on.moment on.since act.old (turn_in act a.inside.rise) act.new ⊎ ActsOn on.moment on.since act.old (turn_in act a.inside.rise) act.reading act.new → Reaches world after
          by (inl fails) =
              ⊎_elim
              (λ leaves. inside_rest office from act.request act.reading a.act a.turn.turn.reads.1 files place replies (rests leaves))
              (λ never. absurd never)
              (images_during on.leaves counts_now only_now fails.no_image files.second was.1)
          by (inr acts) =
              ⊎_elim
              (λ leaves. inside_rest office from act.request act.reading a.act a.turn.turn.reads.1 files place replies (rests leaves))
              (λ may. inside_mended office from act.request act.reading a.act a.turn.turn.reads.1 files place replies acts.mended acts.mends may)
              (images_during on.leaves counts_now only_now acts.images files.second was.1)

      opened : (files : FilePair) (disks : DiskPair D) (office : PairState D) → before.place ≡ InFiles files → after.place ≡ AtDesk office → after.received ≡ before.received → AreRead on disks files → IsOpened on founder limit disks office → Reaches world after
      opened files disks office from place replies reads o =
          let at = placed_at (InFiles files) from in
          let desk = office.chained in
          let same : world.office.settled ≡ desk.state.settled = one_both one_list one_chain files world.office.settled desk.state.settled at.2 (o.stood files reads) in
          let rests : at_rest desk.state.settled ≡ desk.state = ap (λ (d : Option Entry). record { settled = desk.state.settled; doubt = d }) (sym o.settled) in
          let reached : WorldState = running_world world.office world.received in
          record {
            event = worlds.Reopened;
            reached = reached;
            happens = ((at.0, refl, refl), refl);
            is_in =
                reached_in (AtDesk office) before.received reached place replies
                (refl, at.1 ∙ ap (λ (h : List Entry). at_rest h) same ∙ rests, o.founder_is, o.limit_is, o.at_rest) is.received;
          }

      -- files that an opening left stand for the same history
      still : (files : FilePair) (disks : DiskPair D) (result : Result (PairState D) (OpenFault × D × D)) (left : FilePair) (history : List Entry)
          → AreBack on disks files → EndsOpening on founder limit disks result → AreSince on (disks_after result) disks left → StandBoth files history → StandBoth left history
      still files disks (Ok office) left history back ends was stands =
          ⊎_elim
          (λ like. alike_stand like.before left history like.alike (subst (λ (f : FilePair). StandBoth f history) (sym (back.1 like.before like.left)) stands))
          (λ alike.
          let same : alike.before ≡ files = read_same disks alike.before files alike.read back.0 in
          let before : StandBoth files office.chained.state.settled = subst (λ (f : FilePair). StandBoth f office.chained.state.settled) same alike.stood in
          subst (StandBoth left) (one_both one_list one_chain files office.chained.state.settled history before stands) alike.now)
          (ends.images.either left was)
      still files disks (Err failed) left history back ends was stands =
          ⊎_elim
          (λ like. alike_stand like.before left history like.alike (subst (λ (f : FilePair). StandBoth f history) (sym (back.1 like.before like.left)) stands))
          (λ alike.
          let same : alike.before ≡ files = read_same disks alike.before files alike.read back.0 in
          spelled_stand one_list one_chain files left alike.parcels history (subst (λ (f : FilePair). SpellBoth f alike.parcels) same alike.spelled) alike.now stands)
          (ends.images.either left was)

      unopened : (files : FilePair) (disks : DiskPair D) (result : Result (PairState D) (OpenFault × D × D)) (left : FilePair) → before.place ≡ InFiles files → after.place ≡ InFiles left → after.received ≡ before.received
          → AreBack on disks files → EndsOpening on founder limit disks result → AreSince on (disks_after result) disks left → IsIn on founder limit after world
      unopened files disks result left from place replies back ends was =
          let at = placed_at (InFiles files) from in
          reached_in (InFiles left) before.received world place replies (at.0, at.1, still files disks result left world.office.settled back ends was at.2) is.received

      called : (call : Call D) → IsCalled on founder limit before call after → GoesAlong world after
      called (Acted first act true) (goes, a) =
          inl (turn_received (beside first act.old) goes.0 (turn_in act a.turn.rise) (beside first act.new) a.turn.turn goes.1 goes.2 a.founder a.limit a.at_rest)
      called (Acted first act false) (goes, a) =
          inl (turn_lost (beside first act.old) goes.0 (turn_in act a.turn.rise) (beside first act.new) a.turn.turn goes.1 goes.2 a.founder a.limit a.at_rest)
      called (Asked first desk q reply true) (goes, a) =
          inl (turn_received (beside first desk) goes.0 (record { request = q; reading = None; reply = reply; rise = a.turn.rise }) (beside first desk) a.turn.turn goes.1 goes.2 refl refl (here (beside first desk) goes.0).4)
      called (Asked first desk q reply false) (goes, a) =
          inl (turn_lost (beside first desk) goes.0 (record { request = q; reading = None; reply = reply; rise = a.turn.rise }) (beside first desk) a.turn.turn goes.1 goes.2 refl refl (here (beside first desk) goes.0).4)
      called (Mended first old result new) (goes, m) = inl (mended (beside first old) goes.0 result (beside first new) m goes.1 goes.2)
      called (Stopped office files) (goes, leaves) = inl (stopped office goes.0 files goes.1 goes.2 leaves.1)
      called (StoppedInside first act files) (goes, a, was) = inl (stopped_inside first act files goes.0 goes.1 goes.2 a was)
      called (Closed office disks files) (goes, closed, leaves) =
          inl (stopped office goes.0 files goes.1 goes.2 (subst (λ (d : D). on.leaves d files.second) closed.1 leaves.1))
      called (Opened files disks office) (goes, reads, o) = inl (opened files disks office goes.0 goes.1 goes.2 reads o)
      called (Unopened files disks result left) (goes, back, ends, was) = inr (unopened files disks result left goes.0 goes.1 goes.2 back ends was)

  -- ---- calls

  module _ (counts_now : (disk : D) (t : ℕ) (image : List ℕ) → t ≤ on.moment disk → on.leaves disk image → on.since disk t image)
      (only_now : (disk : D) (image : List ℕ) → on.since disk (on.moment disk) image → on.leaves disk image)
      (one_list : (file : List ℕ) (ps qs : List RawParcel) → Spells file ps → Spells file qs → ps ≡ qs)
      (one_chain : (file : List ℕ) (ps qs : List RawParcel) → IsChain file ps → IsChain file qs → ps ≡ qs) where
    pub calls_world : (before : OnDisks D) (calls : List (Call D)) (after : OnDisks D) (world : WorldState) → IsIn on founder limit before world → Calls on founder limit before calls after
        → (events : List Event) × (reached : WorldState) × World founder (Some limit) world events reached × IsIn on founder limit after reached
    calls_world before [] after world is same = ([], world, refl, subst (λ (o : OnDisks D). IsIn on founder limit o world) (sym same) is)
    calls_world before (call ∷ calls) after world is (between, first, others) =
        ⊎_elim
        (λ r.
        let (events, reached, goes_on, is_in) = calls_world between calls after r.reached r.is_in others in
        (r.event ∷ events, reached, (r.reached, r.happens, goes_on), is_in))
        (λ same. calls_world between calls after world same others)
        (called before between world is counts_now only_now one_list one_chain call first)

    -- ---- what was answered

    acknowledged_in : (now : List Entry) (received : List Turn) → AreStillAcknowledged founder now received → AreAcknowledged founder now (map reply_in received)
    acknowledged_in now [] all = tt
    acknowledged_in now (turn ∷ received) all = (all.0, acknowledged_in now received all.1)

    kept_in : (place : Place D) (reached : WorldState) (history : List Entry) → IsPlacedIn on founder limit place reached → IsKeptAt place history → reached.office.settled ≡ history
    kept_in (AtDesk office) reached history placed is = ap (λ (s : OfficeState). s.settled) placed.1 ∙ sym is
    kept_in (InFiles files) reached history placed is = one_both one_list one_chain files reached.office.settled history placed.2 is

    module _ (acknowledged : (founder : Key) (limit : Option ℕ) (events : List Event) (after : WorldState) → World founder limit new_office events after → AreStillAcknowledged founder after.office.settled after.received) where
      pub calls_acknowledged : (files : FilePair) (calls : List (Call D)) (after : OnDisks D) (history : List Entry) → StandBoth files [] → Calls on founder limit (record { place = InFiles files; received = [] }) calls after
          → IsKeptAt after.place history → AreAcknowledged founder history after.received
      calls_acknowledged files calls after history empty called kept =
          let world : WorldState = record { office = at_rest []; stopped = true; received = [] } in
          let is : IsIn on founder limit (record { place = InFiles files; received = [] }) world = record { place = (refl, refl, empty); received = refl } in
          let (events, reached, goes_on, is_in) = calls_world (record { place = InFiles files; received = [] }) calls after world is called in
          let all = acknowledged founder (Some limit) (worlds.Stopped ∷ events) reached (world, ((refl, refl, refl), (refl, refl)), goes_on) in
          subst (λ (h : List Entry). AreAcknowledged founder h after.received) (kept_in after.place reached history is_in.place kept)
          (subst (AreAcknowledged founder reached.office.settled) (sym is_in.received) (acknowledged_in reached.office.settled reached.received all))
