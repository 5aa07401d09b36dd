-- Each step of the lock keeps the rule.
use Rattle.std.proofs.Common.{◌≡◌, ℕ, ◌+◌, ◌^◌, ◌%◌, ◌≤◌, ◌<◌, ◌≢◌, List, [], ◌∷◌, length, slice_index, slice_set, Option, Some, set, refl, sym, ap, subst, ◌∙◌, inl, inr, arith}
use Rattle.std.specs.Prelude.{◌⊎◌, sum_by}
use Rattle.std.proofs.lemmas.List.Sums.{sum_by-append}
use Rattle.std.proofs.lemmas.List.Elements.{Contains-append_left, Contains-append_right}
use mathlib.Core.Option as slot
use mathlib.Core.Logic.{dite}
use native.Mathlib.Decide.{ℕ_discrete}
use lib.ListN.{get_elem?}
use Rattle.atomic_table.specs.Table.{State, Act, keeps, takes, gives, Allows, stepped}
use Rattle.atomic_table.proofs.Lists.{set_again}
use Rattle.act_bodies.specs.declared.key.Key.{Key}
use Rattle.act_model.specs.declared.keeper.Office.{Office}
use Rattle.act_model.specs.Conducts.{Extends, EitherWay}
use Rattle.act_model.specs.Legal.{IsLegal}
use Rattle.intake_lock.specs.declared.view.Item.{Item}
use Rattle.intake_lock.specs.declared.view.Stage.{Stage}
use Rattle.intake_lock.specs.declared.view.Stage.TheVariants.{Idle, Waiting, Holding}
use Rattle.intake_lock.specs.declared.view.View.{View}
use Rattle.intake_lock.specs.Stamps.{StampsOn}
use Rattle.intake_lock.specs.Items.{AreTrue, Called, RisesBy, rises}
use Rattle.intake_lock.specs.Views.{history_seen, live, ticket_count, one_if_ticketed, made_by, rises_by, HasTicketAt, HasTicket, HasTurnAt, HasTurn, waiting_view, holding_view, published_view, idle}
use Rattle.intake_lock.specs.Rule.{word, FitsStage, IsKnown, Fits, At, IsHome, IsOut, Standing}
use Rattle.intake_lock.specs.Plays.{Mine, Draws, Gets, Looks, Publishes, Leaves, Tells}
use Rattle.intake_lock.proofs.Histories.{StepLaw, extends_refl, extends_on, extends_length, shorter_begins, comes_kept, comes_more, called_same, called_extends, called_true, called_counts, LegalLaw, called_legal, are_true_later, are_true_both}
use Rattle.intake_lock.proofs.StampLemmas.{stamps_refl, stamped_later, stamped_both, called_grows, called_stamped}
use Rattle.intake_lock.proofs.Sums.{sum_set, sum_le}
use Rattle.intake_lock.proofs.Views.{fits_live, live_known, ticket_range, turn_ticket, ticket_weighs, fits_later, one_there, here, each, apart_set, sum_same, rooted_set, latest_set, calls_set, calls_same, kept_set}

-- a pass waits for one ticket
one_ticket : (t u : ℕ) → Waiting t ≡ Waiting u → t ≡ u
one_ticket t u is = cc

word_more : (n : ℕ) → (word n + 1) % 2 ^ 64 ≡ word (n + 1)
word_more n = omega arith

-- two tickets that are out have different words
word_apart : (served ticket drawn live : ℕ) → served ≤ ticket → ticket < drawn → drawn ≤ served + live → live ≤ 1001 → word served ≡ word ticket → served ≡ ticket
word_apart served ticket drawn live low high few most same = omega arith

module _ (steps : StepLaw) {V : Type 0} (office_of : V → Office) (opening : Office) where
  abbrev Rule : State (Option V) View → Type 0
  Rule = Standing office_of opening

  module _ (s : State (Option V) View) (h : Standing office_of opening s) where
    -- a ticket that is out isn't far from the one that is served
    near : sum_by ticket_count s.views ≤ 1001
    near =
        let le = sum_le ticket_count live s.views (λ i x at. ticket_weighs opening h.office h.drawn h.served x (h.fits i x at)) in
        let count = h.rooted.count in
        let most = h.rooted.most in
        omega arith

    -- whoever has the turn is the only one with the ticket that is served
    only_turn : (i j : ℕ) (v u : View) → At s.views i v → At s.views j u → HasTurn v → HasTicket u h.served → i ≡ j
    only_turn i j v u at at' turn has = h.apart i j v u h.served at at' (turn_ticket opening h.office h.drawn h.served v (h.fits i v at) turn) has

    -- the words after a step that changes none of them
    still : (i id : ℕ) (v : View) → At s.views id v → slice_set s.words i (slice_index s.words i) ≡ s.words → (c : List (ℕ × Option V)) → Rule (stepped s i (slice_index s.words i) id c v keeps)
    still i id v at same c =
        subst (λ (ws : List ℕ). Rule (record { words = ws; homes = s.homes; views = set s.views id v })) (sym same)
        (subst (λ (vs : List View). Rule (record { words = s.words; homes = s.homes; views = vs })) (sym (set_again s.views id v at)) h)

  -- ---- draw

  module _ (slots id : ℕ) (m : Mine V) (one : live m.0 ≡ 1) (rests : m.0.stage ≡ Idle) where
    draw_rule : (s : State (Option V) View) → Rule s → (at : At s.views id m.0)
        → (h : Rule s) → Rule (stepped s 0 ((slice_index s.words 0 + 1) % 2 ^ 64) id m.1 (waiting_view h.drawn m.0) keeps)
    draw_rule s _ at h =
        let v : View = m.0 in
        let w : View = waiting_view h.drawn v in
        let known = live_known opening h.office h.drawn h.served v one (h.fits id v at) in
        let weighs = ap one_if_ticketed rests in
        let sums = sum_set ticket_count s.views id v w at in
        let total = h.tickets in
        record {
          office = h.office;
          drawn = h.drawn + 1;
          served = h.served;
          words = ap (λ (ws : List ℕ). slice_set ws 0 ((slice_index ws 0 + 1) % 2 ^ 64)) h.words ∙ ap (λ (n : ℕ). n ∷ word h.served ∷ word (length h.office.state.settled) ∷ []) (word_more h.drawn);
          founder = h.founder;
          limit = h.limit;
          tickets = omega arith;
          fits = each s.views id v w at (λ j u. Fits opening h.office (h.drawn + 1) h.served u)
              (fits_live opening h.office (h.drawn + 1) h.served w one (record { founder = known.0.founder; limit = known.0.limit; first = known.0.first; also = known.0.also; true_of = known.0.true_of; stamps = known.0.stamps; stamped = known.0.stamped }) (omega arith, omega arith))
              (λ j u other at'. fits_later opening h.office h.office h.drawn (h.drawn + 1) h.served h.served u (extends_refl h.office.state.settled) (stamps_refl h.office.stamps) (more u u.stage) (h.fits j u at'));
          apart = apart_set s.views id v w at
              (λ j u ticket other at' has has'. let range = ticket_range opening h.office h.drawn h.served u ticket (h.fits j u at') has' in let low = range.1 in let same : h.drawn ≡ ticket = has in absurd (omega arith))
              h.apart;
          rooted = rooted_set s.views id v w at refl h.rooted;
          latest = latest_set s.views id v w at h.office refl h.latest;
          kept = kept_set s.views id v w at office_of h.office s.homes (λ turn. subst HasTurnAt rests turn) (λ turn. turn) h.kept;
          made = h.made ∙ ap (λ (n : ℕ). length opening.state.settled + n) (sym (sum_same s.views id v w at made_by refl));
          legal = h.legal;
          comes = comes_kept opening h.office s.views (set s.views id w) (calls_same s.views id v w at refl) h.comes;
          counts = subst (λ (n : ℕ). RisesBy n opening.faults h.office.faults) (sym (sum_same s.views id v w at rises_by refl)) h.counts;
        }
      where
        more : (u : View) (stage : Stage) → FitsStage h.office h.drawn h.served u stage → FitsStage h.office (h.drawn + 1) h.served u stage
        more u Idle fits = tt
        more u (Waiting t) fits = let high = fits.1 in (fits.0, omega arith)
        more u (Holding t) fits = let high = fits.1 in (fits.0, omega arith, fits.2)

    pub draws : Allows Rule slots id m 0 (λ n. (n + 1) % 2 ^ 64) (Draws m)
    draws s h len at bound = (
      waiting_view h.drawn m.0,
      keeps,
      tt,
      draw_rule s h at h,
      (h.drawn, ap (λ (ws : List ℕ). slice_index ws 0) h.words, refl),
    )

  -- ---- look

  module _ (slots id ticket : ℕ) (m : Mine V) (one : live m.0 ≡ 1) (waits : m.0.stage ≡ Waiting ticket) where
    module _ (s : State (Option V) View) (h : Rule s) (at : At s.views id m.0) where
      abbrev v : View
      v = m.0

      look_known : IsKnown opening h.office v
      look_known = (live_known opening h.office h.drawn h.served v one (h.fits id v at)).0

      look_range : (h.served ≤ ticket) × (ticket < h.drawn)
      look_range = ticket_range opening h.office h.drawn h.served v ticket (h.fits id v at) (subst (λ (st : Stage). HasTicketAt st ticket) (sym waits) refl)

      -- the ticket is served
      module _ (served : h.served ≡ ticket) where
        look_has : HasTicket v h.served
        look_has = subst (λ (st : Stage). HasTicketAt st h.served) (sym waits) (sym served)

        look_home : IsHome office_of h.office s.homes s.views ⊎ IsOut office_of s.homes s.views → IsHome office_of h.office s.homes s.views
        look_home (inl k) = k
        look_home (inr k) =
            let same = only_turn s h k.id id k.view v k.at at k.turn look_has in
            absurd (subst HasTurnAt waits (subst HasTurn (sym (one_there s.views id k.id v k.view (sym same) at k.at)) k.turn))

        abbrev got : View
        got = holding_view ticket h.office v

        look_rule : (keeper : V) → s.homes ≡ slot.some (Some keeper) ∷ [] → Rule (stepped s 1 (slice_index s.words 1) id m.1 got (takes 0 (Some keeper)))
        look_rule keeper home =
            let known = look_known in
            let weighs = ap one_if_ticketed waits in
            let high = look_range.1 in
            record {
              office = h.office;
              drawn = h.drawn;
              served = h.served;
              words = ap (λ (ws : List ℕ). slice_set ws 1 (slice_index ws 1)) h.words;
              founder = h.founder;
              limit = h.limit;
              tickets = h.tickets ∙ ap (λ (n : ℕ). h.served + n) (sym (sum_same s.views id v got at ticket_count (sym weighs)));
              fits = each s.views id v got at (λ j u. Fits opening h.office h.drawn h.served u)
                  (fits_live opening h.office h.drawn h.served got one
                  (record { founder = h.founder; limit = h.limit; first = extends_refl h.office.state.settled; also = known.also; true_of = are_true_later steps opening.founder opening.limit (history_seen v) h.office.state.settled v.mine known.first known.true_of; stamps = stamps_refl h.office.stamps; stamped = known.stamped })
                  (sym served, omega arith, refl))
                  (λ j u other at'. h.fits j u at');
              apart = apart_set s.views id v got at
                  (λ j u t other at' has has'. other (h.apart j id u v t at' at has' (subst (λ (st : Stage). HasTicketAt st t) (sym waits) has)))
                  h.apart;
              rooted = rooted_set s.views id v got at refl h.rooted;
              latest = (id, got, here s.views id v got at, refl);
              kept = inr (record { home = ap (λ (hs : List (slot.Option (Option V))). slice_set hs 0 slot.none) home; id = id; view = got; at = here s.views id v got at; turn = tt });
              made = h.made ∙ ap (λ (n : ℕ). length opening.state.settled + n) (sym (sum_same s.views id v got at made_by refl));
              legal = h.legal;
              comes = comes_kept opening h.office s.views (set s.views id got) (calls_same s.views id v got at refl) h.comes;
              counts = subst (λ (n : ℕ). RisesBy n opening.faults h.office.faults) (sym (sum_same s.views id v got at rises_by refl)) h.counts;
            }

        abbrev Found : Type 0
        Found =
            (w : View) × (a : Act (Option V)) × Rattle.atomic_table.specs.Table.Valid s.homes m.1 a × Rule (stepped s 1 (slice_index s.words 1) id m.1 w a)
            × Looks office_of m (slice_index s.words 1) (w, Rattle.atomic_table.specs.Table.carried_after m.1 a)

        look_hit : m.1 ≡ [] → Found
        look_hit empty =
            let k = look_home h.kept in
            let known = look_known in
            let seat : (got, (0, Some k.keeper) ∷ m.1) ≡ (holding_view ticket (office_of k.keeper) v, (0, Some k.keeper) ∷ []) =
            ap (λ (o : Office). (holding_view ticket o v, (0, Some k.keeper) ∷ m.1)) (sym k.stands) ∙ ap (λ (c : List (ℕ × Option V)). (holding_view ticket (office_of k.keeper) v, (0, Some k.keeper) ∷ c)) empty in
            let gets : Gets office_of ticket m (got, (0, Some k.keeper) ∷ m.1) =
            record {
              keeper = k.keeper;
              seat = seat;
              founder = ap (λ (o : Office). o.founder) k.stands ∙ h.founder ∙ sym known.founder;
              limit = ap (λ (o : Office). o.limit) k.stands ∙ h.limit ∙ sym known.limit;
              grows = subst (λ (o : Office). Extends (history_seen v) o.state.settled) (sym k.stands) known.first;
              stamps = subst (λ (o : Office). StampsOn v.office.stamps o.stamps) (sym k.stands) known.stamps;
            } in (
              got,
              takes 0 (Some k.keeper),
              ap (λ (hs : List (slot.Option (Option V))). get_elem? hs 0) k.home,
              look_rule k.keeper k.home,
              λ t is. inr (
                ap (λ (ws : List ℕ). slice_index ws 1) h.words ∙ ap word served ∙ ap word (one_ticket ticket t (sym waits ∙ is)),
                subst (λ (x : ℕ). Gets office_of x m (got, (0, Some k.keeper) ∷ m.1)) (one_ticket ticket t (sym waits ∙ is)) gets,
              ),
            )

      -- another ticket is served
      look_miss : h.served ≢ ticket
          → (w : View) × (a : Act (Option V)) × Rattle.atomic_table.specs.Table.Valid s.homes m.1 a × Rule (stepped s 1 (slice_index s.words 1) id m.1 w a)
          × Looks office_of m (slice_index s.words 1) (w, Rattle.atomic_table.specs.Table.carried_after m.1 a)
      look_miss other = (
        v,
        keeps,
        tt,
        still s h 1 id v at (subst (λ (ws : List ℕ). slice_set ws 1 (slice_index ws 1) ≡ ws) (sym h.words) refl) m.1,
        λ t is. inl (
          λ same.
              other
              (word_apart h.served ticket h.drawn (sum_by ticket_count s.views) look_range.0 look_range.1 (let total = h.tickets in omega arith) (near s h)
              (sym (ap (λ (ws : List ℕ). slice_index ws 1) h.words) ∙ same ∙ ap word (sym (one_ticket ticket t (sym waits ∙ is))))),
          refl,
        ),
      )

    pub looks : m.1 ≡ [] → Allows Rule slots id m 1 (λ n. n) (Looks office_of m)
    looks empty s h len at bound = dite (ℕ_discrete h.served ticket) (λ is. look_hit s h at is empty) (λ other. look_miss s h at other)

  -- ---- publish

  module _ (slots id ticket : ℕ) (m : Mine V) (one : live m.0 ≡ 1) (turn : m.0.stage ≡ Holding ticket) (items : List Item) (later : Office) (law : LegalLaw) (called : Called m.0.office items later) (n : ℕ) (is : n ≡ length later.state.settled) (within : n < 2 ^ 64) where
    abbrev told : View
    told = published_view later items m.0

    module _ (s : State (Option V) View) (h : Rule s) (at : At s.views id m.0) where
      publish_known : IsKnown opening h.office m.0 × FitsStage h.office h.drawn h.served m.0 (Holding ticket)
      publish_known = let k = live_known opening h.office h.drawn h.served m.0 one (h.fits id m.0 at) in (k.0, subst (λ (st : Stage). FitsStage h.office h.drawn h.served m.0 st) turn k.1)

      publish_has : HasTurn m.0
      publish_has = subst HasTurnAt (sym turn) tt

      publish_called : Called h.office items later
      publish_called = subst (λ (o : Office). Called o items later) publish_known.1.2 called

      publish_grows : Extends h.office.state.settled later.state.settled
      publish_grows = called_extends steps h.office later items publish_called

      publish_on : StampsOn h.office.stamps later.stamps
      publish_on = called_grows h.office later items publish_called

      -- no other pass has the turn
      publish_others : (j : ℕ) (u : View) → j ≢ id → At s.views j u → (stage : Stage) → (HasTicketAt stage h.served → HasTicket u h.served) → FitsStage h.office h.drawn h.served u stage → FitsStage later h.drawn h.served u stage
      publish_others j u other at' Idle has fits = tt
      publish_others j u other at' (Waiting t) has fits = fits
      publish_others j u other at' (Holding t) has fits = absurd (other (sym (only_turn s h id j m.0 u at at' publish_has (has fits.0))))

      publish_home : IsHome office_of h.office s.homes s.views ⊎ IsOut office_of s.homes s.views → s.homes ≡ slot.none ∷ []
      publish_home (inl k) = absurd (k.free id m.0 at publish_has)
      publish_home (inr k) = k.home

      publish_rule : Rule (stepped s 2 n id m.1 told keeps)
      publish_rule =
          let known = publish_known in
          let grows = publish_grows in
          let same = called_same steps h.office later items publish_called in
          let sums = sum_set made_by s.views id m.0 told at in
          let risen = sum_set rises_by s.views id m.0 told at in
          let both = sum_by-append (λ (i : Item). i.rise) items m.0.mine in
          let before = h.made in
          let lengths = extends_length h.office.state.settled later.state.settled grows in
          let was : length (history_seen m.0) ≡ length h.office.state.settled = ap (λ (o : Office). length o.state.settled) known.1.2 in
          let counted = called_counts (sum_by rises_by s.views) opening.faults h.office later items h.counts publish_called in
          let total : sum_by rises_by s.views + rises items ≡ sum_by rises_by (set s.views id told) = omega arith in
          record {
            office = later;
            drawn = h.drawn;
            served = h.served;
            words = ap (λ (ws : List ℕ). slice_set ws 2 n) h.words ∙ ap (λ (x : ℕ). word h.drawn ∷ word h.served ∷ x ∷ []) (word_of n (length later.state.settled) is within);
            founder = same.0 ∙ h.founder;
            limit = same.1 ∙ h.limit;
            tickets = h.tickets ∙ ap (λ (x : ℕ). h.served + x) (sym (sum_same s.views id m.0 told at ticket_count refl));
            fits = each s.views id m.0 told at (λ j u. Fits opening later h.drawn h.served u)
                (fits_live opening later h.drawn h.served told one
                (record {
                  founder = same.0 ∙ h.founder;
                  limit = same.1 ∙ h.limit;
                  first = extends_refl later.state.settled;
                  also = extends_on m.0.also h.office.state.settled later.state.settled known.0.also grows;
                  true_of = are_true_both opening.founder opening.limit later.state.settled items m.0.mine
                      (subst (λ (l : Option ℕ). AreTrue opening.founder l later.state.settled items) h.limit (subst (λ (f : Key). AreTrue f h.office.limit later.state.settled items) h.founder (called_true steps h.office later items publish_called)))
                      (are_true_later steps opening.founder opening.limit (history_seen m.0) later.state.settled m.0.mine (extends_on (history_seen m.0) h.office.state.settled later.state.settled known.0.first grows) known.0.true_of);
                  stamps = stamps_refl later.stamps;
                  stamped = stamped_both later.stamps items m.0.mine (called_stamped h.office later items publish_called)
                      (stamped_later h.office.stamps later.stamps m.0.mine publish_on known.0.stamped);
                })
                (subst (λ (st : Stage). FitsStage later h.drawn h.served told st) (sym turn) (known.1.0, known.1.1, refl)))
                (λ j u other at'. fits_later opening h.office later h.drawn h.drawn h.served h.served u grows publish_on (publish_others j u other at' u.stage (λ has. has)) (h.fits j u at'));
            apart = apart_set s.views id m.0 told at (λ j u t other at' has has'. other (h.apart j id u m.0 t at' at has' has)) h.apart;
            rooted = rooted_set s.views id m.0 told at refl h.rooted;
            latest = (id, told, here s.views id m.0 told at, refl);
            kept = inr (record { home = publish_home h.kept; id = id; view = told; at = here s.views id m.0 told at; turn = publish_has });
            made = omega arith;
            legal = λ was. subst (λ (f : Key). EitherWay (IsLegal f) later.state) h.founder (called_legal steps law h.office later items (subst (λ (f : Key). EitherWay (IsLegal f) h.office.state) (sym h.founder) (h.legal was)) publish_called);
            comes = comes_more steps opening h.office later items s.views (set s.views id told) h.founder h.limit
                (calls_set s.views id m.0 told at (λ i has. Contains-append_right items m.0.mine i has))
                (λ i has. (id, told, here s.views id m.0 told at, Contains-append_left items m.0.mine i has))
                publish_called h.comes;
            counts = subst (λ (x : ℕ). RisesBy x opening.faults later.faults) total counted;
          }
        where
          word_of : (n l : ℕ) → n ≡ l → n < 2 ^ 64 → n ≡ word l
          word_of n l is within = omega arith

    pub publishes : Allows Rule slots id m 2 (λ _. n) (λ _. Publishes later items m)
    publishes s h len at bound = (told, keeps, tt, publish_rule s h at, refl)

  -- ---- call next

  module _ (slots id ticket : ℕ) (m : Mine V) (one : live m.0 ≡ 1) (turn : m.0.stage ≡ Holding ticket) (keeper : V) (held : m.1 ≡ (0, Some keeper) ∷ []) (stands : office_of keeper ≡ m.0.office) where
    module _ (s : State (Option V) View) (h : Rule s) (at : At s.views id m.0) where
      next_known : IsKnown opening h.office m.0 × FitsStage h.office h.drawn h.served m.0 (Holding ticket)
      next_known = let k = live_known opening h.office h.drawn h.served m.0 one (h.fits id m.0 at) in (k.0, subst (λ (st : Stage). FitsStage h.office h.drawn h.served m.0 st) turn k.1)

      next_has : HasTurn m.0
      next_has = subst HasTurnAt (sym turn) tt

      next_others : (j : ℕ) (u : View) → j ≢ id → At s.views j u → (stage : Stage) → (HasTicketAt stage h.served → HasTicket u h.served) → FitsStage h.office h.drawn h.served u stage → FitsStage h.office h.drawn (h.served + 1) u stage
      next_others j u other at' Idle has fits = tt
      next_others j u other at' (Waiting t) has fits =
          let low = fits.0 in
          (dite (ℕ_discrete t h.served) (λ same. absurd (other (sym (only_turn s h id j m.0 u at at' next_has (has same))))) (λ apart. omega arith), fits.1)
      next_others j u other at' (Holding t) has fits = absurd (other (sym (only_turn s h id j m.0 u at at' next_has (has fits.0))))

      next_home : IsHome office_of h.office s.homes s.views ⊎ IsOut office_of s.homes s.views → s.homes ≡ slot.none ∷ []
      next_home (inl k) = absurd (k.free id m.0 at next_has)
      next_home (inr k) = k.home

      next_rule : Rule (stepped s 1 ((slice_index s.words 1 + 1) % 2 ^ 64) id m.1 (idle m.0) gives)
      next_rule =
          let known = next_known in
          let weighs = ap one_if_ticketed turn in
          let sums = sum_set ticket_count s.views id m.0 (idle m.0) at in
          let total = h.tickets in
          let w : View = idle m.0 in
          record {
            office = h.office;
            drawn = h.drawn;
            served = h.served + 1;
            words = ap (λ (ws : List ℕ). slice_set ws 1 ((slice_index ws 1 + 1) % 2 ^ 64)) h.words ∙ ap (λ (x : ℕ). word h.drawn ∷ x ∷ word (length h.office.state.settled) ∷ []) (word_more h.served);
            founder = h.founder;
            limit = h.limit;
            tickets = omega arith;
            fits = each s.views id m.0 w at (λ j u. Fits opening h.office h.drawn (h.served + 1) u)
                (fits_live opening h.office h.drawn (h.served + 1) w one (record { founder = known.0.founder; limit = known.0.limit; first = known.0.first; also = known.0.also; true_of = known.0.true_of; stamps = known.0.stamps; stamped = known.0.stamped }) tt)
                (λ j u other at'. fits_later opening h.office h.office h.drawn h.drawn h.served (h.served + 1) u (extends_refl h.office.state.settled) (stamps_refl h.office.stamps) (next_others j u other at' u.stage (λ has. has)) (h.fits j u at'));
            apart = apart_set s.views id m.0 w at (λ j u t other at' has has'. has) h.apart;
            rooted = rooted_set s.views id m.0 w at refl h.rooted;
            latest = latest_set s.views id m.0 w at h.office refl h.latest;
            kept = inl (record {
              keeper = keeper;
              home = ap (λ (c : List (ℕ × Option V)). Rattle.atomic_table.specs.Table.put_back s.homes c) held ∙ ap (λ (hs : List (slot.Option (Option V))). slice_set hs 0 (slot.some (Some keeper))) (next_home h.kept);
              stands = stands ∙ known.1.2;
              free = each s.views id m.0 w at (λ j u. HasTurn u → ⊥) (λ has. has)
                  (λ j u other at' has. other (sym (only_turn s h id j m.0 u at at' next_has (turn_ticket opening h.office h.drawn h.served u (h.fits j u at') has))));
            });
            made = h.made ∙ ap (λ (n : ℕ). length opening.state.settled + n) (sym (sum_same s.views id m.0 w at made_by refl));
            legal = h.legal;
            comes = comes_kept opening h.office s.views (set s.views id w) (calls_same s.views id m.0 w at refl) h.comes;
            counts = subst (λ (n : ℕ). RisesBy n opening.faults h.office.faults) (sym (sum_same s.views id m.0 w at rises_by refl)) h.counts;
          }

    pub leaves : Allows Rule slots id m 1 (λ n. (n + 1) % 2 ^ 64) (λ _. Leaves m)
    leaves s h len at bound = (
      idle m.0,
      gives,
      tt,
      next_rule s h at,
      ap (λ (c : List (ℕ × Option V)). (idle m.0, Rattle.atomic_table.specs.Table.rest c)) held,
    )

  -- ---- tell

  pub tells : (slots id : ℕ) (m : Mine V) → live m.0 ≡ 1 → length m.0.also ≤ length (history_seen m.0) → Allows Rule slots id m 0 (λ n. n) (λ _. Tells m)
  tells slots id m one short s h len at bound =
      let known = (live_known opening h.office h.drawn h.served m.0 one (h.fits id m.0 at)).0 in (
        m.0,
        keeps,
        tt,
        still s h 0 id m.0 at (subst (λ (ws : List ℕ). slice_set ws 0 (slice_index ws 0) ≡ ws) (sym h.words) refl) m.1,
        (refl, shorter_begins m.0.also (history_seen m.0) h.office.state.settled known.also known.first short),
      )
