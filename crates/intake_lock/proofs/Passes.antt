-- Passes that are split, joined and closed.
use Rattle.std.proofs.Common.{◌≡◌, ℕ, zero, suc, ◌+◌, ◌-◌, ◌^◌, ◌≤◌, ◌<◌, ◌≢◌, List, [], ◌∷◌, ◌++◌, length, Bool, true, false, cond, Option, Some, None, set, refl, sym, ap, subst, ◌∙◌, inl, inr, arith}
use Rattle.std.specs.Prelude.{◌⊎◌, nat_lt, sum_by, IfSome, Contains}
use Rattle.std.proofs.lemmas.Bool.Decides.{nat_tests}
use Rattle.std.proofs.lemmas.List.Sums.{sum_by-append}
use Rattle.std.proofs.lemmas.List.Elements.{Contains-append_left, Contains-append_right}
use mathlib.Core.Option as slot
use mathlib.Core.Logic.{dite}
use native.Mathlib.Decide.{ℕ_discrete}
use lib.ListN.{get_elem?}
use Rattle.atomic_table.specs.Table.{State, Splits, Joins, Final, Seen, opening as table_opening}
use Rattle.atomic_table.proofs.Lists.{at_snoc, at_longer, set_here, set_else}
use Rattle.act_model.specs.declared.entry.Entry.{Entry}
use Rattle.act_model.specs.declared.keeper.Office.{Office}
use Rattle.act_model.specs.Conducts.{Extends}
use Rattle.act_model.specs.Legal.{IsLegal}
use Rattle.intake_lock.specs.declared.view.Item.{Item}
use Rattle.intake_lock.specs.declared.view.Role.{Role}
use Rattle.intake_lock.specs.declared.view.Role.TheVariants.{Root, Branch, Spent}
use Rattle.intake_lock.specs.declared.view.Stage.{Stage}
use Rattle.intake_lock.specs.declared.view.Stage.TheVariants.{Idle}
use Rattle.intake_lock.specs.declared.view.View.{View}
use Rattle.intake_lock.specs.Items.{AreTrue, RisesBy, rises}
use Rattle.intake_lock.specs.Views.{history_seen, live, one_if_live, ticket_count, one_if_ticketed, made_by, rises_by, HasTicketAt, HasTicket, HasTurnAt, HasTurn, stem, branch, joint_view, spent_view, one_in, first_view}
use Rattle.intake_lock.specs.Rule.{MOST, word, FitsStage, IsKnown, Fits, At, Apart, Latest, IsCall, IsHome, IsOut, Standing, Closes}
use Rattle.intake_lock.proofs.Histories.{same_length, extends_length, StepLaw, extends_refl, comes_kept, are_true_later, are_true_both, rises_none}
use Rattle.intake_lock.proofs.StampLemmas.{stamps_refl, stamped_both, come_first}
use Rattle.intake_lock.proofs.Sums.{sum_set, sum_push, sum_two, sum_none, at_below}
use Rattle.intake_lock.proofs.Views.{latest_set, here, fits_live, live_known, one_there, each, apart_set, sum_same, calls_set, kept_set}

-- ---- one view more

module _ (views : List View) (w : View) where
  abbrev longer : List View
  longer = views ++ w ∷ []

  pub each_more : (P : View → Type 0) → P w → ((j : ℕ) (u : View) → At views j u → P u) → (j : ℕ) (u : View) → At longer j u → P u
  each_more P new others j u at = elim (at_snoc views w u j at) [ inl there ↦ others j u there | inr same ↦ subst P same new ]

  pub calls_more : (item : Item) → IsCall views item → IsCall longer item
  calls_more item (j, u, at, has) = (j, u, at_longer views (w ∷ []) j u at, has)

  module _ (none : (ticket : ℕ) → HasTicket w ticket → ⊥) where
    pub apart_more : Apart views → Apart longer
    apart_more apart i j x y ticket at_x at_y has has' = elim (at_snoc views w x i at_x) [
      | inl there ↦ elim (at_snoc views w y j at_y) [
        | inl there' ↦ apart i j x y ticket there there' has has'
        | inr same ↦ absurd (none ticket (subst (λ (z : View). HasTicket z ticket) (sym same) has'))
      ]
      | inr same ↦ absurd (none ticket (subst (λ (z : View). HasTicket z ticket) (sym same) has))
    ]

  module _ {V : Type 0} (office_of : V → Office) (office : Office) (homes : List (slot.Option (Option V))) where
    pub kept_more : (HasTurn w → ⊥) → IsHome office_of office homes views ⊎ IsOut office_of homes views → IsHome office_of office homes longer ⊎ IsOut office_of homes longer
    kept_more none (inl k) = inl (record { keeper = k.keeper; home = k.home; stands = k.stands; free = each_more (λ u. HasTurn u → ⊥) none (λ j u at. k.free j u at) })
    kept_more none (inr k) = inr (record { home = k.home; id = k.id; view = k.view; at = at_longer views (w ∷ []) k.id k.view k.at; turn = k.turn })

root_number : (n k : ℕ) → Root n ≡ Root k → n ≡ k
root_number n k is = cc

module _ (steps : StepLaw) {V : Type 0} (office_of : V → Office) (opening : Office) where
  abbrev Rule : State (Option V) View → Type 0
  Rule = Standing office_of opening

  -- ---- split

  module _ (id out : ℕ) (v : View) (role : v.role ≡ Root out) (rests : v.stage ≡ Idle) (room : out < MOST) where
    one_out_is : (stem v).role ≡ Root (out + 1)
    one_out_is = ap (λ (r : Role). Rattle.intake_lock.specs.Views.one_out r) role

    alive : live v ≡ 1
    alive = ap one_if_live role

    stem_alive : live (stem v) ≡ 1
    stem_alive = ap one_if_live one_out_is

    pub splits : Splits Rule id v (stem v) (branch v)
    splits s h at =
        let w : View = stem v in
        let b : View = branch v in
        let vs : List View = set s.views id w in
        let known = live_known opening h.office h.drawn h.served v alive (h.fits id v at) in
        let quiet : (HasTurn w → ⊥) = λ has. subst HasTurnAt rests has in
        let same_root = h.rooted.one id out v at role in
        let most = h.rooted.most in
        let count = h.rooted.count in
        let made_sum = sum_same s.views id v w at made_by refl in
        let rises_sum = sum_same s.views id v w at rises_by refl in
        let ticket_sum = sum_same s.views id v w at ticket_count refl in
        let live_sum = sum_same s.views id v w at live (stem_alive ∙ sym alive) in
        let made_push = sum_push made_by vs b in
        let rises_push = sum_push rises_by vs b in
        let ticket_push = sum_push ticket_count vs b in
        let live_push = sum_push live vs b in
        let made = h.made in
        let total = h.tickets in
        let outs = same_root.1 in
        record {
          office = h.office;
          drawn = h.drawn;
          served = h.served;
          words = h.words;
          founder = h.founder;
          limit = h.limit;
          tickets = omega arith;
          fits = each_more vs b (λ u. Fits opening h.office h.drawn h.served u)
              (fits_live opening h.office h.drawn h.served b refl (record { founder = known.0.founder; limit = known.0.limit; first = known.0.first; also = (h.office.state.settled, sym (Rattle.std.proofs.lemmas.List.append-nil h.office.state.settled)); true_of = tt; stamps = known.0.stamps; stamped = tt }) tt)
              (each s.views id v w at (λ j u. Fits opening h.office h.drawn h.served u)
              (fits_live opening h.office h.drawn h.served w stem_alive (record { founder = known.0.founder; limit = known.0.limit; first = known.0.first; also = known.0.also; true_of = known.0.true_of; stamps = known.0.stamps; stamped = known.0.stamped }) (subst (λ (st : Stage). FitsStage h.office h.drawn h.served w st) (sym rests) tt))
              (λ j u other at'. h.fits j u at'));
          apart = apart_more vs b (λ ticket has. has)
              (apart_set s.views id v w at (λ j u ticket other at' has has'. subst (λ (st : Stage). HasTicketAt st ticket) rests has) h.apart);
          rooted = record {
            root = id;
            out = out + 1;
            most = omega arith;
            count = omega arith;
            there = (w, at_longer vs (b ∷ []) id w (here s.views id v w at), one_out_is);
            one = λ j n u at' is.
                each_more vs b (λ u. (j n : ℕ) → At (vs ++ b ∷ []) j u → u.role ≡ Root n → (j ≡ id) × (n ≡ out + 1))
                (λ j n at' is. absurd cc)
                (λ _ u there j n at' is. roots j n u (only_there j u n at' is) is)
                j u at' j n at' is;
          };
          latest = let l = latest_set s.views id v w at h.office refl h.latest in (l.0, l.1, at_longer vs (b ∷ []) l.0 l.1 l.2, l.3);
          kept = kept_more vs b office_of h.office s.homes (λ has. has) (kept_set s.views id v w at office_of h.office s.homes (λ has. subst HasTurnAt rests has) quiet h.kept);
          made = omega arith;
          legal = h.legal;
          comes = comes_kept opening h.office s.views (vs ++ b ∷ [])
              (λ item call. calls_more vs b item (calls_set s.views id v w at (λ i has. has) item call))
              h.comes;
          counts = subst (λ (n : ℕ). RisesBy n opening.faults h.office.faults) (omega arith) h.counts;
        }
      where
        -- a root stands among the views that were there
        only_there : (j : ℕ) (u : View) (n : ℕ) → At (set s.views id (stem v) ++ branch v ∷ []) j u → u.role ≡ Root n → At (set s.views id (stem v)) j u
        only_there j u n at' is = elim (at_snoc (set s.views id (stem v)) (branch v) u j at') [
          | inl there ↦ there
          | inr same ↦ let other : Branch ≡ Root n = ap (λ (x : View). x.role) same ∙ is in absurd cc
        ]

        roots : (j n : ℕ) (u : View) → At (set s.views id (stem v)) j u → u.role ≡ Root n → (j ≡ id) × (n ≡ out + 1)
        roots j n u there is =
            each s.views id v (stem v) at (λ j u. (n : ℕ) → u.role ≡ Root n → (j ≡ id) × (n ≡ out + 1))
            (λ n is. (refl, root_number n (out + 1) (sym is ∙ one_out_is)))
            (λ j u other at'' n is. absurd (other ((h.rooted.one j n u at'' is).0 ∙ sym (h.rooted.one id out v at role).0)))
            j u there n is

  -- ---- join

  module _ (id other out : ℕ) (v w : View) (root : v.role ≡ Root out) (rests : v.stage ≡ Idle) (branched : w.role ≡ Branch) (rests' : w.stage ≡ Idle) where
    both_role : (joint_view v w).role ≡ Root (out - 1)
    both_role = ap one_in root

    both_alive : live (joint_view v w) ≡ 1
    both_alive = ap one_if_live both_role

    module _ (s : State (Option V) View) (h : Rule s) (at : At s.views id v) (apart : ¬ (other ≡ id)) (at' : At s.views other w) where
      abbrev both : View
      both = joint_view v w

      abbrev first : List View
      first = set s.views id both

      abbrev second : List View
      second = set first other spent_view

      join_at : At first other w
      join_at = set_else s.views id other both apart ∙ at'

      known_v : IsKnown opening h.office v
      known_v = (live_known opening h.office h.drawn h.served v (ap one_if_live root) (h.fits id v at)).0

      known_w : IsKnown opening h.office w
      known_w = (live_known opening h.office h.drawn h.served w (ap one_if_live branched) (h.fits other w at')).0

      true_in : (longest : List Entry) → Extends (history_seen v) longest → Extends (history_seen w) longest → AreTrue opening.founder opening.limit longest (w.mine ++ v.mine)
      true_in longest over_v over_w =
          are_true_both opening.founder opening.limit longest w.mine v.mine
          (are_true_later steps opening.founder opening.limit (history_seen w) longest w.mine over_w known_w.true_of)
          (are_true_later steps opening.founder opening.limit (history_seen v) longest v.mine over_v known_v.true_of)

      both_known : (b : Bool) → nat_lt (length (history_seen v)) (length (history_seen w)) ≡ b
          → IsKnown opening h.office (record { role = one_in v.role; stage = Idle; office = cond b w.office v.office; also = (cond b v.office w.office).state.settled; mine = w.mine ++ v.mine; made = v.made + w.made })
      both_known true is =
          record {
            founder = known_w.founder;
            limit = known_w.limit;
            first = known_w.first;
            also = known_v.first;
            true_of = true_in (history_seen w)
                (Rattle.intake_lock.proofs.Histories.shorter_begins (history_seen v) (history_seen w) h.office.state.settled known_v.first known_w.first (grind (arith, nat_tests)))
                (extends_refl (history_seen w));
            stamps = known_w.stamps;
            stamped = stamped_both h.office.stamps w.mine v.mine known_w.stamped known_v.stamped;
          }
      both_known false is =
          record {
            founder = known_v.founder;
            limit = known_v.limit;
            first = known_v.first;
            also = known_w.first;
            true_of = true_in (history_seen v)
                (extends_refl (history_seen v))
                (Rattle.intake_lock.proofs.Histories.shorter_begins (history_seen w) (history_seen v) h.office.state.settled known_w.first known_v.first (grind (arith, nat_tests)));
            stamps = known_v.stamps;
            stamped = stamped_both h.office.stamps w.mine v.mine known_w.stamped known_v.stamped;
          }

      -- the calls of both are the root's now
      at_both : At second id both
      at_both = set_else first other id spent_view (λ same. apart (sym same)) ∙ set_here s.views id both (at_below s.views id v at)

      join_calls : (item : Item) → IsCall s.views item → IsCall second item
      join_calls item (j, u, there, has) = dite (ℕ_discrete j other)
          (λ same. (id, both, at_both, Contains-append_left w.mine v.mine item (subst (λ (x : View). Contains x.mine item) (sym (one_there s.views other j w u (sym same) at' there)) has)))
          (λ not_other. dite (ℕ_discrete j id)
          (λ same. (id, both, at_both, Contains-append_right w.mine v.mine item (subst (λ (x : View). Contains x.mine item) (sym (one_there s.views id j v u (sym same) at there)) has)))
          (λ not_id. (j, u, set_else first other j spent_view not_other ∙ (set_else s.views id j both not_id ∙ there), has)))

      both_latest : (b : Bool) → nat_lt (length (history_seen v)) (length (history_seen w)) ≡ b → (history_seen v ≡ h.office.state.settled) ⊎ (history_seen w ≡ h.office.state.settled)
          → (cond b w.office v.office).state.settled ≡ h.office.state.settled
      both_latest true is (inl all) =
          let whole = ap length all in
          let within = extends_length (history_seen w) h.office.state.settled known_w.first in
          absurd (grind (arith, nat_tests))
      both_latest true is (inr all) = all
      both_latest false is (inl all) = all
      both_latest false is (inr all) =
          let whole = ap length all in
          same_length (history_seen v) h.office.state.settled known_v.first (grind (arith, nat_tests))

      join_latest : Latest h.office s.views → Latest h.office second
      join_latest (j, u, there, is) = dite (ℕ_discrete j other)
          (λ same. (id, both, at_both, both_latest (nat_lt (length (history_seen v)) (length (history_seen w))) refl (inr (ap history_seen (one_there s.views other j w u (sym same) at' there) ∙ is))))
          (λ not_other. dite (ℕ_discrete j id)
          (λ same. (id, both, at_both, both_latest (nat_lt (length (history_seen v)) (length (history_seen w))) refl (inl (ap history_seen (one_there s.views id j v u (sym same) at there) ∙ is))))
          (λ not_id. (j, u, set_else first other j spent_view not_other ∙ (set_else s.views id j both not_id ∙ there), is)))

      join_roots : (j n : ℕ) (u : View) → At second j u → u.role ≡ Root n → (j ≡ id) × (n ≡ out - 1)
      join_roots j n u there is =
          each first other w spent_view join_at (λ j u. (n : ℕ) → u.role ≡ Root n → (j ≡ id) × (n ≡ out - 1))
          (λ n is. absurd cc)
          (λ j u not_other there n is. each s.views id v both at (λ j u. (n : ℕ) → u.role ≡ Root n → (j ≡ id) × (n ≡ out - 1))
          (λ n is. (refl, root_number n (out - 1) (sym is ∙ both_role)))
          (λ j u not_id there n is. absurd (not_id ((h.rooted.one j n u there is).0 ∙ sym (h.rooted.one id out v at root).0)))
          j u there n is)
          j u there n is

      join_rule : Rule (record { words = s.words; homes = s.homes; views = second })
      join_rule =
          let same_root = (h.rooted.one id out v at root).1 in
          let most = h.rooted.most in
          let count = h.rooted.count in
          let two = sum_two live s.views id other v w (λ same. apart (sym same)) at at' in
          let live_v = ap one_if_live root in
          let live_w = ap one_if_live branched in
          let idle_weighs = ap one_if_ticketed rests in
          let idle_weighs' = ap one_if_ticketed rests' in
          let live_first = sum_set live s.views id v both at in
          let live_second = sum_set live first other w spent_view join_at in
          let live_both = both_alive in
          let made_first = sum_set made_by s.views id v both at in
          let made_second = sum_set made_by first other w spent_view join_at in
          let rises_first = sum_set rises_by s.views id v both at in
          let rises_second = sum_set rises_by first other w spent_view join_at in
          let rises_both = sum_by-append (λ (i : Item). i.rise) w.mine v.mine in
          let ticket_first = sum_set ticket_count s.views id v both at in
          let ticket_second = sum_set ticket_count first other w spent_view join_at in
          let made = h.made in
          let total = h.tickets in
          record {
            office = h.office;
            drawn = h.drawn;
            served = h.served;
            words = h.words;
            founder = h.founder;
            limit = h.limit;
            tickets = omega arith;
            fits = each first other w spent_view join_at (λ j u. Fits opening h.office h.drawn h.served u)
                (record { stage = refl; calls = refl; made = refl })
                (λ j u not_other there. each s.views id v both at (λ j u. Fits opening h.office h.drawn h.served u)
                (fits_live opening h.office h.drawn h.served both both_alive (both_known (nat_lt (length (history_seen v)) (length (history_seen w))) refl) tt)
                (λ j u not_id there. h.fits j u there)
                j u there);
            apart = apart_set first other w spent_view join_at (λ j u ticket not_other there has has'. has)
                (apart_set s.views id v both at (λ j u ticket not_id there has has'. has) h.apart);
            rooted = record { root = id; out = out - 1; most = omega arith; count = omega arith; there = (both, at_both, both_role); one = λ j n u there is. join_roots j n u there is };
            latest = join_latest h.latest;
            kept = kept_set first other w spent_view join_at office_of h.office s.homes (λ has. subst HasTurnAt rests' has) (λ has. has)
                (kept_set s.views id v both at office_of h.office s.homes (λ has. subst HasTurnAt rests has) (λ has. has) h.kept);
            made = omega arith;
            legal = h.legal;
            comes = comes_kept opening h.office s.views second join_calls h.comes;
            counts = subst (λ (n : ℕ). RisesBy n opening.faults h.office.faults) (omega arith) h.counts;
          }

    pub joins : Joins Rule id v other w (joint_view v w) spent_view
    joins s h at apart there =
        join_rule s h at apart (sym (set_else s.views id other (joint_view v w) apart) ∙ there)

-- the shorter history is no longer than the longer one
pub also_short : (v w : View) → length (joint_view v w).also ≤ length (history_seen (joint_view v w))
also_short v w = by (nat_lt (length (history_seen v)) (length (history_seen w))) refl
  where
    by : (b : Bool) → nat_lt (length (history_seen v)) (length (history_seen w)) ≡ b → length (cond b v.office w.office).state.settled ≤ length (cond b w.office v.office).state.settled
    by true is = grind (arith, nat_tests)
    by false is = grind (arith, nat_tests)

-- ---- the opening and the end

module _ {V : Type 0} (office_of : V → Office) where
  pub opens : (keeper : V) (n : ℕ) → n ≡ length (office_of keeper).state.settled → n < 2 ^ 64 → (office_of keeper).state.doubt ≡ None
      → Standing office_of (office_of keeper) (table_opening (0 ∷ 0 ∷ n ∷ []) (Some keeper ∷ []) (first_view (office_of keeper)))
  opens keeper n is within settled =
      let o : Office = office_of keeper in
      let v : View = first_view o in
      record {
        office = o;
        drawn = 0;
        served = 0;
        words = ap (λ (x : ℕ). 0 ∷ 0 ∷ x ∷ []) (word_of n (length o.state.settled) is within);
        founder = refl;
        limit = refl;
        tickets = refl;
        fits = λ id u at. subst (λ (x : View). Fits o o 0 0 x) (only id u at).1
            (record { founder = refl; limit = refl; first = extends_refl o.state.settled; also = (o.state.settled, sym (Rattle.std.proofs.lemmas.List.append-nil o.state.settled)); true_of = tt; stamps = stamps_refl o.stamps; stamped = tt }, tt);
        apart = λ i j x y ticket at_x at_y has has'. absurd (subst (λ (z : View). HasTicket z ticket) (sym (only i x at_x).1) has);
        rooted = record {
          root = 0;
          out = 0;
          most = omega arith;
          count = refl;
          there = (v, refl, refl);
          one = λ id n u at is. ((only id u at).0, sym (root_number 0 n (ap (λ (x : View). x.role) (only id u at).1 ∙ is)));
        };
        latest = (0, v, refl, refl);
        kept = inl (record {
          keeper = keeper;
          home = refl;
          stands = refl;
          free = λ id u at has. subst HasTurn (sym (only id u at).1) has;
        });
        made = none_more (length o.state.settled);
        legal = λ was. (was, subst (λ (d : Option Entry). IfSome d (λ e. IsLegal o.founder (e ∷ o.state.settled))) (sym settled) tt);
        comes = record { newer = []; grown = refl; origins = tt; doubt = subst (λ (d : Option Entry). IfSome d (λ e. Rattle.intake_lock.specs.Rule.IsOrigin o (v ∷ []) o.state.settled e)) (sym settled) tt; stamps = come_first o (v ∷ []) };
        counts = rises_none o.faults;
      }
    where
      word_of : (n l : ℕ) → n ≡ l → n < 2 ^ 64 → n ≡ word l
      word_of n l is within = omega arith

      none_more : (n : ℕ) → n ≡ n + 0
      none_more n = omega arith

      only : (id : ℕ) (u : View) → At (first_view (office_of keeper) ∷ []) id u → (id ≡ 0) × (first_view (office_of keeper) ≡ u)
      only zero u at = (refl, slot.some-injective (first_view (office_of keeper)) u at)
      only (suc id) u at = absurd (slot.some-ne-none u (sym at))

  module _ (opening : Office) (id : ℕ) (v : View) (root : v.role ≡ Root 0) (rests : v.stage ≡ Idle) (s : State (Option V) View) (h : Standing office_of opening s) (at : At s.views id v) where
    close_known : IsKnown opening h.office v
    close_known = (live_known opening h.office h.drawn h.served v (ap one_if_live root) (h.fits id v at)).0

    gone_role : (u : View) (role : Role) → one_if_live role ≡ 0 → Rattle.intake_lock.specs.Rule.FitsRole opening h.office h.drawn h.served u role → Rattle.intake_lock.specs.Rule.IsGone u
    gone_role u (Root out) none fits = absurd (omega arith)
    gone_role u Branch none fits = absurd (omega arith)
    gone_role u Spent none fits = fits

    -- every other pass was joined
    others_gone : (j : ℕ) (u : View) → j ≢ id → At s.views j u → Rattle.intake_lock.specs.Rule.IsGone u
    others_gone j u other there =
        let two = sum_two live s.views id j v u (λ same. other (sym same)) at there in
        let alive : live v ≡ 1 = ap one_if_live root in
        let count = h.rooted.count in
        let outs = (h.rooted.one id 0 v at root).1 in
        gone_role u u.role (omega arith) (h.fits j u there)

    close_home : IsHome office_of h.office s.homes s.views ⊎ IsOut office_of s.homes s.views → IsHome office_of h.office s.homes s.views
    close_home (inl k) = k
    close_home (inr k) = dite (ℕ_discrete k.id id)
        (λ same. absurd (subst HasTurnAt rests (subst HasTurn (sym (one_there s.views id k.id v k.view (sym same) at k.at)) k.turn)))
        (λ other. absurd (subst HasTurnAt (others_gone k.id k.view other k.at).stage k.turn))

    only_mine : (item : Item) → IsCall s.views item → IsCall (v ∷ []) item
    only_mine item (j, u, there, has) = dite (ℕ_discrete j id)
        (λ same. (0, v, refl, subst (λ (x : View). Contains x.mine item) (sym (one_there s.views id j v u (sym same) at there)) has))
        (λ other. absurd (nothing item (subst (λ (items : List Item). Contains items item) (others_gone j u other there).calls has)))
      where
        nothing : (item : Item) → Contains [] item → ⊥
        nothing item (k, low, is) = omega arith

    sum_only : (f : View → ℕ) → f spent_view ≡ 0 → ((j : ℕ) (u : View) → j ≢ id → At s.views j u → f u ≡ 0) → sum_by f s.views ≡ f v
    sum_only f none others =
        let all = sum_set f s.views id v spent_view at in
        let nothing = sum_none f (set s.views id spent_view) (λ j u there. each s.views id v spent_view at (λ j u. f u ≡ 0) none others j u there) in
        omega arith

    pub closes : (keeper : V) × (get_elem? s.homes 0 ≡ slot.some (slot.some (Some keeper))) × Closes opening v (office_of keeper)
    closes =
        let k = close_home h.kept in
        let made = sum_only made_by refl (λ j u other there. (others_gone j u other there).made) in
        let rises = sum_only rises_by refl (λ j u other there. ap Rattle.intake_lock.specs.Items.rises (others_gone j u other there).calls) in (
          k.keeper,
          ap (λ (hs : List (slot.Option (Option V))). get_elem? hs 0) k.home,
          subst (λ (o : Office). Closes opening v o) (sym k.stands)
              (record {
                founder = h.founder;
                limit = h.limit;
                seen = close_known.first;
                made = h.made ∙ ap (λ (n : ℕ). length opening.state.settled + n) made;
                legal = h.legal;
                comes = comes_kept opening h.office s.views (v ∷ []) only_mine h.comes;
                counts = subst (λ (n : ℕ). RisesBy n opening.faults h.office.faults) rises h.counts;
                stamped = close_known.stamped;
              }),
        )

-- ---- what a join tells

pub may_split : (role : Role) → Rattle.intake_lock.specs.Passes.MaySplit role → (out : ℕ) × (role ≡ Root out) × (out < MOST)
may_split (Root out) room = (out, refl, room)
may_split Branch room = absurd room
may_split Spent room = absurd room

pub is_root : (role : Role) → Rattle.intake_lock.specs.Passes.IsRoot role → (out : ℕ) × (role ≡ Root out)
is_root (Root out) is = (out, refl)
is_root Branch is = absurd is
is_root Spent is = absurd is

pub joined_live : (v w : View) (out : ℕ) → v.role ≡ Root out → live (joint_view v w) ≡ 1
joined_live v w out root = ap (λ (r : Role). one_if_live (one_in r)) root

-- ---- what a closed table has

module _ {V : Type 0} (office_of : V → Office) (opening : Office) (id : ℕ) (v : View) (root : v.role ≡ Root 0) (rests : v.stage ≡ Idle) (words : List ℕ) (slots : List (Option V)) where
  pub close_final : Final (Seen (Standing office_of opening) id v) words slots → (keeper : V) × (get_elem? slots 0 ≡ slot.some (Some keeper)) × Closes opening v (office_of keeper)
  close_final f =
      let e = closes office_of opening id v root rests f.0 f.1.0 f.1.1 in (e.0, f.4 0 (Some e.0) e.1, e.2)

  same_taken : (taken other : Option V) → get_elem? slots 0 ≡ slot.some taken → get_elem? slots 0 ≡ slot.some other → taken ≡ other
  same_taken taken other here there = slot.some-injective taken other (sym here ∙ there)

  pub close_some : (taken : Option V) → Final (Seen (Standing office_of opening) id v) words slots → get_elem? slots 0 ≡ slot.some taken → taken ≡ None → ⊥
  close_some taken f at none = let e = close_final f in let same = sym (same_taken taken (Some e.0) at e.1) ∙ none in cc

  pub close_value : (taken : Option V) (value : V) → Final (Seen (Standing office_of opening) id v) words slots → get_elem? slots 0 ≡ slot.some taken → taken ≡ Some value → Closes opening v (office_of value)
  close_value taken value f at is =
      let e = close_final f in
      let same : Some e.0 ≡ Some value = sym (same_taken taken (Some e.0) at e.1) ∙ is in
      let keeper : e.0 ≡ value = cc in
      subst (λ (k : V). Closes opening v (office_of k)) keeper e.2
