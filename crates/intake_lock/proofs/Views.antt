-- The views of all passes, where one of them changes.
use Rattle.std.proofs.Common.{◌≡◌, ℕ, ◌≤◌, ◌<◌, ◌≢◌, List, set, sym, ap, subst, ◌∙◌, inl, inr, arith}
use Rattle.std.specs.Prelude.{◌⊎◌, sum_by, Option, Contains}
use mathlib.Core.Option.{some-injective}
use mathlib.Core.Logic.{dite}
use native.Mathlib.Decide.{ℕ_discrete}
use lib.ListN.{get_elem?}
use Rattle.atomic_table.proofs.Lists.{at_set, set_here, set_else}
use Rattle.act_model.specs.declared.keeper.Office.{Office}
use Rattle.act_model.specs.Conducts.{Extends}
use Rattle.intake_lock.specs.declared.view.Item.{Item}
use Rattle.intake_lock.specs.declared.view.Role.{Role}
use Rattle.intake_lock.specs.declared.view.Role.TheVariants.{Root, Branch, Spent}
use Rattle.intake_lock.specs.declared.view.Stage.{Stage}
use Rattle.intake_lock.specs.declared.view.Stage.TheVariants.{Idle, Waiting, Holding}
use Rattle.intake_lock.specs.declared.view.View.{View}
use Rattle.intake_lock.specs.Views.{history_seen, live, one_if_live, ticket_count, one_if_ticketed, HasTicketAt, HasTicket, HasTurnAt, HasTurn}
use Rattle.intake_lock.specs.Stamps.{StampsOn}
use Rattle.intake_lock.specs.Rule.{FitsStage, IsKnown, FitsRole, Fits, At, Apart, Rooted, Latest, IsCall, IsHome, IsOut}
use Rattle.intake_lock.proofs.Histories.{extends_on}
use Rattle.intake_lock.proofs.StampLemmas.{stamps_on, stamped_later}
use Rattle.intake_lock.proofs.Sums.{sum_set, at_below}

-- ---- one view

module _ (opening office : Office) (drawn served : ℕ) (v : View) where
  fits_role : (role : Role) → one_if_live role ≡ 1 → IsKnown opening office v → FitsStage office drawn served v v.stage → FitsRole opening office drawn served v role
  fits_role (Root out) one known stage = (known, stage)
  fits_role Branch one known stage = (known, stage)
  fits_role Spent one known stage = absurd (omega arith)

  -- a live view of the office
  pub fits_live : live v ≡ 1 → IsKnown opening office v → FitsStage office drawn served v v.stage → Fits opening office drawn served v
  fits_live one known stage = fits_role v.role one known stage

  role_known : (role : Role) → one_if_live role ≡ 1 → FitsRole opening office drawn served v role → IsKnown opening office v × FitsStage office drawn served v v.stage
  role_known (Root out) one fits = fits
  role_known Branch one fits = fits
  role_known Spent one fits = absurd (omega arith)

  pub live_known : live v ≡ 1 → Fits opening office drawn served v → IsKnown opening office v × FitsStage office drawn served v v.stage
  live_known one fits = role_known v.role one fits

  stage_range : (stage : Stage) (ticket : ℕ) → FitsStage office drawn served v stage → HasTicketAt stage ticket → (served ≤ ticket) × (ticket < drawn)
  stage_range Idle ticket fits has = absurd has
  stage_range (Waiting t) ticket fits has = let low = fits.0 in let high = fits.1 in (omega arith, omega arith)
  stage_range (Holding t) ticket fits has = let is = fits.0 in let high = fits.1 in (omega arith, omega arith)

  no_ticket : (ticket : ℕ) → v.stage ≡ Idle → HasTicket v ticket → ⊥
  no_ticket ticket is has = subst (λ (s : Stage). HasTicketAt s ticket) is has

  role_range : (role : Role) (ticket : ℕ) → FitsRole opening office drawn served v role → HasTicket v ticket → (served ≤ ticket) × (ticket < drawn)
  role_range (Root out) ticket fits has = stage_range v.stage ticket fits.1 has
  role_range Branch ticket fits has = stage_range v.stage ticket fits.1 has
  role_range Spent ticket fits has = absurd (no_ticket ticket fits.stage has)

  -- a ticket that is out was drawn and not called past
  pub ticket_range : (ticket : ℕ) → Fits opening office drawn served v → HasTicket v ticket → (served ≤ ticket) × (ticket < drawn)
  ticket_range ticket fits has = role_range v.role ticket fits has

  stage_turn : (stage : Stage) → FitsStage office drawn served v stage → HasTurnAt stage → HasTicketAt stage served
  stage_turn Idle fits has = absurd has
  stage_turn (Waiting t) fits has = absurd has
  stage_turn (Holding t) fits has = fits.0

  no_turn : v.stage ≡ Idle → HasTurn v → ⊥
  no_turn is has = subst HasTurnAt is has

  role_turn : (role : Role) → FitsRole opening office drawn served v role → HasTurn v → HasTicket v served
  role_turn (Root out) fits has = stage_turn v.stage fits.1 has
  role_turn Branch fits has = stage_turn v.stage fits.1 has
  role_turn Spent fits has = absurd (no_turn fits.stage has)

  -- whoever has the turn has the ticket that is served
  pub turn_ticket : Fits opening office drawn served v → HasTurn v → HasTicket v served
  turn_ticket fits has = role_turn v.role fits has

  stage_weighs : (role : Role) → FitsRole opening office drawn served v role → ticket_count v ≤ one_if_live role
  stage_weighs (Root out) fits = one v.stage
    where
      one : (stage : Stage) → one_if_ticketed stage ≤ 1
      one Idle = omega arith
      one (Waiting t) = omega arith
      one (Holding t) = omega arith
  stage_weighs Branch fits = one v.stage
    where
      one : (stage : Stage) → one_if_ticketed stage ≤ 1
      one Idle = omega arith
      one (Waiting t) = omega arith
      one (Holding t) = omega arith
  stage_weighs Spent fits = let none = ap one_if_ticketed fits.stage in omega arith

  -- only live views have tickets
  pub ticket_weighs : Fits opening office drawn served v → ticket_count v ≤ live v
  ticket_weighs fits = stage_weighs v.role fits

-- a view of a longer history, with other tickets
pub known_later : (opening office later : Office) (v : View) → Extends office.state.settled later.state.settled → StampsOn office.stamps later.stamps → IsKnown opening office v → IsKnown opening later v
known_later opening office later v grows on k =
    record {
      founder = k.founder;
      limit = k.limit;
      first = extends_on (history_seen v) office.state.settled later.state.settled k.first grows;
      also = extends_on v.also office.state.settled later.state.settled k.also grows;
      true_of = k.true_of;
      stamps = stamps_on v.office.stamps office.stamps later.stamps k.stamps on;
      stamped = stamped_later office.stamps later.stamps v.mine on k.stamped;
    }

fits_role_later : (opening office later : Office) (drawn drawn' served served' : ℕ) (v : View) (role : Role) → Extends office.state.settled later.state.settled → StampsOn office.stamps later.stamps
    → (FitsStage office drawn served v v.stage → FitsStage later drawn' served' v v.stage) → FitsRole opening office drawn served v role → FitsRole opening later drawn' served' v role
fits_role_later opening office later drawn drawn' served served' v (Root out) grows on stage (known, at) = (known_later opening office later v grows on known, stage at)
fits_role_later opening office later drawn drawn' served served' v Branch grows on stage (known, at) = (known_later opening office later v grows on known, stage at)
fits_role_later opening office later drawn drawn' served served' v Spent grows on stage fits = fits

pub fits_later : (opening office later : Office) (drawn drawn' served served' : ℕ) (v : View) → Extends office.state.settled later.state.settled → StampsOn office.stamps later.stamps
    → (FitsStage office drawn served v v.stage → FitsStage later drawn' served' v v.stage) → Fits opening office drawn served v → Fits opening later drawn' served' v
fits_later opening office later drawn drawn' served served' v grows on stage fits = fits_role_later opening office later drawn drawn' served served' v v.role grows on stage fits

-- ---- one view in the place of another

-- two views at one place are one
pub one_there : (views : List View) (i j : ℕ) (v u : View) → i ≡ j → At views i v → At views j u → v ≡ u
one_there views i j v u same at at' = some-injective v u (sym at ∙ ap (λ (k : ℕ). get_elem? views k) same ∙ at')

module _ (views : List View) (id : ℕ) (v w : View) (at : At views id v) where
  abbrev pub changed : List View
  changed = set views id w

  pub here : At changed id w
  here = set_here views id w (at_below views id v at)

  -- what holds of the new view and of all others holds of all
  pub each : (P : ℕ → View → Type 0) → P id w → ((j : ℕ) (u : View) → j ≢ id → At views j u → P j u) → (j : ℕ) (u : View) → At changed j u → P j u
  each P new others j u at' = elim (at_set views id j w u at') [
    | inl is ↦ subst (λ (x : View). P j x) is.1 (subst (λ (k : ℕ). P k w) (sym is.0) new)
    | inr is ↦ others j u is.0 is.1
  ]

  pub apart_set : ((j : ℕ) (u : View) (ticket : ℕ) → j ≢ id → At views j u → HasTicket w ticket → HasTicket u ticket → ⊥) → Apart views → Apart changed
  apart_set new apart i j x y ticket at_x at_y has has' = elim (at_set views id i w x at_x) [
    | inl is ↦ elim (at_set views id j w y at_y) [
      | inl js ↦ is.0 ∙ sym js.0
      | inr js ↦ absurd (new j y ticket js.0 js.1 (subst (λ (z : View). HasTicket z ticket) (sym is.1) has) has')
    ]
    | inr is ↦ elim (at_set views id j w y at_y) [
      | inl js ↦ absurd (new i x ticket is.0 is.1 (subst (λ (z : View). HasTicket z ticket) (sym js.1) has') has)
      | inr js ↦ apart i j x y ticket is.1 js.1 has has'
    ]
  ]

  pub sum_same : (f : View → ℕ) → f w ≡ f v → sum_by f changed ≡ sum_by f views
  sum_same f same = let s = sum_set f views id v w at in omega arith

  pub rooted_set : w.role ≡ v.role → Rooted views → Rooted changed
  rooted_set same r =
      record {
        root = r.root;
        out = r.out;
        most = r.most;
        count = sum_same live (ap one_if_live same) ∙ r.count;
        there = dite (ℕ_discrete r.root id)
            (λ is. (w, ap (λ (k : ℕ). get_elem? changed k) is ∙ here, same ∙ ap (λ (x : View). x.role) (one_there views id r.root v r.there.0 (sym is) at r.there.1) ∙ r.there.2))
            (λ other. (r.there.0, set_else views id r.root w other ∙ r.there.1, r.there.2));
        one = λ j n u at' is.
            each (λ j u. (n : ℕ) → u.role ≡ Root n → (j ≡ r.root) × (n ≡ r.out)) (λ n is. r.one id n v at (sym same ∙ is)) (λ j u other at n is. r.one j n u at is) j u at' n is;
      }

  pub latest_set : (office : Office) → history_seen w ≡ history_seen v → Latest office views → Latest office changed
  latest_set office same (j, u, there, is) = dite (ℕ_discrete j id)
      (λ j_is. (id, w, here, same ∙ ap history_seen (one_there views id j v u (sym j_is) at there) ∙ is))
      (λ other. (j, u, set_else views id j w other ∙ there, is))

  pub calls_set : ((item : Item) → Contains v.mine item → Contains w.mine item) → (item : Item) → IsCall views item → IsCall changed item
  calls_set kept item (j, u, at', has) = dite (ℕ_discrete j id)
      (λ same. (id, w, here, kept item (subst (λ (x : View). Contains x.mine item) (sym (one_there views id j v u (sym same) at at')) has)))
      (λ other. (j, u, set_else views id j w other ∙ at', has))

  pub calls_same : w.mine ≡ v.mine → (item : Item) → IsCall views item → IsCall changed item
  calls_same same = calls_set (λ item has. subst (λ (items : List Item). Contains items item) (sym same) has)

  -- the turn is where it was, if neither view has it
  module _ {V : Type 0} (office_of : V → Office) (office : Office) (homes : List (mathlib.Core.Option.Option (Option V))) where
    pub kept_set : (HasTurn v → ⊥) → (HasTurn w → ⊥) → IsHome office_of office homes views ⊎ IsOut office_of homes views → IsHome office_of office homes changed ⊎ IsOut office_of homes changed
    kept_set none none' (inl k) =
        inl (record { keeper = k.keeper; home = k.home; stands = k.stands; free = each (λ j u. HasTurn u → ⊥) none' (λ j u other at. k.free j u at) })
    kept_set none none' (inr k) =
        inr (record {
          home = k.home;
          id = k.id;
          view = k.view;
          at = set_else views id k.id w (λ same. none (subst HasTurn (sym (one_there views id k.id v k.view (sym same) at k.at)) k.turn)) ∙ k.at;
          turn = k.turn;
        })
