-- What a statement that fails leaves, and what a query leaves.
use Rattle.std.proofs.Common.{◌≡◌, ◌⊎◌, inl, inr, ℕ, List, Err, ap, subst, sym, ◌∙◌}
use Rattle.sqlite.specs.declared.error.Error.{Error}
use Rattle.sqlite.specs.Order.{Row}
use Rattle.sqlite.specs.Clock.{timed}
use Rattle.sqlite.specs.Effect.{Database}
use Rattle.sqlite.specs.Listing.{understood}
use Rattle.sqlite.specs.State.{State, KeepsCommit, IsUnchanged, IsRolledBack, ExecutesInside, Shown, ShowsRows, FailsToQuery, FailsToShow, IsNotRun, Survives, CommitsShowing}
use Rattle.sqlite.proofs.Callers.{IsPlain, never_commits}
use Rattle.sqlite.proofs.StateLemmas.{survives_weaker}
use Rattle.mirror_store.specs.declared.rows.MirrorRows.{MirrorRows}
use Rattle.mirror_sqlite.specs.Tables.{mirror_schema}
use Rattle.mirror_sqlite.specs.Holding.{Holds, KeepsTables}

unchanged_keeps : (old new : State) → IsUnchanged old new → KeepsCommit old new
unchanged_keeps old new same = record { was_open = λ _. same.0.was_open; committed = λ _. same.0.committed_is }

rolled_back_keeps : (old new : State) → IsRolledBack old new → KeepsCommit old new
rolled_back_keeps old new back = record { was_open = back.was_open; committed = λ now. (back.undone now).1 }

-- inside a transaction it leaves the last commit
pub failed_keeps : (sql : List ℕ) (params : Row) (old new : State) (e : Error) → ExecutesInside 0 sql params old new (Err e)
    → KeepsCommit old new
failed_keeps sql params old new e (inl h) =
    elim h.1 [ inl same ↦ unchanged_keeps old new same | inr back ↦ rolled_back_keeps old new back ]
failed_keeps sql params old new e (inr h) = unchanged_keeps old new h.2

module _ (sql : List ℕ) (params : Row) (old new : State) (plain : IsPlain (understood old.now.schema sql)) where
  shown_leaves : (rows : List Row) → Shown sql params old new rows → IsUnchanged old new
  unfolding Shown
  shown_leaves rows h =
      let none = (subst IsPlain h.1.is plain).0 in
      (subst (ShowsRows old new sql h.0 (timed params h.0.formats h.1.now) rows) none h.2).3

  not_run_leaves : (e : Error) → IsNotRun old new sql params e → IsUnchanged old new ⊎ IsRolledBack old new
  unfolding IsNotRun
  not_run_leaves e (inl h) = inl h.1
  not_run_leaves e (inr h) = inr h.3

  failed_leaves : (e : Error) → FailsToQuery sql params old new e → IsUnchanged old new ⊎ IsRolledBack old new
  unfolding FailsToQuery
  failed_leaves e (inl h) = not_run_leaves e h
  failed_leaves e (inr h) =
      let none = (subst IsPlain h.1.is plain).0 in
      inl (subst (FailsToShow old new sql h.0 (timed params h.0.formats h.1.now) e) none h.2).3

holds_now : (old new : State) (lists : MirrorRows) → new.now ≡ old.now → Holds old lists → Holds new lists
holds_now old new lists same held = record {
  schema = ap (λ (d : Database). d.schema) same ∙ held.schema;
  objects = ap (λ (d : Database). d.trees 0) same ∙ held.objects;
  sights = ap (λ (d : Database). d.trees 2) same ∙ held.sights;
}

module _ (sql : List ℕ) (params : Row) (plain : IsPlain (understood mirror_schema sql)) (old new : State) where
  plain_now : (lists : MirrorRows) → Holds old lists → IsPlain (understood old.now.schema sql)
  plain_now lists held = subst (λ s. IsPlain (understood s sql)) (sym held.schema) plain

  pub shown_keeps : (rows : List Row) → Shown sql params old new rows → KeepsTables old new
  shown_keeps rows h lists held settled is_open =
      holds_now old new lists (shown_leaves sql params old new (plain_now lists held) rows h).0.now_is held

  pub failed_query_keeps : (e : Error) → FailsToQuery sql params old new e → KeepsTables old new
  failed_query_keeps e h lists held settled is_open =
      elim (failed_leaves sql params old new (plain_now lists held) e h) [
        | inl same ↦ holds_now old new lists same.0.now_is held
        | inr back ↦ holds_now old new lists ((back.undone is_open).0 ∙ sym settled) held
      ]

  pub query_survives : (lists : MirrorRows) → Holds old lists → Survives old new (CommitsShowing sql params old)
      → Survives old new (λ _. ⊥)
  query_survives lists held one =
      survives_weaker old new _ (λ _. ⊥) (λ _ db. never_commits sql params old db (plain_now lists held)) one
