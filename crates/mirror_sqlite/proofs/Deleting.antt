-- What the texts that empty a table do.
use Rattle.std.proofs.Common.{◌≡◌, ◌⊎◌, inl, inr, ℕ, List, [], ◌∷◌, map, false, None, Ok, Err}
use Rattle.std.proofs.Common.{Result, refl, sym, ap, subst, ◌∙◌, arith}
use Rattle.std.specs.List.{AllByRecursion}
use Rattle.std.proofs.lemmas.List.Sorted.{IsPermutation-sym, All-permutation}
use Rattle.std.proofs.lemmas.List.Elements.{All-from_recursion, recursion_from_All}
use Rattle.sqlite.specs.declared.types.Value.TheVariants.{Null}
use Rattle.sqlite.specs.Order.{Row}
use Rattle.sqlite.specs.Query.{Output}
use Rattle.sqlite.specs.Program.{overlay}
use Rattle.sqlite.specs.Command.TheVariants.{Delete}
use Rattle.sqlite.specs.Rowids.TheVariants.{Given}
use Rattle.sqlite.specs.Tree.{Trees, rowid, has_rowid}
use Rattle.sqlite.specs.Edit.{id_in, edit_of, without_all}
use Rattle.sqlite.specs.Rows.{Written}
use Rattle.sqlite.specs.Does.{Tally, Does}
use Rattle.sqlite.specs.Effect.{Database}
use Rattle.sqlite.specs.Listing.{understood}
use Rattle.sqlite.specs.State.{State, mode_of, Executes}
use Rattle.sqlite.proofs.Callers.{statement_of, runs_as, one_step}
use Rattle.sqlite_rules.specs.Calls.{ids_of}
use Rattle.sqlite_keyed.proofs.ListLemmas.{all_weaker}
use Rattle.mirror_sqlite.specs.Tables.{mirror_schema, object_table, sight_table}
use Rattle.mirror_store.specs.declared.rows.ObjectRow.{ObjectRow}
use Rattle.mirror_store.specs.declared.rows.SightRow.{SightRow}
use Rattle.mirror_sqlite.specs.Stored.{stored_object, stored_sight}
use Rattle.mirror_sqlite.specs.Holding.{LosesSights, LosesObjects}
use Rattle.mirror_sqlite.proofs.Commands.{empty_sights, empty_sights_is, empty_objects, empty_objects_is, rowids_query, alone}
use Rattle.mirror_sqlite.proofs.Rows.{IsKeyed, IsSpared, emptied, hit, Ordered, answered_all, outputs}

-- a part that gave a value did not stop on the way
pub went : {B E R : Type 0} {b : B} {Stops : E → Type 0} → ((stop : E) × Stops stop × (Ok b ≡ Err stop)) ⊎ R → R
went (inl stopped) = absurd (let e = stopped.2 in cc)
went (inr on) = on

pub same_value : {B E : Type 0} {a b : B} → ◌≡◌ {A = Result B E} (Ok a) (Ok b) → a ≡ b
same_value e = cc

module _ (row : Row) where
  shown_back : (ordered : List Output) → IsSpared (ids_of (map (λ o. o.1) ordered)) row
      → AllByRecursion (λ (o : Output). has_rowid (id_in (rowid o.1)) row ≡ false) ordered
  shown_back [] spared = tt
  shown_back (o ∷ more) spared = (spared.0, shown_back more spared.1)

  rows_back : (tree : ℕ) (rows : List Row)
      → AllByRecursion (λ (o : Output). has_rowid (id_in (rowid o.1)) row ≡ false) (outputs (rowids_query tree) [] rows)
      → IsSpared (ids_of rows) row
  rows_back tree [] spared = tt
  rows_back tree (r ∷ more) spared = (spared.0, rows_back tree more spared.1)

-- a table that loses the rows whose rowids the query gives is empty
pub loses_all : (tree : ℕ) (rows shown : List Row) → AllByRecursion IsKeyed rows → Ordered (rowids_query tree) [] rows shown
    → without_all rows (ids_of shown) ≡ []
loses_all tree rows shown keyed h = emptied (ids_of shown) rows (all_weaker _ _ missed rows (hit rows keyed))
  where
    missed : (row : Row) → ¬ IsSpared (ids_of rows) row → ¬ IsSpared (ids_of shown) row
    missed row none spared =
        let P = λ (o : Output). has_rowid (id_in (rowid o.1)) row ≡ false in
        let all = All-from_recursion P h.ordered (shown_back row h.ordered (subst (λ s. IsSpared (ids_of s) row) h.shown_is spared)) in
        let back = recursion_from_All P _ (All-permutation P h.ordered _ (IsPermutation-sym _ _ h.same) all) in
        none (rows_back row tree rows back)

module _ (old new : State) (has : old.now.schema ≡ mirror_schema) where
  -- the trees after `DELETE FROM sight`
  pub deletes_sights : (count : ℕ) → Executes empty_sights [] old new (Ok count) → AllByRecursion IsKeyed (old.now.trees 2)
      → (new.now.schema ≡ mirror_schema) × (new.now.trees 0 ≡ old.now.trees 0) × (new.now.trees 2 ≡ [])
  deletes_sights count h keyed =
      let db = old.now.trees in
      let command = Delete 1 (alone (rowids_query 2)) in
      let w = runs_as empty_sights [] old new mirror_schema has command empty_sights_is.0 empty_sights_is.1 count h in
      let text = statement_of empty_sights (understood mirror_schema empty_sights) in
      let done = went (subst (λ s. Does old.step_limit (mode_of old) [] (record old.now { schema = s }) text None command (Ok (w.tally, new.now))) has w.changed) in
      let now = ap (λ (p : Tally × Database). p.1) (same_value (went (went done.2).2).2) in
      let given = went done.1 in
      let written = went given.2 in
      let trees : done.0.trees ≡ written.0 = ap (λ (it : Written). it.trees) (same_value written.2) in
      let applied = one_step mirror_schema _ db written.0 (edit_of db (record sight_table { tree = 2 }) (ids_of given.0) Given 0 []) refl written.1 in
      let answer = answered_all 2 _ [] (overlay db []) [] given.0 (given.1.answer Null) in
      let none = applied.rows ∙ loses_all 2 (db 2) given.0 keyed answer in
      let all = ap (λ (d : Database). d.trees) now ∙ trees in
      (ap (λ (d : Database). d.schema) now, ap (λ (t : Trees). t 0) all ∙ applied.tables.0 (λ e. omega (arith, e)), ap (λ (t : Trees). t 2) all ∙ none)

  -- the trees after `DELETE FROM object`
  pub deletes_objects : (count : ℕ) → Executes empty_objects [] old new (Ok count) → AllByRecursion IsKeyed (old.now.trees 0)
      → (new.now.schema ≡ mirror_schema) × (new.now.trees 2 ≡ old.now.trees 2) × (new.now.trees 0 ≡ [])
  deletes_objects count h keyed =
      let db = old.now.trees in
      let command = Delete 0 (alone (rowids_query 0)) in
      let w = runs_as empty_objects [] old new mirror_schema has command empty_objects_is.0 empty_objects_is.1 count h in
      let text = statement_of empty_objects (understood mirror_schema empty_objects) in
      let done = went (subst (λ s. Does old.step_limit (mode_of old) [] (record old.now { schema = s }) text None command (Ok (w.tally, new.now))) has w.changed) in
      let now = ap (λ (p : Tally × Database). p.1) (same_value (went (went done.2).2).2) in
      let given = went done.1 in
      let written = went given.2 in
      let trees : done.0.trees ≡ written.0 = ap (λ (it : Written). it.trees) (same_value written.2) in
      let applied = one_step mirror_schema _ db written.0 (edit_of db (record object_table { tree = 0 }) (ids_of given.0) Given 0 []) refl written.1 in
      let answer = answered_all 0 _ [] (overlay db []) [] given.0 (given.1.answer Null) in
      let none = applied.rows ∙ loses_all 0 (db 0) given.0 keyed answer in
      let all = ap (λ (d : Database). d.trees) now ∙ trees in
      (ap (λ (d : Database). d.schema) now, ap (λ (t : Trees). t 2) all ∙ applied.tables.1.0 (λ e. omega (arith, e)), ap (λ (t : Trees). t 0) all ∙ none)

-- ---- in rows of the mirror

keyed_objects : (rows : List ObjectRow) → AllByRecursion IsKeyed (map stored_object rows)
keyed_objects [] = tt
keyed_objects (row ∷ rows) = (refl, keyed_objects rows)

keyed_sights : (rows : List SightRow) → AllByRecursion IsKeyed (map stored_sight rows)
keyed_sights [] = tt
keyed_sights (row ∷ rows) = (refl, keyed_sights rows)

pub loses_sights : (old new : State) (count : ℕ) → Executes empty_sights [] old new (Ok count) → LosesSights old new
loses_sights old new count h lists held =
    let keyed = subst (AllByRecursion IsKeyed) (sym held.sights) (keyed_sights lists.sights) in
    let lost = deletes_sights old new held.schema count h keyed in
    record { schema = lost.0; objects = lost.1 ∙ held.objects; sights = lost.2 }

pub loses_objects : (old new : State) (count : ℕ) → Executes empty_objects [] old new (Ok count) → LosesObjects old new
loses_objects old new count h lists held =
    let keyed = subst (AllByRecursion IsKeyed) (sym held.objects) (keyed_objects lists.objects) in
    let lost = deletes_objects old new held.schema count h keyed in
    record { schema = lost.0; objects = lost.2; sights = lost.1 ∙ held.sights }
