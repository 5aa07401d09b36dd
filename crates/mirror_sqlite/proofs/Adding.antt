-- What the texts that add a row do.
use mir.Val.{SFits}
use Rattle.std.proofs.Common.{◌≡◌, ℕ, ◌<◌, ℤ, pos, List, [], ◌∷◌, ◌++◌, map, Bool, true, false, cond, None, Ok}
use Rattle.std.proofs.Common.{refl, sym, ap, subst, ◌∙◌, arith, Less, w64, to_z, of_z}
use Rattle.std.proofs.lemmas.Bool.Decides.{nat_tests}
use Rattle.std.proofs.lemmas.Int.{ints, to_z-of_z}
use Rattle.std.specs.List.{AllByRecursion}
use Rattle.sqlite.specs.declared.types.Value.{Value}
use Rattle.sqlite.specs.declared.types.Value.TheVariants.{Null, Int, Text as Words}
use Rattle.sqlite.specs.Order.{Row, value_cmp}
use Rattle.sqlite.specs.Ops.{unary}
use Rattle.sqlite.specs.Kind.TheVariants.{Integer}
use Rattle.sqlite.specs.Command.TheVariants.{Insert}
use Rattle.sqlite.specs.Source.TheVariants.{Values}
use Rattle.sqlite.specs.Cast.{cast}
use Rattle.sqlite.specs.Rowids.TheVariants.{Chosen}
use Rattle.sqlite.specs.Tree.{Trees, rowid, put_row}
use Rattle.sqlite.specs.Edit.{edit_of, edited}
use Rattle.sqlite.specs.Rows.{Written}
use Rattle.sqlite.specs.Does.{Tally, Does}
use Rattle.sqlite.specs.Effect.{Database}
use Rattle.sqlite.specs.Listing.{understood}
use Rattle.sqlite.specs.State.{State, mode_of, Executes}
use Rattle.sqlite.proofs.Callers.{statement_of, runs_as, one_step}
use Rattle.sqlite_value.proofs.OrderLemmas.{value_cmp-Int}
use Rattle.mirror_store.specs.declared.rows.ObjectRow.{ObjectRow}
use Rattle.mirror_store.specs.declared.rows.SightRow.{SightRow}
use Rattle.mirror_sqlite.specs.Tables.{mirror_schema, object_table, sight_table}
use Rattle.mirror_sqlite.specs.Stored.{stored_object, stored_sight, shown_object, shown_sight, name_text, code_text}
use Rattle.mirror_sqlite.specs.Holding.{GainsObject, GainsSight}
use Rattle.mirror_sqlite.proofs.Commands.{add_object, add_object_is, object_terms, add_sight, add_sight_is, sight_terms}
use Rattle.mirror_sqlite.proofs.Deleting.{went, same_value}

either : (b : Bool) (x : Value) → cond b x x ≡ x
either true x = refl
either false x = refl

cast_null : cast Integer Null ≡ Null
unfolding unary
cast_null = either _ Null

cast_int : (n : ℤ) → cast Integer (Int n) ≡ Int n
unfolding unary
cast_int n = either _ (Int n)

-- a number that was passed on
pub passed : (z n : ℤ) → SFits w64 z → z ≡ n → to_z w64 (of_z w64 z) ≡ n
passed z n fits is = to_z-of_z w64 z fits ∙ is

-- a row with a greater rowid than all goes to the end
at_end : (new : Row) (rows : List Row) → AllByRecursion (λ row. value_cmp (rowid row) (rowid new) ≡ Less) rows
    → put_row new rows ≡ rows ++ new ∷ []
at_end new [] low = refl
at_end new (row ∷ rows) low = rw low.0 (ap (λ l. row ∷ l) (at_end new rows low.1))

pub below : (a b : ℕ) → a < b → value_cmp (Int (pos a)) (Int (pos b)) ≡ Less
below a b low = value_cmp-Int (pos a) (pos b) ∙ grind (arith, ints, nat_tests)

map_end : {A B : Type 0} (f : A → B) (xs : List A) (x : A) → map f (xs ++ x ∷ []) ≡ map f xs ++ f x ∷ []
map_end f [] x = refl
map_end f (y ∷ ys) x = ap (λ l. f y ∷ l) (map_end f ys x)

low_objects : (row : ObjectRow) (rows : List ObjectRow) → AllByRecursion (λ (other : ObjectRow). other.place < row.place) rows
    → AllByRecursion (λ other. value_cmp (rowid other) (rowid (stored_object row)) ≡ Less) (map stored_object rows)
low_objects row [] low = tt
low_objects row (other ∷ rows) low = (below other.place row.place low.0, low_objects row rows low.1)

low_sights : (row : SightRow) (rows : List SightRow) → AllByRecursion (λ (other : SightRow). other.id < row.id) rows
    → AllByRecursion (λ other. value_cmp (rowid other) (rowid (stored_sight row)) ≡ Less) (map stored_sight rows)
low_sights row [] low = tt
low_sights row (other ∷ rows) low = (below other.id row.id low.0, low_sights row rows low.1)

module _ (old new : State) (has : old.now.schema ≡ mirror_schema) where
  adds_object : (row : ObjectRow) (count : ℕ) → Executes add_object (shown_object row) old new (Ok count)
      → (new.now.schema ≡ mirror_schema) × (new.now.trees 0 ≡ put_row (stored_object row) (old.now.trees 0)) × (new.now.trees 2 ≡ old.now.trees 2)
  adds_object row count h =
      let db = old.now.trees in
      let params = shown_object row in
      let table = record object_table { tree = 0 } in
      let command = Insert 0 (Values object_terms 5) in
      let w = runs_as add_object params old new mirror_schema has command add_object_is.0 add_object_is.1 count h in
      let text = statement_of add_object (understood mirror_schema add_object) in
      let done = went (subst (λ s. Does old.step_limit (mode_of old) params (record old.now { schema = s }) text None command (Ok (w.tally, new.now))) has w.changed) in
      let now = ap (λ (p : Tally × Database). p.1) (same_value (went (went done.2).2).2) in
      let given = went done.1 in
      let written = went (went given.2).2 in
      let counted = went written.2 in
      let trees : done.0.trees ≡ written.0 = ap (λ (it : Written). it.trees) (same_value counted.2) ∙ same_value counted.1 in
      let applied = one_step mirror_schema _ db written.0 (edit_of db table [] Chosen 0 given.0) refl written.1 in
      let edit : edited db (edit_of db table [] Chosen 0 given.0) ≡ put_row (stored_object row) (db 0) =
      ap (λ all. edited db (edit_of db table [] Chosen 0 all)) given.1.1 ∙ rw (cast_null, cast_int (pos row.place), cast_int (pos row.number), cast_int (pos row.observations)) in
      let all = ap (λ (d : Database). d.trees) now ∙ trees in
      (ap (λ (d : Database). d.schema) now, ap (λ (t : Trees). t 0) all ∙ applied.rows ∙ edit, ap (λ (t : Trees). t 2) all ∙ applied.tables.1.0 (λ e. omega (arith, e)))

  adds_sight : (row : SightRow) (count : ℕ) → Executes add_sight (shown_sight row) old new (Ok count)
      → (new.now.schema ≡ mirror_schema) × (new.now.trees 0 ≡ old.now.trees 0) × (new.now.trees 2 ≡ put_row (stored_sight row) (old.now.trees 2))
  adds_sight row count h =
      let db = old.now.trees in
      let params = shown_sight row in
      let table = record sight_table { tree = 2 } in
      let command = Insert 1 (Values sight_terms 7) in
      let w = runs_as add_sight params old new mirror_schema has command add_sight_is.0 add_sight_is.1 count h in
      let text = statement_of add_sight (understood mirror_schema add_sight) in
      let done = went (subst (λ s. Does old.step_limit (mode_of old) params (record old.now { schema = s }) text None command (Ok (w.tally, new.now))) has w.changed) in
      let now = ap (λ (p : Tally × Database). p.1) (same_value (went (went done.2).2).2) in
      let given = went done.1 in
      let written = went (went given.2).2 in
      let counted = went written.2 in
      let trees : done.0.trees ≡ written.0 = ap (λ (it : Written). it.trees) (same_value counted.2) ∙ same_value counted.1 in
      let applied = one_step mirror_schema _ db written.0 (edit_of db table [] Chosen 0 given.0) refl written.1 in
      let edit : edited db (edit_of db table [] Chosen 0 given.0) ≡ put_row (stored_sight row) (db 2) =
      ap (λ all. edited db (edit_of db table [] Chosen 0 all)) given.1.1 ∙ rw (cast_null, cast_int (pos row.id), cast_int row.time, cast_int row.ra, cast_int row.dec) in
      let all = ap (λ (d : Database). d.trees) now ∙ trees in
      (ap (λ (d : Database). d.schema) now, ap (λ (t : Trees). t 0) all ∙ applied.tables.0 (λ e. omega (arith, e)), ap (λ (t : Trees). t 2) all ∙ applied.rows ∙ edit)

module _ (row : ObjectRow) (place number observations : ℤ) (name : List ℕ) (place_is : place ≡ pos row.place)
    (name_is : name ≡ name_text row.principal) (number_is : number ≡ pos row.number)
    (observations_are : observations ≡ pos row.observations) where
  pub gains_object : (old new : State) (count : ℕ)
      → Executes add_object (Int place ∷ Words name ∷ Int number ∷ Int observations ∷ []) old new (Ok count)
      → GainsObject row old new
  gains_object old new count h lists held low =
      let made = adds_object old new held.schema row count (rw (place_is, name_is, number_is, observations_are) at h) in
      let below_all = subst (AllByRecursion (λ other. value_cmp (rowid other) (rowid (stored_object row)) ≡ Less)) (sym held.objects) (low_objects row lists.objects low) in
      record {
        schema = made.0;
        objects = made.1 ∙ at_end (stored_object row) _ below_all ∙ ap (λ l. l ++ stored_object row ∷ []) held.objects ∙ sym (map_end stored_object lists.objects row);
        sights = made.2 ∙ held.sights;
      }

module _ (row : SightRow) (id time ra dec : ℤ) (name station : List ℕ) (id_is : id ≡ pos row.id)
    (name_is : name ≡ name_text row.object) (time_is : time ≡ row.time) (ra_is : ra ≡ row.ra) (dec_is : dec ≡ row.dec)
    (station_is : station ≡ code_text row.station) where
  pub gains_sight : (old new : State) (count : ℕ)
      → Executes add_sight (Int id ∷ Words name ∷ Int time ∷ Int ra ∷ Int dec ∷ Words station ∷ []) old new (Ok count)
      → GainsSight row old new
  gains_sight old new count h lists held low =
      let made = adds_sight old new held.schema row count (rw (id_is, name_is, time_is, ra_is, dec_is, station_is) at h) in
      let below_all = subst (AllByRecursion (λ other. value_cmp (rowid other) (rowid (stored_sight row)) ≡ Less)) (sym held.sights) (low_sights row lists.sights low) in
      record {
        schema = made.0;
        objects = made.1 ∙ held.objects;
        sights = made.2 ∙ at_end (stored_sight row) _ below_all ∙ ap (λ l. l ++ stored_sight row ∷ []) held.sights ∙ sym (map_end stored_sight lists.sights row);
      }
