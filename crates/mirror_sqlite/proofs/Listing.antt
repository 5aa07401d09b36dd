-- What the texts that list a table give.
use Rattle.std.proofs.Common.{◌≡◌, ℕ, ◌<◌, ℤ, pos, List, [], ◌∷◌, map, filter, Bool, true, false, cond, Some, Ok, Err, Result, IfOk}
use Rattle.std.proofs.Common.{refl, sym, ap, ap₂, subst, ◌∙◌, arith, Ordering, Less, Equal, Greater, is_lt, is_gt, is_eq, int_cmp, nat_cmp}
use Rattle.std.specs.Prelude.{int_lt, int_le, ◌&&◌}
use Rattle.std.specs.Ordering.{ordering_then, ordering_reverse, is_ge}
use Rattle.std.specs.List.{AllByRecursion}
use Rattle.std.specs.List.Sorted.{IsPermutation}
use Rattle.std.proofs.lemmas.Bool.Decides.{nat_tests}
use Rattle.std.proofs.lemmas.Int.{ints}
use Rattle.sqlite.specs.declared.types.Value.TheVariants.{Null, Int}
use Rattle.sqlite.specs.Order.{Row, value_cmp}
use Rattle.sqlite.specs.Ops.{binary, is_true, from_truth}
use Rattle.sqlite_sql.specs.declared.ops.BinaryOp.TheVariants.{Compare}
use Rattle.sqlite_sql.specs.declared.ops.CompareOp.TheVariants.{Ge, Lt}
use Rattle.sqlite.specs.Collation.TheVariants.{Binary}
use Rattle.sqlite.specs.Query.{Output, output_cmp}
use Rattle.sqlite.specs.Program.{overlay}
use Rattle.sqlite.specs.Command.TheVariants.{Select}
use Rattle.sqlite.specs.State.{State, Shown}
use Rattle.sqlite.proofs.Callers.{reads_as}
use Rattle.sqlite_trees.specs.Tree.{IsAscending}
use Rattle.sqlite_value.proofs.OrderLemmas.{value_cmp-Int, then-Equal}
use Rattle.sqlite_sql.proofs.QueryLemmas.{output_cmp_total}
use Rattle.sqlite_keyed.proofs.SortLemmas.{sorted_unique, sorted_is-sort_by, sort_by-map}
use Rattle.sqlite_keyed.proofs.ListLemmas.{all-filter, ascending-filter, ascending-map, ascending_weaker}
use Rattle.sqlite_keyed.specs.Lists.{insert_sorted, sort_by}
use Rattle.mirror_store.specs.declared.rows.ObjectRow.{ObjectRow}
use Rattle.mirror_store.specs.declared.rows.SightRow.{SightRow}
use Rattle.mirror_store.specs.declared.mirror.MirrorErr.{MirrorErr}
use Rattle.mirror_store.specs.Rows.{Ascend, IsObjectRow, IsSightRow}
use Rattle.mirror_store.specs.Mirrors.{is_between, time_cmp, placed_by_time, by_time, between}
use Rattle.mirror_sqlite.specs.Tables.{mirror_schema}
use Rattle.mirror_sqlite.specs.Stored.{stored_object, stored_sight, shown_object, shown_sight}
use Rattle.mirror_sqlite.specs.Holding.{ListsObjects, ListsSights}
use Rattle.mirror_sqlite.proofs.Same.{objects_same, sights_same}
use Rattle.mirror_sqlite.proofs.Commands.{list_objects, list_objects_is, objects_query, object_names, alone, list_sights, list_sights_is, sights_query, sight_names, in_time}
use Rattle.mirror_sqlite.proofs.Rows.{answered, answered_all, outputs, passes}
use Rattle.mirror_sqlite.proofs.Adding.{below}

-- ---- the objects

later_objects : (row : ObjectRow) (rows : List ObjectRow) → AllByRecursion (λ later. row.place < later) (map (λ (o : ObjectRow). o.place) rows)
    → AllByRecursion (λ b. output_cmp objects_query (Int (pos row.place) ∷ [], shown_object row) b ≡ Less) (outputs objects_query [] (map stored_object rows))
later_objects row [] low = tt
later_objects row (other ∷ rows) low = (rw (below row.place other.place low.0), later_objects row rows low.1)

objects_rise : (rows : List ObjectRow) → Ascend (map (λ (o : ObjectRow). o.place) rows)
    → IsAscending (λ a b. output_cmp objects_query a b ≡ Less) (outputs objects_query [] (map stored_object rows))
objects_rise [] up = tt
objects_rise (row ∷ rows) up = (later_objects row rows up.0, objects_rise rows up.1)

objects_shown : (rows : List ObjectRow) → map (λ (o : Output). o.1) (outputs objects_query [] (map stored_object rows)) ≡ map shown_object rows
objects_shown [] = refl
objects_shown (row ∷ rows) = ap (λ l. shown_object row ∷ l) (objects_shown rows)

pub objects_listed : (old new : State) (shown : List Row) (rows : List ObjectRow) → old.now.schema ≡ mirror_schema
    → old.now.trees 0 ≡ map stored_object rows → Ascend (map (λ (o : ObjectRow). o.place) rows) → Shown list_objects [] old new shown
    → shown ≡ map shown_object rows
objects_listed old new shown rows has trees up h =
    let read = reads_as list_objects [] old new mirror_schema has (Select (alone objects_query) object_names) list_objects_is.0 list_objects_is.2 list_objects_is.1 shown h in
    let all = answered_all 0 _ _ (overlay old.now.trees []) [] shown (read.answer Null) in
    let same = subst (λ (db : List Row). IsPermutation (outputs objects_query [] db) all.ordered) trees all.same in
    let ordered = sorted_unique (output_cmp objects_query) (output_cmp_total objects_query) _ all.ordered (objects_rise rows up) same all.sorted in
    all.shown_is ∙ ap (map (λ (o : Output). o.1)) ordered ∙ objects_shown rows

-- ---- the observations

abbrev time_params : ℤ → ℤ → Row
time_params from to = Int from ∷ Int to ∷ []

-- what one of them is sorted by, and what it shows
abbrev out : SightRow → Output
out row = (Int row.time ∷ Int (pos row.id) ∷ [], shown_sight row)

abbrev out_cmp : SightRow → SightRow → Ordering
out_cmp a b = output_cmp sights_query (out a) (out b)

true_back : (b : Bool) → is_true (from_truth (Some b)) ≡ b
true_back true = refl
true_back false = refl

ge_is : (t f : ℤ) → is_ge (int_cmp t f) ≡ int_le f t
ge_is t f = grind (arith, ints, nat_tests)

lt_is : (t f : ℤ) → is_lt (int_cmp t f) ≡ int_lt t f
lt_is t f = grind (arith, ints, nat_tests)

pos_cmp : (m n : ℕ) → int_cmp (pos m) (pos n) ≡ nat_cmp m n
pos_cmp m n = grind (arith, ints, nat_tests)

and_true : (a b : Bool) → (a && (b && true)) ≡ (a && b)
and_true true true = refl
and_true true false = refl
and_true false b = refl

from_on : (t f : ℤ) → is_true (binary (Compare Ge Binary) (Int t) (Int f)) ≡ int_le f t
unfolding binary
from_on t f = true_back (is_ge (value_cmp (Int t) (Int f))) ∙ ap is_ge (value_cmp-Int t f) ∙ ge_is t f

before : (t f : ℤ) → is_true (binary (Compare Lt Binary) (Int t) (Int f)) ≡ int_lt t f
unfolding binary
before t f = true_back (is_lt (value_cmp (Int t) (Int f))) ∙ ap is_lt (value_cmp-Int t f) ∙ lt_is t f

in_time_is : (from to : ℤ) (row : SightRow) → passes in_time (time_params from to) (stored_sight row) ≡ is_between from to row
in_time_is from to row =
    ap₂ (λ a b. a && (b && true)) (from_on row.time from) (before row.time to) ∙ and_true (int_le from row.time) (int_lt row.time to)

filtered : (from to : ℤ) (rows : List SightRow)
    → filter (passes in_time (time_params from to)) (map stored_sight rows) ≡ map stored_sight (filter (is_between from to) rows)
filtered from to [] = refl
filtered from to (row ∷ rows) = go (is_between from to row) (in_time_is from to row) (filtered from to rows)
  where
    go : (b : Bool) → passes in_time (time_params from to) (stored_sight row) ≡ b
        → filter (passes in_time (time_params from to)) (map stored_sight rows) ≡ map stored_sight (filter (is_between from to) rows)
        → filter (passes in_time (time_params from to)) (map stored_sight (row ∷ rows)) ≡ map stored_sight (cond b (row ∷ filter (is_between from to) rows) (filter (is_between from to) rows))
    go true e more = rw e (ap (λ l. stored_sight row ∷ l) more)
    go false e more = rw e more

cmp_is : (a b : SightRow) → out_cmp a b ≡ time_cmp a b
cmp_is a b = ap₂ ordering_then (value_cmp-Int a.time b.time) (then-Equal _ ∙ value_cmp-Int (pos a.id) (pos b.id) ∙ pos_cmp a.id b.id)

turned : (o : Ordering) → is_gt (ordering_reverse o) ≡ is_lt o
turned Less = refl
turned Equal = refl
turned Greater = refl

placed_is : (row : SightRow) (rows : List SightRow) → insert_sorted out_cmp row rows ≡ placed_by_time row rows
placed_is row [] = refl
placed_is row (next ∷ rows) =
    let test : is_gt (out_cmp row next) ≡ is_lt (time_cmp next row) =
    ap is_gt ((output_cmp_total sights_query).antisymm (out row) (out next)) ∙ turned (out_cmp next row) ∙ ap is_lt (cmp_is next row) in
    ap₂ (λ b l. cond b (next ∷ l) (row ∷ next ∷ rows)) test (placed_is row rows)

sorted_is : (rows : List SightRow) → sort_by out_cmp rows ≡ by_time rows
sorted_is [] = refl
sorted_is (row ∷ rows) = ap (insert_sorted out_cmp row) (sorted_is rows) ∙ placed_is row (by_time rows)

later_ids : (row : SightRow) (rows : List SightRow) → AllByRecursion (λ later. row.id < later) (map (λ (s : SightRow). s.id) rows)
    → AllByRecursion (λ (other : SightRow). row.id < other.id) rows
later_ids row [] low = tt
later_ids row (other ∷ rows) low = (low.0, later_ids row rows low.1)

ids_rise : (rows : List SightRow) → Ascend (map (λ (s : SightRow). s.id) rows) → IsAscending (λ (a b : SightRow). a.id < b.id) rows
ids_rise [] up = tt
ids_rise (row ∷ rows) up = (later_ids row rows up.0, ids_rise rows up.1)

untied : (o : Ordering) → is_eq (ordering_then o Less) ≡ false
untied Less = refl
untied Equal = refl
untied Greater = refl

no_tie : (a b : SightRow) → a.id < b.id → is_eq (out_cmp a b) ≡ false
no_tie a b low =
    let less : nat_cmp a.id b.id ≡ Less = grind (arith, nat_tests) in
    ap is_eq (cmp_is a b) ∙ ap (λ o. is_eq (ordering_then (int_cmp a.time b.time) o)) less ∙ untied (int_cmp a.time b.time)

outs : (from to : ℤ) (rows : List SightRow) → outputs sights_query (time_params from to) (map stored_sight rows) ≡ map out rows
outs from to [] = refl
outs from to (row ∷ rows) = ap (λ l. out row ∷ l) (outs from to rows)

outs_shown : (rows : List SightRow) → map (λ (o : Output). o.1) (map out rows) ≡ map shown_sight rows
outs_shown [] = refl
outs_shown (row ∷ rows) = ap (λ l. shown_sight row ∷ l) (outs_shown rows)

pub sights_listed : (old new : State) (from to : ℤ) (shown : List Row) (rows : List SightRow) → old.now.schema ≡ mirror_schema
    → old.now.trees 2 ≡ map stored_sight rows → Ascend (map (λ (s : SightRow). s.id) rows)
    → Shown list_sights (Int from ∷ Int to ∷ []) old new shown
    → shown ≡ map shown_sight (between from to rows)
sights_listed old new from to shown rows has trees up h =
    let params = time_params from to in
    let cmp = output_cmp sights_query in
    let total = output_cmp_total sights_query in
    let kept = filter (is_between from to) rows in
    let read = reads_as list_sights params old new mirror_schema has (Select (alone sights_query) sight_names) list_sights_is.0 list_sights_is.2 list_sights_is.1 shown h in
    let all = answered 2 in_time _ _ (overlay old.now.trees []) params shown (read.answer Null) in
    let outputs_are = ap (λ l. outputs sights_query params (filter (passes in_time params) l)) trees ∙ ap (outputs sights_query params) (filtered from to rows) ∙ outs from to kept in
    let same = subst (λ (l : List Output). IsPermutation l all.ordered) outputs_are all.same in
    let rise = ascending-filter _ (is_between from to) rows (ids_rise rows up) in
    let apart = ascending-map (λ a b. is_eq (cmp a b) ≡ false) out kept (ascending_weaker (λ (a b : SightRow). a.id < b.id) (λ a b. is_eq (out_cmp a b) ≡ false) no_tie kept rise) in
    let ordered = sorted_is-sort_by cmp total (map out kept) all.ordered apart same all.sorted ∙ sort_by-map cmp out kept ∙ ap (map out) (sorted_is kept) in
    all.shown_is ∙ ap (map (λ (o : Output). o.1)) ordered ∙ outs_shown (by_time kept)

-- ---- as rows of the mirror

all_placed : (P : SightRow → Type 0) (row : SightRow) (rows : List SightRow) → P row → AllByRecursion P rows → AllByRecursion P (placed_by_time row rows)
all_placed P row [] one all = (one, tt)
all_placed P row (next ∷ rows) one all =
    elim (is_lt (time_cmp next row)) as (λ b. AllByRecursion P (cond b (next ∷ placed_by_time row rows) (row ∷ next ∷ rows)))
    [ true ↦ (all.0, all_placed P row rows one all.1) | false ↦ (one, all) ]

all_by_time : (P : SightRow → Type 0) (rows : List SightRow) → AllByRecursion P rows → AllByRecursion P (by_time rows)
all_by_time P [] all = tt
all_by_time P (row ∷ rows) all = all_placed P row (by_time rows) all.0 (all_by_time P rows all.1)

pub lists_objects : (old new : State) (shown items : List Row) (result : Result (List ObjectRow) MirrorErr) → shown ≡ items
    → Shown list_objects [] old new items → IfOk result (λ objects. shown ≡ map shown_object objects)
    → IfOk result (AllByRecursion IsObjectRow) → IfOk result (ListsObjects old)
lists_objects old new shown items (Err e) same h is range = tt
lists_objects old new shown items (Ok objects) same h is range = λ lists held all up.
    objects_same objects lists.objects range all
    (sym is ∙ same ∙ objects_listed old new items lists.objects held.schema held.objects up h)

pub lists_sights : (old new : State) (from to a b : ℤ) (shown items : List Row) (result : Result (List SightRow) MirrorErr)
    → a ≡ from → b ≡ to → shown ≡ items → Shown list_sights (Int a ∷ Int b ∷ []) old new items
    → IfOk result (λ sights. shown ≡ map shown_sight sights) → IfOk result (AllByRecursion IsSightRow)
    → IfOk result (ListsSights from to old)
lists_sights old new from to a b shown items (Err e) p q same h is range = tt
lists_sights old new from to a b shown items (Ok sights) p q same h is range = λ lists held all up.
    let listed = sights_listed old new from to items lists.sights held.schema held.sights up (rw (p, q) at h) in
    sights_same sights (between from to lists.sights) range
    (all_by_time IsSightRow _ (all-filter IsSightRow (is_between from to) lists.sights all)) (sym is ∙ same ∙ listed)
