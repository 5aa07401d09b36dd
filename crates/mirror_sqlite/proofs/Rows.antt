-- Lists of stored rows: those that a whole table gives, a table that loses all of them, and a row put after the last.
use Rattle.std.proofs.Common.{◌≡◌, ℕ, ℤ, Bool, true, false, cond, not, List, [], ◌∷◌, ◌++◌, map, flat_map, filter}
use Rattle.std.proofs.Common.{refl, sym, ap, subst, ◌∙◌, true≢false, IsPermutation, IsSorted}
use Rattle.std.specs.List.{AllByRecursion, list_all}
use Rattle.std.specs.Ordering.{is_eq}
use Rattle.std.proofs.lemmas.Cmp.{tied_itself}
use Rattle.sqlite.specs.declared.types.Value.TheVariants.{Int}
use Rattle.sqlite.specs.Order.{Row, value_cmp}
use Rattle.sqlite.specs.Term.{Term, Env, holds}
use Rattle.sqlite.specs.Query.{Query, IsAnswer, Output, output, output_cmp}
use Rattle.sqlite.specs.Tree.{Trees, rowid, has_rowid, without_rowid}
use Rattle.sqlite.specs.Edit.{id_in, without_all}
use Rattle.sqlite_rules.specs.Calls.{ids_of}
use Rattle.sqlite_value.proofs.OrderLemmas.{value_cmp_total}
use Rattle.sqlite_value.specs.declared.keys.Key.{Key}
use Rattle.sqlite_keyed.proofs.ListLemmas.{all_weaker}
use Rattle.mirror_sqlite.proofs.Commands.{query_of}

-- ---- a table whose rows all go

-- the row's rowid is a whole number
abbrev pub IsKeyed : Row → Type 0
IsKeyed row = rowid row ≡ Int (id_in (rowid row))

-- none of these rowids is the row's
abbrev pub IsSpared : List ℤ → Row → Type 0
IsSpared ids row = AllByRecursion (λ id. has_rowid id row ≡ false) ids

pub emptied : (ids : List ℤ) (rows : List Row) → AllByRecursion (λ row. ¬ IsSpared ids row) rows → without_all rows ids ≡ []
emptied [] [] none = refl
emptied [] (row ∷ rows) none = absurd (none.0 tt)
emptied (id ∷ ids) rows none = emptied ids (without_rowid id rows) (left rows none)
  where
    left : (rows : List Row) → AllByRecursion (λ row. ¬ IsSpared (id ∷ ids) row) rows
        → AllByRecursion (λ row. ¬ IsSpared ids row) (without_rowid id rows)
    left [] none = tt
    left (row ∷ rows) none = go (has_rowid id row) refl (left rows none.1)
      where
        go : (b : Bool) → has_rowid id row ≡ b → AllByRecursion (λ row. ¬ IsSpared ids row) (without_rowid id rows)
            → AllByRecursion (λ row. ¬ IsSpared ids row) (cond (not b) (row ∷ without_rowid id rows) (without_rowid id rows))
        go true e more = more
        go false e more = ((λ spared. none.0 (e, spared)), more)

has_itself : (row : Row) → IsKeyed row → has_rowid (id_in (rowid row)) row ≡ true
has_itself row keyed = subst (λ v. is_eq (value_cmp (rowid row) v) ≡ true) keyed (ap is_eq (tied_itself value_cmp_total (rowid row)))

pub hit : (rows : List Row) → AllByRecursion IsKeyed rows → AllByRecursion (λ row. ¬ IsSpared (ids_of rows) row) rows
hit [] keyed = tt
hit (row ∷ rows) keyed = (
  (λ spared. true≢false (sym (has_itself row keyed.0) ∙ spared.0)),
  all_weaker _ (λ other. ¬ IsSpared (ids_of (row ∷ rows)) other) (λ other none spared. none spared.1) rows (hit rows keyed.1),
)

-- ---- what a query gives

picked : (p : Row → Bool) (f : Row → Env) (rows : List Row)
    → flat_map (λ row. cond (p row) (f row ∷ []) []) rows ≡ map f (filter p rows)
picked p f [] = refl
picked p f (row ∷ rows) = go (p row) (picked p f rows)
  where
    go : (b : Bool) → flat_map (λ row. cond (p row) (f row ∷ []) []) rows ≡ map f (filter p rows)
        → cond b (f row ∷ []) [] ++ flat_map (λ row. cond (p row) (f row ∷ []) []) rows
        ≡ map f (cond b (row ∷ filter p rows) (filter p rows))
    go true more = ap (λ l. f row ∷ l) more
    go false more = more

-- the row passes the terms, with these parameters
abbrev pub passes : List Term → Row → Row → Bool
passes tests params row = list_all (holds (params ∷ row ∷ [])) tests

-- what the query sorts the rows by, and shows of them
abbrev pub outputs : Query → Row → List Row → List Output
outputs q params rows = map (output q) (map (λ row. params ∷ row ∷ []) rows)

pub record Ordered (q : Query) (params : Row) (rows shown : List Row) : Type 0 where
  pub ordered : List Output
  pub same : IsPermutation (outputs q params rows) ordered
  pub sorted : IsSorted (output_cmp q) ordered
  pub shown_is : shown ≡ map (λ o. o.1) ordered

pub answered : (tree : ℕ) (tests shown : List Term) (order : List (Term × Key)) (db : Trees) (params : Row) (rows : List Row)
    → IsAnswer (query_of tree tests shown order) db params rows
    → Ordered (query_of tree tests shown order) params (filter (passes tests params) (db tree)) rows
answered tree tests shown order db params rows a =
    let q = query_of tree tests shown order in
    let kept : a.kept ≡ outputs q params (filter (passes tests params) (db tree)) =
    a.distinct ∙ ap (map (output q)) (a.grouped ∙ picked (passes tests params) (λ row. params ∷ row ∷ []) (db tree)) in
    record {
      ordered = a.ordered;
      same = subst (λ (k : List Output). IsPermutation k a.ordered) kept a.same;
      sorted = a.sorted;
      shown_is = a.shown;
    }

unfiltered : (params : Row) (rows : List Row) → filter (passes [] params) rows ≡ rows
unfiltered params [] = refl
unfiltered params (row ∷ rows) = ap (λ l. row ∷ l) (unfiltered params rows)

-- with no terms all rows pass
pub answered_all : (tree : ℕ) (shown : List Term) (order : List (Term × Key)) (db : Trees) (params : Row) (rows : List Row)
    → IsAnswer (query_of tree [] shown order) db params rows
    → Ordered (query_of tree [] shown order) params (db tree) rows
answered_all tree shown order db params rows a =
    subst (λ (all : List Row). Ordered (query_of tree [] shown order) params all rows) (unfiltered params (db tree))
    (answered tree [] shown order db params rows a)
