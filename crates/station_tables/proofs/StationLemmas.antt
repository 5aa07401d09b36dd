-- The answers on station rows, over the rows of one code.
use Rattle.std.proofs.Common.{◌≡◌, ◌≢◌, ℕ, ℤ, Bool, true, false, cond, ◌&&◌, ◌||◌, List, [], ◌∷◌, ◌++◌, map, filter, take, Some, refl, sym, ap, ◌∙◌}
use Rattle.std.proofs.lemmas.List.{map_push}
use Rattle.std.proofs.lemmas.Slice.Eq.{bytes_eq-Decides}
use Rattle.std.specs.Prelude.{◌==◌, unwrap_or}
use Rattle.std.specs.List.{list_any}
use Rattle.std.specs.Map.{lookup}
use Rattle.std.specs.Str.{bytes_eq}
use Rattle.obs_record.specs.declared.short.Short.{Short}
use Rattle.station_tables.specs.declared.keys.StationCode.{StationCode}
use Rattle.station_tables.specs.declared.keys.LetterKey.{LetterKey}
use Rattle.station_tables.specs.declared.serving.Serving.TheVariants.{Unknown, Outside, Serving as InService}
use Rattle.station_tables.specs.declared.stations.Row.{Row}
use Rattle.station_tables.specs.Rows.{StationRow}
use Rattle.station_tables.specs.Stations.{is_code, holds_day, shares_day, serving_by, serving_of, overlaps, with_station_row}
use Rattle.station_tables.specs.Indexed.{station_row, has_code, shares_days, IsByCode, code_row, rows_of}

-- ---- tests of lists

list_any-map : {X Y : Type 0} (p : Y → Bool) (f : X → Y) (xs : List X) → list_any p (map f xs) ≡ list_any (λ x. p (f x)) xs
list_any-map p f [] = refl
list_any-map p f (x ∷ xs) = ap (λ b. p (f x) || b) (list_any-map p f xs)

list_any-same : {X : Type 0} (p q : X → Bool) → ((x : X) → p x ≡ q x) → (xs : List X) → list_any p xs ≡ list_any q xs
list_any-same p q same [] = refl
list_any-same p q same (x ∷ xs) = λ j. same x j || list_any-same p q same xs j

-- a test of the rows that another test keeps is both tests in one
either_kept : {X : Type 0} (p q : X → Bool) (x : X) (xs kept : List X) (rest : Bool) → list_any q kept ≡ rest
    → list_any q (cond (p x) (x ∷ kept) kept) ≡ (p x && q x) || rest
either_kept p q x xs kept rest same =
    elim (p x) as (λ b. list_any q (cond b (x ∷ kept) kept) ≡ (b && q x) || rest) [ true ↦ ap (λ b. q x || b) same | false ↦ same ]

any-filter : {X : Type 0} (p q : X → Bool) (xs : List X) → list_any q (filter p xs) ≡ list_any (λ x. p x && q x) xs
any-filter p q [] = refl
any-filter p q (x ∷ xs) = either_kept p q x xs (filter p xs) (list_any (λ y. p y && q y) xs) (any-filter p q xs)

filter-map : {X Y : Type 0} (p : Y → Bool) (f : X → Y) (xs : List X) → map f (filter (λ x. p (f x)) xs) ≡ filter p (map f xs)
filter-map p f [] = refl
filter-map p f (x ∷ xs) =
    elim (p (f x)) as (λ b. map f (cond b (x ∷ filter (λ y. p (f y)) xs) (filter (λ y. p (f y)) xs)) ≡ cond b (f x ∷ filter p (map f xs)) (filter p (map f xs)))
    [ true ↦ ap (λ ys. f x ∷ ys) (filter-map p f xs) | false ↦ filter-map p f xs ]

filter-none : {X : Type 0} (xs : List X) → filter (λ _. false) xs ≡ []
filter-none [] = refl
filter-none (x ∷ xs) = filter-none xs

filter-push : {X : Type 0} (p : X → Bool) (xs : List X) (x : X) → filter p (xs ++ x ∷ []) ≡ filter p xs ++ cond (p x) (x ∷ []) []
filter-push p [] x = refl
filter-push p (y ∷ xs) x =
    elim (p y) as (λ b. cond b (y ∷ filter p (xs ++ x ∷ [])) (filter p (xs ++ x ∷ [])) ≡ cond b (y ∷ filter p xs) (filter p xs) ++ cond (p x) (x ∷ []) [])
    [ true ↦ ap (λ ys. y ∷ ys) (filter-push p xs x) | false ↦ filter-push p xs x ]

append-none : {X : Type 0} (xs : List X) → xs ++ [] ≡ xs
append-none [] = refl
append-none (x ∷ xs) = ap (λ ys. x ∷ ys) (append-none xs)

-- ---- codes

alike : (x y : Bool) → (x ≡ true → y ≡ true) → (y ≡ true → x ≡ true) → x ≡ y
alike true y there back = sym (there refl)
alike false true there back = back refl
alike false false there back = refl

bytes_eq-flip : (a b : List ℕ) → bytes_eq a b ≡ bytes_eq b a
bytes_eq-flip a b =
    alike (bytes_eq a b) (bytes_eq b a) (λ h. (bytes_eq-Decides b a).1 (sym ((bytes_eq-Decides a b).0 h))) (λ h. (bytes_eq-Decides a b).1 (sym ((bytes_eq-Decides b a).0 h)))

-- ---- the answers

-- rows of one code, of which there is one
pub serving_by-rows : (rows : List Row) (date : ℤ) → rows ≢ []
    → serving_by (map station_row rows) date ≡ cond (list_any (λ row. holds_day date (station_row row)) rows) InService Outside
serving_by-rows [] date some = absurd (some refl)
serving_by-rows (row ∷ rows) date some = ap (λ b. cond b InService Outside) (list_any-map (holds_day date) station_row (row ∷ rows))

-- the rows of the code that a text is
pub serving_of-code : (rows : List Row) (text : Short) (code : List ℕ) (date : ℤ) → text.len ≡ 3 → code ≡ take 3 text.bytes
    → serving_by (map station_row (filter (has_code code) rows)) date ≡ serving_of (map station_row rows) text date
unfolding serving_of
serving_of-code rows text code date size same =
    ap (λ kept. serving_by (map station_row kept) date) (λ j. filter (λ row. (sym size j == 3) && bytes_eq (same j) row.code) rows)
    ∙ ap (λ kept. serving_by kept date) (filter-map (λ row. is_code text row.code) station_row rows)

-- a text that is no code
pub serving_of-none : (rows : List StationRow) (text : Short) (date : ℤ) → (text.len == 3) ≡ false → Unknown ≡ serving_of rows text date
unfolding serving_of
serving_of-none rows text date size =
    sym (ap (λ kept. serving_by kept date) ((λ j. filter (λ row. size j && bytes_eq (take 3 text.bytes) row.code) rows) ∙ filter-none rows))

-- a row of the code shares a day
pub overlaps-code : (rows : List Row) (code : List ℕ) (from to : ℤ)
    → list_any (shares_days from to) (filter (has_code code) rows) ≡ overlaps (map station_row rows) code from to
unfolding overlaps
overlaps-code rows code from to =
    any-filter (has_code code) (shares_days from to) rows
    ∙ list_any-same (λ row. has_code code row && shares_days from to row) (λ row. shares_day code from to (station_row row))
    (λ row. ap (λ b. b && shares_days from to row) (bytes_eq-flip code row.code)) rows
    ∙ sym (list_any-map (shares_day code from to) station_row rows)

-- ---- the index

-- one more row at the end, and in the index after those of its code
pub with_one : (entries longer : List (StationCode × List Row)) (rows of_code : List Row) (row : Row)
    → IsByCode entries rows → of_code ≡ filter (has_code row.code) rows ++ row ∷ []
    → ((code : List ℕ) → lookup (λ key. bytes_eq code key.code) longer ≡ cond (bytes_eq row.code code) (Some of_code) (lookup (λ key. bytes_eq code key.code) entries))
    → IsByCode longer (rows ++ row ∷ [])
with_one entries longer rows of_code row indexed more updates code =
    ap (λ found. unwrap_or found []) (updates code) ∙ found (bytes_eq row.code code) refl ∙ sym (filter-push (has_code code) rows row)
  where
    found : (b : Bool) → bytes_eq row.code code ≡ b
        → unwrap_or (cond b (Some of_code) (lookup (λ key. bytes_eq code key.code) entries)) [] ≡ filter (has_code code) rows ++ cond (has_code code row) (row ∷ []) []
    found true same =
        let code_is : row.code ≡ code = (bytes_eq-Decides row.code code).0 same in
        more ∙ (λ j. filter (has_code (code_is j)) rows ++ row ∷ [])
        ∙ ap (λ b. filter (has_code code) rows ++ cond b (row ∷ []) []) (sym (bytes_eq-flip code row.code ∙ same))
    found false other =
        indexed code ∙ sym (append-none (filter (has_code code) rows))
        ∙ ap (λ b. filter (has_code code) rows ++ cond b (row ∷ []) []) (sym (bytes_eq-flip code row.code ∙ other))

-- the tables' rows with one more station row
pub rows_of-station : (stations longer : List Row) (words copy : List (LetterKey × Short)) (row : Row)
    → longer ≡ stations ++ row ∷ [] → copy ≡ words → rows_of longer copy ≡ with_station_row (rows_of stations words) (station_row row)
rows_of-station stations longer words copy row more same =
    let rows : map station_row longer ≡ map station_row stations ++ station_row row ∷ [] = ap (map station_row) more ∙ map_push station_row stations row in
    λ j. record { stations = rows j; codes = map code_row (same j) }
