-- The answers on code rows, over the entries of their indexes.
use Rattle.std.proofs.Common.{◌≡◌, ℕ, Bool, true, false, cond, ◌&&◌, ◌||◌, List, [], ◌∷◌, ◌++◌, map, Option, None, Some, is_some, refl, sym, ap, ◌∙◌, true≢false}
use Rattle.std.specs.Prelude.{◌==◌, find}
use Rattle.std.proofs.lemmas.List.{map-id, map_push}
use Rattle.std.specs.List.{list_any}
use Rattle.std.specs.Map.{lookup}
use Rattle.std.specs.Option.{option_map}
use Rattle.obs_record.specs.declared.short.Short.{Short}
use Rattle.station_tables.specs.declared.kind.Kind.{Kind}
use Rattle.station_tables.specs.declared.kind.Kind.TheVariants.{Catalogue, Band, Mode}
use Rattle.station_tables.specs.declared.keys.LetterKey.{LetterKey}
use Rattle.station_tables.specs.declared.keys.WordKey.{WordKey}
use Rattle.station_tables.specs.contracts.kind.KindPartialEq.TheImpl as kinds
use Rattle.station_tables.specs.contracts.keys.LetterKeyPartialEq.TheImpl as letter_keys
use Rattle.station_tables.specs.contracts.keys.WordKeyPartialEq.TheImpl as word_keys
use Rattle.station_tables.specs.Rows.{CodeRow}
use Rattle.station_tables.specs.Codes.{same_kind, same_word, has_letter, has_word, word_of, letter_of, has_code}
use Rattle.station_tables.specs.Indexed.{by_word, code_row, word_key}

-- the code's test of two kinds
same_kinds : (a b : Kind) → (kinds.ghosts).eq a b ≡ same_kind a b
same_kinds Catalogue Catalogue = refl
same_kinds Catalogue Band = refl
same_kinds Catalogue Mode = refl
same_kinds Band Catalogue = refl
same_kinds Band Band = refl
same_kinds Band Mode = refl
same_kinds Mode Catalogue = refl
same_kinds Mode Band = refl
same_kinds Mode Mode = refl

-- the code's test of two keys by letter
same_letter : (kind : Kind) (letter : ℕ) (entry : LetterKey × Short)
    → (letter_keys.ghosts).eq (record { kind = kind; letter = letter }) entry.0 ≡ has_letter kind letter (code_row entry)
same_letter kind letter entry = ap (λ b. b && (letter == entry.0.letter)) (same_kinds kind entry.0.kind)

-- the code's test of two keys by word
same_word_key : (kind : Kind) (word : Short) (entry : LetterKey × Short)
    → (word_keys.ghosts).eq (word_key kind word) (by_word entry).0 ≡ has_word kind word (code_row entry)
same_word_key kind word entry = ap (λ b. b && same_word word entry.1) (same_kinds kind entry.0.kind)

-- a field of what one of two choices gives
option_map-cond : {A B : Type 0} (f : A → B) (b : Bool) (x y : Option A) → option_map f (cond b x y) ≡ cond b (option_map f x) (option_map f y)
option_map-cond f true x y = refl
option_map-cond f false x y = refl

module _ {W K X R : Type 0} (entry : W → K × X) (row : W → R) (value : R → X) (test : K → Bool) (passes : R → Bool) where
  -- the first entry that passes stands for the first row that passes
  pub lookup-find : ((w : W) → test (entry w).0 ≡ passes (row w)) → ((w : W) → (entry w).1 ≡ value (row w)) → (ws : List W)
      → lookup test (map entry ws) ≡ option_map value (find passes (map row ws))
  lookup-find same field [] = refl
  lookup-find same field (w ∷ ws) =
      ap (λ b. cond b (Some (entry w).1) (lookup test (map entry ws))) (same w)
      ∙ ap (λ x. cond (passes (row w)) (Some x) (lookup test (map entry ws))) (field w)
      ∙ ap (λ rest. cond (passes (row w)) (Some (value (row w))) rest) (lookup-find same field ws)
      ∙ sym (option_map-cond value (passes (row w)) (Some (row w)) (find passes (map row ws)))

-- the index of the words answers by the first row that has the letter
pub lookup-word : (entries : List (LetterKey × Short)) (kind : Kind) (letter : ℕ)
    → lookup ((letter_keys.ghosts).eq (record { kind = kind; letter = letter })) entries ≡ word_of (map code_row entries) kind letter
unfolding word_of
lookup-word entries kind letter =
    let test : LetterKey → Bool = (letter_keys.ghosts).eq (record { kind = kind; letter = letter }) in
    ap (lookup test) (sym (map-id entries))
    ∙ lookup-find (λ (entry : LetterKey × Short). entry) code_row (λ row. row.word) test (has_letter kind letter) (same_letter kind letter) (λ _. refl) entries

-- the index of the letters answers by the first row that has the word
pub lookup-letter : (entries : List (LetterKey × Short)) (kind : Kind) (word : Short)
    → lookup ((word_keys.ghosts).eq (word_key kind word)) (map by_word entries) ≡ letter_of (map code_row entries) kind word
unfolding letter_of
lookup-letter entries kind word =
    lookup-find by_word code_row (λ row. row.letter) ((word_keys.ghosts).eq (word_key kind word)) (has_word kind word) (same_word_key kind word) (λ _. refl) entries

-- something is found where some row passes
is_some-find : {A B : Type 0} (f : A → B) (p : A → Bool) (xs : List A) → is_some (option_map f (find p xs)) ≡ list_any p xs
is_some-find f p [] = refl
is_some-find f p (x ∷ xs) =
    elim (p x) as (λ b. is_some (option_map f (cond b (Some x) (find p xs))) ≡ b || list_any p xs) [ true ↦ refl | false ↦ is_some-find f p xs ]

regrouped : (a b c d : Bool) → (a || b) || (c || d) ≡ (a || c) || (b || d)
regrouped true b c d = refl
regrouped false true true d = refl
regrouped false true false d = refl
regrouped false false c d = refl

-- some row passes one of two tests where some row passes the first or some row the second
list_any-or : {A : Type 0} (p q : A → Bool) (xs : List A) → list_any (λ x. p x || q x) xs ≡ list_any p xs || list_any q xs
list_any-or p q [] = refl
list_any-or p q (x ∷ xs) =
    ap (λ b. (p x || q x) || b) (list_any-or p q xs) ∙ regrouped (p x) (q x) (list_any p xs) (list_any q xs)

-- a letter has a word where some row has the letter
pub is_some-word_of : (rows : List CodeRow) (kind : Kind) (letter : ℕ) → is_some (word_of rows kind letter) ≡ list_any (has_letter kind letter) rows
unfolding word_of
is_some-word_of rows kind letter = is_some-find (λ row. row.word) (has_letter kind letter) rows

-- a word has a letter where some row has the word
pub is_some-letter_of : (rows : List CodeRow) (kind : Kind) (word : Short) → is_some (letter_of rows kind word) ≡ list_any (has_word kind word) rows
unfolding letter_of
is_some-letter_of rows kind word = is_some-find (λ row. row.letter) (has_word kind word) rows

-- a row has the letter or the word where one of them is found
pub has_code-found : (rows : List CodeRow) (kind : Kind) (letter : ℕ) (word : Short) (by_letter by_word : Bool)
    → by_letter ≡ list_any (has_letter kind letter) rows → by_word ≡ list_any (has_word kind word) rows → has_code rows kind letter word ≡ by_letter || by_word
unfolding has_code
has_code-found rows kind letter word by_letter by_word letter_is word_is =
    list_any-or (has_letter kind letter) (has_word kind word) rows
    ∙ ap (λ b. b || list_any (has_word kind word) rows) (sym letter_is) ∙ ap (λ b. by_letter || b) (sym word_is)

none_left : {A : Type 0} (o : Option A) (b : Bool) → (is_some o || b) ≡ false → o ≡ None
none_left None b h = refl
none_left (Some x) b h = absurd (true≢false h)

none_right : {A : Type 0} (b : Bool) (o : Option A) → (b || is_some o) ≡ false → o ≡ None
none_right true o h = absurd (true≢false h)
none_right false None h = refl
none_right false (Some x) h = absurd (true≢false h)

module _ (rows : List CodeRow) (kind : Kind) (letter : ℕ) (word : Short) (apart : has_code rows kind letter word ≡ false) where
  -- where no row of the kind has the letter or the word, the letter has no word
  pub word_of-apart : word_of rows kind letter ≡ None
  word_of-apart =
      none_left (word_of rows kind letter) (list_any (has_word kind word) rows)
      (sym (has_code-found rows kind letter word _ _ (is_some-word_of rows kind letter) refl) ∙ apart)

  -- and the word no letter
  pub letter_of-apart : letter_of rows kind word ≡ None
  letter_of-apart =
      none_right (list_any (has_letter kind letter) rows) (letter_of rows kind word)
      (sym (has_code-found rows kind letter word _ _ refl (is_some-letter_of rows kind word)) ∙ apart)

-- one more row at the end of both indexes
pub still_paired : (words longer_words : List (LetterKey × Short)) (letters longer_letters : List (WordKey × ℕ)) (entry : LetterKey × Short)
    → letters ≡ map by_word words → longer_words ≡ words ++ entry ∷ [] → longer_letters ≡ letters ++ by_word entry ∷ [] → longer_letters ≡ map by_word longer_words
still_paired words longer_words letters longer_letters entry paired more_words more_letters =
    more_letters ∙ ap (λ es. es ++ by_word entry ∷ []) paired ∙ sym (ap (map by_word) more_words ∙ map_push by_word words entry)
