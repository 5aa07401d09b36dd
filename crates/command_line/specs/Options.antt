-- Options: a name and a value, as one word `--name=value` or as two words `--name value`.
use Rattle.std.specs.Prelude.{ℕ, ◌+◌, Bool, false, ◌==◌, ◌&&◌, bytes_eq, if◌then◌else◌, position, List, [], ◌∷◌, take}
use Rattle.std.specs.Prelude.{drop, Option, Some, None, option_map}
use Rattle.ascii_text.specs.Reading.{◌>>=◌}

-- the name and the value of an option
abbrev pub Named : Type 0
Named = List ℕ × List ℕ

abbrev pub begins_with_hyphen : List ℕ → Bool
begins_with_hyphen [] = false
begins_with_hyphen (first ∷ rest) = first == 45

-- an option in one word: what stands before its first equals sign and what stands after it
abbrev pub in_one_word : List ℕ → Option Named
in_one_word word = option_map (λ place. (take place word, drop (place + 1) word)) (position (λ byte. byte == 61) word)

-- an option whose value is a word of its own, which doesn't begin with a hyphen, and the words after it
abbrev pub in_two_words : List ℕ → List (List ℕ) → Option (Named × List (List ℕ))
in_two_words name [] = None
in_two_words name (value ∷ words) = if begins_with_hyphen value then None else Some ((name, value), words)

-- the option that one word is, or else the one that it begins
abbrev pub one_word_or_two : Option Named → List ℕ → List (List ℕ) → Option (Named × List (List ℕ))
one_word_or_two (Some named) word words = Some (named, words)
one_word_or_two None word words = in_two_words word words

-- the option at the front of the words, and the words after it
unfoldable pub option_at : List (List ℕ) → Option (Named × List (List ℕ))
option_at [] = None
option_at (word ∷ words) = one_word_or_two (in_one_word word) word words

-- what was read, where no word stands after it
abbrev pub if_last : {A : Type 0} → A → List (List ℕ) → Option A
if_last found [] = Some found
if_last found (word ∷ words) = None

-- the one option that the words are
unfoldable pub last_option : List (List ℕ) → Option Named
last_option words = do
  option ← option_at words
  if_last option.0 option.1

-- the value of an option, where it has this name
abbrev pub value_of : List ℕ → Named → Option (List ℕ)
value_of name option = if bytes_eq option.0 name then Some option.1 else None

-- the value of the one option that the words are, which has this name
unfoldable pub one_value : List ℕ → List (List ℕ) → Option (List ℕ)
one_value name words = do
  option ← last_option words
  value_of name option

-- the values of two options where they have these names, in this order or the other
abbrev pub values_of : List ℕ → List ℕ → Named → Named → Option (List ℕ × List ℕ)
values_of name other first second =
    if bytes_eq first.0 name && bytes_eq second.0 other then Some (first.1, second.1)
    else (if bytes_eq first.0 other && bytes_eq second.0 name then Some (second.1, first.1) else None)

-- the values of the two options that the words are, which have these two names
unfoldable pub two_values : List ℕ → List ℕ → List (List ℕ) → Option (List ℕ × List ℕ)
two_values name other words = do
  first ← option_at words
  second ← last_option first.1
  values_of name other first.0 second
