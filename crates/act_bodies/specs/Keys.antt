-- The keys by which callers are known.
use Rattle.std.specs.Prelude.{ℕ, ◌-◌, min, ◌==◌, [], ◌∷◌, ◌++◌, List, length, take, replicate, Bool, false, bytes_eq}
use Rattle.act_bodies.specs.declared.key.Key.{Key}

-- how many bytes of a key are kept
abbrev pub kept_bytes : ℕ
kept_bytes = 34

-- a text as a key: its first 34 bytes, and zeros after a shorter one
abbrev pub key_of : List ℕ → Key
key_of text =
    record {
      len = min (length text) kept_bytes;
      bytes =
          take kept_bytes text ++ replicate (kept_bytes - length text) 0;
    }

-- the text of a key
abbrev pub key_text : Key → List ℕ
key_text key = take key.len key.bytes

-- two keys are one
abbrev pub same_key : Key → Key → Bool
same_key a b = bytes_eq (key_text a) (key_text b)

-- the text begins with a plus, as that of the founding officer's key does
abbrev pub begins_with_plus : List ℕ → Bool
begins_with_plus [] = false
begins_with_plus (first ∷ rest) = first == 43
