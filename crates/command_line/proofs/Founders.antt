-- The key that good words name is a founding officer's.
use Rattle.std.proofs.Common.{◌≡◌, ℕ, ◌-◌, ◌≤◌, min, true, List, [], ◌∷◌, ◌++◌, length, take, replicate, refl, sym, ap, ◌∙◌, subst, arith}
use Rattle.std.specs.Prelude.{◌==◌, nat_le}
use Rattle.std.proofs.lemmas.Bool.{and_parts}
use Rattle.std.proofs.lemmas.Bool.Decides.{nat_tests}
use Rattle.std.proofs.lemmas.List.{take_at, take_all}
use Rattle.std.specs.List.{list_all}
use Rattle.act_bodies.specs.Keys.{kept_bytes, key_of, key_text, begins_with_plus}
use Rattle.act_model.specs.Roster.{IsFounder}
use Rattle.command_line.specs.Keys.{is_key_byte, has_key_length, is_key_rest, is_founder_key}

-- a text that isn't longer than a key may be is the text of its key
key_is_text : (text : List ℕ) → length text ≤ 34 → key_text (key_of text) ≡ text
key_is_text text short =
    let zeros : List ℕ = replicate (kept_bytes - length text) 0 in
    let all : take kept_bytes text ≡ text = take_all kept_bytes text short in
    let count : min (length text) kept_bytes ≡ length text = omega arith in
    ap (λ (n : ℕ). take n (take kept_bytes text ++ zeros)) count ∙ ap (λ (t : List ℕ). take (length text) (t ++ zeros)) all ∙ take_at text zeros (length text) refl

few_bytes : (rest : List ℕ) → is_key_rest rest ≡ true → length rest ≤ 32
few_bytes rest good =
    let long = and_parts (has_key_length rest) (list_all is_key_byte rest) good in
    let both = and_parts (nat_le 8 (length rest)) (nat_le (length rest) 32) long.0 in
    let most : nat_le (length rest) 32 ≡ true = both.1 in
    grind (arith, nat_tests)

pub names_founder : (text : List ℕ) → is_founder_key text ≡ true → IsFounder (key_of text)
names_founder [] good = absurd cc
names_founder (sign ∷ rest) good =
    let parts = and_parts (sign == 43) (is_key_rest rest) good in
    let few : length rest ≤ 32 = few_bytes rest parts.1 in
    let same : key_text (key_of (sign ∷ rest)) ≡ sign ∷ rest = key_is_text (sign ∷ rest) (omega arith) in
    let long : length (sign ∷ rest) ≤ 33 = omega arith in
    (ap begins_with_plus same ∙ parts.0, subst (λ (t : List ℕ). length t ≤ 33) (sym same) long)
