-- The answer of a reply, whose head is written before its text.
use Rattle.std.proofs.Common.{◌≡◌, ℕ, ◌+◌, ◌≤◌, List, [], ◌++◌, length, take, drop, Option, refl, sym, ap, ◌∙◌, subst, append_assoc, arith}
use Rattle.std.proofs.lemmas.List.{length-append, take-append-drop, take-append-le, take_at, drop_at}
use Rattle.std.proofs.KnownBytes.{Appends-trans}
use Rattle.std.specs.Io.KnownBytes.{Appends}
use lib.Seq.{take-add}
use Rattle.desk_io.specs.Outside.{AppendsPart}

module _ (old new : Option (List ℕ)) (head text answer : List ℕ) (joined : answer ≡ head ++ text) where
  -- a part of the head is a part of the answer
  pub part_of_head : AppendsPart old new head → AppendsPart old new answer
  part_of_head part =
      let n : ℕ = part.0 in
      let few : n ≤ length head = omega (arith, part.1) in
      let same : take n answer ≡ take n head = ap (take n) joined ∙ take-append-le n head text few in
      (n, omega (arith, part.1, ap length joined, length-append head text), subst (Appends old new) (sym same) part.2)

  -- the head and a part of the text are a part of the answer
  pub part_behind_head : (mid : Option (List ℕ)) → Appends old mid head → AppendsPart mid new text → AppendsPart old new answer
  part_behind_head mid before part =
      let n : ℕ = part.0 in
      let same : take (length head + n) answer ≡ head ++ take n text =
      ap (take (length head + n)) joined ∙ take-add (length head) n (head ++ text)
      ∙ ap (λ (t : List ℕ). t ++ take n (drop (length head) (head ++ text))) (take_at head text (length head) refl)
      ∙ ap (λ (t : List ℕ). head ++ take n t) (drop_at head text (length head) refl) in
      (length head + n, omega (arith, part.1, ap length joined, length-append head text), subst (Appends old new) (sym same) (Appends-trans old mid new head (take n text) before part.2))

-- the head and a front of the text, and then the rest of the text, are the answer
pub first_and_rest : (head front rest text first : List ℕ) (n : ℕ) → first ≡ head ++ front → front ≡ take n text → rest ≡ drop n text → head ++ text ≡ first ++ rest
first_and_rest head front rest text first n filled before after =
    let whole : front ++ rest ≡ text = ap (λ (t : List ℕ). t ++ rest) before ∙ ap (λ (t : List ℕ). take n text ++ t) after ∙ take-append-drop n text in
    sym (ap (λ (t : List ℕ). t ++ rest) filled ∙ append_assoc head front rest ∙ ap (λ (t : List ℕ). head ++ t) whole)

-- what follows a text that was put after another
put_behind : (new old text rest : List ℕ) → new ≡ old ++ text → new ++ rest ≡ old ++ (text ++ rest)
put_behind new old text rest same = ap (λ (t : List ℕ). t ++ rest) same ∙ append_assoc old text rest

-- nine texts, put one after the other
pub nine_put : (h0 h1 h2 h3 h4 h5 h6 h7 h8 h9 a b c d e f g h i : List ℕ) → h0 ≡ []
    → h1 ≡ h0 ++ a
    → h2 ≡ h1 ++ b
    → h3 ≡ h2 ++ c
    → h4 ≡ h3 ++ d
    → h5 ≡ h4 ++ e
    → h6 ≡ h5 ++ f
    → h7 ≡ h6 ++ g
    → h8 ≡ h7 ++ h
    → h9 ≡ h8 ++ i
    → h9 ≡ a ++ (b ++ (c ++ (d ++ (e ++ (f ++ (g ++ (h ++ i)))))))
nine_put h0 h1 h2 h3 h4 h5 h6 h7 h8 h9 a b c d e f g h i none e1 e2 e3 e4 e5 e6 e7 e8 e9 =
    e9
    ∙ put_behind h8 h7 h (i) e8
    ∙ put_behind h7 h6 g (h ++ i) e7
    ∙ put_behind h6 h5 f (g ++ (h ++ i)) e6
    ∙ put_behind h5 h4 e (f ++ (g ++ (h ++ i))) e5
    ∙ put_behind h4 h3 d (e ++ (f ++ (g ++ (h ++ i)))) e4
    ∙ put_behind h3 h2 c (d ++ (e ++ (f ++ (g ++ (h ++ i))))) e3
    ∙ put_behind h2 h1 b (c ++ (d ++ (e ++ (f ++ (g ++ (h ++ i)))))) e2
    ∙ put_behind h1 h0 a (b ++ (c ++ (d ++ (e ++ (f ++ (g ++ (h ++ i))))))) e1
    ∙ ap (λ (t : List ℕ). t ++ (a ++ (b ++ (c ++ (d ++ (e ++ (f ++ (g ++ (h ++ i))))))))) none
