-- Texts that are put one after another.
use Rattle.std.proofs.Common.{◌≡◌, ℕ, List, [], ◌++◌, ap, ◌∙◌, append_assoc}

-- what follows a text that was put after another
put_behind : (new old text rest : List ℕ) → new ≡ old ++ text → new ++ rest ≡ old ++ (text ++ rest)
put_behind new old text rest same = ap (λ (t : List ℕ). t ++ rest) same ∙ append_assoc old text rest

pub five_put : (none one two three four five a b c d e : List ℕ) → none ≡ [] → one ≡ none ++ a → two ≡ one ++ b → three ≡ two ++ c
    → four ≡ three ++ d → five ≡ four ++ e → five ≡ a ++ (b ++ (c ++ (d ++ e)))
five_put none one two three four five a b c d e n1 n2 n3 n4 n5 n6 =
    n6 ∙ put_behind four three d e n5 ∙ put_behind three two c (d ++ e) n4 ∙ put_behind two one b (c ++ (d ++ e)) n3
    ∙ put_behind one none a (b ++ (c ++ (d ++ e))) n2 ∙ ap (λ (t : List ℕ). t ++ (a ++ (b ++ (c ++ (d ++ e))))) n1
