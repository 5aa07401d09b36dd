-- What is asked of a target that has a route.
use Rattle.std.proofs.Common.{◌≡◌, List, [], ◌∷◌, ◌++◌, ℕ, Option, Some, Bool, true, false, cond, ◌==◌, refl, ap, ◌∙◌, codes, bytes_eq, if◌then◌else◌, true≢false}
use Rattle.ascii_text.specs.Reading.{◌>>=◌}
use Rattle.matchit.specs.Seek.{has_slash, slash}
use Rattle.desk_http.specs.declared.route.Asked.{Asked}
use Rattle.desk_http.specs.Heads.{cut_at, act_parts, nothing_asked, act_asked, query_asked, asked_of}

-- the parts after one byte more
abbrev longer : ℕ → Option (List ℕ × List ℕ) → Option (List ℕ × List ℕ)
longer first parts = parts >>= (λ p. Some (first ∷ p.0, p.1))

cut_by : (v : Bool) (b : ℕ) (number word : List ℕ) → (has_slash number ≡ false → cut_at slash (number ++ slash ∷ word) ≡ Some (number, word)) → cond v true (has_slash number) ≡ false
    → cond v (Some ([], number ++ slash ∷ word)) (longer b (cut_at slash (number ++ slash ∷ word))) ≡ Some (b ∷ number, word)
cut_by true b number word further e = absurd (true≢false e)
cut_by false b number word further e = ap (longer b) (further e)

cut_first : (number word : List ℕ) → has_slash number ≡ false → cut_at slash (number ++ slash ∷ word) ≡ Some (number, word)
unfolding cut_at
cut_first [] word none = refl
cut_first (b ∷ number) word none = cut_by (b == slash) b number word (cut_first number word) none

-- an act's parts, where the method is that of acts
abbrev pub act_by : List ℕ → Option (List ℕ × List ℕ) → Asked
act_by method parts = if bytes_eq method (codes "POST") then act_parts parts else nothing_asked

pub act_target : (method target number word : List ℕ) → target ≡ codes "/v1/act/" ++ (number ++ slash ∷ word) → has_slash number ≡ false
    → asked_of method target ≡ act_by method (Some (number, word))
unfolding asked_of act_asked
act_target method target number word is none = ap (asked_of method) is ∙ ap (act_by method) (cut_first number word none)

pub query_target : (method target word : List ℕ) → target ≡ codes "/v1/ask/" ++ word → asked_of method target ≡ query_asked method (Some word)
unfolding asked_of
query_target method target word is = ap (asked_of method) is
