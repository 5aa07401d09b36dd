-- Calls that write nothing.
use Rattle.std.proofs.Common.{◌≡◌, inl, ⊎_elim, ℕ, ◌+◌, ◌-◌, ◌≤◌, List, ◌++◌, length, take, drop, refl, sym, ◌∙◌, ap, arith, append_assoc, length-drop, take-append-drop}
use Rattle.std.proofs.lemmas.List.{take_at, drop-drop, drop-take, take-take, length-take-le}
use Rattle.std.specs.Prelude.{IfSome, IsSome}
use Rattle.std.specs.declared.option.Option.{Option}
use Rattle.std.specs.declared.option.Option.TheVariants.{None, Some}
use Rattle.disk_model.specs.Files.{Gives}
use Rattle.disk_model.specs.Crashes.{Passes, EachSince}
use Rattle.disk_model.specs.Moments.{during_joined}
use Rattle.obs_journal.specs.Journals.{IsUnwritten}

module _ {D : Type 0} (reads : D → Option (List ℕ)) (leaves : D → List ℕ → Type 0) (moment : D → ℕ) (since : D → ℕ → List ℕ → Type 0)
    (counts_now : (disk : D) (t : ℕ) (image : List ℕ) → t ≤ moment disk → leaves disk image → since disk t image) where
  -- one call
  pub unwritten_call : {old new : D} → reads new ≡ reads old → Passes moment since old new → EachSince moment since old new (leaves old) → IsUnwritten reads moment since old new
  unwritten_call {old = old} {new = new} same passes kept = record {
    same = same;
    no_image = record {
      later = passes.later;
      either = λ t image le was. ⊎_elim (λ before. inl before) (λ inside. inl (counts_now old t image le (kept image inside))) ((passes.gathered t image le).0 was);
    };
  }

-- one after the other
pub unwritten_joined : {D : Type 0} {reads : D → Option (List ℕ)} {moment : D → ℕ} {since : D → ℕ → List ℕ → Type 0} {old mid new : D} → IsUnwritten reads moment since old mid → IsUnwritten reads moment since mid new → IsUnwritten reads moment since old new
unwritten_joined first second = record { same = second.same ∙ first.same; no_image = during_joined first.no_image second.no_image }

-- what two facts on known reads say together
pub if_both : {A : Type 0} (P Q R : A → Type 0) (known : Option A) → ((x : A) → P x → Q x → R x) → IfSome known P → IfSome known Q → IfSome known R
if_both P Q R None both p q = tt
if_both P Q R (Some x) both p q = both x p q

-- nor what no file has at once
pub never_both : (known : Option (List ℕ)) (P Q : List ℕ → Type 0) → ((file : List ℕ) → P file → Q file → ⊥) → IfSome known P → IsSome known → ((file : List ℕ) → known ≡ Some file → Q file) → ⊥
never_both None P Q never p some q = cc
never_both (Some file) P Q never p some q = never file p (q file refl)

-- what a read gives stands in the front of its piece
pub given_front : (file : List ℕ) (at n : ℕ) (old new rest : List ℕ) → Gives file at n old new → take n (new ++ rest) ≡ take n (drop at file)
given_front file at n old new rest gives =
    let long : length (take n (drop at file)) ≡ n = length-take-le n (drop at file) (omega (arith, length-drop at file, gives.within)) in
    ap (λ l. take n (l ++ rest)) gives.piece ∙ ap (λ l. take n l) (append_assoc (take n (drop at file)) (drop n old) rest) ∙ take_at (take n (drop at file)) (drop n old ++ rest) n long

-- the front of what is left, and what is left behind it
pub left_in_two : (n left : ℕ) (bytes : List ℕ) → n ≤ left → take left bytes ≡ take n bytes ++ take (left - n) (drop n bytes)
left_in_two n left bytes le =
    let sum : n + (left - n) ≡ left = omega arith in
    ap (λ m. take m bytes) (sym sum) ∙ sym (take-append-drop n (take (n + (left - n)) bytes)) ∙ ap (λ l. l ++ drop n (take (n + (left - n)) bytes)) (take-take n (n + (left - n)) bytes (omega arith)) ∙ ap (λ l. take n bytes ++ l) (drop-take n (left - n) bytes)

-- one piece more of what is to be read
pub piece_more : (file initial bytes new piece old rest : List ℕ) (at count from got left : ℕ) → got ≤ left → Gives file from got old piece → new ≡ bytes ++ take got (piece ++ rest)
    → bytes ++ take left (drop from file) ≡ initial ++ take count (drop at file) → new ++ take (left - got) (drop (from + got) file) ≡ initial ++ take count (drop at file)
piece_more file initial bytes new piece old rest at count from got left le gives new_is told =
    let front = given_front file from got old piece rest gives in
    ap (λ l. l ++ take (left - got) (drop (from + got) file)) (new_is ∙ ap (λ l. bytes ++ l) front) ∙ append_assoc bytes (take got (drop from file)) (take (left - got) (drop (from + got) file))
    ∙ ap (λ l. bytes ++ (take got (drop from file) ++ take (left - got) l)) (sym (drop-drop got from file)) ∙ ap (λ l. bytes ++ l) (sym (left_in_two got left (drop from file) le)) ∙ told
