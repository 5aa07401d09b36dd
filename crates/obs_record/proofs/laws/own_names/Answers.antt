use Rattle.std.proofs.Common.{◌≡◌, ℕ, ◌≤◌, List, length, take, refl, sym, ap, subst, ◌∙◌, arith}
use Rattle.std.specs.Prelude.{All}
use Rattle.obs_record.specs.Short.{kept_short}
use Rattle.obs_record.specs.Filed.{IsVisible, IsOwnName}
use Rattle.obs_record.proofs.Texts.{kept_is_short, kept_again}
use Rattle.obs_record.proofs.laws.own_names.Goals as goal

kept_length : (text : List ℕ) → length text ≤ 12 → (kept_short text).len ≡ length text
unfolding kept_short
kept_length text few = omega arith

kept_name : (text : List ℕ) → 1 ≤ length text → length text ≤ 12 → All IsVisible text → IsOwnName (kept_short text)
kept_name text some few visible =
    let long = kept_length text few in
    let whole : take (kept_short text).len (kept_short text).bytes ≡ text = ap (λ (n : ℕ). take n (kept_short text).bytes) long ∙ kept_again text (length text) refl few in
    record {
      kept = kept_is_short text;
      some = subst (λ (n : ℕ). 1 ≤ n) (sym long) some;
      visible = subst (All IsVisible) (sym whole) visible;
    }

pub returns : goal.returns
returns c = kept_name
