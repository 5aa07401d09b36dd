-- How runs of calls are joined: laws on the images at some moment of a run.
use Rattle.std.specs.Prelude.{◌⊎◌, ℕ, ◌≤◌, List}
use Rattle.std.proofs.Common.{inl, inr, ⊎_elim, le_refl, le_trans}
use Rattle.disk_model.specs.Crashes.{Passes, EachSince, During}

module _ {D : Type 0} {moment : D → ℕ} {since : D → ℕ → List ℕ → Type 0} where
  -- before the first call
  pub during_nothing : (disk : D) (P : List ℕ → Type 0) → During moment since disk disk P
  during_nothing disk P = record { later = le_refl _; either = λ t image le was. inl was }

  -- over one call
  pub during_call : {old new : D} (P : List ℕ → Type 0) → Passes moment since old new
      → EachSince moment since old new P → During moment since old new P
  during_call P passes each = record {
    later = passes.later;
    either = λ t image le was.
        ⊎_elim (λ before. inl before) (λ inside. inr (each image inside)) ((passes.gathered t image le).0 was);
  }

  -- over two runs, one after the other
  pub during_joined : {old mid new : D} {P : List ℕ → Type 0} → During moment since old mid P
      → During moment since mid new P → During moment since old new P
  during_joined first second = record {
    later = le_trans first.later second.later;
    either = λ t image le was.
        ⊎_elim
        (λ earlier. first.either t image le earlier)
        (λ has. inr has)
        (second.either t image (le_trans le first.later) was);
  }

  -- over a run and one call more
  pub during_one_more : {old mid new : D} {P : List ℕ → Type 0} → During moment since old mid P
      → Passes moment since mid new → EachSince moment since mid new P → During moment since old new P
  during_one_more first passes each = during_joined first (during_call _ passes each)

  -- what has P has Q
  pub during_weaker : {old new : D} {P : List ℕ → Type 0} (Q : List ℕ → Type 0)
      → ((image : List ℕ) → P image → Q image) → During moment since old new P → During moment since old new Q
  during_weaker Q weaker run = record {
    later = run.later;
    either = λ t image le was.
        ⊎_elim (λ earlier. inl earlier) (λ has. inr (weaker image has)) (run.either t image le was);
  }

  -- the images of a disk, with two laws of each disk: an image now is one since each earlier moment, and since now
  -- there is no other
  module _ (leaves : D → List ℕ → Type 0)
      (counts_now : (disk : D) (t : ℕ) (image : List ℕ) → t ≤ moment disk → leaves disk image → since disk t image)
      (only_now : (disk : D) (image : List ℕ) → since disk (moment disk) image → leaves disk image) where
    -- each image at some moment of a run was one at its start, or has P
    pub images_during : {old new : D} {P : List ℕ → Type 0} → During moment since old new P → (image : List ℕ)
        → since new (moment old) image → leaves old image ⊎ P image
    images_during {old = old} run image was =
        ⊎_elim
        (λ earlier. inl (only_now old image earlier))
        (λ has. inr has)
        (run.either (moment old) image (le_refl _) was)

    -- and so is each image at its end
    pub images_after : {old new : D} {P : List ℕ → Type 0} → During moment since old new P → (image : List ℕ)
        → leaves new image → leaves old image ⊎ P image
    images_after {old = old} {new = new} run image now =
        images_during run image (counts_now new (moment old) image run.later now)
