-- Tracklets stay there when one of them gets another home.
use Rattle.std.proofs.Common.{◌≡◌, ℕ, ◌+◌, Bool, true, false, cond, List, [], ◌∷◌, length, Option, Some, refl, sym, ap, subst, suc}
use Rattle.std.specs.Prelude.{IsSome, ◌==◌}
use Rattle.packed_names.specs.declared.name.Designation.{Designation}
use Rattle.tracklet_file.specs.declared.tracklet.Tracklet.{Tracklet}
use Rattle.tracklet_file.specs.Numbering.{next_number, numbered, changed_at}
use Rattle.tracklet_file.specs.Tracklets.{with_home}
use Rattle.act_model.specs.Fitting.{AreTracklets}

length_changed : {A : Type 0} (change : A → A) (items : List A) (k : ℕ) → length (changed_at change items k) ≡ length items
length_changed change [] k = refl
length_changed change (newest ∷ older) k = by (k == next_number older) (length_changed change older k)
  where
    by : (b : Bool) → length (changed_at change older k) ≡ length older → length (cond b (change newest ∷ older) (newest ∷ changed_at change older k)) ≡ length (newest ∷ older)
    by true rest = refl
    by false rest = ap suc rest

-- an item that is there stays there when one of them is changed
pub stays_there : {A : Type 0} (change : A → A) (items : List A) (number k : ℕ) → IsSome (numbered items k) → IsSome (numbered (changed_at change items number) k)
stays_there change [] number k is = is
stays_there change (newest ∷ older) number k is = by (stays_there change older number k) (number == next_number older)
  where
    same : (c : Bool) → IsSome (cond c (Some newest) (numbered older k)) → IsSome (cond c (Some (change newest)) (numbered older k))
    same true is = refl
    same false is = is

    other : (IsSome (numbered older k) → IsSome (numbered (changed_at change older number) k)) → (c : Bool) → IsSome (cond c (Some newest) (numbered older k)) → IsSome (cond c (Some newest) (numbered (changed_at change older number) k))
    other rest true is = refl
    other rest false is = rest is

    by : (IsSome (numbered older k) → IsSome (numbered (changed_at change older number) k)) → (b : Bool) → IsSome (numbered (cond b (change newest ∷ older) (newest ∷ changed_at change older number)) k)
    by rest true = same (k == next_number older) is
    by rest false =
        subst (λ (n : ℕ). IsSome (cond (k == n + 1) (Some newest) (numbered (changed_at change older number) k)))
        (sym (length_changed change older number)) (other rest (k == next_number older) is)

pub stay_there : (tracklets : List Tracklet) (t : ℕ) (home : Option Designation) (ts : List ℕ) → AreTracklets tracklets ts → AreTracklets (with_home tracklets t home) ts
stay_there tracklets t home [] are = tt
stay_there tracklets t home (u ∷ more) (is, are) =
    (stays_there (λ (tracklet : Tracklet). record tracklet { home = home }) tracklets t u is, stay_there tracklets t home more are)
