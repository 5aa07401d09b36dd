-- The places of links.
use Rattle.std.proofs.Common.{◌≡◌, ℕ, zero, suc, ◌+◌, ◌-◌, ◌<◌, ◌≤◌, length, take, drop, set, ◌++◌, refl, Bool, true, false, cond, List, [], ◌∷◌, get_or, None, ap, sym, subst, ◌∙◌, inl, inr, arith}
use Rattle.std.specs.declared.cmp.Ordering.TheVariants.{Less}
use Rattle.std.specs.List.{Contains, insert, remove, prefix_len}
use Rattle.std.specs.List.Sorted.{IsPartitionedBy, IsPartitionPoint}
use Rattle.std.specs.Ordering.{is_lt, is_eq}
use Rattle.std.specs.Prelude.{nat_lt}
use Rattle.std.proofs.lemmas.Bool.{cases_Bool, false≢true}
use Rattle.std.proofs.lemmas.Bool.Decides.{nat_tests}
use borrow.Rule.Slice.PartMut.{put_mid, mid_of}
use Rattle.std.proofs.lemmas.Cmp.{tied_itself}
use Rattle.std.proofs.lemmas.List.{length-take}
use Rattle.std.proofs.lemmas.List.Sums.{prefix_len_is}
use Rattle.packed_names.specs.declared.name.Designation.{Designation}
use Rattle.packed_names.specs.Order.{designation_cmp}
use Rattle.identify_core.specs.declared.link.Link.{Link}
use Rattle.identify_core.specs.Principals.{principal_of}
use Rattle.identify_core.specs.Keeping.{has_member, is_below, link_cmp, place_in}
use Rattle.identify_core.proofs.OrderLemmas.{designation_same, designation_total, link_total}
use Rattle.identify_core.proofs.LinkLemmas.{principal_of-here, principal_of-past}
use Rattle.identify_core.proofs.RunLemmas.{AreBehind, IsRising, behind_from, first_less, less_from, tied_member}

behind_insert : (x y : Link) (links : List Link) (n : ℕ) → AreBehind x links → link_cmp x y ≡ Less → AreBehind x (insert links n y)
behind_insert x y links zero behind less = (less, behind)
behind_insert x y [] (suc n) behind less = (less, tt)
behind_insert x y (z ∷ links) (suc n) behind less = (behind.0, behind_insert x y links n behind.1 less)

behind_all : (y x : Link) (links : List Link) → link_cmp y x ≡ Less → AreBehind x links → AreBehind y links
behind_all y x [] less behind = tt
behind_all y x (z ∷ links) less behind = (link_total.trans y x z less behind.0, behind_all y x links less behind.1)

not_here : (y x : Link) (links : List Link) → principal_of (x ∷ links) y.member ≡ None → has_member y.member x ≡ false
not_here y x links absent =
    elim (cases_Bool (has_member y.member x)) [ inl same ↦ let some = principal_of-here y.member x links same in absurd (cc) | inr apart ↦ apart ]

-- a link whose member no other one has stays in order at its place
pub rising_insert : (y : Link) (links : List Link) → principal_of links y.member ≡ None → IsRising links → IsRising (insert links (prefix_len (λ x. is_lt (link_cmp x y)) links) y)
rising_insert y [] absent up = (tt, tt)
rising_insert y (x ∷ links) absent up =
    let n : ℕ = prefix_len (λ l. is_lt (link_cmp l y)) links in
    let R : ℕ → Type 0 = λ k. IsRising (insert (x ∷ links) k y) in
    let apart : has_member y.member x ≡ false = not_here y x links absent in
    elim (cases_Bool (is_lt (link_cmp x y))) [
      | inl before ↦
          let one_more : 1 + n ≡ suc n = omega arith in
          let place : prefix_len (λ l. is_lt (link_cmp l y)) (x ∷ links) ≡ suc n = ap (λ (b : Bool). cond b (1 + n) 0) before ∙ one_more in
          let less : link_cmp x y ≡ Less = less_from (link_cmp x y) before in
          subst R (sym place) (behind_insert x y links n up.0 less, rising_insert y links (sym (principal_of-past y.member x links apart) ∙ absent) up.1)
      | inr late ↦
          let place : prefix_len (λ l. is_lt (link_cmp l y)) (x ∷ links) ≡ 0 = ap (λ (b : Bool). cond b (1 + n) 0) late in
          let less : link_cmp y x ≡ Less = link_total.antisymm y x ∙ behind_from (link_cmp x y) late (λ tied. let same = tied_member x y tied in cc) in
          subst R (sym place) ((less, behind_all y x links less up.0), up)
    ]

-- a link that stands after another one comes after it
at_behind : (one : Link) (links : List Link) → AreBehind one links → (j : ℕ) (x : Link) → j < length links → link_cmp one (get_or links j x) ≡ Less
at_behind one [] behind j x low = absurd (omega (arith, low))
at_behind one (other ∷ links) behind zero x low = behind.0
at_behind one (other ∷ links) behind (suc j) x low = at_behind one links behind.1 j x (omega (arith, low))

-- what passes a test comes before what fails it, where the test passes whatever comes before what it passes
partitioned : (test : Link → Bool) → ((one other : Link) → link_cmp one other ≡ Less → test other ≡ true → test one ≡ true) → (links : List Link) → IsRising links → IsPartitionedBy test links
partitioned test down [] up i j d le low passes = absurd (omega (arith, low))
partitioned test down (x ∷ links) up zero zero d le low passes = passes
partitioned test down (x ∷ links) up zero (suc j) d le low passes = down x (get_or links j d) (at_behind x links up.0 j d (omega (arith, low))) passes
partitioned test down (x ∷ links) up (suc i) zero d le low passes = absurd (omega (arith, le))
partitioned test down (x ∷ links) up (suc i) (suc j) d le low passes = partitioned test down links up.1 i j d (omega (arith, le)) (omega (arith, low)) passes

-- where the first link that fails a test stands, this many pass it
pub prefix_from : (test : Link → Bool) (links : List Link) (i : ℕ) (d : Link) → i ≤ length links → IsPartitionPoint (λ l. test l ≡ true) (λ l. test l ≡ false) links i → i ≡ prefix_len test links
prefix_from test links i d within point = sym (prefix_len_is test links i d within (λ k low. point.0 k d (omega arith) low) (λ low. point.1 i d (omega arith) low))

before_too : (y one other : Link) → link_cmp one other ≡ Less → is_lt (link_cmp other y) ≡ true → is_lt (link_cmp one y) ≡ true
before_too y one other less before = ap is_lt (link_total.trans one other y less (less_from (link_cmp other y) before))

pub parted_at : (y : Link) (links : List Link) → IsRising links → IsPartitionedBy (λ x. is_lt (link_cmp x y)) links
parted_at y links up = partitioned (λ x. is_lt (link_cmp x y)) (before_too y) links up

below_too : (p : Designation) (one other : Link) → link_cmp one other ≡ Less → is_below p other ≡ true → is_below p one ≡ true
below_too p one other less below =
    let later : designation_cmp other.principal p ≡ Less = less_from (designation_cmp other.principal p) below in
    elim (first_less (designation_cmp one.principal other.principal) (designation_cmp one.member other.member) less) [
      | inl before ↦ ap is_lt (designation_total.trans one.principal other.principal p before later)
      | inr tied ↦ ap is_lt (ap (λ (d : Designation). designation_cmp d p) (designation_same one.principal other.principal (ap is_eq tied.0)) ∙ later)
    ]

pub parted_below : (p : Designation) (links : List Link) → IsRising links → IsPartitionedBy (is_below p) links
parted_below p links up = partitioned (is_below p) (below_too p) links up

-- a link stands at its place
pub there_at : (y : Link) (links : List Link) → IsRising links → Contains links y → (d : Link) → (place_in y links < length links) × (get_or links (place_in y links) d ≡ y)
there_at y [] up among d = absurd (omega (arith, among.1))
there_at y (x ∷ links) up (zero, low, here) d =
    let stops : is_lt (link_cmp x y) ≡ false = subst (λ (l : Link). is_lt (link_cmp l y) ≡ false) (sym here) (ap is_lt (tied_itself link_total y)) in
    let place : place_in y (x ∷ links) ≡ 0 = ap (λ (b : Bool). cond b (1 + place_in y links) 0) stops in
    subst (λ (n : ℕ). (n < length (x ∷ links)) × (get_or (x ∷ links) n d ≡ y)) (sym place) (omega arith, here)
there_at y (x ∷ links) up (suc k, low, here) d =
    let before : link_cmp x y ≡ Less = subst (λ (l : Link). link_cmp x l ≡ Less) here (at_behind x links up.0 k y (omega (arith, low))) in
    let one_more : 1 + place_in y links ≡ suc (place_in y links) = omega arith in
    let place : place_in y (x ∷ links) ≡ suc (place_in y links) = ap (λ (b : Bool). cond b (1 + place_in y links) 0) (ap is_lt before) ∙ one_more in
    let rest = there_at y links up.1 (k, omega (arith, low), here) d in
    subst (λ (n : ℕ). (n < length (x ∷ links)) × (get_or (x ∷ links) n d ≡ y)) (sym place) (omega (arith, rest.0), rest.1)

behind_remove : (x : Link) (links : List Link) (n : ℕ) → AreBehind x links → AreBehind x (remove links n)
behind_remove x [] zero behind = tt
behind_remove x [] (suc n) behind = tt
behind_remove x (y ∷ links) zero behind = behind.1
behind_remove x (y ∷ links) (suc n) behind = (behind.0, behind_remove x links n behind.1)

-- links of which one is taken out stay in order
pub rising_remove : (links : List Link) (n : ℕ) → IsRising links → IsRising (remove links n)
rising_remove [] zero up = tt
rising_remove [] (suc n) up = tt
rising_remove (x ∷ links) zero up = up.1
rising_remove (x ∷ links) (suc n) up = (behind_remove x links n up.0, rising_remove links n up.1)

-- where a link isn't before another one, no later link is
none_before : (y x : Link) (links : List Link) → AreBehind x links → is_lt (link_cmp x y) ≡ false → place_in y links ≡ 0
none_before y x [] behind late = refl
none_before y x (z ∷ links) behind late = elim (cases_Bool (is_lt (link_cmp z y))) [
  | inl before ↦ absurd (false≢true (sym late ∙ before_too y x z behind.0 before))
  | inr later ↦ ap (λ (b : Bool). cond b (1 + place_in y links) 0) later
]

never : (i : ℕ) → 0 ≡ cond (nat_lt i 0) (0 - 1) 0
never i = grind (arith, nat_tests)

-- the place of a link among links of which one is taken out
pub place_removed : (y : Link) (links : List Link) (i : ℕ) → IsRising links → i < length links → place_in y (remove links i) ≡ cond (nat_lt i (place_in y links)) (place_in y links - 1) (place_in y links)
place_removed y [] i up low = absurd (omega (arith, low))
place_removed y (x ∷ links) zero up low = by (is_lt (link_cmp x y)) refl
  where
    by : (b : Bool) → is_lt (link_cmp x y) ≡ b → place_in y links ≡ cond (nat_lt zero (cond b (1 + place_in y links) 0)) (cond b (1 + place_in y links) 0 - 1) (cond b (1 + place_in y links) 0)
    by true before = grind (arith, nat_tests)
    by false late = none_before y x links up.0 late ∙ never zero
place_removed y (x ∷ links) (suc k) up low = by (is_lt (link_cmp x y)) (place_removed y links k up.1 (omega (arith, low)))
  where
    by : (b : Bool) → place_in y (remove links k) ≡ cond (nat_lt k (place_in y links)) (place_in y links - 1) (place_in y links)
        → cond b (1 + place_in y (remove links k)) 0 ≡ cond (nat_lt (suc k) (cond b (1 + place_in y links) 0)) (cond b (1 + place_in y links) 0 - 1) (cond b (1 + place_in y links) 0)
    by true rest = ap (λ (n : ℕ). 1 + n) rest ∙ stepped (place_in y links) k
      where
        stepped : (n k : ℕ) → 1 + cond (nat_lt k n) (n - 1) n ≡ cond (nat_lt (suc k) (1 + n)) (1 + n - 1) (1 + n)
        stepped n k = grind (arith, nat_tests)
    by false rest = never (suc k)

-- ---- a link that is moved

-- the first of this many links comes after the others
to_last : (x y : Link) (links : List Link) (k : ℕ) → k ≤ length links → set ((take k links ++ x ∷ []) ++ drop k links) k y ≡ insert links k y
to_last x y links zero low = refl
to_last x y [] (suc k) low = absurd (omega (arith, low))
to_last x y (z ∷ links) (suc k) low = ap (λ (ls : List Link). z ∷ ls) (to_last x y links k (omega (arith, low)))

-- a part of the links that ends with one, and the others of it
last_one : (links : List Link) (k : ℕ) (d : Link) → k < length links → drop k (take (suc k) links) ≡ get_or links k d ∷ []
last_one [] k d low = absurd (omega (arith, low))
last_one (x ∷ links) zero d low = refl
last_one (x ∷ links) (suc k) d low = last_one links k d (omega (arith, low))

all_but : (links : List Link) (k : ℕ) → k < length links → (length (take (suc k) links) - 1 ≡ k) × (take k (take (suc k) links) ≡ take k links)
all_but [] k low = absurd (omega (arith, low))
all_but (x ∷ links) zero low = (refl, refl)
all_but (x ∷ links) (suc k) low =
    let rest = all_but links k (omega (arith, low)) in
    (omega (arith, low, length-take (suc k) links), ap (λ (ls : List Link). x ∷ ls) rest.1)

-- the links from one place to another, of which the first comes last and is replaced
pub moved_on : (links : List Link) (from to n : ℕ) (y : Link) → from ≤ to → n + from ≡ suc to → to < length links
    → set (put_mid from n links (drop 1 (mid_of from n links) ++ take 1 (mid_of from n links))) to y ≡ insert (remove links from) to y
moved_on [] from to n y le size low = absurd (omega (arith, low))
moved_on (x ∷ links) zero to n y le size low =
    let is : n ≡ suc to = omega (arith, size) in
    ap (λ (n : ℕ). set (put_mid zero n (x ∷ links) (drop 1 (mid_of zero n (x ∷ links)) ++ take 1 (mid_of zero n (x ∷ links)))) to y) is ∙ to_last x y links to (omega (arith, low))
moved_on (x ∷ links) (suc from) zero n y le size low = absurd (omega (arith, le))
moved_on (x ∷ links) (suc from) (suc to) n y le size low =
    ap (λ (ls : List Link). x ∷ ls) (moved_on links from to n y (omega (arith, le)) (omega (arith, size)) (omega (arith, low)))

-- the same where the last comes first
pub moved_back : (links : List Link) (from to n : ℕ) (y : Link) → to ≤ from → n + to ≡ suc from → from < length links
    → set (put_mid to n links (drop (length (mid_of to n links) - 1) (mid_of to n links) ++ take (length (mid_of to n links) - 1) (mid_of to n links))) to y ≡ insert (remove links from) to y
moved_back links from zero n y le size low =
    let is : n ≡ suc from = omega (arith, size) in
    let parts = all_but links from low in
    ap (λ (n : ℕ). set (put_mid zero n links (drop (length (mid_of zero n links) - 1) (mid_of zero n links) ++ take (length (mid_of zero n links) - 1) (mid_of zero n links))) zero y) is
    ∙ ap (λ (k : ℕ). set ((drop k (take (suc from) links) ++ take k (take (suc from) links)) ++ drop (suc from) links) zero y) parts.0
    ∙ ap (λ (ls : List Link). set ((ls ++ take from (take (suc from) links)) ++ drop (suc from) links) zero y) (last_one links from y low)
    ∙ ap (λ (ls : List Link). y ∷ (ls ++ drop (suc from) links)) parts.1
moved_back [] from (suc to) n y le size low = absurd (omega (arith, low))
moved_back (x ∷ links) zero (suc to) n y le size low = absurd (omega (arith, le))
moved_back (x ∷ links) (suc from) (suc to) n y le size low =
    ap (λ (ls : List Link). x ∷ ls) (moved_back links from to n y (omega (arith, le)) (omega (arith, size)) (omega (arith, low)))
