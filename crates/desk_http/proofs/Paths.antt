-- What a path is that has a route.
use Rattle.std.proofs.Common.{◌≡◌, ℕ, zero, suc, ◌-◌, ◌<◌, List, [], ◌∷◌, ◌++◌, length, take, drop, Option, Some, None, Bool, true, false, cond, ◌==◌, ◌&&◌, ltb, ◌⊎◌, inl, inr, refl, sym, ap, ◌∙◌, arith, codes, true≢false, eqb-true, ltb-true, ne_eqb, take-append-drop, nat_eq}
use Rattle.std.specs.List.{ends_with}
use Rattle.std.proofs.lemmas.Option.{none-some}
use Rattle.matchit.specs.Rows.{RowsOf, param_token, catch_all_token}
use Rattle.matchit.specs.Router.{RouteOf}
use Rattle.matchit.specs.Seek.{own, step, or_else, seek, first, param_step, has_slash, segment, slash, cuts, with_suffix}
use Rattle.desk_http.specs.declared.routes.Route.{Route}
use Rattle.desk_http.specs.Routes.{act_route, query_route, office_routes}

abbrev pub Found : Type 0
Found = RouteOf Route

abbrev pub Rows : Type 0
Rows = RowsOf Found

-- ---- steps

both : (a b : Bool) → (a && b) ≡ true → (a ≡ true) × (b ≡ true)
both true b e = (refl, e)
both false b e = absurd (true≢false (sym e))

either : (x y : Option Found) (r : Found) → or_else x y ≡ Some r → (x ≡ Some r) ⊎ (y ≡ Some r)
either None y r e = inr e
either (Some k) y r e = inl e

or_else_none : (x : Option Found) → or_else x None ≡ x
or_else_none None = refl
or_else_none (Some k) = refl

param_none : (p : List ℕ) → (param_step {K = Found} [] p).1 ≡ []
unfolding param_step
param_none p =
    elim (has_slash p) as (λ v. (cond {A = ℕ × Rows} v (0, []) (length p, [])).1 ≡ []) [
      | true ↦ refl
      | false ↦ refl
    ]

seek_none : (k : ℕ) (p : List ℕ) → seek {K = Found} k [] p ≡ None
unfolding seek
seek_none k [] = refl
seek_none (suc k) (b ∷ p) = seek_none k p
seek_none zero (b ∷ p) = simp (seek_none 0 p, param_none (b ∷ p), seek_none (((param_step {K = Found} [] (b ∷ p)).0) - 1) p)

never : {X : Type 0} (k : ℕ) (p : List ℕ) (r : Found) → seek {K = Found} k [] p ≡ Some r → X
never k p r e = absurd (none-some r (sym (seek_none k p) ∙ e))

seek_drop : (k : ℕ) (rows : Rows) (p : List ℕ) → seek k rows p ≡ seek 0 rows (drop k p)
unfolding seek
seek_drop zero rows p = refl
seek_drop (suc k) rows [] = refl
seek_drop (suc k) rows (b ∷ p) = seek_drop k rows p

seek_past : (rows : Rows) (p : List ℕ) → seek (length p) rows p ≡ own rows
unfolding seek
seek_past rows [] = refl
seek_past rows (b ∷ p) = seek_past rows p

seek_end : (rows : Rows) → seek 0 rows [] ≡ own rows
unfolding seek
seek_end rows = refl

-- where no row goes on with a parameter or a catch-all, the byte decides
plain : (rows : Rows) (b : ℕ) (p : List ℕ) → step param_token rows ≡ [] → step catch_all_token rows ≡ [] → seek 0 rows (b ∷ p) ≡ seek 0 (step b rows) p
unfolding seek
plain rows b p no_param no_rest =
    simp (no_param, no_rest, param_none (b ∷ p), seek_none (((param_step {K = Found} [] (b ∷ p)).0) - 1) p, or_else_none)

-- after a parameter
abbrev after : List ℕ → ℕ × Rows → Option Found
after p taken = seek (taken.0 - 1) taken.1 p

-- where a row goes on with a parameter and none with a catch-all
parted : (rows : Rows) (b : ℕ) (p : List ℕ) → step catch_all_token rows ≡ [] → seek 0 rows (b ∷ p) ≡ or_else (seek 0 (step b rows) p) (after p (param_step (step param_token rows) (b ∷ p)))
unfolding seek
parted rows b p no_rest = simp (no_rest, or_else_none)

one_of : (rows : Rows) (b : ℕ) (p : List ℕ) (r : Found) → step catch_all_token rows ≡ [] → seek 0 rows (b ∷ p) ≡ Some r
    → (seek 0 (step b rows) p ≡ Some r) ⊎ (after p (param_step (step param_token rows) (b ∷ p)) ≡ Some r)
one_of rows b p r no_rest e =
    either (seek 0 (step b rows) p) (after p (param_step (step param_token rows) (b ∷ p))) r (sym (parted rows b p no_rest) ∙ e)

-- ---- a text in front

-- rows with these tokens in front
abbrev led : List ℕ → Rows → Rows
led w [] = []
led w ((t, k) ∷ rows) = (w ++ t, k) ∷ led w rows

led_nothing : (rows : Rows) → led [] rows ≡ rows
led_nothing [] = refl
led_nothing ((t, k) ∷ rows) = ap (λ more. (t, k) ∷ more) (led_nothing rows)

own_led : (x : ℕ) (w : List ℕ) (rows : Rows) → own (led (x ∷ w) rows) ≡ None
own_led x w [] = refl
own_led x w ((t, k) ∷ rows) = own_led x w rows

step_on : (v : Bool) (row : List ℕ × Found) (more rest : Rows) → more ≡ cond v rest [] → cond v (row ∷ more) more ≡ cond v (row ∷ rest) []
step_on true row more rest e = ap (λ s. row ∷ s) e
step_on false row more rest e = e

step_led : (b x : ℕ) (w : List ℕ) (rows : Rows) → step b (led (x ∷ w) rows) ≡ cond (x == b) (led w rows) []
step_led b x w [] = elim (x == b) as (λ v. [] ≡ cond {A = Rows} v [] []) [ true ↦ refl | false ↦ refl ]
step_led b x w ((t, k) ∷ rows) = step_on (x == b) (w ++ t, k) (step b (led (x ∷ w) rows)) (led w rows) (step_led b x w rows)

step_other : (b x : ℕ) (w : List ℕ) (rows : Rows) → (x == b) ≡ false → step b (led (x ∷ w) rows) ≡ []
step_other b x w rows other = step_led b x w rows ∙ ap (λ v. cond v (led w rows) []) other

-- each token of the text is a byte
abbrev pub are_bytes : List ℕ → Bool
are_bytes [] = true
are_bytes (x ∷ w) = ltb x param_token && are_bytes w

byte_found : (x : ℕ) (w : List ℕ) (rows : Rows) (b : ℕ) (p : List ℕ) (r : Found)
    → (seek 0 (led w rows) p ≡ Some r → (rest : List ℕ) × (p ≡ w ++ rest) × (seek 0 rows rest ≡ Some r))
    → seek 0 (cond (x == b) (led w rows) []) p ≡ Some r
    → (rest : List ℕ) × (b ∷ p ≡ x ∷ (w ++ rest)) × (seek 0 rows rest ≡ Some r)
byte_found x w rows b p r further e = by (x == b) refl e
  where
    by : (v : Bool) → (x == b) ≡ v → seek 0 (cond v (led w rows) []) p ≡ Some r → (rest : List ℕ) × (b ∷ p ≡ x ∷ (w ++ rest)) × (seek 0 rows rest ≡ Some r)
    by true same f =
        let more = further f in
        (more.0, ap (λ c. c ∷ p) (sym (eqb-true x b same)) ∙ ap (λ t. x ∷ t) more.1, more.2)
    by false other f = never 0 p r f

-- where all rows begin with a text, so does a path that has a route
led_found : (w : List ℕ) (rows : Rows) (p : List ℕ) (r : Found) → are_bytes w ≡ true → seek 0 (led w rows) p ≡ Some r → (rest : List ℕ) × (p ≡ w ++ rest) × (seek 0 rows rest ≡ Some r)
led_found [] rows p r bytes e = (p, refl, ap (λ s. seek 0 s p) (sym (led_nothing rows)) ∙ e)
led_found (x ∷ w) rows [] r bytes e = absurd (none-some r (sym (seek_end (led (x ∷ w) rows) ∙ own_led x w rows) ∙ e))
led_found (x ∷ w) rows (b ∷ p) r bytes e =
    let apart = both (ltb x param_token) (are_bytes w) bytes in
    let small = ltb-true x param_token apart.0 in
    let plainly = plain (led (x ∷ w) rows) b p
    (step_other param_token x w rows (ne_eqb x param_token (λ q. omega (arith, small, q))))
    (step_other catch_all_token x w rows (ne_eqb x catch_all_token (λ q. omega (arith, small, q)))) in
    byte_found x w rows b p r (led_found w rows p r apart.1) (sym (plainly ∙ ap (λ s. seek 0 s p) (step_led b x w rows)) ∙ e)

-- ---- a verb at the end

value_or : Found → Option Found → Found
value_or a None = a
value_or a (Some r) = r

ended : (a : Found) (k : ℕ) (p : List ℕ) (r : Found) → seek k (([], a) ∷ []) p ≡ Some r → r ≡ a
unfolding seek value_or
ended a k [] r e = sym (ap (value_or a) e)
ended a (suc k) (b ∷ p) r e = ended a k p r e
ended a zero (b ∷ p) r e = never 0 p r (sym (plain (([], a) ∷ []) b p refl refl) ∙ e)

last_byte : (a : Found) (v : Bool) (p : List ℕ) (r : Found) → seek 0 (cond v (([], a) ∷ []) []) p ≡ Some r → r ≡ a
last_byte a true p r e = ended a 0 p r e
last_byte a false p r e = never 0 p r e

param_last : (a : Found) (t : List ℕ) → param_step (([], a) ∷ []) t ≡ cond (has_slash t) (0, []) (length t, ([], a) ∷ [])
unfolding param_step
param_last a t = refl

last_taken : (a : Found) (v : Bool) (t p : List ℕ) (r : Found) → after p (cond v (0, []) (length t, ([], a) ∷ [])) ≡ Some r → r ≡ a
last_taken a true t p r e = never 0 p r e
last_taken a false t p r e = ended a (length t - 1) p r e

last_found : (a : Found) (p : List ℕ) (r : Found) → seek 0 ((param_token ∷ [], a) ∷ []) p ≡ Some r → r ≡ a
last_found a [] r e = absurd (none-some r (sym (seek_end ((param_token ∷ [], a) ∷ [])) ∙ e))
last_found a (b ∷ p) r e =
    elim (one_of ((param_token ∷ [], a) ∷ []) b p r refl e) [
      | inl byte ↦ last_byte a (param_token == b) p r byte
      | inr taken ↦ last_taken a (has_slash (b ∷ p)) (b ∷ p) p r (ap (after p) (sym (param_last a (b ∷ p))) ∙ taken)
    ]

-- ---- a number and a verb

abbrev behind_number : Rows
behind_number = (slash ∷ param_token ∷ [], act_route) ∷ []

behind_found : (p : List ℕ) (r : Found) → seek 0 behind_number p ≡ Some r → (word : List ℕ) × (p ≡ slash ∷ word) × (r ≡ act_route)
behind_found p r e =
    let more = led_found (slash ∷ []) ((param_token ∷ [], act_route) ∷ []) p r refl e in
    (more.0, more.1, last_found act_route more.0 r more.2)

-- a path of an act after `/v1/act/`
abbrev IsNumbered : List ℕ → Found → Type 0
IsNumbered p r = (number : List ℕ) × (word : List ℕ) × (p ≡ number ++ slash ∷ word) × (has_slash number ≡ false) × (0 < length number) × (r ≡ act_route)

number_byte : (b : ℕ) (p : List ℕ) (r : Found) → seek 0 (cond (param_token == b) behind_number []) p ≡ Some r → IsNumbered (b ∷ p) r
number_byte b p r e = by (param_token == b) refl e
  where
    by : (v : Bool) → (param_token == b) ≡ v → seek 0 (cond v behind_number []) p ≡ Some r → IsNumbered (b ∷ p) r
    by true same f =
        let more = behind_found p r f in
        (param_token ∷ [], more.0, ap (λ c. c ∷ p) (sym (eqb-true param_token b same)) ∙ ap (λ t. param_token ∷ t) more.1, refl, omega arith, more.2)
    by false other f = never 0 p r f

before_byte : (n b : ℕ) (p : List ℕ) → (b == slash) ≡ false → has_slash (take (n - 1) p) ≡ false → has_slash (take n (b ∷ p)) ≡ false
before_byte zero b p other before = refl
before_byte (suc m) b p other before =
    let same : m ≡ suc m - 1 = omega arith in
    ap (λ v. cond v true (has_slash (take m p))) other ∙ ap (λ k. has_slash (take k p)) same ∙ before

before_either : (v : Bool) (b : ℕ) (p : List ℕ) → (b == slash) ≡ v → has_slash (take (length (segment p) - 1) p) ≡ false → has_slash (take (length (cond v (b ∷ []) (b ∷ segment p)) - 1) (b ∷ p)) ≡ false
before_either true b p is before = refl
before_either false b p other before =
    let same : suc (length (segment p)) - 1 ≡ length (segment p) = omega arith in
    ap (λ k. has_slash (take k (b ∷ p))) same ∙ before_byte (length (segment p)) b p other before

-- no slash stands before the end of a segment
before_end : (p : List ℕ) → has_slash (take (length (segment p) - 1) p) ≡ false
before_end [] = refl
before_end (b ∷ p) = before_either (b == slash) b p refl (before_end p)

number_plain : (v : Bool) (b : ℕ) (p : List ℕ) → (b == slash) ≡ v → 1 < length (cond v (b ∷ []) (b ∷ segment p)) → has_slash (b ∷ take (length (cond v (b ∷ []) (b ∷ segment p)) - 1 - 1) p) ≡ false
number_plain true b p is long = absurd (omega (arith, long))
number_plain false b p other long =
    let same : suc (length (segment p)) - 1 - 1 ≡ length (segment p) - 1 = omega arith in
    ap (λ v. cond v true (has_slash (take (suc (length (segment p)) - 1 - 1) p))) other ∙ ap (λ k. has_slash (take k p)) same ∙ before_end p

abbrev behind_step : Bool → List ℕ → ℕ × Rows
behind_step true t = (length (segment t) - 1, behind_number)
behind_step false t = cond (has_slash t) (0, []) (length t, behind_number)

behind_by : (v : Bool) (t : List ℕ) → cond {A = ℕ × Rows} (ltb 0 (length (cond v (slash ∷ []) []))) (length (segment t) - length (cond v (slash ∷ []) []), with_suffix (cond v (slash ∷ []) []) behind_number) (cond (has_slash t) (0, []) (length t, behind_number)) ≡ behind_step v t
behind_by true t = refl
behind_by false t = refl

param_behind : (t : List ℕ) → param_step behind_number t ≡ behind_step (cuts (segment t) (slash ∷ [])) t
unfolding param_step
param_behind t = behind_by (cuts (segment t) (slash ∷ [])) t

none_taken : {X : Type 0} (v : Bool) (b : ℕ) (p : List ℕ) (r : Found) → after p (cond v (0, []) (length (b ∷ p), behind_number)) ≡ Some r → X
none_taken true b p r e = never 0 p r e
none_taken false b p r e =
    let same : length p ≡ suc (length p) - 1 = omega arith in
    absurd (none-some r (sym (seek_past behind_number p) ∙ ap (λ k. seek k behind_number p) same ∙ e))

number_taken : (v : Bool) (b : ℕ) (p : List ℕ) (r : Found) → cuts (segment (b ∷ p)) (slash ∷ []) ≡ v → after p (behind_step v (b ∷ p)) ≡ Some r → IsNumbered (b ∷ p) r
number_taken false b p r is e = none_taken (has_slash (b ∷ p)) b p r e
number_taken true b p r is e =
    let n = length (segment (b ∷ p)) - 1 - 1 in
    let more = behind_found (drop n p) r (sym (seek_drop n behind_number p) ∙ e) in
    let apart = both (ltb 1 (length (segment (b ∷ p)))) (ends_with nat_eq (segment (b ∷ p)) (slash ∷ [])) is in
    let long = ltb-true 1 (length (segment (b ∷ p))) apart.0 in (
      b ∷ take n p,
      more.0,
      ap (λ t. b ∷ t) (sym (take-append-drop n p) ∙ ap (λ t. take n p ++ t) more.1),
      number_plain (b == slash) b p refl long,
      omega arith,
      more.2,
    )

abbrev numbered : Rows
numbered = (param_token ∷ slash ∷ param_token ∷ [], act_route) ∷ []

numbered_found : (p : List ℕ) (r : Found) → seek 0 numbered p ≡ Some r → IsNumbered p r
numbered_found [] r e = absurd (none-some r (sym (seek_end numbered) ∙ e))
numbered_found (b ∷ p) r e =
    elim (one_of numbered b p r refl e) [
      | inl byte ↦ number_byte b p r byte
      | inr taken ↦ number_taken (cuts (segment (b ∷ p)) (slash ∷ [])) b p r refl (ap (after p) (sym (param_behind (b ∷ p))) ∙ taken)
    ]

-- ---- the two routes

abbrev branches : Rows
branches = (codes "ct/" ++ param_token ∷ slash ∷ param_token ∷ [], act_route) ∷ (codes "sk/" ++ param_token ∷ [], query_route) ∷ []

abbrev InBranch : List ℕ → Found → Type 0
InBranch p r =
    ((rest : List ℕ) × (p ≡ codes "ct/" ++ rest) × (seek 0 numbered rest ≡ Some r))
    ⊎ ((rest : List ℕ) × (p ≡ codes "sk/" ++ rest) × (seek 0 ((param_token ∷ [], query_route) ∷ []) rest ≡ Some r))

branch_by : (act ask : Bool) (b : ℕ) (p : List ℕ) (r : Found) → (99 == b) ≡ act → (115 == b) ≡ ask
    → seek 0 (cond act ((codes "t/" ++ param_token ∷ slash ∷ param_token ∷ [], act_route) ∷ cond ask ((codes "k/" ++ param_token ∷ [], query_route) ∷ []) [])
    (cond ask ((codes "k/" ++ param_token ∷ [], query_route) ∷ []) [])) p ≡ Some r
    → InBranch (b ∷ p) r
branch_by true true b p r act ask e = absurd (omega (arith, eqb-true 99 b act, eqb-true 115 b ask))
branch_by true false b p r act ask e =
    let more = led_found (codes "t/") numbered p r refl e in
    inl (more.0, ap (λ c. c ∷ p) (sym (eqb-true 99 b act)) ∙ ap (λ t. 99 ∷ t) more.1, more.2)
branch_by false true b p r act ask e =
    let more = led_found (codes "k/") ((param_token ∷ [], query_route) ∷ []) p r refl e in
    inr (more.0, ap (λ c. c ∷ p) (sym (eqb-true 115 b ask)) ∙ ap (λ t. 115 ∷ t) more.1, more.2)
branch_by false false b p r act ask e = never 0 p r e

branch_found : (p : List ℕ) (r : Found) → seek 0 branches p ≡ Some r → InBranch p r
branch_found [] r e = absurd (none-some r (sym (seek_end branches) ∙ e))
branch_found (b ∷ p) r e = branch_by (99 == b) (115 == b) b p r refl refl (sym (plain branches b p refl refl) ∙ e)

-- what a path is that has a route
abbrev pub HasRoute : List ℕ → Found → Type 0
HasRoute p r =
    ((number : List ℕ) × (word : List ℕ) × (p ≡ codes "/v1/act/" ++ (number ++ slash ∷ word)) × (has_slash number ≡ false) × (0 < length number) × (r ≡ act_route))
    ⊎ ((word : List ℕ) × (p ≡ codes "/v1/ask/" ++ word) × (r ≡ query_route))

pub path_found : (p : List ℕ) (r : Found) → first office_routes p ≡ Some r → HasRoute p r
path_found p r e =
    let front = led_found (codes "/v1/a") branches p r refl e in
    elim (branch_found front.0 r front.2) [
      | inl act ↦
          let tail = numbered_found act.0 r act.2 in
          inl (tail.0, tail.1, front.1 ∙ ap (λ t. codes "/v1/a" ++ t) (act.1 ∙ ap (λ t. codes "ct/" ++ t) tail.2), tail.3, tail.4, tail.5)
      | inr query ↦ inr (query.0, front.1 ∙ ap (λ t. codes "/v1/a" ++ t) query.1, last_found query_route query.0 r query.2)
    ]
