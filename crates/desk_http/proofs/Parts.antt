-- What the parameters of a route take from a path.
use Rattle.std.proofs.Common.{◌≡◌, ℕ, suc, ◌+◌, ◌-◌, ◌<◌, ◌≤◌, List, [], ◌∷◌, ◌++◌, length, take, drop, Option, Some, None, Bool, true, false, cond, ◌==◌, ◌&&◌, ltb, leb, refl, sym, ap, ◌∙◌, subst, inl, inr, arith, codes, IsUtf8, true≢false, lt-ltb, le-leb, length-append, append_assoc}
use Rattle.std.proofs.Math.Seq.{take-append_seam, drop-append_seam, drop-append-add, get_or-append_seam}
use Rattle.std.proofs.lemmas.List.{take_rest}
use Rattle.std.proofs.lemmas.Option.{none-some}
use Rattle.std.proofs.lemmas.Str.{IsUtf8-take, IsUtf8-drop, IsCharBoundary-before_ascii, IsCharBoundary-after_ascii, IsUtf8-from_is_utf8}
use Rattle.std.specs.Str.{is_utf8, chars}
use Rattle.matchit.specs.Rows.{param_token}
use Rattle.matchit.specs.Router.{RouteOf}
use Rattle.matchit.specs.Seek.{first, has_slash, segment, slash}
use Rattle.matchit.specs.Params.{walk, wild_from, wild_stop, part_of, next_at, after_token, AllText, named}
use Rattle.desk_http.specs.declared.routes.Route.{Route}
use Rattle.desk_http.specs.declared.routes.Route.TheVariants as routes
use Rattle.desk_http.specs.Routes.{act_route, query_route, office_routes}
use Rattle.desk_http.proofs.Paths.{are_bytes, path_found}

-- ---- a walk over a pattern

both : (a b : Bool) → (a && b) ≡ true → (a ≡ true) × (b ≡ true)
both true b e = (refl, e)
both false b e = absurd (true≢false (sym e))

-- over the bytes of a pattern, as many bytes of the path are passed
over_bytes : (w rest : List ℕ) (len token at : ℕ) → are_bytes w ≡ true → at + length w ≤ len → wild_from (w ++ rest) len token at ≡ wild_from rest len (token + length w) (at + length w)
over_bytes [] rest len token at bytes inside =
    let t : token ≡ token + 0 = omega arith in
    let a : at ≡ at + 0 = omega arith in
    ap (λ k. wild_from rest len k at) t ∙ ap (λ k. wild_from rest len (token + 0) k) a
over_bytes (x ∷ w) rest len token at bytes inside =
    let t : token + 1 + length w ≡ token + suc (length w) = omega arith in
    let a : at + 1 + length w ≡ at + suc (length w) = omega arith in
    ap (λ v. cond v (wild_from (w ++ rest) len (token + 1) (next_at len at)) (token, at)) (both (ltb x param_token) (are_bytes w) bytes).0
    ∙ ap (λ v. wild_from (w ++ rest) len (token + 1) (cond v (at + 1) at)) (lt-ltb at len (omega (arith, inside)))
    ∙ over_bytes w rest len (token + 1) (at + 1) (both (ltb x param_token) (are_bytes w) bytes).1 (omega (arith, inside))
    ∙ ap (λ k. wild_from rest len k (at + 1 + length w)) t
    ∙ ap (λ k. wild_from rest len (token + suc (length w)) k) a

-- where the walk goes on from there
abbrev walked : List ℕ → List ℕ → List ℕ → ℕ × ℕ → List (ℕ × ℕ) → ℕ × ℕ → List (List ℕ × List ℕ)
walked pattern text path name names wild =
    (part_of text name.0 name.1, part_of path wild.1 (wild_stop pattern wild.0 path wild.1)) ∷ walk pattern text path names (after_token wild.0) (wild_stop pattern wild.0 path wild.1)

walk_step : (pattern text path : List ℕ) (name : ℕ × ℕ) (names : List (ℕ × ℕ)) (token at next from stop : ℕ)
    → wild_from (drop token pattern) (length path) token at ≡ (next, from) → wild_stop pattern next path from ≡ stop
    → walk pattern text path (name ∷ names) token at ≡ (part_of text name.0 name.1, part_of path from stop) ∷ walk pattern text path names (after_token next) stop
walk_step pattern text path name names token at next from stop wild ends =
    ap (walked pattern text path name names) wild
    ∙ ap (λ e. (part_of text name.0 name.1, part_of path from e) ∷ walk pattern text path names (after_token next) e) ends

part_at : (bytes : List ℕ) (start end : ℕ) → start ≤ end → end ≤ length bytes → part_of bytes start end ≡ take (end - start) (drop start bytes)
part_at bytes start end rises inside =
    ap (λ v. cond (v && leb end (length bytes)) (take (end - start) (drop start bytes)) []) (le-leb start end rises)
    ∙ ap (λ v. cond v (take (end - start) (drop start bytes)) []) (le-leb end (length bytes) inside)

-- ---- an act

cut_by : (v : Bool) (b : ℕ) (number word : List ℕ) → (has_slash number ≡ false → segment (number ++ slash ∷ word) ≡ number ++ slash ∷ []) → cond v true (has_slash number) ≡ false
    → cond v (b ∷ []) (b ∷ segment (number ++ slash ∷ word)) ≡ b ∷ (number ++ slash ∷ [])
cut_by true b number word further e = absurd (true≢false e)
cut_by false b number word further e = ap (λ t. b ∷ t) (further e)

segment_cut : (number word : List ℕ) → has_slash number ≡ false → segment (number ++ slash ∷ word) ≡ number ++ slash ∷ []
segment_cut [] word none = refl
segment_cut (b ∷ number) word none = cut_by (b == slash) b number word (segment_cut number word) none

abbrev act_path : List ℕ → List ℕ → List ℕ
act_path number word = codes "/v1/act/" ++ (number ++ slash ∷ word)

act_walk : (number word : List ℕ) → has_slash number ≡ false
    → walk act_route.pattern act_route.text (act_path number word) act_route.names 0 0 ≡ (codes "number", number) ∷ (codes "verb", word) ∷ []
act_walk number word none =
    let pattern = act_route.pattern in
    let text = act_route.text in
    let path = act_path number word in
    let n = length number in
    let len : length path ≡ 9 + n + length word = omega (arith, length-append number (slash ∷ word)) in
    let front = codes "/v1/act/" ++ (number ++ slash ∷ []) in
    let seam : length front ≡ 8 + n + 1 = omega (arith, length-append number (slash ∷ [])) in
    let first_from : wild_from pattern (length path) 0 0 ≡ (8, 8) = over_bytes (codes "/v1/act/") (param_token ∷ slash ∷ param_token ∷ []) (length path) 0 0 refl (omega (arith, len)) in
    let first_stop : wild_stop pattern 8 path 8 ≡ 8 + n = ap (λ s. 8 + length s - 1) (segment_cut number word none) ∙ omega (arith, length-append number (slash ∷ [])) in
    let next_from : wild_from (slash ∷ param_token ∷ []) (length path) 9 (8 + n) ≡ (10, 8 + n + 1) = over_bytes (slash ∷ []) (param_token ∷ []) (length path) 9 (8 + n) refl (omega (arith, len)) in
    let whole : path ≡ front ++ word = ap (λ t. codes "/v1/act/" ++ t) (sym (append_assoc number (slash ∷ []) word)) in
    let behind : drop (8 + n + 1) path ≡ word = ap (λ t. drop (8 + n + 1) t) whole ∙ ap (λ k. drop k (front ++ word)) (sym seam) ∙ drop-append_seam front word in
    let count : 8 + n - 8 ≡ n = omega arith in
    let number_part : part_of path 8 (8 + n) ≡ number = part_at path 8 (8 + n) (omega arith) (omega (arith, len)) ∙ ap (λ k. take k (number ++ slash ∷ word)) count ∙ take-append_seam number (slash ∷ word) in
    let word_part : part_of path (8 + n + 1) (length path) ≡ word = part_at path (8 + n + 1) (length path) (omega (arith, len)) (omega arith) ∙ take_rest path (8 + n + 1) ∙ behind in
    walk_step pattern text path (9, 15) ((18, 22) ∷ []) 0 0 8 8 (8 + n) first_from first_stop
    ∙ ap (λ rest. (codes "number", part_of path 8 (8 + n)) ∷ rest) (walk_step pattern text path (18, 22) [] 9 (8 + n) 10 (8 + n + 1) (length path) next_from refl)
    ∙ ap (λ t. (codes "number", t) ∷ (codes "verb", part_of path (8 + n + 1) (length path)) ∷ []) number_part
    ∙ ap (λ t. (codes "number", number) ∷ (codes "verb", t) ∷ []) word_part

-- ---- a query

query_walk : (word : List ℕ) → walk query_route.pattern query_route.text (codes "/v1/ask/" ++ word) query_route.names 0 0 ≡ (codes "verb", word) ∷ []
query_walk word =
    let pattern = query_route.pattern in
    let path = codes "/v1/ask/" ++ word in
    let from : wild_from pattern (length path) 0 0 ≡ (8, 8) = over_bytes (codes "/v1/ask/") (param_token ∷ []) (length path) 0 0 refl (omega arith) in
    walk_step pattern query_route.text path (9, 13) [] 0 0 8 8 (length path) from refl
    ∙ ap (λ t. (codes "verb", t) ∷ []) (part_at path 8 (length path) (omega arith) (omega arith) ∙ take_rest path 8)

-- ---- the parts are text

behind_text : (front rest : List ℕ) → IsUtf8 (front ++ slash ∷ rest) → IsUtf8 rest
behind_text front rest text =
    let at = get_or-append_seam front slash rest 0 in
    let len = length-append front (slash ∷ rest) in
    subst IsUtf8 (drop-append-add front (slash ∷ rest) 1) (IsUtf8-drop (front ++ slash ∷ rest) (length front + 1) text (IsCharBoundary-after_ascii (front ++ slash ∷ rest) (length front) text (omega (arith, len)) (omega (arith, at))))

front_text : (front rest : List ℕ) → IsUtf8 (front ++ slash ∷ rest) → IsUtf8 front
front_text front rest text =
    let at = get_or-append_seam front slash rest 0 in
    let len = length-append front (slash ∷ rest) in
    subst IsUtf8 (take-append_seam front (slash ∷ rest)) (IsUtf8-take (front ++ slash ∷ rest) (length front) text (IsCharBoundary-before_ascii (front ++ slash ∷ rest) (length front) (omega (arith, len)) (omega (arith, at))))

number_name : IsUtf8 (codes "number")
unfolding is_utf8 chars lib.Utf8.encode
number_name = IsUtf8-from_is_utf8 (codes "number") refl

verb_name : IsUtf8 (codes "verb")
unfolding is_utf8 chars lib.Utf8.encode
verb_name = IsUtf8-from_is_utf8 (codes "verb") refl

-- ---- both

-- the parts of a path that has a route
abbrev pub IsParted : List ℕ → Route → List (List ℕ × List ℕ) → Type 0
IsParted path routes.Act parts =
    (number : List ℕ) × (word : List ℕ) × (path ≡ act_path number word) × (has_slash number ≡ false) × (0 < length number)
    × (parts ≡ (codes "number", number) ∷ (codes "verb", word) ∷ [])
IsParted path routes.Query parts = (word : List ℕ) × (path ≡ codes "/v1/ask/" ++ word) × (parts ≡ (codes "verb", word) ∷ [])

abbrev pub IsPartedBy : List ℕ → RouteOf Route → Type 0
IsPartedBy path r = IsParted path r.value (walk r.pattern r.text path r.names 0 0)

-- the walk over the path of a route
abbrev walk_over : RouteOf Route → List ℕ → List (List ℕ × List ℕ)
walk_over r path = walk r.pattern r.text path r.names 0 0

pub parts_found : (path : List ℕ) (r : RouteOf Route) → first office_routes path ≡ Some r → IsPartedBy path r
parts_found path r e =
    elim (path_found path r e) [
      | inl act ↦ subst (IsPartedBy path) (sym act.5)
          (act.0, act.1, act.2, act.3, act.4, ap (walk_over act_route) act.2 ∙ act_walk act.0 act.1 act.3)
      | inr query ↦ subst (IsPartedBy path) (sym query.2)
          (query.0, query.1, ap (walk_over query_route) query.1 ∙ query_walk query.0)
    ]

pub parts_text : (path : List ℕ) (route : Route) (parts : List (List ℕ × List ℕ)) → IsUtf8 path → IsParted path route parts → AllText parts
parts_text path routes.Act parts text is =
    let inner = behind_text (codes "/v1/act") (is.0 ++ slash ∷ is.1) (subst IsUtf8 is.2 text) in
    subst AllText (sym is.5) (number_name, front_text is.0 is.1 inner, (verb_name, behind_text is.0 is.1 inner, tt))
parts_text path routes.Query parts text is =
    subst AllText (sym is.2) (verb_name, behind_text (codes "/v1/ask") is.0 (subst IsUtf8 is.1 text), tt)

-- a path that has a route has a verb
pub verb_of_parts : (path : List ℕ) (route : Route) (parts : List (List ℕ × List ℕ)) → IsParted path route parts → (word : List ℕ) × (named (codes "verb") parts ≡ Some word)
verb_of_parts path routes.Act parts is = (is.1, ap (named (codes "verb")) is.5)
verb_of_parts path routes.Query parts is = (is.0, ap (named (codes "verb")) is.2)

-- ---- what the parameters give

-- what a parameter of this name took, where the parts are text
abbrev pub Gives : RouteOf Route → List ℕ → List ℕ → Option (List ℕ) → Type 0
Gives r path name value = AllText (walk_over r path) → named name (walk_over r path) ≡ value

abbrev text_or_nothing : Option (List ℕ) → List ℕ
text_or_nothing None = []
text_or_nothing (Some text) = text

pub no_verb : (path : List ℕ) (r : RouteOf Route) → IsUtf8 path → first office_routes path ≡ Some r → Gives r path (codes "verb") None → ⊥
no_verb path r text found missing =
    let parts = parts_found path r found in
    let given = verb_of_parts path r.value (walk_over r path) parts in
    none-some given.0 (sym (missing (parts_text path r.value (walk_over r path) text parts)) ∙ given.1)

pub no_number : (path : List ℕ) (r : RouteOf Route) → IsUtf8 path → first office_routes path ≡ Some r → r.value ≡ routes.Act → Gives r path (codes "number") None → ⊥
no_number path r text found is_act missing =
    let parts = parts_found path r found in
    let act = subst (λ v. IsParted path v (walk_over r path)) is_act parts in
    none-some act.0 (sym (missing (parts_text path r.value (walk_over r path) text parts)) ∙ ap (named (codes "number")) act.5)

pub act_routed : (path : List ℕ) (r : RouteOf Route) (number verb : List ℕ) → IsUtf8 path → first office_routes path ≡ Some r → r.value ≡ routes.Act
    → Gives r path (codes "verb") (Some verb) → Gives r path (codes "number") (Some number)
    → (path ≡ act_path number verb) × (has_slash number ≡ false) × (0 < length number)
act_routed path r number verb text found is_act verb_given number_given =
    let parts = parts_found path r found in
    let all_text = parts_text path r.value (walk_over r path) text parts in
    let act = subst (λ v. IsParted path v (walk_over r path)) is_act parts in
    let numbers : act.0 ≡ number = ap text_or_nothing (sym (ap (named (codes "number")) act.5) ∙ number_given all_text) in
    let words : act.1 ≡ verb = ap text_or_nothing (sym (ap (named (codes "verb")) act.5) ∙ verb_given all_text) in
    (act.2 ∙ ap (λ n. act_path n act.1) numbers ∙ ap (act_path number) words, subst (λ n. has_slash n ≡ false) numbers act.3, subst (λ n. 0 < length n) numbers act.4)

pub query_routed : (path : List ℕ) (r : RouteOf Route) (verb : List ℕ) → IsUtf8 path → first office_routes path ≡ Some r → r.value ≡ routes.Query
    → Gives r path (codes "verb") (Some verb) → path ≡ codes "/v1/ask/" ++ verb
query_routed path r verb text found is_query verb_given =
    let parts = parts_found path r found in
    let all_text = parts_text path r.value (walk_over r path) text parts in
    let query = subst (λ v. IsParted path v (walk_over r path)) is_query parts in
    let words : query.0 ≡ verb = ap text_or_nothing (sym (ap (named (codes "verb")) query.2) ∙ verb_given all_text) in
    query.1 ∙ ap (λ t. codes "/v1/ask/" ++ t) words
