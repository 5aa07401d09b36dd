-- Rows of gates and parcels, of either format.
use Rattle.std.proofs.Common.{◌≡◌, ◌≢◌, inl, inr, ℕ, ◌+◌, List, [], ◌∷◌, ◌++◌, length, drop, refl, sym, ◌∙◌, ap, subst, arith, append_assoc, length-append}
use Rattle.std.specs.List.{AllByRecursion}
use Rattle.obs_journal.specs.Parcels.{RawParcel, IsParcel, parcel_bytes}
use Rattle.obs_journal.specs.Formats.{head, first_seal, seal, last_seal, row, row_length_in, file_of, front_length}
use Rattle.obs_journal.specs.declared.format.Format.{Format}
use Rattle.obs_journal.specs.declared.format.Format.TheVariants.{Plain}
use Rattle.obs_journal.specs.Files.{IsFresh, IsRow, IsRowIn, Spells, NoParcelIn, IsDamagedAt}
use Rattle.obs_journal.proofs.Bytes.{length-parcel_bytes, cut}
use Rattle.obs_journal.proofs.Seals.{length-seal, room_is, one_sealed}

pub length-row : (f : Format) (last : List ℕ) (ps : List RawParcel) (rest : List ℕ) → length (row f last ps rest) ≡ row_length_in f ps + length rest
length-row f last [] rest = omega arith
length-row f last (p ∷ ps) rest =
    let own = seal f last (parcel_bytes p) in
    let behind = row f own ps rest in
    omega (arith, length-append (parcel_bytes p) (own ++ behind), length-append own behind, length-parcel_bytes p, length-seal f last (parcel_bytes p), room_is f p, length-row f own ps rest)

pub length-file_of : (f : Format) (ps : List RawParcel) (rest : List ℕ) → length (file_of f ps rest) ≡ front_length f ps + length rest
length-file_of f ps rest = omega (arith, length-append (head f) (row f (first_seal f) ps rest), length-row f (first_seal f) ps rest)

pub row-append : (f : Format) (last : List ℕ) (ps qs : List RawParcel) (rest : List ℕ) → row f last (ps ++ qs) rest ≡ row f last ps (row f (last_seal f last ps) qs rest)
row-append f last [] qs rest = refl
row-append f last (p ∷ ps) qs rest = let own = seal f last (parcel_bytes p) in ap (λ l. 1 ∷ (parcel_bytes p ++ (own ++ l))) (row-append f own ps qs rest)

pub last_seal-append : (f : Format) (last : List ℕ) (ps qs : List RawParcel) → last_seal f last (ps ++ qs) ≡ last_seal f (last_seal f last ps) qs
last_seal-append f last [] qs = refl
last_seal-append f last (p ∷ ps) qs = last_seal-append f (seal f last (parcel_bytes p)) ps qs

pub row_length-append : (f : Format) (ps qs : List RawParcel) → row_length_in f (ps ++ qs) ≡ row_length_in f ps + row_length_in f qs
row_length-append f [] qs = omega arith
row_length-append f (p ∷ ps) qs = omega (arith, row_length-append f ps qs)

pub row_behind : (f : Format) (last : List ℕ) (ps : List RawParcel) (x y : List ℕ) → row f last ps x ++ y ≡ row f last ps (x ++ y)
row_behind f last [] x y = refl
row_behind f last (p ∷ ps) x y =
    let own = seal f last (parcel_bytes p) in
    let behind = row f own ps x in
    ap (λ l. 1 ∷ l) (append_assoc (parcel_bytes p) (own ++ behind) y ∙ ap (λ l. parcel_bytes p ++ l) (append_assoc own behind y ∙ ap (λ l. own ++ l) (row_behind f own ps x y)))

pub file_behind : (f : Format) (ps : List RawParcel) (x y : List ℕ) → file_of f ps x ++ y ≡ file_of f ps (x ++ y)
file_behind f ps x y = append_assoc (head f) (row f (first_seal f) ps x) y ∙ ap (λ l. head f ++ l) (row_behind f (first_seal f) ps x y)

-- what stands at the front of bytes, and what follows
first_of : ℕ → List ℕ → ℕ
first_of d [] = d
first_of d (x ∷ xs) = x

same_first : (a b : ℕ) (x y : List ℕ) → a ∷ x ≡ b ∷ y → a ≡ b
unfolding first_of
same_first a b x y e = ap (λ l. first_of 0 l) e

same_rest : (a b : ℕ) (x y : List ℕ) → a ∷ x ≡ b ∷ y → x ≡ y
same_rest a b x y e = ap (λ l. drop 1 l) e

-- two rows of one file
pub one_row : (f : Format) (last : List ℕ) (ps qs : List RawParcel) (g h : ℕ) (x y : List ℕ) → AllByRecursion IsParcel ps → AllByRecursion IsParcel qs → g ≢ 1 → h ≢ 1 → row f last ps (g ∷ x) ≡ row f last qs (h ∷ y) → ps ≡ qs
one_row f last [] [] g h x y fp fq shut_g shut_h e = refl
one_row f last [] (q ∷ qs) g h x y fp fq shut_g shut_h e = absurd (shut_g (same_first _ _ _ _ e))
one_row f last (p ∷ ps) [] g h x y fp fq shut_g shut_h e = absurd (shut_h (same_first _ _ _ _ (sym e)))
one_row f last (p ∷ ps) (q ∷ qs) g h x y fp fq shut_g shut_h e =
    let own = seal f last (parcel_bytes p) in
    let first = one_sealed f last p q (row f own ps (g ∷ x)) (row f (seal f last (parcel_bytes q)) qs (h ∷ y)) fp.0 fq.0 (same_rest _ _ _ _ e) in
    let same = first.1 ∙ ap (λ (r : RawParcel). row f (seal f last (parcel_bytes r)) qs (h ∷ y)) (sym first.0) in
    λ i. first.0 i ∷ one_row f own ps qs g h x y fp.1 fq.1 shut_g shut_h same i

-- a row and a damage of one file
pub row_or_damage : (f : Format) (last : List ℕ) (ps qs : List RawParcel) (g : ℕ) (x y : List ℕ) → AllByRecursion IsParcel ps → AllByRecursion IsParcel qs → g ≢ 1 → NoParcelIn f (last_seal f last qs) y → row f last ps (g ∷ x) ≡ row f last qs (1 ∷ y) → ⊥
row_or_damage f last [] [] g x y fp fq shut none e = shut (same_first _ _ _ _ e)
row_or_damage f last [] (q ∷ qs) g x y fp fq shut none e = shut (same_first _ _ _ _ e)
row_or_damage f last (p ∷ []) [] g x y fp fq shut none e = none p g x fp.0 (sym (same_rest _ _ _ _ e))
row_or_damage f last (p ∷ r ∷ ps) [] g x y fp fq shut none e = none p 1 _ fp.0 (sym (same_rest _ _ _ _ e))
row_or_damage f last (p ∷ ps) (q ∷ qs) g x y fp fq shut none e =
    let own = seal f last (parcel_bytes p) in
    let first = one_sealed f last p q (row f own ps (g ∷ x)) (row f (seal f last (parcel_bytes q)) qs (1 ∷ y)) fp.0 fq.0 (same_rest _ _ _ _ e) in
    let same = first.1 ∙ ap (λ (r : RawParcel). row f (seal f last (parcel_bytes r)) qs (1 ∷ y)) (sym first.0) in
    row_or_damage f own ps qs g x y fp.1 fq.1 shut (subst (λ (r : RawParcel). NoParcelIn f (last_seal f (seal f last (parcel_bytes r)) qs) y) (sym first.0) none) same

-- two damages of one file
pub one_damage : (f : Format) (last : List ℕ) (ps qs : List RawParcel) (x y : List ℕ) → AllByRecursion IsParcel ps → AllByRecursion IsParcel qs → NoParcelIn f (last_seal f last ps) x → NoParcelIn f (last_seal f last qs) y → row f last ps (1 ∷ x) ≡ row f last qs (1 ∷ y)
    → row_length_in f ps ≡ row_length_in f qs
one_damage f last [] [] x y fp fq nx ny e = refl
one_damage f last [] (q ∷ []) x y fp fq nx ny e = absurd (nx q 1 y fq.0 (same_rest _ _ _ _ e))
one_damage f last [] (q ∷ r ∷ qs) x y fp fq nx ny e = absurd (nx q 1 _ fq.0 (same_rest _ _ _ _ e))
one_damage f last (p ∷ []) [] x y fp fq nx ny e = absurd (ny p 1 x fp.0 (sym (same_rest _ _ _ _ e)))
one_damage f last (p ∷ r ∷ ps) [] x y fp fq nx ny e = absurd (ny p 1 _ fp.0 (sym (same_rest _ _ _ _ e)))
one_damage f last (p ∷ ps) (q ∷ qs) x y fp fq nx ny e =
    let own = seal f last (parcel_bytes p) in
    let first = one_sealed f last p q (row f own ps (1 ∷ x)) (row f (seal f last (parcel_bytes q)) qs (1 ∷ y)) fp.0 fq.0 (same_rest _ _ _ _ e) in
    let same = first.1 ∙ ap (λ (r : RawParcel). row f (seal f last (parcel_bytes r)) qs (1 ∷ y)) (sym first.0) in
    let behind = one_damage f own ps qs x y fp.1 fq.1 nx (subst (λ (r : RawParcel). NoParcelIn f (last_seal f (seal f last (parcel_bytes r)) qs) y) (sym first.0) ny) same in
    omega (arith, ap (λ (r : RawParcel). length r.body) first.0, room_is f p, room_is f q, behind)

-- what two files of a format hold behind their heads
pub behind_head : (f : Format) (x y : List ℕ) → head f ++ x ≡ head f ++ y → x ≡ y
behind_head f x y e = (cut (length (head f)) (head f) (head f) x y refl refl e).1

-- no row is fresh: after an open gate stands more
fresh_row : (file : List ℕ) (ps : List RawParcel) → IsFresh file → IsRow file ps → ⊥
fresh_row file ps (inl empty) row = absurd (omega (arith, ap length (sym empty ∙ row.file_is), length-row Plain [] ps (row.gate ∷ row.rest)))
fresh_row file [] (inr one) row = row.closed (sym (same_first _ _ _ _ (sym one ∙ row.file_is)))
fresh_row file (p ∷ ps) (inr one) row = absurd (omega (arith, ap length (sym one ∙ row.file_is), length-row Plain [] (p ∷ ps) (row.gate ∷ row.rest)))

pub one_list_in : (f : Format) (file : List ℕ) (ps qs : List RawParcel) → IsRowIn f file ps → IsRowIn f file qs → ps ≡ qs
one_list_in f file ps qs p q =
    one_row f (first_seal f) ps qs p.gate q.gate p.rest q.rest p.each q.each p.closed q.closed (behind_head f _ _ (sym p.file_is ∙ q.file_is))

pub one_list : (file : List ℕ) (ps qs : List RawParcel) → Spells file ps → Spells file qs → ps ≡ qs
one_list file ps qs (inl p) (inl q) = p.1 ∙ sym q.1
one_list file ps qs (inl p) (inr q) = absurd (fresh_row file qs p.0 q)
one_list file ps qs (inr p) (inl q) = absurd (fresh_row file ps q.0 p)
one_list file ps qs (inr p) (inr q) = one_list_in Plain file ps qs p q

pub damage_spells_nothing : (file : List ℕ) (offset : ℕ) (ps : List RawParcel) → IsDamagedAt file offset → Spells file ps → ⊥
damage_spells_nothing file offset ps d (inl (inl empty, none)) = absurd (omega (arith, ap length (sym empty ∙ d.file_is), length-row Plain [] d.before (1 ∷ d.rest)))
damage_spells_nothing file offset ps d (inl (inr one, none)) = d.not_fresh one
damage_spells_nothing file offset ps d (inr row) = row_or_damage Plain [] ps d.before row.gate row.rest d.rest row.each d.each row.closed d.stops (sym row.file_is ∙ d.file_is)

pub one_offset : (file : List ℕ) (m n : ℕ) → IsDamagedAt file m → IsDamagedAt file n → m ≡ n
one_offset file m n d e = d.offset_is ∙ one_damage Plain [] d.before e.before d.rest e.rest d.each e.each d.stops e.stops (sym d.file_is ∙ e.file_is) ∙ sym e.offset_is
