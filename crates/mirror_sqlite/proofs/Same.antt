-- Rows of the mirror that show the same are the same.
use Rattle.std.proofs.Common.{◌≡◌, ◌⊎◌, inl, inr, ℕ, ◌-◌, List, [], ◌∷◌, ◌++◌, map, length, drop, refl, sym, ap, ap₂, ◌∙◌, arith}
use Rattle.std.specs.Prelude.{replicate}
use Rattle.std.specs.List.{AllByRecursion}
use Rattle.std.proofs.lemmas.List.{take-append-drop, length-take}
use Rattle.packed_names.specs.declared.label.Label.{Label}
use Rattle.packed_names.specs.Labels.{IsLabelOf}
use Rattle.obs_record.specs.declared.short.Short.{Short}
use Rattle.obs_record.specs.Short.{IsShort}
use Rattle.mirror_store.specs.declared.rows.ObjectRow.{ObjectRow}
use Rattle.mirror_store.specs.declared.rows.SightRow.{SightRow}
use Rattle.mirror_store.specs.Rows.{IsObjectRow, IsSightRow, IsPrintedDesignation, IsEmpty}
use Rattle.mirror_sqlite.specs.Stored.{name_text, code_text, shown_object, shown_sight}

label_same : (a b : Label) (s t : List ℕ) → IsLabelOf s a → IsLabelOf t b → name_text a ≡ name_text b → a ≡ b
label_same a b s t p q same =
    let texts : s ≡ t = sym p.text_is ∙ same ∙ q.text_is in
    let len : a.len ≡ b.len = p.len ∙ ap length texts ∙ sym q.len in
    let zeros : drop a.len a.bytes ≡ drop b.len b.bytes = p.zeros ∙ ap (λ n. replicate (13 - n) 0) len ∙ sym q.zeros in
    let bytes : a.bytes ≡ b.bytes = sym (take-append-drop a.len a.bytes) ∙ ap₂ ◌++◌ same zeros ∙ take-append-drop b.len b.bytes in
    ap₂ (λ (n : ℕ) (bs : List ℕ). let l : Label = record { len = n; bytes = bs } in l) len bytes

code_same : (a b : Short) → IsShort a → IsShort b → code_text a ≡ code_text b → a ≡ b
code_same a b p q same =
    let one : length (code_text a) ≡ a.len = length-take a.len a.bytes ∙ omega (arith, p.room, p.within) in
    let other : length (code_text b) ≡ b.len = length-take b.len b.bytes ∙ omega (arith, q.room, q.within) in
    let len : a.len ≡ b.len = sym one ∙ ap length same ∙ other in
    let bytes : a.bytes ≡ b.bytes = p.zeros ∙ ap₂ (λ t n. t ++ replicate (12 - n) 0) same len ∙ sym q.zeros in
    ap₂ (λ (n : ℕ) (bs : List ℕ). let c : Short = record { len = n; bytes = bs } in c) len bytes

-- the label has some text
abbrev pub IsLabel : Label → Type 0
IsLabel label = (text : List ℕ) × IsLabelOf text label

pub named : (label : Label) → IsPrintedDesignation label ⊎ IsEmpty label → IsLabel label
named label (inl printed) = (printed.1, printed.3)
named label (inr empty) = ([], empty)

names_same : (a b : Label) → IsLabel a → IsLabel b → name_text a ≡ name_text b → a ≡ b
names_same a b p q = label_same a b p.0 q.0 p.1 q.1

object_same : (a b : ObjectRow) → IsObjectRow a → IsObjectRow b → shown_object a ≡ shown_object b → a ≡ b
object_same a b p q same =
    let place : a.place ≡ b.place = cc in
    let names : name_text a.principal ≡ name_text b.principal = cc in
    let number : a.number ≡ b.number = cc in
    let observations : a.observations ≡ b.observations = cc in
    let principal = names_same a.principal b.principal (named a.principal (inl p.principal)) (named b.principal (inl q.principal)) names in
    λ j. record { place = place j; principal = principal j; number = number j; observations = observations j }

sight_same : (a b : SightRow) → IsSightRow a → IsSightRow b → shown_sight a ≡ shown_sight b → a ≡ b
sight_same a b p q same =
    let id : a.id ≡ b.id = cc in
    let names : name_text a.object ≡ name_text b.object = cc in
    let time : a.time ≡ b.time = cc in
    let ra : a.ra ≡ b.ra = cc in
    let dec : a.dec ≡ b.dec = cc in
    let codes : code_text a.station ≡ code_text b.station = cc in
    let object = names_same a.object b.object (named a.object p.object) (named b.object q.object) names in
    let station = code_same a.station b.station p.station.0 q.station.0 codes in
    λ j. record { id = id j; object = object j; time = time j; ra = ra j; dec = dec j; station = station j }

pub objects_same : (xs ys : List ObjectRow) → AllByRecursion IsObjectRow xs → AllByRecursion IsObjectRow ys
    → map shown_object xs ≡ map shown_object ys → xs ≡ ys
objects_same [] [] p q same = refl
objects_same [] (y ∷ ys) p q same = absurd cc
objects_same (x ∷ xs) [] p q same = absurd cc
objects_same (x ∷ xs) (y ∷ ys) p q same =
    ap₂ (λ r rs. r ∷ rs) (object_same x y p.0 q.0 (cc)) (objects_same xs ys p.1 q.1 (cc))

pub sights_same : (xs ys : List SightRow) → AllByRecursion IsSightRow xs → AllByRecursion IsSightRow ys
    → map shown_sight xs ≡ map shown_sight ys → xs ≡ ys
sights_same [] [] p q same = refl
sights_same [] (y ∷ ys) p q same = absurd cc
sights_same (x ∷ xs) [] p q same = absurd cc
sights_same (x ∷ xs) (y ∷ ys) p q same =
    ap₂ (λ r rs. r ∷ rs) (sight_same x y p.0 q.0 (cc)) (sights_same xs ys p.1 q.1 (cc))
