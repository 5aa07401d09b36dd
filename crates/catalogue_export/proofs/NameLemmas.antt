-- The bytes of names in the first columns of a line are printed.
use Rattle.std.proofs.Common.{◌≡◌, ℕ, zero, suc, ◌+◌, ◌-◌, ◌/◌, ◌%◌, ◌^◌, ◌<◌, ◌≤◌, Bool, true, false, cond, leb, ◌&&◌, List, [], ◌∷◌, ◌++◌, length, take, replicate, min, append-nil, All, codes, refl, sym, ap, ◌∙◌, inl, inr, arith, lit≤, pow-suc, mul_comm, div-lt_iff_lt-mul}
use Rattle.std.proofs.lemmas.Bool.{cases_lt, lt-ltb, le-ltb, lt-leb, le-leb, leb-true}
use Rattle.std.proofs.lemmas.Nat.{mod_below}
use Rattle.std.proofs.Math.Nat.{one-le-pow}
use Rattle.std.proofs.lemmas.List.{take_all, take-replicate, take-append-le}
use Rattle.std.proofs.Math.Seq.{take-append-add}
use Rattle.std.proofs.lemmas.List.Elements.{All-nil, All-cons, All-append, All-take, All-replicate, All-from_recursion}
use Rattle.ascii_text.specs.Blanks.{blanks}
use Rattle.ascii_text.specs.declared.digits.Radix.{Radix}
use Rattle.ascii_text.specs.declared.digits.Radix.TheVariants.{Ten, SixtyTwo}
use Rattle.ascii_text.specs.Digits.{base, digit_byte, digits_text}
use Rattle.packed_names.specs.declared.name.Designation.{Designation}
use Rattle.packed_names.specs.declared.name.Designation.TheVariants as designations
use Rattle.packed_names.specs.declared.name.Name.TheVariants as names
use Rattle.packed_names.specs.declared.provisional.Provisional.{Provisional}
use Rattle.packed_names.specs.declared.survey.Survey.{Survey}
use Rattle.packed_names.specs.declared.survey.Survey.TheVariants.{PalomarLeiden, T1, T2, T3}
use Rattle.packed_names.specs.Letters.{letter_of}
use Rattle.packed_names.specs.Orders.{letter_index, cycle_of}
use Rattle.packed_names.specs.Packed.{packed_text, provisional_text, century_text, extended_text, survey_text, prefix}
use Rattle.packed_names.specs.Ranges.{IsProvisional, IsDesignation}
use Rattle.obs_record.specs.Sighting.{IsPrintable}
use Rattle.act_model.specs.CatalogueLines.{in_seven}

digit_printed : (radix : Radix) (d : ℕ) → d < base radix → IsPrintable (digit_byte radix d)
digit_printed Ten d below = (omega (arith, below), omega (arith, below))
digit_printed SixtyTwo d below =
    elim (cases_lt d 10) [
      | inl small ↦ rw (lt-ltb d 10 small) (omega arith, omega arith)
      | inr large ↦ rw (le-ltb d 10 large)
          (elim (cases_lt d 36) [
            | inl middle ↦ rw (lt-ltb d 36 middle) (omega arith, omega arith)
            | inr last ↦ rw (le-ltb d 36 last) (omega (arith, below), omega (arith, below))
          ])
    ]

base_some : (radix : Radix) (count : ℕ) → 0 < base radix ^ count
base_some Ten count = omega (arith, one-le-pow count 10 (omega arith))
base_some SixtyTwo count = omega (arith, one-le-pow count 62 (omega arith))

digits_printed : (radix : Radix) (count n : ℕ) → n < base radix ^ count → All IsPrintable (digits_text radix count n)
unfolding digits_text
digits_printed radix zero n below = All-nil IsPrintable
digits_printed radix (suc count) n below =
    let place = base radix ^ count in
    let some : 0 < place = base_some radix count in
    All-cons IsPrintable (digit_byte radix (n / place)) (digits_text radix count (n % place))
    (digit_printed radix (n / place) ((div-lt_iff_lt-mul some).1 (omega (arith, below, pow-suc (base radix) count, mul_comm (base radix) place))))
    (digits_printed radix count (n % place) (mod_below n place some))

letter_printed : (index : ℕ) → index < 25 → IsPrintable (letter_of index)
letter_printed index below =
    elim (cases_lt index 8) [
      | inl small ↦ rw (lt-ltb index 8 small) (omega arith, omega arith)
      | inr large ↦ rw (le-ltb index 8 large) (omega (arith, below), omega (arith, below))
    ]

prefix_printed : (survey : Survey) → All IsPrintable (prefix survey)
unfolding prefix
prefix_printed PalomarLeiden = All-from_recursion IsPrintable (codes "PLS") ((lit≤ tt, lit≤ tt), ((lit≤ tt, lit≤ tt), ((lit≤ tt, lit≤ tt), tt)))
prefix_printed T1 = All-from_recursion IsPrintable (codes "T1S") ((lit≤ tt, lit≤ tt), ((lit≤ tt, lit≤ tt), ((lit≤ tt, lit≤ tt), tt)))
prefix_printed T2 = All-from_recursion IsPrintable (codes "T2S") ((lit≤ tt, lit≤ tt), ((lit≤ tt, lit≤ tt), ((lit≤ tt, lit≤ tt), tt)))
prefix_printed T3 = All-from_recursion IsPrintable (codes "T3S") ((lit≤ tt, lit≤ tt), ((lit≤ tt, lit≤ tt), ((lit≤ tt, lit≤ tt), tt)))

-- the first form, of an order that it can write
century_printed : (provisional : Provisional) → IsProvisional provisional → provisional.order ≤ 15500 → All IsPrintable (century_text provisional)
unfolding century_text
century_printed provisional is few =
    let century : IsPrintable (55 + provisional.half.year / 100) = (omega arith, omega (arith, is.half.year_to)) in
    let year : provisional.half.year % 100 < 10 ^ 2 = omega arith in
    let tens : cycle_of provisional.order / 10 < 62 = omega (arith, few) in
    let units : cycle_of provisional.order % 10 < 10 = omega arith in
    let index : letter_index provisional.order < 25 = omega arith in
    let ending : List ℕ = letter_of provisional.half.index ∷ digit_byte SixtyTwo (cycle_of provisional.order / 10) ∷ digit_byte Ten (cycle_of provisional.order % 10) ∷ letter_of (letter_index provisional.order) ∷ [] in
    let printed : All IsPrintable ending = All-from_recursion IsPrintable ending
    (letter_printed provisional.half.index (omega (arith, is.half.index)), (digit_printed SixtyTwo (cycle_of provisional.order / 10) tens, (digit_printed Ten (cycle_of provisional.order % 10) units, (letter_printed (letter_index provisional.order) index, tt)))) in
    All-cons IsPrintable (55 + provisional.half.year / 100) (digits_text Ten 2 (provisional.half.year % 100) ++ ending) century
    (All-append IsPrintable (digits_text Ten 2 (provisional.half.year % 100)) ending (digits_printed Ten 2 (provisional.half.year % 100) year) printed)

limit_within : (from to : Bool) → (cond (from && to) 14791836 15500) ≤ 14791836
limit_within true true = omega arith
limit_within true false = omega arith
limit_within false to = omega arith

years_of : (from to : Bool) (order : ℕ) → 15500 < order → order ≤ cond (from && to) 14791836 15500 → (from ≡ true) × (to ≡ true)
years_of true true order many within = (refl, refl)
years_of true false order many within = absurd (omega arith)
years_of false to order many within = absurd (omega arith)

-- the second form, of an order beyond the first
extended_printed : (provisional : Provisional) → IsProvisional provisional → 15500 < provisional.order → All IsPrintable (extended_text provisional)
unfolding extended_text
extended_printed provisional is many =
    let years = years_of (leb 2000 provisional.half.year) (leb provisional.half.year 2061) provisional.order many is.order_to in
    let to : provisional.half.year ≤ 2061 = leb-true provisional.half.year 2061 years.1 in
    let year : provisional.half.year - 2000 < 62 = omega (arith, to) in
    let order : provisional.order - 15501 < 62 ^ 4 = omega (arith, limit_within (leb 2000 provisional.half.year) (leb provisional.half.year 2061), is.order_to) in
    let digits : List ℕ = digits_text SixtyTwo 4 (provisional.order - 15501) in
    let first : ℕ = digit_byte SixtyTwo (provisional.half.year - 2000) in
    let letter : ℕ = letter_of provisional.half.index in
    All-cons IsPrintable 95 (first ∷ letter ∷ digits) (lit≤ tt, lit≤ tt)
    (All-cons IsPrintable first (letter ∷ digits) (digit_printed SixtyTwo (provisional.half.year - 2000) year)
    (All-cons IsPrintable letter digits (letter_printed provisional.half.index (omega (arith, is.half.index)))
    (digits_printed SixtyTwo 4 (provisional.order - 15501) order)))

-- the packed form of a designation is printed
pub packed_printed : (d : Designation) → IsDesignation d → All IsPrintable (packed_text (names.Designation d))
unfolding provisional_text survey_text
packed_printed (designations.Provisional provisional) is =
    elim (cases_lt 15500 provisional.order) [
      | inl many ↦ rw (lt-leb provisional.order 15500 many) (extended_printed provisional is many)
      | inr few ↦ rw (le-leb provisional.order 15500 few) (century_printed provisional is few)
    ]
packed_printed (designations.Survey survey number) is =
    All-append IsPrintable (prefix survey) (digits_text Ten 4 number) (prefix_printed survey) (digits_printed Ten 4 number (omega (arith, is.1)))

-- a text that is printed is so in its seven columns
pub seven_printed : (text : List ℕ) → All IsPrintable text → All IsPrintable (in_seven text)
unfolding blanks
seven_printed text is =
    All-take IsPrintable 7 (text ++ blanks 7) (All-append IsPrintable text (blanks 7) is (All-replicate IsPrintable 7 32 (lit≤ tt, lit≤ tt)))

-- what was kept of a text, and blanks up to seven
pub seven_filled : (text : List ℕ) (kept : ℕ) → kept ≡ min (length text) 7 → take kept text ++ blanks (7 - kept) ≡ in_seven text
unfolding blanks
seven_filled text kept is =
    elim (cases_lt (length text) 7) [
      | inl short ↦
          let all : kept ≡ length text = omega (arith, is, short) in
          let seven : 7 ≡ length text + (7 - kept) = omega (arith, all, short) in
          ap (λ (t : List ℕ). t ++ replicate (7 - kept) 32) (take_all kept text (omega (arith, all)))
          ∙ ap (λ (t : List ℕ). text ++ t) (sym (take-replicate (7 - kept) 7 32 (omega arith)))
          ∙ sym (ap (λ (n : ℕ). take n (text ++ replicate 7 32)) seven ∙ take-append-add text (replicate 7 32) (7 - kept))
      | inr long ↦
          let seven : kept ≡ 7 = omega (arith, is, long) in
          ap (λ (n : ℕ). take n text ++ replicate (7 - n) 32) seven
          ∙ append-nil (take 7 text)
          ∙ sym (take-append-le 7 text (replicate 7 32) long)
    ]
