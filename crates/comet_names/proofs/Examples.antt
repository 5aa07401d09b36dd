-- Worked examples: comets with the texts that were worked out for them by hand, and texts that are no comet's.
use Rattle.std.proofs.Common.{◌≡◌, ℕ, List, [], ◌∷◌, map, Result, Err, refl}
use Rattle.std.specs.Prelude.{codes, replicate}
use Rattle.std.specs.Fmt.{digits}
use Rattle.ascii_text.specs.Digits.{digits_text}
use Rattle.ascii_text.specs.Judged.{answer_of}
use Rattle.ascii_text.specs.Reading.{behind, digit_at, digit_run, digit_value, digits_at, more_digits, number_at}
use Rattle.packed_names.specs.declared.name.NameFault.{NameFault}
use Rattle.packed_names.specs.declared.name.NameFault.TheVariants.{Spelling, OutOfRange}
use Rattle.packed_names.specs.Judging.{answered}
use Rattle.packed_names.specs.Letters.{index_of, letter_at}
use Rattle.packed_names.specs.Printed.{half_text}
use Rattle.packed_names.specs.PrintedReading.{half_at, half_in}
use Rattle.comet_names.specs.declared.comet.Comet.{Comet}
use Rattle.comet_names.specs.declared.comet.CometKind.{CometKind}
use Rattle.comet_names.specs.declared.comet.CometKind.TheVariants.{C, P}
use Rattle.comet_names.specs.Judging.{is_comet}
use Rattle.comet_names.specs.Kinds.{kind_of}
use Rattle.comet_names.specs.Packed.{packed_comet}
use Rattle.comet_names.specs.Printed.{printed_comet}
use Rattle.comet_names.specs.Reading.{century_digits, comet_of, packed_comet_in, packed_parts, printed_comet_in, printed_parts, six_at}

abbrev comet : CometKind → ℕ → ℕ → ℕ → Comet
comet kind year index number = record { kind = kind; half = record { year = year; index = index }; number = number }

-- ---- comets: A, E, O and Y are the letters of the indexes 0, 4, 13 and 23

abbrev comets : List Comet
comets = comet C 1995 13 1 ∷ comet P 2024 4 2 ∷ comet C 1925 0 1 ∷ comet P 2099 23 99 ∷ []

packed_comets : map packed_comet comets ≡ codes "CJ95O010" ∷ codes "PK24E020" ∷ codes "CJ25A010" ∷ codes "PK99Y990" ∷ []
unfolding packed_comet digits_text
packed_comets = refl

printed_comets : map printed_comet comets ≡ codes "C/1995 O1" ∷ codes "P/2024 E2" ∷ codes "C/1925 A1" ∷ codes "P/2099 Y99" ∷ []
unfolding printed_comet half_text digits_text digits
printed_comets = refl

-- ---- texts of no comet

abbrev unpacked : List ℕ → Result Comet NameFault
unpacked text = answered is_comet (packed_comet_in text)

abbrev read : List ℕ → Result Comet NameFault
read text = answered is_comet (printed_comet_in text)

packed_out : map unpacked (codes "CI95O010" ∷ codes "CJ24Y010" ∷ codes "CJ95O000" ∷ []) ≡ replicate 3 (Err OutOfRange)
unfolding answer_of packed_comet_in packed_parts comet_of kind_of century_digits half_in half_at letter_at index_of behind digits_at more_digits digit_at digit_value
packed_out = refl

printed_out : map read (codes "C/1924 Y1" ∷ codes "C/2100 A1" ∷ codes "C/2024 E0" ∷ codes "C/2024 E100" ∷ codes "C/2024 E999" ∷ []) ≡ replicate 5 (Err OutOfRange)
unfolding answer_of printed_comet_in printed_parts comet_of kind_of six_at half_in half_at letter_at index_of behind number_at digit_run digits_at more_digits digit_at digit_value
printed_out = refl

not_packed : map unpacked (codes "XJ95O010" ∷ codes "cJ95O010" ∷ codes "CJ95I010" ∷ codes "CL95O010" ∷ codes "CJ95O011" ∷ codes "CJ95O01" ∷ codes "CJ95O0100" ∷ codes "CJ9 O010" ∷ []) ≡ replicate 8 (Err Spelling)
unfolding answer_of packed_comet_in packed_parts comet_of kind_of century_digits half_in half_at letter_at index_of behind digits_at more_digits digit_at digit_value
not_packed = refl

not_printed : map read (codes "C/2024 E01" ∷ codes "C/2024 E1000" ∷ codes "C/2024 E" ∷ codes "C/2024E1" ∷ codes "C2024 E1" ∷ codes "C/2024 I1" ∷ codes "C/2024 E1 " ∷ []) ≡ replicate 7 (Err Spelling)
unfolding answer_of printed_comet_in printed_parts comet_of kind_of six_at half_in half_at letter_at index_of behind number_at digit_run digits_at more_digits digit_at digit_value
not_printed = refl
