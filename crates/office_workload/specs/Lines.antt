-- The bodies of the workload's requests: four lines of 80 columns for each object, and the tracklets that these make.
use Rattle.std.specs.Prelude.{ℕ, ◌+◌, ◌-◌, ◌*◌, ◌/◌, ◌%◌, ◌^◌, List, ◌∷◌, ◌++◌, codes, decimal}
use Rattle.ascii_text.specs.declared.digits.Radix.TheVariants.{Ten}
use Rattle.ascii_text.specs.Digits.{digits_text}

-- a moment of January 2024 in columns 16 to 32, counted in ten-thousandths of a day from the start of the month
unfoldable pub date_text : ℕ → List ℕ
date_text time =
    codes "2024 01 " ++ (digits_text Ten 2 (1 + time / 10000) ++ (46 ∷ (digits_text Ten 4 (time % 10000)
    ++ codes "  ")))

-- a value in hours or degrees, minutes and seconds with this many decimals, counted in units of the last decimal
unfoldable pub sexagesimal : (decimals value : ℕ) → List ℕ
sexagesimal decimals value =
    digits_text Ten 2 (value / 10 ^ decimals / 3600) ++ (32 ∷ (digits_text Ten 2 (value / 10 ^ decimals / 60 % 60)
    ++ (32 ∷ (digits_text Ten 2 (value / 10 ^ decimals % 60)
    ++ (46 ∷ digits_text Ten decimals (value % 10 ^ decimals))))))

-- the right ascension of object i with the number x, in thousandths of a second of time
abbrev pub right_ascension : (i x : ℕ) → ℕ
right_ascension i x = 4096 * i + x % 4096

-- its declination, in hundredths of an arcsecond
abbrev pub declination : ℕ → ℕ
declination x = x / 4096 % 28800000

-- a line of object i: its tracklet is named by the object's number and a letter, its station is 703
unfoldable pub line_text : (i letter time x : ℕ) → List ℕ
line_text i letter time x =
    codes "     W" ++ (digits_text Ten 5 i ++ (letter ∷ (codes "   " ++ (date_text time
    ++ (sexagesimal 3 (right_ascension i x) ++ (43 ∷ (sexagesimal 2 (declination x)
    ++ codes "                     703\n")))))))

-- when object i is observed first
abbrev pub first_time : ℕ → ℕ
first_time i = 4 * (i - 1)

-- the four lines of object i, counted from 1, with the number x: two tracklets of two lines each, half a day apart
unfoldable pub submission_body : (i x : ℕ) → List ℕ
submission_body i x =
    line_text i 97 (first_time i) x ++ (line_text i 97 (first_time i + 50) x
    ++ (line_text i 98 (first_time i + 5000) x ++ line_text i 98 (first_time i + 5050) x))

-- words, and a number after them
unfoldable pub numbered : List ℕ → ℕ → List ℕ
numbered words n = words ++ decimal n

-- the tracklets of object i, which are the two newest
unfoldable pub designation_body : ℕ → List ℕ
designation_body i = numbered (codes "{\"tracklets\":[") (2 * i - 1) ++ numbered (codes ",") (2 * i) ++ codes "]}"
