-- Every letter in the office's tables is printed, and no mode has one of those of refused records. Every station there
-- is 3 letters or digits.
use Rattle.std.proofs.Common.{◌≡◌, ℕ, ℤ, List, [], ◌∷◌, ◌++◌, Bool, true, false, cond, Some, Ok, refl, subst}
use Rattle.std.specs.Prelude.{find}
use Rattle.std.specs.Option.{option_map}
use Rattle.std.proofs.lemmas.Bool.{and_parts}
use Rattle.obs_record.specs.declared.short.Short.{Short}
use Rattle.station_tables.specs.declared.kind.Kind.{Kind}
use Rattle.station_tables.specs.declared.kind.Kind.TheVariants.{Catalogue, Band, Mode}
use Rattle.station_tables.specs.Rows.{StationRow, CodeRow, TableRows}
use Rattle.station_tables.specs.Codes.{same_kind, has_word, letter_of}
use Rattle.station_tables.specs.Letters.{IsLetterOf}
use Rattle.act_bodies.specs.Members.{is_station_code}
use Rattle.act_model.specs.declared.act.Act.{Act}
use Rattle.act_model.specs.declared.act.Act.TheVariants as act
use Rattle.act_model.specs.declared.deed.Deed.{Deed}
use Rattle.act_model.specs.declared.entry.Entry.{Entry}
use Rattle.act_model.specs.OfficeTables.{with_row, tables_of}
use Rattle.act_model.specs.Holdings.{holdings}
use Rattle.act_model.specs.Designations.{row_acts_of}
use Rattle.act_model.specs.Doing.{does}
use Rattle.act_model.specs.Deeds.{deeds}
use Rattle.act_model.proofs.DeedCases.{deed_cases}
use Rattle.act_model.proofs.Designating.{designated}
use Rattle.act_model.proofs.Legal.{by_deed}
use Rattle.act_model.proofs.Read.{IsSound, IsSoundlyRead, EightyStated, PsvStated, LettersPrinted, StationsCoded, sound_read}

-- ---- rows

abbrev AreLetters : List CodeRow → Type 0
AreLetters [] = Unit {0}
AreLetters (row ∷ rows) = IsLetterOf row.kind row.letter × AreLetters rows

letters_with : (rows : List CodeRow) (row : CodeRow) → AreLetters rows → IsLetterOf row.kind row.letter → AreLetters (rows ++ row ∷ [])
letters_with [] row all is = (is, tt)
letters_with (first ∷ rows) row all is = (all.0, letters_with rows row all.1 is)

abbrev pub AreCodes : List StationRow → Type 0
AreCodes [] = Unit {0}
AreCodes (row ∷ rows) = (is_station_code row.code ≡ true) × AreCodes rows

codes_with : (rows : List StationRow) (row : StationRow) → AreCodes rows → is_station_code row.code ≡ true → AreCodes (rows ++ row ∷ [])
codes_with [] row all is = (is, tt)
codes_with (first ∷ rows) row all is = (all.0, codes_with rows row all.1 is)

-- both tables
abbrev pub AreSound : TableRows → Type 0
AreSound tables = AreLetters tables.codes × AreCodes tables.stations

kind_is : (kind other : Kind) → same_kind kind other ≡ true → other ≡ kind
kind_is Catalogue Catalogue is = refl
kind_is Catalogue Band is = absurd cc
kind_is Catalogue Mode is = absurd cc
kind_is Band Catalogue is = absurd cc
kind_is Band Band is = refl
kind_is Band Mode is = absurd cc
kind_is Mode Catalogue is = absurd cc
kind_is Mode Band is = absurd cc
kind_is Mode Mode is = refl

letter_found : (kind : Kind) (word : Short) (letter : ℕ) (rows : List CodeRow) → AreLetters rows → option_map (λ row. row.letter) (find (has_word kind word) rows) ≡ Some letter → IsLetterOf kind letter
letter_found kind word letter [] all found = absurd cc
letter_found kind word letter (row ∷ rows) all found = by (has_word kind word row) refl (letter_found kind word letter rows all.1) found
  where
    by : (b : Bool) → has_word kind word row ≡ b → (option_map (λ r. r.letter) (find (has_word kind word) rows) ≡ Some letter → IsLetterOf kind letter)
        → option_map (λ r. r.letter) (cond b (Some row) (find (has_word kind word) rows)) ≡ Some letter → IsLetterOf kind letter
    by true is rest same =
        let letter_is : row.letter ≡ letter = cc in
        subst (λ (k : Kind). IsLetterOf k letter) (kind_is kind row.kind (and_parts _ _ is).0) (subst (IsLetterOf row.kind) letter_is all.0)
    by false is rest same = rest same

letter_known : (rows : List CodeRow) (kind : Kind) (word : Short) (letter : ℕ) → AreLetters rows → letter_of rows kind word ≡ Some letter → IsLetterOf kind letter
unfolding letter_of
letter_known rows kind word letter all found = letter_found kind word letter rows all found

-- ---- deeds

module _ (past : List Deed) (moment : ℤ) (all : AreSound (tables_of past)) where
  abbrev keeps_letters : Deed → Type 0
  keeps_letters deed = AreSound (with_row deed (tables_of past))

  act_letters : (a : Act) (deed : Deed) → IsSound a → does past moment a ≡ Ok deed → keeps_letters deed
  unfolding does
  act_letters (act.Station code name from to) deed sound is =
      by_deed keeps_letters _ _ deed (all.0, codes_with (tables_of past).stations (record { code = code; from = from; to = to }) all.1 sound) is
  act_letters (act.Code kind letter word) deed sound is =
      by_deed keeps_letters _ _ deed (letters_with (tables_of past).codes (record { kind = kind; letter = letter; word = word }) all.0 sound, all.1) is
  act_letters (act.Designate tracklets) deed sound is =
      let d = designated (holdings past) (row_acts_of past) tracklets deed is in
      subst keeps_letters d.deed_is all
  act_letters _ deed sound is = by_deed keeps_letters _ _ deed all is

-- ---- histories

module _ (eighty : EightyStated) (psv : PsvStated) (letters : LettersPrinted) (stations : StationsCoded) where
  pub all_sound : (history : List Entry) → AreSound (tables_of (deeds history))
  all_sound [] = (tt, tt)
  all_sound (e ∷ past) =
      let before = all_sound past in
      deed_cases (λ (deed : Deed). AreSound (with_row deed (tables_of (deeds past)))) (deeds past) e before
      (λ a deed read done. act_letters (deeds past) e.moment before a deed (subst IsSoundlyRead read (sound_read eighty psv letters stations e.verb e.body)) done)

  pub letters_printed : (history : List Entry) (kind : Kind) (word : Short) (letter : ℕ) → letter_of (tables_of (deeds history)).codes kind word ≡ Some letter → IsLetterOf kind letter
  letters_printed history kind word letter found = letter_known (tables_of (deeds history)).codes kind word letter (all_sound history).0 found
