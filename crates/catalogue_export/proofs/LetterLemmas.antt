-- The letters of an observation on file are printed, and its mode may be written.
use Rattle.std.proofs.Common.{◌≡◌, ℕ, true, false, List, eqb, Option, Some, None, refl, sym, subst, Contains, lit≤}
use Rattle.std.specs.Prelude.{unwrap_or, option_map}
use Rattle.std.specs.List.{list_any}
use Rattle.std.proofs.lemmas.Bool.Decides.{nat_tests}
use Rattle.std.proofs.lemmas.List.Folds.{list_any_at}
use Rattle.std.proofs.Common.{arith}
use Rattle.obs_record.specs.declared.short.Short.{Short}
use Rattle.obs_record.specs.declared.sighting.Coded.{Coded}
use Rattle.obs_record.specs.declared.sighting.Coded.TheVariants.{Nothing, Letter, Word}
use Rattle.obs_record.specs.declared.sighting.Sighting.{Sighting}
use Rattle.obs_record.specs.Filed.{IsTakenMode, IsFiled}
use Rattle.obs_record.specs.Modes.{refused_modes}
use Rattle.obs_record.specs.Sighting.{IsPrintable, IsCoded}
use Rattle.station_tables.specs.declared.kind.Kind.{Kind}
use Rattle.station_tables.specs.declared.kind.Kind.TheVariants.{Catalogue, Band, Mode}
use Rattle.station_tables.specs.Codes.{letter_of}
use Rattle.station_tables.specs.Letters.{IsLetterOf}
use Rattle.station_tables.specs.Rows.{CodeRow}
use Rattle.col80_format.specs.LineText.{AreLetters}
use Rattle.tracklet_file.specs.declared.observation.Observation.{Observation}
use Rattle.tracklet_file.specs.Numbering.{numbered}
use Rattle.tracklet_file.specs.Observations.{sighting_of}
use Rattle.act_model.specs.CatalogueLines.{letter_for, letters_for}

mode_among : (modes : List ℕ) (mode : ℕ) → Contains modes mode → list_any (λ m. eqb m mode) modes ≡ true
mode_among modes mode among =
    let at = among.2 in
    list_any_at (λ m. eqb m mode) modes among.0 mode among.1 (grind (arith, nat_tests))

blank_taken : ¬ Contains refused_modes 32
blank_taken among = let is : false ≡ true = mode_among refused_modes 32 among in cc

module _ (rows : List CodeRow) (known : (kind : Kind) (word : Short) (letter : ℕ) → letter_of rows kind word ≡ Some letter → IsLetterOf kind letter) where
  found_printed : (kind : Kind) (word : Short) (found : Option ℕ) → letter_of rows kind word ≡ found → IsPrintable (unwrap_or found 32)
  found_printed kind word None is = (lit≤ tt, lit≤ tt)
  found_printed kind word (Some letter) is = (known kind word letter is).printed

  letter_printed : (kind : Kind) (coded : Coded) → IsCoded coded → IsPrintable (letter_for rows kind coded)
  letter_printed kind Nothing is = (lit≤ tt, lit≤ tt)
  letter_printed kind (Letter byte) is = is
  letter_printed kind (Word word) is = found_printed kind word (letter_of rows kind word) refl

  found_taken : (word : Short) (found : Option ℕ) → letter_of rows Mode word ≡ found → ¬ Contains refused_modes (unwrap_or found 32)
  found_taken word None is = blank_taken
  found_taken word (Some letter) is = (known Mode word letter is).taken refl

  mode_taken : (mode : Coded) → IsTakenMode mode → ¬ Contains refused_modes (letter_for rows Mode mode)
  mode_taken Nothing is = blank_taken
  mode_taken (Letter byte) is = is
  mode_taken (Word word) is = found_taken word (letter_of rows Mode word) refl

  pub letters_printed : (s : Sighting) → IsFiled s → AreLetters (letters_for rows s)
  letters_printed s filed =
      record {
        mode = letter_printed Mode s.mode filed.sighting.mode;
        kind = mode_taken s.mode filed.mode;
        band = letter_printed Band s.band filed.sighting.band;
        catalogue = letter_printed Catalogue s.catalogue filed.sighting.catalogue;
      }

-- what holds of each observation on file holds of what was observed
pub filed_at : (observations : List Observation) → ((k : ℕ) (o : Observation) → numbered observations k ≡ Some o → IsFiled o.sighting) → (k : ℕ) (s : Sighting) → Some s ≡ sighting_of observations k → IsFiled s
filed_at observations filed k s is = by (numbered observations k) refl is
  where
    by : (found : Option Observation) → numbered observations k ≡ found → Some s ≡ option_map (λ o. o.sighting) found → IsFiled s
    by None at same = absurd cc
    by (Some o) at same = let e : s ≡ o.sighting = cc in subst IsFiled (sym e) (filed k o at)
