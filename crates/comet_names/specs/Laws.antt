-- What holds of the forms of comets, whoever reads or writes them.
use Rattle.std.specs.Prelude.{◌≡◌, ◌↔◌, ℕ, List, Ok}
use Rattle.packed_names.specs.Judging.{answered}
use Rattle.comet_names.specs.declared.comet.Comet.{Comet}
use Rattle.comet_names.specs.Judging.{is_comet}
use Rattle.comet_names.specs.Packed.{IsCometPackedAs}
use Rattle.comet_names.specs.Printed.{IsCometPrintedAs}
use Rattle.comet_names.specs.Reading.{packed_comet_in, printed_comet_in}

pub record CometLaws : Type 0 where
  -- a text is answered with a comet exactly where it is the comet's packed form
  pub packed_exactly : (text : List ℕ) (comet : Comet) → (answered is_comet (packed_comet_in text) ≡ Ok comet)
      ↔ IsCometPackedAs comet text
  -- a text is answered with a comet exactly where it is the comet's printed form
  pub printed_exactly : (text : List ℕ) (comet : Comet) → (answered is_comet (printed_comet_in text) ≡ Ok comet)
      ↔ IsCometPrintedAs comet text
