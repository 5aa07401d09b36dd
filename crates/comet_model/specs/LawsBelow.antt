-- The laws of the crates below on which those of this crate stand.
use Rattle.std.specs.Prelude.{◌≡◌, ◌↔◌, ℕ, ℤ, true, List, Ok}
use Rattle.std.specs.Ordering.{eq_by_cmp}
use Rattle.packed_names.specs.declared.name.Designation.{Designation}
use Rattle.packed_names.specs.declared.half_month.HalfMonth.{HalfMonth}
use Rattle.packed_names.specs.Order.{half_cmp, designation_cmp}
use Rattle.packed_names.specs.Ranges.{IsDesignation}
use Rattle.comet_names.specs.declared.comet.Comet.{Comet}
use Rattle.comet_names.specs.Packed.{IsCometPackedAs}
use Rattle.act_model.specs.declared.act.Act.{Act}
use Rattle.act_model.specs.declared.deed.Deed.{Deed}
use Rattle.act_model.specs.declared.entry.Entry.{Entry}
use Rattle.act_model.specs.Acts.{IsRead}
use Rattle.act_model.specs.Deeds.{deeds}
use Rattle.act_model.specs.Designations.{links_of, is_given}
use Rattle.act_model.specs.Doing.{does}
use Rattle.act_model.specs.Fitting.{FitsObjects}

pub record Laws : Type 0 where
  -- designations compare equal exactly where they are the same
  pub designations : (one other : Designation) → (eq_by_cmp designation_cmp one other ≡ true) ↔ (one ≡ other)
  -- and so do half-months
  pub halves : (one other : HalfMonth) → (eq_by_cmp half_cmp one other ≡ true) ↔ (one ≡ other)
  -- two comets never share a packed form
  pub one_comet : (one other : Comet) (text : List ℕ) → IsCometPackedAs one text → IsCometPackedAs other text
      → one ≡ other
  -- an act of the office that is done fits what was done before
  pub acts_fit : (history : List Entry) (moment : ℤ) (act : Act) (deed : Deed) → IsRead act
      → does (deeds history) moment act ≡ Ok deed → FitsObjects (deeds history) deed
  -- what the office gave are designations
  pub given : (history : List Entry) (d : Designation) → is_given (links_of (deeds history)) d ≡ true
      → IsDesignation d
