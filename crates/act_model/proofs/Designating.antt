-- What an object that was designated was sure of.
use Rattle.std.proofs.Common.{◌≡◌, ℕ, List, [], ◌∷◌, Option, Some, None, Result, Ok, refl}
use Rattle.designate_core.specs.Takes.{RowAct, next_in}
use Rattle.act_model.specs.declared.deed.Deed.{Deed}
use Rattle.act_model.specs.declared.deed.Deed.TheVariants.{Designated}
use Rattle.act_model.specs.declared.reply.Refusal.{Refusal}
use Rattle.act_model.specs.declared.seen.Seen.{Seen}
use Rattle.act_model.specs.Rows.{first_row, unless}
use Rattle.act_model.specs.Holdings.{Holdings}
use Rattle.act_model.specs.Discoveries.{seen_in, earliest, span, half_of}
use Rattle.act_model.specs.Doing.{designate_rows, object_rows, designates_seen, designates}
use Rattle.act_model.proofs.Conducts.{ok_is}

-- nothing refused what was done
pub unless_ok : {A : Type 0} (o : Option Refusal) (r : Result A Refusal) (done : A) → unless o r ≡ Ok done → (o ≡ None) × (r ≡ Ok done)
unless_ok None r done is = (refl, is)
unless_ok (Some refusal) r done is = absurd cc

pub record IsDesignated (held : Holdings) (rows : List RowAct) (tracklets : List ℕ) (deed : Deed) : Type 0 where
  pub first : Seen
  pub more : List Seen
  pub seen_is : seen_in held.observations tracklets ≡ first ∷ more
  pub there : first_row (designate_rows held tracklets) ≡ None
  pub allowed : first_row (object_rows rows (span first more) (half_of (earliest first more).time)) ≡ None
  pub deed_is : Designated tracklets (next_in (half_of (earliest first more).time) rows) (earliest first more).number ≡ deed

module _ (held : Holdings) (rows : List RowAct) (tracklets : List ℕ) (deed : Deed) where
  of_seen : (seen : List Seen) → seen_in held.observations tracklets ≡ seen → first_row (designate_rows held tracklets) ≡ None → designates_seen rows tracklets seen ≡ Ok deed → IsDesignated held rows tracklets deed
  of_seen [] seen_is there is = absurd cc
  of_seen (first ∷ more) seen_is there is =
      let u = unless_ok (first_row (object_rows rows (span first more) (half_of (earliest first more).time))) (Ok (Designated tracklets (next_in (half_of (earliest first more).time) rows) (earliest first more).number)) deed is in
      record { first = first; more = more; seen_is = seen_is; there = there; allowed = u.0; deed_is = ok_is _ deed u.1 }

  pub designated : designates held rows tracklets ≡ Ok deed → IsDesignated held rows tracklets deed
  designated is =
      let u = unless_ok (first_row (designate_rows held tracklets)) (designates_seen rows tracklets (seen_in held.observations tracklets)) deed is in
      of_seen (seen_in held.observations tracklets) refl u.0 u.1
