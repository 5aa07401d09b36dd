-- An office that was taken apart, into its first disk and its desk.
use Rattle.std.specs.Prelude.{◌≡◌}
use Rattle.std.proofs.Common.{ap, ◌∙◌}
use Rattle.mpc_desk.specs.Desks.{DeskState}
use Rattle.mpc_desk.specs.Pairs.{PairState}

-- the office with these parts
abbrev pub of_parts : {D : Type 0} → D → DeskState D → PairState D
of_parts first desk = record { first = first; chained = desk }

-- it is the one whose parts they are
pub put_together : {D : Type 0} (office : PairState D) (first : D) (desk : DeskState D) → first ≡ office.first
    → desk ≡ office.chained → of_parts first desk ≡ office
put_together {D} office first desk same again =
    ap (λ (d : D). of_parts d desk) same ∙ ap (λ (c : DeskState D). of_parts office.first c) again
