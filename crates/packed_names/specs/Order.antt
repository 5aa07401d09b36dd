-- The order of designations.
use Rattle.std.specs.Prelude.{ℕ}
use Rattle.std.specs.declared.cmp.Ordering.{Ordering}
use Rattle.std.specs.declared.cmp.Ordering.TheVariants.{Less, Greater}
use Rattle.std.specs.Ordering.{nat_cmp, ordering_then}
use Rattle.packed_names.specs.declared.half_month.HalfMonth.{HalfMonth}
use Rattle.packed_names.specs.declared.provisional.Provisional.{Provisional}
use Rattle.packed_names.specs.declared.survey.Survey.{Survey}
use Rattle.packed_names.specs.declared.survey.Survey.TheVariants.{PalomarLeiden, T1, T2, T3}
use Rattle.packed_names.specs.declared.name.Designation.{Designation}
use Rattle.packed_names.specs.declared.name.Designation.TheVariants as designations

-- by year, then by index
abbrev pub half_cmp : HalfMonth → HalfMonth → Ordering
half_cmp one other = ordering_then (nat_cmp one.year other.year) (nat_cmp one.index other.index)

-- by half-month, then by order
abbrev pub provisional_cmp : Provisional → Provisional → Ordering
provisional_cmp one other = ordering_then (half_cmp one.half other.half) (nat_cmp one.order other.order)

-- P-L, T-1, T-2, T-3
abbrev pub survey_place : Survey → ℕ
survey_place PalomarLeiden = 0
survey_place T1 = 1
survey_place T2 = 2
survey_place T3 = 3

-- provisional designations come first, and surveys' go by survey and number
abbrev pub designation_cmp : Designation → Designation → Ordering
designation_cmp (designations.Provisional one) (designations.Provisional other) = provisional_cmp one other
designation_cmp (designations.Provisional one) (designations.Survey survey number) = Less
designation_cmp (designations.Survey survey number) (designations.Provisional other) = Greater
designation_cmp (designations.Survey survey number) (designations.Survey other_survey other_number) =
    ordering_then (nat_cmp (survey_place survey) (survey_place other_survey)) (nat_cmp number other_number)
