-- The lines of which answers are made. Each ends in a line feed.
use Rattle.std.specs.Prelude.{ℕ, if◌then◌else◌, List, [], ◌∷◌, ◌++◌, flat_map, codes, decimal}
use Rattle.packed_names.specs.declared.half_month.HalfMonth.{HalfMonth}
use Rattle.packed_names.specs.declared.name.Designation.{Designation}
use Rattle.packed_names.specs.declared.name.Designation.TheVariants.{Provisional}
use Rattle.packed_names.specs.declared.name.Name.TheVariants as names
use Rattle.packed_names.specs.Judging.{is_in_range, is_half_month}
use Rattle.packed_names.specs.Packed.{packed_text}
use Rattle.packed_names.specs.Printed.{printed_text, half_text}
use Rattle.numbering_core.specs.declared.numbering.Numbering.{Numbering}
use Rattle.obs_record.specs.declared.rule.RuleCode.{RuleCode}
use Rattle.obs_record.specs.declared.rule.HeaderFault.{HeaderFault}
use Rattle.obs_record.specs.declared.rule.HeaderFault.TheVariants.{H1, H2, H3, H4, H5}
use Rattle.obs_record.specs.Rules.{rule_name}
use Rattle.act_model.specs.Designations.{with_order}

abbrev pub line_of : List ℕ → List ℕ
line_of text = text ++ 10 ∷ []

-- the name of a fault of headers
abbrev pub header_name : HeaderFault → List ℕ
header_name H1 = codes "H1"
header_name H2 = codes "H2"
header_name H3 = codes "H3"
header_name H4 = codes "H4"
header_name H5 = codes "H5"

-- `receipt R`
abbrev pub receipt_line : ℕ → List ℕ
receipt_line receipt = line_of (codes "receipt " ++ decimal receipt)

-- `caller C`: the number of the caller that was enrolled
abbrev pub caller_line : ℕ → List ℕ
caller_line caller = line_of (codes "caller " ++ decimal caller)

-- `accepted A refused B`
abbrev pub counts_line : ℕ → ℕ → List ℕ
counts_line accepted refused = line_of (codes "accepted " ++ decimal accepted ++ codes " refused " ++ decimal refused)

-- `line N obs K track T`: the line was accepted, as observation K of tracklet T
abbrev pub accepted_line : (number observation track : ℕ) → List ℕ
accepted_line number observation track =
    line_of (codes "line " ++ decimal number ++ codes " obs " ++ decimal observation ++ codes " track "
    ++ decimal track)

-- a name and a number, as the lines of a tally have them
abbrev pub count_line : List ℕ → ℕ → List ℕ
count_line name count = line_of (name ++ decimal count)

-- `line N refused S1`: the rule that the line broke first
abbrev pub refused_line : ℕ → RuleCode → List ℕ
refused_line number rule = line_of (codes "line " ++ decimal number ++ codes " refused " ++ rule_name rule)

-- ---- names

-- the printed and the packed form of a designation; none of a value that is no designation
abbrev pub designation_text : Designation → List ℕ
designation_text d = if is_in_range (names.Designation d) then printed_text (names.Designation d) else []

abbrev pub packed_designation : Designation → List ℕ
packed_designation d = if is_in_range (names.Designation d) then packed_text (names.Designation d) else []

-- the printed form of a half-month; none of a value that is no half-month
abbrev pub half_month_text : HalfMonth → List ℕ
half_month_text half = if is_half_month half then half_text half else []

-- `object D Q`: the designation that was given to an object, printed and packed
abbrev pub object_line : Designation → List ℕ
object_line d = line_of (codes "object " ++ designation_text d ++ codes " " ++ packed_designation d)

-- the same for the designation of a half-month that has this order, and for each of those that have these
abbrev pub order_line : HalfMonth → ℕ → List ℕ
order_line half order = object_line (Provisional (with_order half order))

abbrev pub object_lines : HalfMonth → List ℕ → List ℕ
object_lines half orders = flat_map (order_line half) orders

-- `number N D`: the number that was given to an object
abbrev pub number_line : Numbering → List ℕ
number_line n = line_of (codes "number " ++ decimal n.number.0 ++ codes " " ++ designation_text n.designation)

abbrev pub number_lines : List Numbering → List ℕ
number_lines numbered = flat_map number_line numbered
