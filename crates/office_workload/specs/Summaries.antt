-- What is said about the office after the workload.
use Rattle.std.specs.Prelude.{ℕ, ◌-◌, List, [], ◌++◌, length, slice_get, codes, Option, Some, None, Result, Ok, Err}
use Rattle.packed_names.specs.declared.name.Designation.{Designation}
use Rattle.act_model.specs.declared.entry.Entry.{Entry}
use Rattle.act_model.specs.declared.reply.Refusal.{Refusal}
use Rattle.act_model.specs.Catalogue.{catalogue}
use Rattle.act_model.specs.Deeds.{deeds}
use Rattle.act_model.specs.Designations.{links_of, principals}
use Rattle.act_model.specs.Replies.{refusal_text}
use Rattle.act_model.specs.Tallies.{tally, tally_text}
use Rattle.act_model.specs.Texts.{line_of, designation_text, packed_designation}
use Rattle.office_workload.specs.Lines.{numbered}
use Rattle.office_workload.specs.Workloads.{history_after, workload}

-- `workload seed S count M`
unfoldable pub head_line : (seed count : ℕ) → List ℕ
head_line seed count = line_of (numbered (codes "workload seed ") seed ++ numbered (codes " count ") count)

-- `last D Q`: a designation, printed and packed
unfoldable pub last_line : Option Designation → List ℕ
last_line None = []
last_line (Some d) = line_of (codes "last " ++ designation_text d ++ codes " " ++ packed_designation d)

-- the last of these
abbrev pub last_of : List Designation → Option Designation
last_of names = slice_get names (length names - 1)

-- the last principal designation in the order of designations
abbrev pub last_designation : List Entry → Option Designation
last_designation past = last_of (principals (links_of (deeds past)))

-- `catalogue N bytes`
unfoldable pub catalogue_line : ℕ → List ℕ
catalogue_line bytes = line_of (numbered (codes "catalogue ") bytes ++ codes " bytes")

-- what is said about this history
unfoldable pub summary_at : (seed count : ℕ) → List Entry → List ℕ
summary_at seed count past =
    head_line seed count ++ (tally_text (tally past)
    ++ (last_line (last_designation past) ++ catalogue_line (length (catalogue past))))

-- what is said about what the requests came to: of a refusal its line alone
abbrev pub told_of : (seed count : ℕ) → Result (List Entry) Refusal → List ℕ
told_of seed count (Ok past) = summary_at seed count past
told_of seed count (Err refusal) = refusal_text refusal

-- what is said about the workload
unfoldable pub summary : (seed count : ℕ) → List ℕ
summary seed count = told_of seed count (history_after [] (workload seed count))
