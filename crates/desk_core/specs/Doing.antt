-- What is refused, or done, before memory is asked for.
use Rattle.std.specs.Prelude.{◌≡◌, ◌⊎◌, true, List, map, is_some}
use Rattle.numbering_core.specs.Numbers.{next_number}
use Rattle.act_model.specs.declared.act.Act.{Act}
use Rattle.act_model.specs.declared.act.Act.TheVariants as act
use Rattle.act_model.specs.declared.deed.Deed.{Deed}
use Rattle.act_model.specs.declared.entry.Entry.{Entry}
use Rattle.act_model.specs.declared.heard.Asked.{Asked}
use Rattle.act_model.specs.declared.heard.Asked.TheVariants as asked
use Rattle.act_model.specs.declared.heard.Heard.{Heard}
use Rattle.act_model.specs.Rows.{first_row}
use Rattle.act_model.specs.Deeds.{deeds}
use Rattle.act_model.specs.Doing.{tracklet_row, next_rows}
use Rattle.act_model.specs.Holdings.{holdings}
use Rattle.act_model.specs.Numbers.{numbers_of}
use Rattle.act_model.specs.Refusals.{role_rows}

-- The act is worked out, or refused, without memory. Memory may be asked for a batch, for tracklets that are all there,
-- and for objects from the next number on.
abbrev pub IsActAtOnce : List Deed → Act → Type 0
IsActAtOnce past (act.Submit80 lines) = ⊥
IsActAtOnce past (act.SubmitPsv lines) = ⊥
IsActAtOnce past (act.Designate tracklets) =
    is_some (first_row (map (tracklet_row (holdings past).tracklets) tracklets)) ≡ true
IsActAtOnce past (act.Number first most) = is_some (first_row (next_rows (next_number (numbers_of past)) first)) ≡ true
IsActAtOnce past _ = Unit {0}

-- the same of what is asked
abbrev pub IsAskedAtOnce : List Deed → Asked → Type 0
IsAskedAtOnce past (asked.Act act) = IsActAtOnce past act
IsAskedAtOnce past (asked.Header fault line) = Unit {0}
IsAskedAtOnce past (asked.Query query) = Unit {0}

-- no memory is needed to work out what a request that was heard does, or its caller may not ask it
abbrev pub IsAtOnce : List Entry → Heard → Type 0
IsAtOnce past heard = (is_some (first_row (role_rows past heard)) ≡ true) ⊎ IsAskedAtOnce (deeds past) heard.asked
