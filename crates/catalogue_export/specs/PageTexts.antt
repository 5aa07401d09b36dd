-- What pages of the catalogue still hand out.
use Rattle.std.specs.Prelude.{◌≡◌, ◌⊎◌, ◌≤◌, ℕ, List, ◌++◌, drop, length}
use Rattle.act_model.specs.declared.entry.Entry.{Entry}
use Rattle.catalogue_export.specs.declared.pages.Pages.{Pages}
use Rattle.catalogue_export.specs.declared.pages.TheConstants.{PAGE_BYTES}
use Rattle.catalogue_export.specs.declared.walk.Stage.TheVariants.{Ended}
use Rattle.catalogue_export.specs.Walks.{to_write}

-- the bytes that were made and not handed out
abbrev pub ready : Pages → List ℕ
ready pages = drop pages.used pages.made

-- what is still to come of the catalogue of a history
abbrev pub to_come : List Entry → Pages → List ℕ
to_come history pages = ready pages ++ to_write history pages.walk

-- the bytes of a whole page were made, or all that are left
abbrev pub IsMade : Pages → Type 0
IsMade pages = (PAGE_BYTES ≤ length (ready pages)) ⊎ (pages.walk.stage ≡ Ended)
