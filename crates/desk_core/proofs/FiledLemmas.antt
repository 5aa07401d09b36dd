-- Histories of what was filed.
use Rattle.std.proofs.Common.{◌≡◌, ℕ, List, [], ◌∷◌, ◌++◌, Option, Some, None, ap, sym, ◌∙◌}
use Rattle.std.specs.Prelude.{reverse}
use Rattle.std.specs.Option.{option_map}
use Rattle.tracklet_file.specs.Numbering.{numbered}
use Rattle.std.proofs.lemmas.List.{reverse-append}
use Rattle.desk_core.specs.declared.filed.Filed.{Filed}
use Rattle.desk_core.specs.Filed.{entries_of, history_of}
use Rattle.desk_core.proofs.Numbered.{numbered_map}

-- one more that is filed is the newest entry
pub history_of-push : (filed : List Filed) (f : Filed) → history_of (filed ++ f ∷ []) ≡ f.entry ∷ history_of filed
history_of-push filed f = ap entries_of (reverse-append filed (f ∷ []))

-- who sent the entry with a receipt is told by what was filed with that number
pub caller_numbered : (filed : List Filed) (receipt : ℕ) (o : Option Filed) → o ≡ numbered (reverse filed) receipt
    → option_map (λ f. f.entry.caller) o ≡ option_map (λ e. e.caller) (numbered (history_of filed) receipt)
caller_numbered filed receipt None is =
    ap (option_map (λ e. e.caller)) (ap (option_map (λ f. f.entry)) is ∙ sym (numbered_map (λ f. f.entry) (reverse filed) receipt))
caller_numbered filed receipt (Some f) is =
    ap (option_map (λ e. e.caller)) (ap (option_map (λ f. f.entry)) is ∙ sym (numbered_map (λ f. f.entry) (reverse filed) receipt))
