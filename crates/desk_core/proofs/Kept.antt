-- The answers that are kept are those of the entries' own time.
use Rattle.std.proofs.Common.{◌≡◌, ℕ, ◌+◌, ◌<◌, List, [], ◌∷◌, ◌++◌, length, get_or, take, drop, Some, suc, refl, ap, sym, subst, ◌∙◌, append_assoc}
use Rattle.std.specs.Prelude.{slice_get, reverse}
use Rattle.std.proofs.lemmas.List.{reverse-append, take-append-drop}
use Rattle.std.proofs.Math.Seq.{drop-cons}
use Rattle.std.proofs.Math.Numerals.{add-one}
use Rattle.std.proofs.lemmas.Option.{get_or_from_slice_get, slice_get_read, slice_get_within}
use Rattle.act_model.specs.declared.entry.Entry.{Entry}
use Rattle.act_model.specs.declared.reply.Reply.TheVariants.{Done}
use Rattle.act_model.specs.History.{Kept}
use Rattle.act_model.specs.Replies.{entry_answer}
use Rattle.desk_core.specs.declared.filed.Filed.{Filed}
use Rattle.desk_core.specs.Filed.{entries_of, history_of, done_reply, AreAnswered, IsDone, IsFiledAt}

-- what was filed, cut at one place
pub split_at : (filed : List Filed) (place : ℕ) (f : Filed) → slice_get filed place ≡ Some f → filed ≡ take place filed ++ (f ∷ drop (place + 1) filed)
split_at filed place f there =
    let within = slice_get_within filed place f there in
    let is : get_or filed place f ≡ f = get_or_from_slice_get filed place f f there in
    let next : drop place filed ≡ f ∷ drop (place + 1) filed = drop-cons filed place f within ∙ rw add-one (ap (λ (g : Filed). g ∷ drop (suc place) filed) is) in
    sym (take-append-drop place filed) ∙ ap (λ (rest : List Filed). take place filed ++ rest) next

answered_behind : (newer : List Filed) (f : Filed) (older : List Filed) → AreAnswered (newer ++ f ∷ older) → f.reply ≡ Done (entry_answer (entries_of older) f.entry)
answered_behind [] f older answered = answered.0
answered_behind (g ∷ newer) f older answered = answered_behind newer f older answered.1

pub answered_at : (filed : List Filed) (place : ℕ) (f : Filed) → slice_get filed place ≡ Some f → AreAnswered (reverse filed)
    → f.reply ≡ Done (entry_answer (history_of (take place filed)) f.entry)
answered_at filed place f there answered =
    let behind = drop (place + 1) filed in
    let turned : reverse filed ≡ reverse behind ++ (f ∷ reverse (take place filed)) =
    ap reverse (split_at filed place f there) ∙ reverse-append (take place filed) (f ∷ behind) ∙ ap (λ (newer : List Filed). newer ++ reverse (take place filed)) (reverse-append (f ∷ []) behind) ∙ append_assoc (reverse behind) (f ∷ []) (reverse (take place filed)) in
    answered_behind (reverse behind) f (reverse (take place filed)) (subst AreAnswered turned answered)

-- what is filed is the reply to the act of its entry
pub reply_given : (filed : List Filed) (place : ℕ) (f : Filed) → AreAnswered (reverse filed) → f ≡ get_or filed place f → (k : Kept) → IsFiledAt filed place k → f.reply ≡ done_reply k
reply_given filed place f answered here k at =
    let same : at.at ≡ f = sym (get_or_from_slice_get filed place at.at f at.there) ∙ sym here in
    let entry : k.entry ≡ f.entry = at.entry ∙ ap (λ (g : Filed). g.entry) same in
    let old : f.reply ≡ Done (entry_answer (history_of (take place filed)) f.entry) = answered_at filed place f (at.there ∙ ap (λ (g : Filed). Some g) same) answered in
    old ∙ ap (λ (e : Entry). Done (entry_answer (history_of (take place filed)) e)) (sym entry) ∙ ap (λ (h : List Entry). Done (entry_answer h k.entry)) (sym at.before)

pub reply_done : (filed : List Filed) (place : ℕ) (f : Filed) → AreAnswered (reverse filed) → place < length filed → f ≡ get_or filed place f → IsDone f.reply
reply_done filed place f answered within here =
    let there : slice_get filed place ≡ Some f = slice_get_read filed (length filed) place f refl within here in
    subst IsDone (sym (answered_at filed place f there answered)) tt
