use Rattle.std.proofs.Common.{◌≡◌, ◌++◌, ◌∷◌, [], List, ℕ, length, map, false, ap, sym, subst, ◌∙◌, arith}
use Rattle.std.specs.List.{list_any, IsDistinct}
use Rattle.std.proofs.lemmas.List.{map-append, length-append}
use Rattle.std.proofs.lemmas.Map.Keys.{IsDistinct-push}
use Rattle.batch_rules.specs.contracts.keys.GroupKeyEq.TheImpl.Laws.{laws-law}
use Rattle.batch_rules.specs.declared.keys.GroupKey.{GroupKey}
use Rattle.batch_rules.specs.KeyTests.{same_key}
use Rattle.batch_rules.specs.Marks.{key_mark}
use Rattle.batch_rules.proofs.key_places.GroupKeys.add.Goals as goal

pub invariant_of-self-2 : goal.invariant_of-self-2
invariant_of-self-2 c =
    let keys = c.self.inside.keys.items in
    let key = c.args.key in
    let pushed : c.push.new.self.items ≡ keys ++ key ∷ [] = c.in_ok-push.ensures.items in
    let new : list_any (same_key key) keys ≡ false = ap (list_any (same_key key)) c.self.view_is ∙ c.requires.none in (
      c.push-2.ensures.marks
          ∙ ap (λ (ms : List ℕ). ms ++ c.args.mark ∷ []) (c.reserve.ensures.marks ∙ c.self.invariant.0)
          ∙ ap (λ (m : ℕ). map key_mark keys ++ m ∷ []) c.requires.mark
          ∙ sym (map-append key_mark keys (key ∷ [])) ∙ ap (map key_mark) (sym pushed),
      subst (IsDistinct same_key) (sym pushed) (IsDistinct-push laws-law keys key c.self.invariant.1 new),
      omega (arith, c.if-place.false, c.len-place.ensures, ap (λ (ks : List GroupKey). length ks) pushed, length-append keys (key ∷ [])),
    )
