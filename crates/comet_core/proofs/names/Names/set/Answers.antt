use Rattle.std.proofs.Common.{◌≡◌, ℕ, cond, ◌++◌, ◌∷◌, [], List, map, Some, None, ap, sym, subst, ◌∙◌}
use Rattle.std.specs.Prelude.{bytes_eq}
use Rattle.std.proofs.lemmas.List.{map-append}
use Rattle.comet_core.specs.declared.names.KnownName.{KnownName}
use Rattle.comet_core.specs.Names.{NamesValue, object_of, name_mark, AreOnce, StandsAt}
use Rattle.comet_core.proofs.NameLemmas.{finds_more, once_more, finds_set, once_set, marks_set}
use Rattle.comet_core.proofs.names.Names.set.Goals as goal

pub invariant_of-self : goal.invariant_of-self
invariant_of-self c =
    let known = c.args.known in
    let names = c.self.inside.names.items in
    let place = c.in-Some.place in
    let stands = subst (λ (v : NamesValue). StandsAt v.names place known.text) (sym c.self.view_is) c.in-Some.ensures.there in
    (c.self.invariant.0 ∙ sym (marks_set names place known stands.0 (stands.1 known)), once_set names place known c.self.invariant.1 stands.0 (stands.1 known))

pub invariant_of-self-in-None : goal.invariant_of-self-in-None
invariant_of-self-in-None c =
    let known = c.args.known in
    let names = c.self.inside.names.items in
    let pushed : c.push_reserved.new.self.items ≡ names ++ known ∷ [] = c.push_reserved.ensures.items in
    let new : object_of names known.text ≡ None = ap (λ (v : NamesValue). object_of v.names known.text) c.self.view_is ∙ c.in-None.ensures.none in (
      c.push.ensures.marks
          ∙ ap (λ (ms : List ℕ). ms ++ c.text_mark.result ∷ []) c.self.invariant.0
          ∙ ap (λ (m : ℕ). map name_mark names ++ m ∷ []) c.text_mark.ensures.mark
          ∙ sym (map-append name_mark names (known ∷ [])) ∙ ap (map name_mark) (sym pushed),
      subst AreOnce (sym pushed) (once_more names known c.self.invariant.1 new),
    )

pub returns-in-Some-clause-finds : goal.returns-in-Some-clause-finds
returns-in-Some-clause-finds c text =
    let known = c.args.known in
    let names = c.self.inside.names.items in
    let place = c.in-Some.place in
    let stands = subst (λ (v : NamesValue). StandsAt v.names place known.text) (sym c.self.view_is) c.in-Some.ensures.there in
    finds_set names place known text c.self.invariant.1 stands.0 (stands.1 known)
    ∙ ap (λ (v : NamesValue). cond (bytes_eq known.text text) (Some known.object) (object_of v.names text)) c.self.view_is

pub returns-in-None-clause-finds : goal.returns-in-None-clause-finds
returns-in-None-clause-finds c text =
    let known = c.args.known in
    let names = c.self.inside.names.items in
    let pushed : c.push_reserved.new.self.items ≡ names ++ known ∷ [] = c.push_reserved.ensures.items in
    let new : object_of names known.text ≡ None = ap (λ (v : NamesValue). object_of v.names known.text) c.self.view_is ∙ c.in-None.ensures.none in
    ap (λ (all : List KnownName). object_of all text) pushed ∙ finds_more names known text new
    ∙ ap (λ (v : NamesValue). cond (bytes_eq known.text text) (Some known.object) (object_of v.names text)) c.self.view_is
