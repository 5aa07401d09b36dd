use Rattle.std.proofs.Common.{◌≡◌, ◌≢◌, List, [], ◌∷◌, map, slice_get, Option, Some, All, IfSome, IfNone, refl, ap, sym, subst, ◌∙◌, arith}
use Rattle.std.specs.List.{Contains, filter}
use Rattle.packed_names.specs.declared.name.Designation.{Designation}
use Rattle.identify_core.specs.declared.link.Link.{Link}
use Rattle.identify_core.specs.Principals.{principal_of}
use Rattle.identify_core.specs.Keeping.{has_principal, EachOnce}
use Rattle.identify_core.proofs.RunLemmas.{run_is, all_of, among, members, principal_from}
use Rattle.identify_core.proofs.searches.first_of.Goals as goal

first_principal : (p : Designation) (xs : List Link) (answer : Option Link) → All (λ (l : Link). l.principal ≡ p) xs → answer ≡ slice_get xs 0 → IfSome answer (λ link. link.principal ≡ p)
first_principal p [] answer all is = subst (λ (a : Option Link). IfSome a (λ link. link.principal ≡ p)) (sym is) tt
first_principal p (x ∷ xs) answer all is = subst (λ (a : Option Link). IfSome a (λ link. link.principal ≡ p)) (sym is) (all 0 x (omega arith))

first_there : (p : Designation) (links xs : List Link) (answer : Option Link) → EachOnce links → filter (has_principal p) links ≡ xs → answer ≡ slice_get xs 0
    → IfSome answer (λ link. principal_of links link.member ≡ Some link.principal)
first_there p links [] answer once all is = subst (λ (a : Option Link). IfSome a (λ link. principal_of links link.member ≡ Some link.principal)) (sym is) tt
first_there p links (x ∷ xs) answer once all is =
    let found : Contains (members p links) x.member = subst (λ (ls : List Link). Contains (map (λ (l : Link). l.member) ls) x.member) (sym all) (0, omega arith, refl) in
    let mine : x.principal ≡ p = subst (All (λ (l : Link). l.principal ≡ p)) all (all_of p links) 0 x (omega arith) in
    subst (λ (a : Option Link). IfSome a (λ link. principal_of links link.member ≡ Some link.principal)) (sym is)
    (principal_from x.member p links (once x.member) found ∙ ap Some (sym mine))

none_there : (p : Designation) (links xs : List Link) (answer : Option Link) → filter (has_principal p) links ≡ xs → answer ≡ slice_get xs 0
    → IfNone answer ((d : Designation) → principal_of links d ≢ Some p)
none_there p links [] answer all is =
    subst (λ (a : Option Link). IfNone a ((d : Designation) → principal_of links d ≢ Some p)) (sym is)
    (λ d some. let found = subst (λ (ls : List Link). Contains (map (λ (l : Link). l.member) ls) d) all (among d p links some) in omega (arith, found.1))
none_there p links (x ∷ xs) answer all is = subst (λ (a : Option Link). IfNone a ((d : Designation) → principal_of links d ≢ Some p)) (sym is) tt

pub returns-clause-principal : goal.returns-clause-principal
returns-clause-principal c =
    let run = sym (c.run_of.ensures ∙ run_is c.args.p c.args.links.now c.requires.sorted) in
    first_principal c.args.p c.run_of.result.now c.copied.result (subst (All (λ (l : Link). l.principal ≡ c.args.p)) run (all_of c.args.p c.args.links.now)) (c.copied.ensures ∙ c.first.ensures.value)

pub returns-clause-there : goal.returns-clause-there
returns-clause-there c =
    let run = sym (c.run_of.ensures ∙ run_is c.args.p c.args.links.now c.requires.sorted) in
    first_there c.args.p c.args.links.now c.run_of.result.now c.copied.result c.requires.once run (c.copied.ensures ∙ c.first.ensures.value)

pub returns-clause-none : goal.returns-clause-none
returns-clause-none c =
    let run = sym (c.run_of.ensures ∙ run_is c.args.p c.args.links.now c.requires.sorted) in
    none_there c.args.p c.args.links.now c.run_of.result.now c.copied.result run (c.copied.ensures ∙ c.first.ensures.value)
