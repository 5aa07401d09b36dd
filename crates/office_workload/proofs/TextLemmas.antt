-- Texts that were written one after another.
use Rattle.std.proofs.Common.{◌≡◌, List, ◌++◌, Result, Ok, Err, ap, ◌∙◌, append_assoc}
use Rattle.std.specs.Prelude.{OnOk}

pub on_ok : {E : Type 0} (result : Result (Unit {0}) E) (P Q : Type 0) → (P → Q) → OnOk result P → OnOk result Q
on_ok (Ok done) P Q leads is = leads is
on_ok (Err error) P Q leads is = is

pub joined : {A : Type 0} (out a b c first second third : List A) → first ≡ out ++ a → second ≡ first ++ b → third ≡ second ++ c → third ≡ out ++ (a ++ b ++ c)
joined out a b c first second third is more last =
    last ∙ ap (λ (text : List _). text ++ c) (more ∙ ap (λ (text : List _). text ++ b) is ∙ append_assoc out a b)
    ∙ append_assoc out (a ++ b) c
