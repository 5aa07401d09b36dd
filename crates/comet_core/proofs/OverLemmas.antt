-- A register of an office whose history grows.
use Rattle.std.proofs.Common.{◌≡◌, List, [], ◌∷◌, length, Option, Some, None, sym, ap, ◌∙◌, arith}
use Rattle.act_model.specs.declared.deed.Deed.{Deed}
use Rattle.comet_model.specs.declared.named.NamedComet.{NamedComet}
use Rattle.comet_model.specs.Register.{named_by, with_named, comets}
use Rattle.comet_core.specs.Register.{RegisterValue, IsOver, Ready, IsReadyAt}
use Rattle.comet_core.proofs.WorkLemmas.{named_more}

longer_than : (n : NamedComet) (past : List NamedComet) → past ≡ n ∷ past → {A : Type 0} → A
longer_than n past is = let lengths = ap length is in absurd (omega arith)

head_or : NamedComet → List NamedComet → NamedComet
head_or n [] = n
head_or n (m ∷ more) = m

-- what adds this name is this name
with_is : (o : Option NamedComet) (named : NamedComet) (past : List NamedComet) → with_named o past ≡ named ∷ past → o ≡ Some named
unfolding head_or
with_is None named past is = longer_than named past is
with_is (Some other) named past is = ap (λ (c : List NamedComet). Some (head_or named c)) is

module _ (desk other : List Deed) (register : RegisterValue) (over : IsOver desk register) (ready : Ready) (at : IsReadyAt desk register.entries register.comets ready)
    (same : comets other register.entries ≡ comets desk register.entries) (more : comets other (ready.entry ∷ register.entries) ≡ comets desk (ready.entry ∷ register.entries)) where
  -- what an act names is what it names there
  pub named_again : named_by other register.comets ready.entry ≡ Some ready.named
  named_again =
      let past_is : comets other register.entries ≡ register.comets = same ∙ sym over.comets in
      with_is (named_by other register.comets ready.entry) ready.named register.comets
      (ap (λ (past : List NamedComet). with_named (named_by other past ready.entry) past) (sym past_is) ∙ more ∙ named_more desk register over ready.entry ready.named at.named)
