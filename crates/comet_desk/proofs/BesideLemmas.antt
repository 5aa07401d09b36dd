-- A register beside an office whose history grows.
use Rattle.std.proofs.Common.{◌≡◌, List, ◌∷◌, length, Option, Some, None, refl, sym, ap, ◌∙◌, arith}
use Rattle.std.specs.Prelude.{IfSome}
use Rattle.act_bodies.specs.declared.key.Key.{Key}
use Rattle.act_model.specs.declared.entry.Entry.{Entry}
use Rattle.act_model.specs.Conducts.{Extends}
use Rattle.act_model.specs.Deeds.{deeds}
use Rattle.comet_model.specs.declared.named.NamedComet.{NamedComet}
use Rattle.comet_model.specs.Legal.{IsLegal}
use Rattle.comet_model.specs.Register.{named_by, with_named, comets}
use Rattle.comet_desk.specs.Desks.{CometDeskState, IsBeside, next_named}

-- what was added is told by the list
same_named : (one other : Option NamedComet) (past : List NamedComet) → with_named one past ≡ with_named other past → one ≡ other
same_named (Some a) (Some b) past is = cc
same_named None None past is = refl
same_named (Some a) None past is = let lengths = ap length is in absurd (omega arith)
same_named None (Some b) past is = let lengths = ap length is in absurd (omega arith)

module _ (longer : (founder : Key) (earlier later : List Entry) (entries : List Entry) → Extends earlier later → IsLegal founder (deeds earlier) entries → IsLegal founder (deeds later) entries)
    (same : (founder : Key) (earlier later : List Entry) (entries : List Entry) → Extends earlier later → IsLegal founder (deeds earlier) entries → comets (deeds later) entries ≡ comets (deeds earlier) entries)
    {D : Type 0} (earlier later : List Entry) (register : CometDeskState D) (grows : Extends earlier later) (beside : IsBeside (deeds earlier) register) where
  still_legal : (doubt : Option Entry) → IfSome doubt (λ entry. IsLegal register.founder (deeds earlier) (entry ∷ register.state.settled)) → IfSome doubt (λ entry. IsLegal register.founder (deeds later) (entry ∷ register.state.settled))
  still_legal None legal = tt
  still_legal (Some entry) legal = longer register.founder earlier later (entry ∷ register.state.settled) grows legal

  settled_same : comets (deeds later) register.state.settled ≡ comets (deeds earlier) register.state.settled
  settled_same = same register.founder earlier later register.state.settled grows beside.legal.0

  next_same : (doubt : Option Entry) → IfSome doubt (λ entry. IsLegal register.founder (deeds earlier) (entry ∷ register.state.settled)) → next_named (deeds earlier) register.comets doubt ≡ next_named (deeds later) register.comets doubt
  next_same None legal = refl
  next_same (Some entry) legal =
      let known : register.comets ≡ comets (deeds later) register.state.settled = beside.comets ∙ sym settled_same in
      let now : with_named (named_by (deeds later) register.comets entry) register.comets ≡ comets (deeds later) (entry ∷ register.state.settled) =
      ap (λ (c : List NamedComet). with_named (named_by (deeds later) c entry) c) known in
      let then : comets (deeds earlier) (entry ∷ register.state.settled) ≡ with_named (named_by (deeds earlier) register.comets entry) register.comets =
      ap (λ (c : List NamedComet). with_named (named_by (deeds earlier) c entry) c) (sym beside.comets) in
      sym (same_named (named_by (deeds later) register.comets entry) (named_by (deeds earlier) register.comets entry) register.comets (now ∙ same register.founder earlier later (entry ∷ register.state.settled) grows legal ∙ then))

  pub beside_longer : IsBeside (deeds later) register
  beside_longer = record {
    legal = (longer register.founder earlier later register.state.settled grows beside.legal.0, still_legal register.state.doubt beside.legal.1);
    comets = beside.comets ∙ sym settled_same;
    next = beside.next ∙ next_same register.state.doubt beside.legal.1;
  }
