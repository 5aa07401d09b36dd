-- A desk after mending.
use Rattle.std.proofs.Common.{◌≡◌, ℕ, ◌-◌, ◌<◌, List, [], ◌∷◌, ◌++◌, Option, Some, None, refl, sym, ap, subst, ◌∙◌}
use Rattle.std.specs.Prelude.{◌^◌, IfSome, slice_index}
use Rattle.act_bodies.specs.declared.key.Key.{Key}
use Rattle.obs_journal.specs.declared.journal.Settled.{Settled}
use Rattle.obs_journal.specs.declared.journal.Settled.TheVariants.{Nothing, Added, Dropped}
use Rattle.obs_journal.specs.Parcels.{RawParcel}
use Rattle.obs_journal.specs.Journals.{JournalState, StandsFor}
use Rattle.act_model.specs.declared.entry.Entry.{Entry}
use Rattle.act_model.specs.Legal.{IsLegal}
use Rattle.act_model.specs.Refusals.{bytes_used}
use Rattle.desk_core.specs.Office.{Office, Ready}
use Rattle.mpc_desk.specs.Files.{parcel_of, parcels_in, AreActs}
use Rattle.mpc_desk.specs.Desks.{IsDesk, settled_by}
use Rattle.mpc_desk.proofs.FileLemmas.{used_is}

-- what is read at the gate
pub gate_is : (reads : Option (List ℕ)) (P : ℕ → Type 0) (position used : ℕ) → position ≡ used → IfSome reads (λ file. P (slice_index file (position - 1))) → IfSome reads (λ file. P (slice_index file (used - 1)))
gate_is reads P position used is read = subst (λ (n : ℕ). IfSome reads (λ file. P (slice_index file (n - 1)))) is read

module _ {D : Type 0} (leaves : D → List ℕ → Type 0) where
  -- the gate of what comes next stands where the bytes of the history end
  pub position_is : (core : Office) (journal : JournalState D) (doubt : Option Ready) → IsDesk leaves core journal doubt → journal.reached.position ≡ bytes_used core.history
  position_is core journal doubt desk = ap (λ r. r.position) desk.stands.reached ∙ sym (used_is core.history)

  -- a desk with nothing in doubt
  pub at_history : (core : Office) (journal : JournalState D) (history : List Entry) → core.history ≡ history → StandsFor leaves journal (parcels_in history) None → bytes_used history < 2 ^ 64 → IsLegal core.founder history → AreActs history
      → IsDesk leaves core journal None
  at_history core journal history is stands space legal acts = record {
    stands = subst (λ (h : List Entry). StandsFor leaves journal (parcels_in h) None) (sym is) stands;
    space = subst (λ (h : List Entry). bytes_used h < 2 ^ 64) (sym is) space;
    legal = (subst (IsLegal core.founder) (sym is) legal, tt);
    acts = subst AreActs (sym is) acts;
    next = tt;
  }

  -- the disk failed: the doubt stays
  pub failed_desk : (core : Office) (old new : JournalState D) (doubt : Option Ready) → IsDesk leaves core old doubt → (old.in_doubt ≡ None → ⊥)
      → ((parcels : List RawParcel) (d : RawParcel) → StandsFor leaves old parcels (Some d) → StandsFor leaves new parcels (Some d)) → IsDesk leaves core new doubt
  failed_desk core old new None desk some still = absurd (some desk.stands.in_doubt)
  failed_desk core old new (Some ready) desk some still =
      record { stands = still (parcels_in core.history) (parcel_of ready.entry) desk.stands; space = desk.space; legal = desk.legal; acts = desk.acts; next = desk.next }

  -- the act in doubt was settled
  module _ (core core' : Office) (old new : JournalState D) (founder : core'.founder ≡ core.founder)
      (none : old.in_doubt ≡ None → new ≡ old) where
    under : (history : List Entry) → IsLegal core.founder history → IsLegal core'.founder history
    under history legal = subst (λ (k : Key). IsLegal k history) (sym founder) legal

    pub settled_desk : (settled : Settled) (doubt : Option Ready) → IsDesk leaves core old doubt → core'.history ≡ settled_by settled doubt core.history
        → (settled ≡ Nothing → old.in_doubt ≡ None) → (old.in_doubt ≡ None → settled ≡ Nothing)
        → (settled ≡ Added → (parcels : List RawParcel) (d : RawParcel) → StandsFor leaves old parcels (Some d) → StandsFor leaves new (parcels ++ d ∷ []) None)
        → (settled ≡ Dropped → (parcels : List RawParcel) (d : RawParcel) → StandsFor leaves old parcels (Some d) → StandsFor leaves new parcels None)
        → IsDesk leaves core' new None
    settled_desk Nothing None desk is nothing some added dropped =
        at_history core' new core.history is (subst (λ (j : JournalState D). StandsFor leaves j (parcels_in core.history) None) (sym (none desk.stands.in_doubt)) desk.stands) desk.space (under core.history desk.legal.0) desk.acts
    settled_desk Nothing (Some ready) desk is nothing some added dropped = let never = sym (nothing refl) ∙ desk.stands.in_doubt in absurd cc
    settled_desk Added None desk is nothing some added dropped = let never = some desk.stands.in_doubt in absurd cc
    settled_desk Added (Some ready) desk is nothing some added dropped =
        at_history core' new (ready.entry ∷ core.history) is (added refl (parcels_in core.history) (parcel_of ready.entry) desk.stands) desk.next.space (under (ready.entry ∷ core.history) desk.legal.1) (desk.next.act.0, desk.acts)
    settled_desk Dropped None desk is nothing some added dropped = let never = some desk.stands.in_doubt in absurd cc
    settled_desk Dropped (Some ready) desk is nothing some added dropped =
        at_history core' new core.history is (dropped refl (parcels_in core.history) (parcel_of ready.entry) desk.stands) desk.space (under core.history desk.legal.0) desk.acts
