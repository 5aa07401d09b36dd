-- A register on its disk after mending.
use Rattle.std.proofs.Common.{◌≡◌, ◌⊎◌, ℕ, ◌+◌, ◌-◌, ◌<◌, List, [], ◌∷◌, ◌++◌, Option, Some, None, refl, sym, ap, subst, ◌∙◌, inl, inr, ⊎_elim, arith}
use Rattle.std.specs.Prelude.{◌^◌, IfSome, slice_index, option_map}
use Rattle.act_bodies.specs.declared.key.Key.{Key}
use Rattle.obs_journal.specs.declared.journal.Settled.{Settled}
use Rattle.obs_journal.specs.declared.journal.Settled.TheVariants.{Nothing, Added, Dropped}
use Rattle.obs_journal.specs.Chains.{IsChain, chained}
use Rattle.obs_journal.specs.Formats.{room_in, row_length_in}
use Rattle.obs_journal.specs.Journals.{JournalState, IsDoubtfulIn, StandsFor}
use Rattle.obs_journal.specs.Parcels.{RawParcel}
use Rattle.act_model.specs.declared.deed.Deed.{Deed}
use Rattle.act_model.specs.declared.entry.Entry.{Entry}
use Rattle.act_model.specs.Refusals.{bytes_used}
use Rattle.mpc_desk.specs.Desks.{RestsAt}
use Rattle.mpc_desk.specs.Files.{parcel_of, parcels_in, AreActs, Stands}
use Rattle.comet_model.specs.declared.named.NamedComet.{NamedComet}
use Rattle.comet_model.specs.Legal.{IsLegal}
use Rattle.comet_model.specs.Register.{named_by, with_named, comets}
use Rattle.comet_core.specs.Register.{RegisterValue, Ready}
use Rattle.comet_desk.specs.Desks.{CometDeskState, IsBeside, IsDesk, state_of, settled_by, named_after}

-- what is read at the gate
pub gate_is : (reads : Option (List ℕ)) (P : ℕ → Type 0) (position used : ℕ) → position ≡ used → IfSome reads (λ file. P (slice_index file (position - 1))) → IfSome reads (λ file. P (slice_index file (used - 1)))
gate_is reads P position used is read = subst (λ (n : ℕ). IfSome reads (λ file. P (slice_index file (n - 1)))) is read

row_length-more : (parcels : List RawParcel) (parcel : RawParcel) → row_length_in chained (parcels ++ parcel ∷ []) ≡ row_length_in chained parcels + room_in chained parcel
row_length-more [] parcel = omega arith
row_length-more (first ∷ parcels) parcel = let more = row_length-more parcels parcel in omega (arith, more)

-- the entries take what their parcels take, with the first byte and the closed gate
pub used_is : (entries : List Entry) → bytes_used entries ≡ row_length_in chained (parcels_in entries) + 2
used_is [] = refl
used_is (entry ∷ past) = let before = used_is past in let more = row_length-more (parcels_in past) (parcel_of entry) in omega (arith, before, more)

-- a chain of its parcels stands for a list of acts
pub row_stands : (image : List ℕ) (entries : List Entry) → AreActs entries → IsChain image (parcels_in entries) → Stands image entries
row_stands image entries acts row = record { chained = row; acts = acts }

-- a register on its disk, as contracts see it
abbrev pub seen : {D : Type 0} → ℕ → RegisterValue → Option Ready → D → CometDeskState D
seen limit register doubt disk = record {
  founder = register.founder;
  limit = limit;
  state = state_of register doubt;
  comets = register.comets;
  next = option_map (λ ready. ready.named) doubt;
  disk = disk;
}

module _ {D : Type 0} (leaves : D → List ℕ → Type 0) where
  -- each image of its disk is one of a register at rest
  pub rests : (in_doubt : (file : List ℕ) (parcels : List RawParcel) (doubt : RawParcel) → IsDoubtfulIn chained file parcels doubt → IsChain file parcels ⊎ IsChain file (parcels ++ doubt ∷ []))
      (register : RegisterValue) (journal : JournalState D) (doubt : Option Ready) → IsDesk leaves register journal doubt → (image : List ℕ) → leaves journal.disk image → RestsAt (state_of register doubt) image
  rests in_doubt register journal None desk image left = inl (row_stands image register.entries desk.acts (desk.stands.images image left))
  rests in_doubt register journal (Some ready) desk image left =
      ⊎_elim
      (λ row. inl (row_stands image register.entries desk.acts row))
      (λ row. inr (row_stands image (ready.entry ∷ register.entries) (desk.next.act, desk.acts) row))
      (in_doubt image (parcels_in register.entries) (parcel_of ready.entry) (desk.stands.images image left))

  -- the gate of what comes next stands where the bytes of the entries end
  pub position_is : (register : RegisterValue) (journal : JournalState D) (doubt : Option Ready) → IsDesk leaves register journal doubt → journal.reached.position ≡ bytes_used register.entries
  position_is register journal doubt desk = ap (λ r. r.position) desk.stands.reached ∙ sym (used_is register.entries)

  -- a register with nothing in doubt
  pub at_entries : (register : RegisterValue) (journal : JournalState D) (entries : List Entry) → register.entries ≡ entries → StandsFor leaves journal (parcels_in entries) None → bytes_used entries < 2 ^ 64 → AreActs entries
      → IsDesk leaves register journal None
  at_entries register journal entries is stands space acts = record {
    stands = subst (λ (h : List Entry). StandsFor leaves journal (parcels_in h) None) (sym is) stands;
    space = subst (λ (h : List Entry). bytes_used h < 2 ^ 64) (sym is) space;
    acts = subst AreActs (sym is) acts;
    next = tt;
  }

  -- the disk failed: the doubt stays
  pub failed_desk : (register : RegisterValue) (old new : JournalState D) (doubt : Option Ready) → IsDesk leaves register old doubt → (old.in_doubt ≡ None → ⊥)
      → ((parcels : List RawParcel) (d : RawParcel) → StandsFor leaves old parcels (Some d) → StandsFor leaves new parcels (Some d)) → IsDesk leaves register new doubt
  failed_desk register old new None desk some still = absurd (some desk.stands.in_doubt)
  failed_desk register old new (Some ready) desk some still =
      record { stands = still (parcels_in register.entries) (parcel_of ready.entry) desk.stands; space = desk.space; acts = desk.acts; next = desk.next }

  -- the act in doubt was settled
  pub settled_desk : (register now : RegisterValue) (old new : JournalState D) → (old.in_doubt ≡ None → new ≡ old)
      → (settled : Settled) (doubt : Option Ready) → IsDesk leaves register old doubt → now.entries ≡ settled_by settled doubt register.entries
      → (settled ≡ Nothing → old.in_doubt ≡ None) → (old.in_doubt ≡ None → settled ≡ Nothing)
      → (settled ≡ Added → (parcels : List RawParcel) (d : RawParcel) → StandsFor leaves old parcels (Some d) → StandsFor leaves new (parcels ++ d ∷ []) None)
      → (settled ≡ Dropped → (parcels : List RawParcel) (d : RawParcel) → StandsFor leaves old parcels (Some d) → StandsFor leaves new parcels None)
      → IsDesk leaves now new None
  settled_desk register now old new none Nothing None desk is nothing some added dropped =
      at_entries now new register.entries is (subst (λ (j : JournalState D). StandsFor leaves j (parcels_in register.entries) None) (sym (none desk.stands.in_doubt)) desk.stands) desk.space desk.acts
  settled_desk register now old new none Nothing (Some ready) desk is nothing some added dropped = let never = sym (nothing refl) ∙ desk.stands.in_doubt in absurd cc
  settled_desk register now old new none Added None desk is nothing some added dropped = let never = some desk.stands.in_doubt in absurd cc
  settled_desk register now old new none Added (Some ready) desk is nothing some added dropped =
      at_entries now new (ready.entry ∷ register.entries) is (added refl (parcels_in register.entries) (parcel_of ready.entry) desk.stands) desk.next.space (desk.next.act, desk.acts)
  settled_desk register now old new none Dropped None desk is nothing some added dropped = let never = some desk.stands.in_doubt in absurd cc
  settled_desk register now old new none Dropped (Some ready) desk is nothing some added dropped =
      at_entries now new register.entries is (dropped refl (parcels_in register.entries) (parcel_of ready.entry) desk.stands) desk.space desk.acts

-- ---- the office beside it

-- one entry more names one comet more
pub comets_more : (desk : List Deed) (entries : List Entry) (past : List NamedComet) (entry : Entry) (named : NamedComet) → past ≡ comets desk entries → Some named ≡ named_by desk past entry
    → named ∷ past ≡ comets desk (entry ∷ entries)
comets_more desk entries past entry named same is =
    ap (λ (o : Option NamedComet). with_named o past) is
    ∙ ap (λ (c : List NamedComet). with_named (named_by desk c entry) c) same

module _ {D : Type 0} (desk : List Deed) (limit : ℕ) where
  -- a register with nothing in doubt
  pub beside_at : (now : RegisterValue) (disk : D) (founder : Key) (entries : List Entry) (past : List NamedComet) → now.founder ≡ founder → now.entries ≡ entries → now.comets ≡ past
      → IsLegal founder desk entries → past ≡ comets desk entries → IsBeside desk (seen limit now None disk)
  beside_at now disk founder entries past keys is named legal same = record {
    legal = (subst (λ (k : Key). IsLegal k desk now.entries) (sym keys) (subst (IsLegal founder desk) (sym is) legal), tt);
    comets = named ∙ same ∙ ap (comets desk) (sym is);
    next = refl;
  }

  -- and one whose act in doubt was settled
  pub beside_settled : (register now : RegisterValue) (old new : D) (settled : Settled) (doubt : Option Ready) → now.founder ≡ register.founder → now.entries ≡ settled_by settled doubt register.entries → now.comets ≡ named_after settled doubt register.comets
      → IsBeside desk (seen limit register doubt old) → IsBeside desk (seen limit now None new)
  beside_settled register now old new Added (Some ready) keys is named b =
      beside_at now new register.founder (ready.entry ∷ register.entries) (ready.named ∷ register.comets) keys is named b.legal.1
      (comets_more desk register.entries register.comets ready.entry ready.named b.comets b.next)
  beside_settled register now old new Added None keys is named b = beside_at now new register.founder register.entries register.comets keys is named b.legal.0 b.comets
  beside_settled register now old new Dropped (Some ready) keys is named b = beside_at now new register.founder register.entries register.comets keys is named b.legal.0 b.comets
  beside_settled register now old new Dropped None keys is named b = beside_at now new register.founder register.entries register.comets keys is named b.legal.0 b.comets
  beside_settled register now old new Nothing (Some ready) keys is named b = beside_at now new register.founder register.entries register.comets keys is named b.legal.0 b.comets
  beside_settled register now old new Nothing None keys is named b = beside_at now new register.founder register.entries register.comets keys is named b.legal.0 b.comets

  -- the disk plays no part in it
  pub beside_disk : (register : RegisterValue) (doubt : Option Ready) (old new : D) → IsBeside desk (seen limit register doubt old) → IsBeside desk (seen limit register doubt new)
  beside_disk register doubt old new b = record { legal = b.legal; comets = b.comets; next = b.next }
