-- What a file stands for, and how many bytes its entries take.
use Rattle.std.proofs.Common.{◌≡◌, ◌⊎◌, ℕ, ◌+◌, List, [], ◌∷◌, ◌++◌, Option, Some, None, refl, inl, inr, ⊎_elim, arith}
use Rattle.obs_journal.specs.Parcels.{RawParcel}
use Rattle.obs_journal.specs.Formats.{room_in, row_length_in}
use Rattle.obs_journal.specs.Chains.{IsChain, chained}
use Rattle.obs_journal.specs.Journals.{JournalState, IsDoubtfulIn}
use Rattle.act_model.specs.declared.entry.Entry.{Entry}
use Rattle.act_model.specs.Refusals.{bytes_used}
use Rattle.desk_core.specs.Office.{Office, Ready}
use Rattle.mpc_desk.specs.Files.{parcel_of, parcels_in, AreActs, Stands}
use Rattle.mpc_desk.specs.Desks.{IsDesk, RestsAt, state_of}

-- a chain of its parcels stands for a history of acts
pub row_stands : (image : List ℕ) (history : List Entry) → AreActs history → IsChain image (parcels_in history) → Stands image history
row_stands image history acts row = record { chained = row; acts = acts }

row_length-more : (parcels : List RawParcel) (parcel : RawParcel) → row_length_in chained (parcels ++ parcel ∷ []) ≡ row_length_in chained parcels + room_in chained parcel
row_length-more [] parcel = omega arith
row_length-more (first ∷ parcels) parcel = let more = row_length-more parcels parcel in omega (arith, more)

-- the entries take what their parcels take, with the first byte and the closed gate
pub used_is : (history : List Entry) → bytes_used history ≡ row_length_in chained (parcels_in history) + 2
used_is [] = refl
used_is (entry ∷ past) = let before = used_is past in let more = row_length-more (parcels_in past) (parcel_of entry) in omega (arith, before, more)

-- each image of a desk's disk is one of an office at rest
pub rests : {D : Type 0} (leaves : D → List ℕ → Type 0)
    (in_doubt : (file : List ℕ) (parcels : List RawParcel) (doubt : RawParcel) → IsDoubtfulIn chained file parcels doubt → IsChain file parcels ⊎ IsChain file (parcels ++ doubt ∷ []))
    (core : Office) (journal : JournalState D) (doubt : Option Ready) → IsDesk leaves core journal doubt → (image : List ℕ) → leaves journal.disk image → RestsAt (state_of core doubt) image
rests leaves in_doubt core journal None desk image left = inl (row_stands image core.history desk.acts (desk.stands.images image left))
rests leaves in_doubt core journal (Some ready) desk image left =
    ⊎_elim
    (λ row. inl (row_stands image core.history desk.acts row))
    (λ row. inr (row_stands image (ready.entry ∷ core.history) (desk.next.act.0, desk.acts) row))
    (in_doubt image (parcels_in core.history) (parcel_of ready.entry) (desk.stands.images image left))
