-- The register of comets on a disk of its own, beside an office.
use Rattle.std.specs.Prelude.{◌≡◌, ◌⊎◌, true, ℕ, ◌+◌, ◌^◌, ◌<◌, ℤ, List, ◌∷◌, Option, Some, None}
use Rattle.std.specs.Prelude.{option_map, IfSome}
use Rattle.call_log.specs.Counts.{Rises}
use Rattle.disk_model.specs.Crashes.{During}
use Rattle.obs_journal.specs.declared.journal.Settled.{Settled}
use Rattle.obs_journal.specs.declared.journal.Settled.TheVariants.{Added}
use Rattle.obs_journal.specs.Journals.{JournalState, StandsFor}
use Rattle.act_bodies.specs.declared.key.Key.{Key}
use Rattle.act_model.specs.declared.deed.Deed.{Deed}
use Rattle.act_model.specs.declared.entry.Entry.{Entry}
use Rattle.act_model.specs.declared.keeper.OfficeState.{OfficeState}
use Rattle.act_model.specs.Conducts.{EitherWay}
use Rattle.act_model.specs.Keepers.{RoseBy}
use Rattle.act_model.specs.Refusals.{bytes_used, entry_size}
use Rattle.act_model.specs.Requests.{is_act}
use Rattle.act_model.specs.Turns.{Mends}
use Rattle.mpc_desk.specs.Desks.{RestsAt, count_of}
use Rattle.mpc_desk.specs.Files.{parcel_of, parcels_in, AreActs, Stands}
use Rattle.comet_model.specs.declared.named.NamedComet.{NamedComet}
use Rattle.comet_model.specs.declared.reply.CometReply.{CometReply}
use Rattle.comet_model.specs.declared.request.CometRequest.{CometRequest}
use Rattle.comet_model.specs.Legal.{IsLegal}
use Rattle.comet_model.specs.Register.{named_by, comets}
use Rattle.comet_model.specs.Step.{Adds, outcome}
use Rattle.comet_model.specs.Turns.{CometTurn, FailsToMend, FailsToKeep, Settles, IsTurn}
use Rattle.comet_core.specs.Register.{RegisterValue, Ready, IsNext}

-- A register on a disk: the founding officer's key, how many bytes the journal may have, the entries that are settled
-- and the act in doubt, the comets of the settled entries with the newest first, what the act in doubt names, and the
-- disk.
pub record CometDeskState (D : Type 0) : Type 0 where
  pub founder : Key
  pub limit : ℕ
  pub state : OfficeState
  pub comets : List NamedComet
  pub next : Option NamedComet
  pub disk : D

-- ---- the office beside it

-- what the act in doubt names that comes after these comets
abbrev pub next_named : List Deed → List NamedComet → Option Entry → Option NamedComet
next_named desk past None = None
next_named desk past (Some entry) = named_by desk past entry

-- The register is one of an office with these deeds, whatever becomes of the act in doubt: its entries are legal there
-- either way, and what they name is what the register has.
pub record IsBeside {D : Type 0} (desk : List Deed) (register : CometDeskState D) : Type 0 where
  pub legal : EitherWay (IsLegal register.founder desk) register.state
  pub comets : register.comets ≡ comets desk register.state.settled
  pub next : register.next ≡ next_named desk register.comets register.state.doubt

-- ---- what a register keeps

-- an act in doubt that becomes the next entry if it was kept: there is room for it, in the journal too
pub record IsNextEntry (register : RegisterValue) (ready : Ready) : Type 0 where
  pub act : is_act ready.entry.verb ≡ true
  pub named : IsNext register.comets ready.named
  pub room : 0 < register.room
  pub space : bytes_used register.entries + entry_size ready.entry.body < 2 ^ 64

-- the entries that are settled, and the act in doubt
abbrev pub state_of : RegisterValue → Option Ready → OfficeState
state_of register doubt =
    record { settled = register.entries; doubt = option_map (λ ready. ready.entry) doubt }

-- what a register on a disk keeps: the journal stands for the entries, with the act in doubt
pub record IsDesk {D : Type 0} (leaves : D → List ℕ → Type 0) (register : RegisterValue) (journal : JournalState D)
    (doubt : Option Ready) : Type 0 where
  pub stands : StandsFor leaves journal (parcels_in register.entries)
      (option_map (λ ready. parcel_of ready.entry) doubt)
  pub space : bytes_used register.entries < 2 ^ 64
  pub acts : AreActs register.entries
  pub next : IfSome doubt (IsNextEntry register)

-- the entries once the act in doubt was settled so
abbrev pub settled_by : Settled → Option Ready → List Entry → List Entry
settled_by Added (Some ready) entries = ready.entry ∷ entries
settled_by _ _ entries = entries

-- the comets once it was settled so
abbrev pub named_after : Settled → Option Ready → List NamedComet → List NamedComet
named_after Added (Some ready) past = ready.named ∷ past
named_after _ _ past = past

-- ---- what a crash may leave

-- each image of the disk is one of a register at rest: it stands for the settled entries, or for these with the act in
-- doubt
abbrev pub IsAtRest : {D : Type 0} (leaves : D → List ℕ → Type 0) → CometDeskState D → Type 0
IsAtRest leaves register = (image : List ℕ) → leaves register.disk image → RestsAt register.state image

-- an image inside an act that mending found at these entries: it is one from before, or it stands for the entries with
-- the one that the act becomes there
abbrev pub MayLeave : {D : Type 0} → List Deed → CometDeskState D → List Entry → CometRequest → ℤ → List ℕ → Type 0
MayLeave desk old mended request reading image =
    RestsAt old.state image
    ⊎ ((entry : Entry) × (outcome old.founder (Some old.limit) desk mended request reading ≡ Adds entry)
    × Stands image (entry ∷ mended))

-- ---- turns

-- An act on a register: the register before it, what was asked, at which reading of the clock, the reply, and the
-- register after it.
pub record CometAct (D : Type 0) : Type 0 where
  pub old : CometDeskState D
  pub request : CometRequest
  pub reading : ℤ
  pub reply : CometReply
  pub new : CometDeskState D

-- its turn, where the count of faults rose by this
abbrev pub turn_in : {D : Type 0} → CometAct D → ℕ → CometTurn
turn_in act rise =
    record { request = act.request; reading = Some act.reading; reply = act.reply; rise = rise }

-- the disk failed in mending: nothing was written, and the register is as it was
pub record FailsOn {D : Type 0} (moment : D → ℕ) (since : D → ℕ → List ℕ → Type 0) (act : CometAct D) (rise : ℕ)
    : Type 0 where
  pub fails : FailsToMend act.old.state (turn_in act rise) act.new.state
  pub no_image : During moment since act.old.disk act.new.disk (λ _. ⊥)

-- the act was taken at the entries that mending left, and a crash inside it left no more than this
pub record ActsOn {D : Type 0} (moment : D → ℕ) (since : D → ℕ → List ℕ → Type 0) (desk : List Deed) (act : CometAct D)
    (rise : ℕ) : Type 0 where
  pub mended : List Entry
  pub mends : Mends act.old.state.settled act.old.state.doubt mended
  pub acts : Settles act.old.founder (Some act.old.limit) desk mended (turn_in act rise) act.reading act.new.state
      ⊎ FailsToKeep act.old.founder (Some act.old.limit) desk mended (turn_in act rise) act.reading act.new.state
  pub images : During moment since act.old.disk act.new.disk (MayLeave desk act.old mended act.request act.reading)

-- An act beside an office with these deeds, whatever was in doubt: by how much the count of faults rose, and what a
-- crash inside it may leave.
pub record ActsInTurn {D : Type 0} (moment : D → ℕ) (since : D → ℕ → List ℕ → Type 0) (faults : D → ℕ)
    (desk : List Deed) (act : CometAct D) : Type 0 where
  pub rise : ℕ
  pub counts : RoseBy rise (count_of (faults act.old.disk)) (count_of (faults act.new.disk))
  pub acts : FailsOn moment since act rise ⊎ ActsOn moment since desk act rise

-- A turn of the register beside an office with these deeds: of this request, with a reading of the clock where it took
-- one, and with this reply. The count of faults rose in it as the turn says.
pub record TakesTurn {D : Type 0} (faults : D → ℕ) (desk : List Deed) (old : CometDeskState D) (request : CometRequest)
    (reading : Option ℤ) (reply : CometReply) (new : CometDeskState D) : Type 0 where
  pub rise : ℕ
  pub turn : IsTurn old.founder (Some old.limit) desk old.state
      (record { request = request; reading = reading; reply = reply; rise = rise }) new.state
  pub counts : RoseBy rise (count_of (faults old.disk)) (count_of (faults new.disk))

-- An act that is taken at the settled entries: nothing is in doubt after it; or the disk's count rose, and its entry
-- isn't kept, or is in doubt. A crash inside it leaves no more than the entries with its own.
pub record TakesAct {D : Type 0} (moment : D → ℕ) (since : D → ℕ → List ℕ → Type 0) (faults : D → ℕ) (desk : List Deed)
    (act : CometAct D) : Type 0 where
  pub acts : ((rise : ℕ)
      → Settles act.old.founder (Some act.old.limit) desk act.old.state.settled (turn_in act rise) act.reading
      act.new.state)
      ⊎ (Rises (faults act.old.disk) (faults act.new.disk) × ((rise : ℕ) → 0 < rise
      → FailsToKeep act.old.founder (Some act.old.limit) desk act.old.state.settled (turn_in act rise) act.reading
      act.new.state))
  pub images : During moment since act.old.disk act.new.disk
      (MayLeave desk act.old act.old.state.settled act.request act.reading)
