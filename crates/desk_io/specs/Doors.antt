-- What one call of a door says of the links to come, where these are known, and of the door's count of faults.
use Rattle.std.specs.Prelude.{◌≡◌, ◌⊎◌, ⊤, ℕ, ◌-◌, ◌^◌, Bool, true, List, [], ◌∷◌, ◌++◌, None, Some, refl}
use Rattle.std.specs.declared.option.Option.{Option}
use Rattle.std.specs.declared.net.socket_addr.SocketAddr.{SocketAddr}
use Rattle.std.specs.Net.Addr.{ipv4_octets, IsV4And}
use Rattle.std.specs.Net.Socket.{socket_ip, socket_port}
use Rattle.std.proofs.Common.{sym, ap, ◌∙◌, append_assoc}
use Rattle.call_log.specs.Counts.{Rises, one_more}
use Rattle.call_log.specs.Calls.{Calls, passed, failed}
use Rattle.desk_io.specs.Memory.{SourceState, SinkState}
use Rattle.desk_io.specs.Streams.{StreamSourceState, StreamSinkState}
use Rattle.desk_io.specs.declared.doors.Next.{Next}
use Rattle.desk_io.specs.declared.doors.Next.TheVariants as answers

-- ---- any door

-- links that were known to come begin with these, and lose them
abbrev pub Gives : {L : Type 0} → Option (List L) → Option (List L) → List L → Type 0
Gives None new given = ⊤
Gives (Some links) None given = ⊥
Gives (Some links) (Some rest) given = links ≡ given ++ rest

-- no link was known to come
abbrev pub NoLinkLeft : {L : Type 0} → Option (List L) → Type 0
NoLinkLeft None = ⊤
NoLinkLeft (Some links) = links ≡ []

-- the links to come before and after an answer: a link is the first of them, a door is shut only where there are none,
-- and nothing is lost by a failure, nor where memory is refused
abbrev pub LinksAfter : {I O : Type 0} → Option (List (I × O)) → Option (List (I × O)) → Next I O → Type 0
LinksAfter old new (answers.Link source sink) = Gives old new ((source, sink) ∷ [])
LinksAfter old new answers.Shut = NoLinkLeft old × Gives old new []
LinksAfter old new answers.Failed = Gives old new []
LinksAfter old new answers.NoMemory = Gives old new []

-- the count of faults before and after an answer: it rose where the door failed, and stayed in any other call
abbrev pub FaultsAfter : {I O : Type 0} → ℕ → ℕ → Next I O → Type 0
FaultsAfter before now (answers.Link source sink) = now ≡ before
FaultsAfter before now answers.Shut = now ≡ before
FaultsAfter before now answers.Failed = Rises before now
FaultsAfter before now answers.NoMemory = now ≡ before

-- ---- how calls follow one another

-- nothing was given
pub Gives-nil : {L : Type 0} (a : Option (List L)) → Gives a a []
Gives-nil None = tt
Gives-nil (Some links) = refl

-- links after links
pub Gives-trans : {L : Type 0} (a b c : Option (List L)) (xs ys : List L) → Gives a b xs → Gives b c ys
    → Gives a c (xs ++ ys)
Gives-trans None b c xs ys first second = tt
Gives-trans (Some links) None c xs ys first second = absurd first
Gives-trans (Some links) (Some rest) None xs ys first second = absurd second
Gives-trans (Some links) (Some rest) (Some more) xs ys first second =
    first ∙ ap (λ l. xs ++ l) second ∙ sym (append_assoc xs ys more)

-- ---- a door in memory

-- the links to come, each with its source and its sink, and the calls
pub record DoorState : Type 0 where
  pub links : List (SourceState × SinkState)
  pub calls : Calls

-- one call: the first link that is left, or shut where none is, or a call that failed
abbrev pub AnswersOnce : DoorState → DoorState → Next SourceState SinkState → Type 0
AnswersOnce before after (answers.Link source sink) =
    (before.links ≡ (source, sink) ∷ after.links) × (after.calls ≡ passed before.calls)
AnswersOnce before after answers.Shut = (before.links ≡ []) × (after ≡ record before { calls = passed before.calls })
AnswersOnce before after answers.Failed = after ≡ record before { calls = failed before.calls }
AnswersOnce before after answers.NoMemory = ⊥

-- ---- a door on a port

-- its port, whether it is bound to it, and how often it failed
pub record TcpDoorState : Type 0 where
  pub port : ℕ
  pub is_bound : Bool
  pub faults : ℕ

-- where a door on this port is called: at 127.0.0.1, and at that port, or at any one where it is 0
abbrev pub IsPlaceOf : ℕ → SocketAddr → Type 0
IsPlaceOf port place =
    IsV4And (socket_ip place) (λ ip. ipv4_octets ip ≡ 127 ∷ 0 ∷ 0 ∷ 1 ∷ [])
    × ((port ≡ 0) ⊎ (socket_port place ≡ port))

-- a source and a sink that nobody has called yet
abbrev pub IsUncalled : StreamSourceState → StreamSinkState → Type 0
IsUncalled source sink =
    (source ≡ record { is_open = true; faults = 0; reads = 2 ^ 64 - 1 })
    × (sink ≡ record { is_open = true; faults = 0 })

-- one call: a link that nobody has used yet, or a failure that was counted, or out of memory
abbrev pub AcceptsOnce : TcpDoorState → TcpDoorState → Next StreamSourceState StreamSinkState → Type 0
AcceptsOnce before after (answers.Link source sink) =
    (after ≡ record before { is_bound = true }) × IsUncalled source sink
AcceptsOnce before after answers.Shut = ⊥
AcceptsOnce before after answers.Failed = (after.port ≡ before.port) × (after.faults ≡ one_more before.faults)
AcceptsOnce before after answers.NoMemory = after ≡ record before { is_bound = true }
