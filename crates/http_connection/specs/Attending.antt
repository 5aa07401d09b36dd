-- A connection that was attended: what was read of it, asked and written.
use Rattle.std.specs.Prelude.{◌≡◌, ◌⊎◌, ℕ, ◌+◌, ◌<◌, ◌≤◌, ℤ, Bool, ◌||◌, ◌==◌, List, [], ◌∷◌, ◌++◌, length, map}
use Rattle.std.specs.Prelude.{filter_map, reverse, take, Option}
use Rattle.std.specs.List.{AllByRecursion}
use Rattle.std.specs.Io.KnownBytes.{Appends}
use Rattle.call_log.specs.Counts.{Rises}
use Rattle.desk_io.specs.Reads.{Passes}
use Rattle.read_ahead.specs.Reading.{Supplies}
use Rattle.act_model.specs.declared.reply.Fault.{Fault}
use Rattle.act_model.specs.declared.reply.Reply.TheVariants.{Refused}
use Rattle.act_model.specs.declared.reply.Refusal.TheVariants.{NoLine}
use Rattle.act_model.specs.declared.request.Request.{Request}
use Rattle.act_model.specs.Conducts.{Extends}
use Rattle.act_model.specs.Turns.{TakesReading}
use Rattle.intake_lock.specs.declared.view.Item.{Item}
use Rattle.intake_lock.specs.declared.view.View.{View}
use Rattle.intake_lock.specs.Stamps.{StampsOn}
use Rattle.intake_lock.specs.Items.{AreTrue, AreStamped}
use Rattle.intake_lock.specs.Views.{history_seen}
use Rattle.desk_http.specs.Answers.{IfKept}
use Rattle.desk_http.specs.Heads.{Message, IsMessage, IsStream}
use Rattle.desk_http.specs.ReplyTexts.{answer_of, unread_answer}
use Rattle.http_connection.specs.declared.left.Left.{Left}
use Rattle.http_connection.specs.declared.left.Left.TheVariants.{Ended, Unread, Enough, ReadFault, WriteFault, NoMemory}
use Rattle.http_connection.specs.declared.TheConstants.{ANSWERS}
use Rattle.act_model.specs.Clocks.{ClockState, Gives}
use Rattle.http_connection.specs.Calls.{HasCause, AreInOrder, HadNoRise, IsStepped}
use Rattle.http_connection.specs.Streams.{IsOpen, IsClosed, AwaitsNext}

-- ---- messages and calls

-- a message of the connection, and the call that was made for it
pub record Exchange : Type 0 where
  pub message : Message
  pub item : Item

-- the request is the message's. One for whose body there was no room stands for it.
pub record AsksFor (request : Request) (message : Message) : Type 0 where
  pub key : request.key ≡ message.parts.key
  pub number : request.number ≡ message.parts.asked.number
  pub verb : request.verb ≡ message.parts.asked.verb
  pub body : IfKept request.body message.body

-- the message was asked, with a reading of the clock where it is an act
pub record IsExchange (exchange : Exchange) : Type 0 where
  pub asks : AsksFor exchange.item.request exchange.message
  pub reads : TakesReading exchange.item.request.verb exchange.item.reading

abbrev pub messages_of : List Exchange → List Message
messages_of exchanges = map (λ exchange. exchange.message) exchanges

-- the calls, the newest first
abbrev pub items_of : List Exchange → List Item
items_of exchanges = reverse (map (λ exchange. exchange.item) exchanges)

-- the readings that the calls took, in order
abbrev pub readings_in : List Exchange → List ℤ
readings_in exchanges = filter_map (λ exchange. exchange.item.reading) exchanges

-- The calls that the pass made are those for these messages, in their order, with the clock's readings. They are true
-- of the one history that the pass has now seen, at places that rise. One is answered that the disk failed only where
-- the disk's count of faults rose in that call. Where acts are stamped, the stamps of the calls are among those that
-- the pass has seen.
pub record Attends (before after : View) (was now : ClockState) (exchanges : List Exchange) : Type 0 where
  pub asks : AllByRecursion IsExchange exchanges
  pub mine : after.mine ≡ items_of exchanges ++ before.mine
  pub true_of : AreTrue before.office.founder before.office.limit (history_seen after) (items_of exchanges)
  pub causes : AllByRecursion HasCause (items_of exchanges)
  pub order : AreInOrder before.office.founder before.office.limit (history_seen after) (length (history_seen before))
      (items_of exchanges)
  pub grows : Extends (history_seen before) (history_seen after)
  pub stamps : StampsOn before.office.stamps after.office.stamps
  pub stamped : AreStamped after.office.stamps (items_of exchanges)
  pub clock : Gives was now (readings_in exchanges)
  pub founder : after.office.founder ≡ before.office.founder
  pub limit : after.office.limit ≡ before.office.limit

-- ---- what is written

-- the answer is the last one of its connection, where this many were given before: the message asks to close, or it is
-- the 1,000th
abbrev pub is_last : ℕ → Bool → Bool
is_last before closes = closes || (before + 1 == ANSWERS)

-- the answer to a message, where this many were given before
abbrev pub answer_to : ℕ → Exchange → List ℕ
answer_to before exchange = answer_of exchange.item.reply (is_last before exchange.message.parts.closes)

-- the answers, where this many were given before
abbrev pub answers : ℕ → List Exchange → List ℕ
answers before [] = []
answers before (exchange ∷ exchanges) = answer_to before exchange ++ answers (before + 1) exchanges

-- ---- a connection at its end

-- the bytes that came, and after them those that are left, none where that isn't known; the messages that were asked;
-- and the bytes that were written
pub record Link : Type 0 where
  pub came : List ℕ
  pub more : List ℕ
  pub exchanges : List Exchange
  pub texts : List ℕ

-- all messages of the stream were answered, and no head fault ends it: the last one asks to close, or they are fewer
-- than 1,000 and nothing is left behind them
pub record IsEnded (link : Link) : Type 0 where
  pub rest : List ℕ
  pub stream : IsStream (link.came ++ link.more) (messages_of link.exchanges) rest
  pub whole : IsClosed (messages_of link.exchanges) ⊎ ((rest ≡ []) × (length link.exchanges < ANSWERS))
  pub texts : link.texts ≡ answers 0 link.exchanges

-- all messages in front of a head fault were answered, which are fewer than 1,000
pub record IsUnread (link : Link) : Type 0 where
  pub rest : List ℕ
  pub stream : IsStream (link.came ++ link.more) (messages_of link.exchanges) rest
  pub goes_on : IsOpen (link.came ++ link.more) (messages_of link.exchanges) rest
  pub fault : 0 < length rest
  pub few : length link.exchanges < ANSWERS

-- 1,000 messages were answered, and the last one didn't ask to close
pub record IsEnough (link : Link) : Type 0 where
  pub rest : List ℕ
  pub front : IsOpen link.came (messages_of link.exchanges) rest
  pub many : length link.exchanges ≡ ANSWERS
  pub texts : link.texts ≡ answers 0 link.exchanges

-- all messages in the bytes that came were answered, and they ask to go on
pub record IsCutOff (link : Link) : Type 0 where
  pub rest : List ℕ
  pub stream : IsStream link.came (messages_of link.exchanges) rest
  pub goes_on : IsOpen link.came (messages_of link.exchanges) rest
  pub few : length link.exchanges < ANSWERS
  pub texts : link.texts ≡ answers 0 link.exchanges

-- all messages before the last one were answered whole, and they ask to go on; of the answer to the last one this many
-- bytes were written
pub record IsPartly (link : Link) (written : ℕ) : Type 0 where
  pub first : List Exchange
  pub last : Exchange
  pub are : link.exchanges ≡ first ++ last ∷ []
  pub front : List ℕ
  pub rest : List ℕ
  pub goes_on : IsOpen link.came (messages_of first) front
  pub stands : IsMessage front last.message rest
  pub texts : link.texts ≡ answers 0 first ++ take written (answer_to (length first) last)

-- the sink failed inside the answer to a message, or inside that to a head fault
abbrev pub IsUnwritten : Link → Type 0
IsUnwritten link =
    ((n : ℕ) × (cut : IsPartly link n) × (n < length (answer_to (length cut.first) cut.last)))
    ⊎ ((n : ℕ) × IsUnread link × (n < length unread_answer)
    × (link.texts ≡ answers 0 link.exchanges ++ take n unread_answer))

-- memory was refused before anything was read, or for the text of the last reply, of which nothing was written
abbrev pub IsWanting : Link → Type 0
IsWanting link =
    ((link.came ≡ []) × (link.exchanges ≡ []) × (link.texts ≡ []))
    ⊎ ((cut : IsPartly link 0) × (bad : List Fault) × (cut.last.item.reply ≡ Refused (NoLine bad)))

-- what stands at each end of a connection
abbrev pub Ends : Link → Left → Type 0
Ends link Ended = IsEnded link
Ends link Unread = IsUnread link × (link.texts ≡ answers 0 link.exchanges ++ unread_answer)
Ends link Enough = IsEnough link
Ends link ReadFault = IsCutOff link
Ends link WriteFault = IsUnwritten link
Ends link NoMemory = IsWanting link

-- where a connection stands: what its pass knows, its clock, what its sink took, and its source
pub record Standing (S : Type 0) : Type 0 where
  pub view : View
  pub clock : ClockState
  pub taken : Option (List ℕ)
  pub source : S

-- A connection was attended and left: what came from the source, which calls the pass made for it, which bytes the sink
-- took, and why it was left. No read was made but while a further message was awaited. No more than 1,000 messages were
-- asked. Where the disk's count of faults rose in no call, each was answered by the step, or as out of memory.
pub record IsAttended {S : Type 0} (left : S → Option (List ℕ)) (gives : Passes S) (before after : Standing S)
    (ended : Left) : Type 0 where
  pub link : Link
  pub supplied : Supplies left gives (AwaitsNext (length link.exchanges)) before.source after.source link.came link.more
  pub appended : Appends before.taken after.taken link.texts
  pub attends : Attends before.view after.view before.clock after.clock link.exchanges
  pub most : length link.exchanges ≤ ANSWERS
  pub ends : Ends link ended
  pub faultless : HadNoRise (items_of link.exchanges) →
      AllByRecursion (IsStepped before.view.office.founder before.view.office.limit (history_seen after.view))
      (items_of link.exchanges)

-- ---- causes

-- the source's count of faults rose where it is said that the source failed, and stayed in any other call
abbrev pub ReadCounts : Left → ℕ → ℕ → Type 0
ReadCounts ReadFault before now = Rises before now
ReadCounts Ended before now = now ≡ before
ReadCounts Unread before now = now ≡ before
ReadCounts Enough before now = now ≡ before
ReadCounts WriteFault before now = now ≡ before
ReadCounts NoMemory before now = now ≡ before

-- the sink's count of faults rose where it is said that the sink failed, and stayed in any other call
abbrev pub WriteCounts : Left → ℕ → ℕ → Type 0
WriteCounts WriteFault before now = Rises before now
WriteCounts Ended before now = now ≡ before
WriteCounts Unread before now = now ≡ before
WriteCounts Enough before now = now ≡ before
WriteCounts ReadFault before now = now ≡ before
WriteCounts NoMemory before now = now ≡ before

-- the connection came to its end, or had its 1,000 answers, or memory was refused
abbrev pub IsEndedOrWanting : Left → Type 0
IsEndedOrWanting Ended = Unit {0}
IsEndedOrWanting Enough = Unit {0}
IsEndedOrWanting NoMemory = Unit {0}
IsEndedOrWanting Unread = ⊥
IsEndedOrWanting ReadFault = ⊥
IsEndedOrWanting WriteFault = ⊥
