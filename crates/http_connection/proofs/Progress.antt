-- How far a connection has come, step by step, and what its ends leave.
use Rattle.std.proofs.Common.{◌≡◌, ℕ, ◌+◌, ◌≤◌, ◌<◌, Bool, true, false, List, [], ◌∷◌, ◌++◌, length, take, Option, Some, None, refl, sym, ap, subst, ◌∙◌, inl, inr, arith}
use Rattle.std.specs.Prelude.{IfSome}
use Rattle.std.specs.Io.KnownBytes.{Appends}
use Rattle.std.proofs.KnownBytes.{Appends-nil, Appends-trans}
use Rattle.std.proofs.lemmas.List.{append-nil, length-append, length-map}
use Rattle.call_log.specs.Counts.{Rises}
use Rattle.desk_io.specs.Outside.{AppendsPart}
use Rattle.desk_io.specs.Reads.{Passes, Comes, Comes-nil, Comes-trans, Comes-weaker}
use Rattle.act_model.specs.declared.reply.Fault.{Fault}
use Rattle.act_model.specs.declared.reply.Reply.{Reply}
use Rattle.act_model.specs.declared.reply.Reply.TheVariants.{Refused}
use Rattle.act_model.specs.declared.reply.Refusal.TheVariants.{NoLine}
use Rattle.act_model.specs.declared.request.Request.{Request}
use Rattle.intake_lock.specs.declared.view.Item.{Item}
use Rattle.intake_lock.specs.declared.view.View.{View}
use Rattle.desk_http.specs.declared.heard.Heard.{Heard}
use Rattle.desk_http.specs.declared.heard.Heard.TheVariants as heard
use Rattle.desk_http.specs.Answers.{IsRequestRead, NoMessageComes, ReadsMessage, Counts}
use Rattle.read_ahead.specs.declared.halt.Halt.TheVariants.{End}
use Rattle.read_ahead.specs.Reading.{Halts, Supplies}
use Rattle.read_ahead.specs.Supplied.{remaining, none_left, none_before, supplies, supplies_nothing}
use Rattle.desk_http.specs.Heads.{Message, NoMessage, IsStream}
use Rattle.desk_http.specs.Reading.{AwaitsMessage}
use Rattle.desk_http.specs.ReplyTexts.{answer_of, unread_answer}
use Rattle.http_connection.specs.declared.left.Left.{Left}
use Rattle.http_connection.specs.declared.left.Left.TheVariants.{Ended, Unread, Enough, ReadFault, WriteFault, NoMemory}
use Rattle.http_connection.specs.declared.TheConstants.{ANSWERS}
use Rattle.act_model.specs.Clocks.{ClockState}
use Rattle.http_connection.specs.Calls.{TakesCall}
use Rattle.http_connection.specs.Streams.{IsOpen, HasNoHeadFault, AwaitsNext}
use Rattle.http_connection.specs.Attending.{Exchange, messages_of, items_of, Attends, is_last, answer_to, answers, Link, IsUnread, IsPartly, Ends, Standing, IsAttended, ReadCounts, WriteCounts, IsEndedOrWanting}
use Rattle.http_connection.specs.Laws.{CallLaws, StreamLaws}
use Rattle.http_connection.specs.Steps.{Answering, IsAnswered, IsRefused, IsUntouched, Becomes, GoesOn}
use Rattle.http_connection.proofs.Streams.{open_grows, open_more, open_stream, closed_stream, open_whole}
use Rattle.http_connection.proofs.Calls.{all_stepped}
use Rattle.http_connection.proofs.Attends.{asks_for, messages_more, answers_more, attends_none, attends_more}

-- ---- a head fault

module _ (laws : StreamLaws) where
  fault_some : (front more : List ℕ) (left : Option (List ℕ)) → NoMessageComes front left → 0 < length (front ++ more)
  fault_some front more left (inl never) = let l = length-append front more in let some = laws.some front never in omega arith
  fault_some front more left (inr (none, some, end)) = let l = length-append front more in omega arith

-- ---- how far a connection has come

-- The bytes that came are messages that were asked, none of which asks to close, before those that are read ahead. The
-- answers to them were written, and this many there are.
pub record Progress {S : Type 0} (left : S → Option (List ℕ)) (gives : Passes S) (start now : Standing S) (ahead : List ℕ) (answered : ℕ) : Type 0 where
  pub came : List ℕ
  pub exchanges : List Exchange
  pub front : IsOpen came (messages_of exchanges) ahead
  pub count : length exchanges ≡ answered
  pub appended : Appends start.taken now.taken (answers 0 exchanges)
  pub attends : Attends start.view now.view start.clock now.clock exchanges
  pub comes : Comes left gives (AwaitsNext answered) start.source now.source came

awaits_more : (m n : ℕ) → m ≤ n → (came : List ℕ) → AwaitsNext m came → AwaitsNext n came
awaits_more m n less came a = let few = a.few in record { messages = a.messages; rest = a.rest; front = a.front; few = omega arith; under = a.under; awaited = a.awaited }

-- where the connection stands
abbrev at : {S : Type 0} → View → ClockState → Option (List ℕ) → S → Standing S
at view clock taken source = record { view = view; clock = clock; taken = taken; source = source }

-- what an answer may change of it
abbrev answering : {S : Type 0} → Standing S → Answering
answering now = record { view = now.view; clock = now.clock; taken = now.taken }

module _ {S : Type 0} (left : S → Option (List ℕ)) (gives : Passes S) (start : Standing S) where
  -- nothing has come
  pub progress_none : (ahead : List ℕ) → ahead ≡ [] → Progress left gives start start ahead 0
  progress_none ahead none =
      record {
        came = [];
        exchanges = [];
        front = sym none;
        count = refl;
        appended = Appends-nil start.taken;
        attends = attends_none start.view start.clock;
        comes = Comes-nil left gives (AwaitsNext 0) start.source;
      }

  -- memory was refused before anything was read
  pub ends_unbegun : IsAttended left gives start start NoMemory
  ends_unbegun =
      record {
        link = record { came = []; more = (remaining (left start.source)).0; exchanges = []; texts = [] };
        supplied = supplies_nothing left gives (AwaitsNext 0) start.source;
        appended = Appends-nil start.taken;
        attends = attends_none start.view start.clock;
        most = omega arith;
        ends = inl (refl, refl, refl);
        faultless = λ none. tt;
      }

  module _ (laws : StreamLaws) (calls : CallLaws) (now : Standing S) (ahead : List ℕ) (answered : ℕ) (p : Progress left gives start now ahead answered) where
    -- 1,000 messages were answered
    pub ends_enough : answered ≡ ANSWERS → IsAttended left gives start now Enough
    ends_enough many =
        let count = p.count in
        record {
          link = record { came = p.came; more = (remaining (left now.source)).0; exchanges = p.exchanges; texts = answers 0 p.exchanges };
          supplied = supplies left gives (AwaitsNext (length p.exchanges)) start.source now.source p.came (subst (λ (n : ℕ). Comes left gives (AwaitsNext n) start.source now.source p.came) (sym count) p.comes);
          appended = p.appended;
          attends = p.attends;
          most = omega arith;
          ends = record { rest = ahead; front = p.front; many = count ∙ many; texts = refl };
          faultless = all_stepped start.view.office.founder start.view.office.limit now.view.office.state.settled (items_of p.exchanges) p.attends.true_of;
        }

    module _ (few : answered < ANSWERS) (then : S) (piece : List ℕ) (came_next : Comes left gives (AwaitsMessage ahead) now.source then piece) where
      front_grown : IsOpen (p.came ++ piece) (messages_of p.exchanges) (ahead ++ piece)
      front_grown = open_grows laws.goes_on p.came (messages_of p.exchanges) ahead piece p.front

      -- while a message is awaited after those that were answered, the next one is
      next_awaited : (came : List ℕ) → AwaitsMessage ahead came → AwaitsNext answered (p.came ++ came)
      next_awaited came awaited =
          let count = p.count in
          let messages = length-map p.exchanges (λ (e : Exchange). e.message) in
          record {
            messages = messages_of p.exchanges;
            rest = ahead ++ came;
            front = open_grows laws.goes_on p.came (messages_of p.exchanges) ahead came p.front;
            few = omega arith;
            under = omega arith;
            awaited = awaited;
          }

      all_come : Comes left gives (AwaitsNext answered) start.source then (p.came ++ piece)
      all_come =
          Comes-trans left gives (AwaitsNext answered) start.source now.source then p.came piece p.comes
          (Comes-weaker left gives (AwaitsMessage ahead) (λ more. AwaitsNext answered (p.came ++ more)) next_awaited now.source then piece came_next)

      -- what the connection took, where these pieces came last
      abbrev more : List ℕ
      more = (remaining (left then)).0

      abbrev link_with : List Exchange → List ℕ → Link
      link_with exchanges texts = record { came = p.came ++ piece; more = more; exchanges = exchanges; texts = texts }

      supplied_with : (exchanges : List Exchange) → answered ≤ length exchanges → Supplies left gives (AwaitsNext (length exchanges)) start.source then (p.came ++ piece) more
      supplied_with exchanges enough =
          supplies left gives (AwaitsNext (length exchanges)) start.source then (p.came ++ piece)
          (Comes-weaker left gives (AwaitsNext answered) (AwaitsNext (length exchanges)) (awaits_more answered (length exchanges) enough) start.source then (p.came ++ piece) all_come)

      -- the messages that were answered, in all bytes
      front_all : IsOpen ((p.came ++ piece) ++ more) (messages_of p.exchanges) ((ahead ++ piece) ++ more)
      front_all = open_grows laws.goes_on (p.came ++ piece) (messages_of p.exchanges) (ahead ++ piece) more front_grown

      -- ---- no request more was asked

      module _ (rest : List ℕ) where
        attended_here : (texts : List ℕ) (newer : Option (List ℕ)) (ended : Left) → Appends start.taken newer texts → Ends (link_with p.exchanges texts) ended
            → IsAttended left gives start (at now.view now.clock newer then) ended
        attended_here texts newer why appended ends =
            let count = p.count in
            record {
              link = link_with p.exchanges texts;
              supplied = supplied_with p.exchanges (omega arith);
              appended = appended;
              attends = p.attends;
              most = omega arith;
              ends = ends;
              faultless = all_stepped start.view.office.founder start.view.office.limit now.view.office.state.settled (items_of p.exchanges) p.attends.true_of;
            }

        -- the source ended
        ends_over : Halts NoMessage (ahead ++ piece) rest (left then) End → IsAttended left gives start (at now.view now.clock now.taken then) Ended
        ends_over over =
            let count = p.count in
            let nothing : (ahead ++ piece) ++ more ≡ [] = ap (λ (l : List ℕ). l ++ more) over.0 ∙ none_left (left then) more over.2 (remaining (left then)).1 in
            let front : IsOpen ((p.came ++ piece) ++ more) (messages_of p.exchanges) [] =
            subst (λ (l : List ℕ). IsOpen ((p.came ++ piece) ++ more) (messages_of p.exchanges) l) nothing front_all in
            attended_here (answers 0 p.exchanges) now.taken Ended p.appended
            (record {
              rest = [];
              stream = open_stream ((p.came ++ piece) ++ more) (messages_of p.exchanges) [] front laws.nothing;
              whole = inr (refl, omega arith);
              texts = refl;
            })

        -- the source failed
        ends_reading : NoMessage (ahead ++ piece) → IsAttended left gives start (at now.view now.clock now.taken then) ReadFault
        ends_reading none =
            let count = p.count in
            attended_here (answers 0 p.exchanges) now.taken ReadFault p.appended
            (record {
              rest = ahead ++ piece;
              stream = open_stream (p.came ++ piece) (messages_of p.exchanges) (ahead ++ piece) front_grown none;
              goes_on = front_grown;
              few = omega arith;
              texts = refl;
            })

        -- a head fault
        head_fault : (texts : List ℕ) → NoMessageComes (ahead ++ piece) (left then) → IsUnread (link_with p.exchanges texts)
        head_fault texts none =
            let count = p.count in
            record {
              rest = (ahead ++ piece) ++ more;
              stream = open_stream ((p.came ++ piece) ++ more) (messages_of p.exchanges) ((ahead ++ piece) ++ more) front_all
                  (none_before NoMessage (ahead ++ piece) more (left then) none (remaining (left then)).1);
              goes_on = front_all;
              fault = fault_some laws (ahead ++ piece) more (left then) none;
              few = omega arith;
            }

        ends_unread : (newer : Option (List ℕ)) (ended : Left) → NoMessageComes (ahead ++ piece) (left then) → IsRefused now.taken newer (Some ended)
            → IsAttended left gives start (at now.view now.clock newer then) ended
        ends_unread newer Unread none wrote =
            let texts : List ℕ = answers 0 p.exchanges ++ unread_answer in
            attended_here texts newer Unread (Appends-trans start.taken now.taken newer (answers 0 p.exchanges) unread_answer p.appended wrote) (head_fault texts none, refl)
        ends_unread newer WriteFault none (n, part, wrote) =
            let texts : List ℕ = answers 0 p.exchanges ++ take n unread_answer in
            attended_here texts newer WriteFault (Appends-trans start.taken now.taken newer (answers 0 p.exchanges) (take n unread_answer) p.appended wrote) (inr (n, head_fault texts none, part, refl))
        ends_unread newer Ended none wrote = absurd wrote
        ends_unread newer Enough none wrote = absurd wrote
        ends_unread newer ReadFault none wrote = absurd wrote
        ends_unread newer NoMemory none wrote = absurd wrote

      -- ---- one request more was asked

      module _ (rest : List ℕ) (request : Request) (last : Bool) (r : IsRequestRead (ahead ++ piece) request last rest) (item : Item) (is : item.request ≡ request)
          (after : View) (later : ClockState) (call : TakesCall now.view after now.clock later item) where
        abbrev exchange : Exchange
        exchange = record { message = r.message; item = item }

        abbrev exchanges_all : List Exchange
        exchanges_all = p.exchanges ++ exchange ∷ []

        abbrev answer : List ℕ
        answer = answer_of item.reply (is_last answered last)

        attends_all : Attends start.view after start.clock later exchanges_all
        attends_all = attends_more calls start.view now.view after start.clock now.clock later p.exchanges r.message item p.attends call (asks_for (ahead ++ piece) request last rest r item.request is)

        answer_is : (n : ℕ) → answered ≡ n → answer ≡ answer_to n exchange
        answer_is n same = ap (λ (k : ℕ). answer_of item.reply (is_last k last)) same ∙ ap (λ (b : Bool). answer_of item.reply (is_last n b)) r.closes

        count_all : length exchanges_all ≡ answered + 1
        count_all = let count = p.count in let l = length-append p.exchanges (exchange ∷ []) in omega arith

        answers_all : answers 0 p.exchanges ++ answer ≡ answers 0 exchanges_all
        answers_all =
            let count = p.count in
            let place : answered ≡ 0 + length p.exchanges = omega arith in
            ap (λ (l : List ℕ). answers 0 p.exchanges ++ l) (answer_is (0 + length p.exchanges) place) ∙ sym (answers_more 0 p.exchanges exchange)

        attended_with : (texts : List ℕ) (newer : Option (List ℕ)) (ended : Left) → Appends start.taken newer texts → Ends (link_with exchanges_all texts) ended
            → IsAttended left gives start (at after later newer then) ended
        attended_with texts newer why appended ends =
            let count = count_all in
            record {
              link = link_with exchanges_all texts;
              supplied = supplied_with exchanges_all (omega arith);
              appended = appended;
              attends = attends_all;
              most = omega arith;
              ends = ends;
              faultless = all_stepped start.view.office.founder start.view.office.limit after.office.state.settled (items_of exchanges_all) attends_all.true_of;
            }

        -- it was answered whole
        all_written : (newer : Option (List ℕ)) → Appends now.taken newer answer → Appends start.taken newer (answers 0 exchanges_all)
        all_written newer wrote = subst (λ (t : List ℕ). Appends start.taken newer t) answers_all (Appends-trans start.taken now.taken newer (answers 0 p.exchanges) answer p.appended wrote)

        -- and the connection goes on
        more_answered : (newer : Option (List ℕ)) → last ≡ false → Appends now.taken newer answer → Progress left gives start (at after later newer then) rest (answered + 1)
        more_answered newer goes_on wrote =
            record {
              came = p.came ++ piece;
              exchanges = exchanges_all;
              front = subst (λ (l : List Message). IsOpen (p.came ++ piece) l rest) (sym (messages_more p.exchanges exchange))
                  (open_more (p.came ++ piece) (messages_of p.exchanges) (ahead ++ piece) r.message rest front_grown r.stands (sym r.closes ∙ goes_on));
              count = count_all;
              appended = all_written newer wrote;
              attends = attends_all;
              comes = Comes-weaker left gives (AwaitsNext answered) (AwaitsNext (answered + 1)) (awaits_more answered (answered + 1) (omega arith)) start.source then (p.came ++ piece) all_come;
            }

        -- and it asked to close
        ends_closed : (newer : Option (List ℕ)) → last ≡ true → Appends now.taken newer answer → IsAttended left gives start (at after later newer then) Ended
        ends_closed newer closes wrote =
            let closed : r.message.parts.closes ≡ true = sym r.closes ∙ closes in
            let messages = messages_more p.exchanges exchange in
            attended_with (answers 0 exchanges_all) newer Ended (all_written newer wrote)
            (record {
              rest = rest ++ more;
              stream = subst (λ (l : List Message). IsStream ((p.came ++ piece) ++ more) l (rest ++ more)) (sym messages)
                  (closed_stream ((p.came ++ piece) ++ more) (messages_of p.exchanges) ((ahead ++ piece) ++ more) r.message (rest ++ more) front_all
                  (laws.goes_on (ahead ++ piece) r.message rest more r.stands) closed);
              whole = inl (record { first = messages_of p.exchanges; last = r.message; are = messages; closes = closed });
              texts = refl;
            })

        -- a part of its answer was written
        abbrev partly : (n : ℕ) → IsPartly (link_with exchanges_all (answers 0 p.exchanges ++ take n answer)) n
        partly n =
            record {
              first = p.exchanges;
              last = exchange;
              are = refl;
              front = ahead ++ piece;
              rest = rest;
              goes_on = front_grown;
              stands = r.stands;
              texts = ap (λ (l : List ℕ). answers 0 p.exchanges ++ take n l) (answer_is (length p.exchanges) (sym p.count));
            }

        ends_writing : (newer : Option (List ℕ)) → AppendsPart now.taken newer answer → IsAttended left gives start (at after later newer then) WriteFault
        ends_writing newer (n, part, wrote) =
            attended_with (answers 0 p.exchanges ++ take n answer) newer WriteFault (Appends-trans start.taken now.taken newer (answers 0 p.exchanges) (take n answer) p.appended wrote)
            (inl (n, partly n, subst (λ (l : List ℕ). n < length l) (answer_is (length p.exchanges) (sym p.count)) part))

        ends_wanting : (newer : Option (List ℕ)) → newer ≡ now.taken → (bad : List Fault) × (item.reply ≡ Refused (NoLine bad)) → IsAttended left gives start (at after later newer then) NoMemory
        ends_wanting newer same wants =
            let kept : Appends start.taken newer (answers 0 p.exchanges) = subst (λ (o : Option (List ℕ)). Appends start.taken o (answers 0 p.exchanges)) (sym same) p.appended in
            attended_with (answers 0 p.exchanges ++ take 0 answer) newer NoMemory (subst (λ (t : List ℕ). Appends start.taken newer t) (sym (append-nil (answers 0 p.exchanges))) kept)
            (inr (partly 0, wants.0, wants.1))

        ends_request : (newer : Option (List ℕ)) (ended : Left) → IsAnswered now.taken newer answer last item.reply (Some ended) → IsAttended left gives start (at after later newer then) ended
        ends_request newer Ended (closes, wrote) = ends_closed newer closes wrote
        ends_request newer WriteFault wrote = ends_writing newer wrote
        ends_request newer NoMemory (same, bad, wants) = ends_wanting newer same (bad, wants)
        ends_request newer Unread none = absurd none
        ends_request newer Enough none = absurd none
        ends_request newer ReadFault none = absurd none

      -- ---- what was heard

      module _ (rest : List ℕ) (next : Answering) where
        -- the same where nothing was asked
        as_it_was : (ended : Left) → IsUntouched (answering now) next → IsAttended left gives start (at now.view now.clock next.taken then) ended → IsAttended left gives start (at next.view next.clock next.taken then) ended
        as_it_was why (same, clock_same) attended =
            subst (λ (c : ClockState). IsAttended left gives start (at next.view c next.taken then) why) (sym clock_same)
            (subst (λ (v : View). IsAttended left gives start (at v now.clock next.taken then) why) (sym same) attended)

        unwritten : (ended : Left) → next.taken ≡ now.taken → IsAttended left gives start (at now.view now.clock now.taken then) ended → IsAttended left gives start (at now.view now.clock next.taken then) ended
        unwritten why same = subst (λ (o : Option (List ℕ)). IsAttended left gives start (at now.view now.clock o then) why) (sym same)

        -- the connection goes on
        pub progress_more : (h : Heard) → ReadsMessage (ahead ++ piece) rest (left then) h → Becomes (answering now) next answered h None
            → Progress left gives start (at next.view next.clock next.taken then) rest (answered + 1)
        progress_more (heard.Request request last) r (item, is, a) = more_answered rest request last r item is next.view next.clock a.call next.taken a.written.0 a.written.1
        progress_more heard.End r (same, sink, is) = absurd cc
        progress_more heard.Unread r (same, none) = absurd none
        progress_more heard.ReadFault r (same, sink, is) = absurd cc

        -- it is left
        pub ends_so : (h : Heard) (ended : Left) → ReadsMessage (ahead ++ piece) rest (left then) h → Becomes (answering now) next answered h (Some ended)
            → IsAttended left gives start (at next.view next.clock next.taken then) ended
        ends_so (heard.Request request last) why r (item, is, a) = ends_request rest request last r item is next.view next.clock a.call next.taken why a.written
        ends_so heard.End why r (same, sink, is) =
            let end : Ended ≡ why = cc in
            as_it_was why same (unwritten why sink (subst (λ (e : Left). IsAttended left gives start (at now.view now.clock now.taken then) e) end (ends_over rest r)))
        ends_so heard.Unread why r (same, refused) = as_it_was why same (ends_unread rest next.taken why r refused)
        ends_so heard.ReadFault why r (same, sink, is) =
            let end : ReadFault ≡ why = cc in
            as_it_was why same (unwritten why sink (subst (λ (e : Left). IsAttended left gives start (at now.view now.clock now.taken then) e) end (ends_reading rest r)))

        -- the same by what is known of the answer
        pub goes_with : (h : Heard) (result : Option Left) → result ≡ None → ReadsMessage (ahead ++ piece) rest (left then) h → Becomes (answering now) next answered h result
            → Progress left gives start (at next.view next.clock next.taken then) rest (answered + 1)
        goes_with h result is r b = progress_more h r (subst (λ (o : Option Left). Becomes (answering now) next answered h o) is b)

        pub ends_with : (h : Heard) (result : Option Left) (why : Left) → result ≡ Some why → ReadsMessage (ahead ++ piece) rest (left then) h → Becomes (answering now) next answered h result
            → IsAttended left gives start (at next.view next.clock next.taken then) why
        ends_with h result why is r b = ends_so h why r (subst (λ (o : Option Left). Becomes (answering now) next answered h o) is b)

-- ---- counts of faults

module _ (before after : Answering) (answered first then : ℕ) where
  -- the source didn't fail where the connection goes on
  pub goes_counted : (h : Heard) (result : Option Left) → result ≡ None → Becomes before after answered h result → Counts h first then → then ≡ first
  goes_counted (heard.Request request last) result none b counts = counts
  goes_counted heard.End result none b counts = counts
  goes_counted heard.Unread result none b counts = counts
  goes_counted heard.ReadFault result none (same, sink, is) counts = absurd cc

  request_counted : (text : List ℕ) (closes : Bool) (reply : Reply) (why : Left) → IsAnswered before.taken after.taken text closes reply (Some why) → then ≡ first → ReadCounts why first then
  request_counted text closes reply Ended b counts = counts
  request_counted text closes reply WriteFault b counts = counts
  request_counted text closes reply NoMemory b counts = counts
  request_counted text closes reply Unread b counts = absurd b
  request_counted text closes reply Enough b counts = absurd b
  request_counted text closes reply ReadFault b counts = absurd b

  unread_counted : (why : Left) → IsRefused before.taken after.taken (Some why) → then ≡ first → ReadCounts why first then
  unread_counted Unread b counts = counts
  unread_counted WriteFault b counts = counts
  unread_counted Ended b counts = absurd b
  unread_counted NoMemory b counts = absurd b
  unread_counted Enough b counts = absurd b
  unread_counted ReadFault b counts = absurd b

  left_counted : (h : Heard) (why : Left) → Becomes before after answered h (Some why) → Counts h first then → ReadCounts why first then
  left_counted (heard.Request request last) why (item, is, a) counts = request_counted (answer_of item.reply (is_last answered last)) last item.reply why a.written counts
  left_counted heard.End why (same, sink, is) counts = let end : Ended ≡ why = cc in subst (λ (e : Left). ReadCounts e first then) end counts
  left_counted heard.Unread why (same, refused) counts = unread_counted why refused counts
  left_counted heard.ReadFault why (same, sink, is) counts = let end : ReadFault ≡ why = cc in subst (λ (e : Left). ReadCounts e first then) end counts

  -- the source failed where the connection is left for that
  pub ends_counted : (h : Heard) (result : Option Left) (why : Left) → result ≡ Some why → Becomes before after answered h result → Counts h first then → ReadCounts why first then
  ends_counted h result why is b counts = left_counted h why (subst (λ (o : Option Left). Becomes before after answered h o) is b) counts

-- a sink's count in the same two cases
pub goes_written : (result : Option Left) (first then : ℕ) → result ≡ None → GoesOn WriteCounts result first then → then ≡ first
goes_written result first then is counts = subst (λ (o : Option Left). GoesOn WriteCounts o first then) is counts

pub ends_written : (result : Option Left) (why : Left) (first then : ℕ) → result ≡ Some why → GoesOn WriteCounts result first then → WriteCounts why first then
ends_written result why first then is counts = subst (λ (o : Option Left). GoesOn WriteCounts o first then) is counts

-- what isn't some is none
pub none_of : (result : Option Left) → ((why : Left) → result ≡ Some why → ⊥) → result ≡ None
none_of None not_some = refl
none_of (Some why) not_some = absurd (not_some why refl)

-- ---- a connection without faults

module _ {S : Type 0} (left : S → Option (List ℕ)) (gives : Passes S) (before after : Standing S)
    (one : (bytes : List ℕ) (ms ns : List Message) (x y : List ℕ) → IsStream bytes ms x → IsStream bytes ns y → (ms ≡ ns) × (x ≡ y)) (bytes : List ℕ) where
  pub complete : (ended : Left) (read read_after written written_after : ℕ) → IsAttended left gives before after ended
      → ReadCounts ended read read_after → WriteCounts ended written written_after
      → left before.source ≡ Some bytes → HasNoHeadFault bytes → ¬ Rises read read_after → ¬ Rises written written_after → IsEndedOrWanting ended
  complete Ended read read_after written written_after a rc wc told whole no_read no_write = tt
  complete Enough read read_after written written_after a rc wc told whole no_read no_write = tt
  complete NoMemory read read_after written written_after a rc wc told whole no_read no_write = tt
  complete ReadFault read read_after written written_after a rc wc told whole no_read no_write = no_read rc
  complete WriteFault read read_after written written_after a rc wc told whole no_read no_write = no_write wc
  complete Unread read read_after written written_after a rc wc told whole no_read no_write =
      let all : bytes ≡ a.link.came ++ a.link.more = subst (λ (o : Option (List ℕ)). IfSome o (λ b. b ≡ a.link.came ++ a.link.more)) told a.supplied.whole in
      let u = a.ends.0 in
      let nothing = open_whole one (a.link.came ++ a.link.more) (messages_of a.link.exchanges) u.rest u.stream u.goes_on (subst HasNoHeadFault all whole) in
      let fault = u.fault in
      let l = ap length nothing in
      absurd (omega arith)
