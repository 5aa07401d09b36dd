-- The calls for the messages of a connection, one after another, and the answers to them.
use Rattle.std.proofs.Common.{◌≡◌, ℕ, ◌+◌, ℤ, Bool, List, [], ◌∷◌, ◌++◌, length, Option, Some, None, refl, sym, ap, subst, ◌∙◌, arith, append_assoc, add-zero, le_refl}
use Rattle.std.specs.Prelude.{map, reverse, option_to_list}
use Rattle.std.specs.List.{AllByRecursion, cons_option}
use Rattle.std.proofs.lemmas.List.{append-nil, map-append, reverse-append}
use Rattle.std.proofs.lemmas.List.Elements.{filter_map-append}
use Rattle.act_bodies.specs.declared.key.Key.{Key}
use Rattle.read_ahead.specs.declared.body.Body.{Body}
use Rattle.act_model.specs.declared.request.Request.{Request}
use Rattle.intake_lock.specs.declared.view.Item.{Item}
use Rattle.intake_lock.specs.declared.view.View.{View}
use Rattle.act_model.specs.declared.keeper.Stamps.{Stamps}
use Rattle.intake_lock.specs.Stamps.{StampsOn}
use Rattle.intake_lock.specs.Items.{IsTrue, AreTrue, AreStamped}
use Rattle.intake_lock.specs.Views.{history_seen}
use Rattle.desk_http.specs.Answers.{IfKept, IsRequestRead}
use Rattle.desk_http.specs.Heads.{Message}
use Rattle.act_model.specs.Clocks.{ClockState, Gives}
use Rattle.http_connection.specs.Calls.{TakesCall, HasCause, AreInOrder}
use Rattle.http_connection.specs.Attending.{Exchange, AsksFor, IsExchange, messages_of, items_of, readings_in, Attends, answer_to, answers}
use Rattle.http_connection.specs.Laws.{CallLaws}
use Rattle.http_connection.proofs.Readings.{gives_none}
use Rattle.http_connection.proofs.Calls.{are_true_later, order_more}

-- the request that was read asks for its message
pub asks_for : (front : List ℕ) (request : Request) (last : Bool) (rest : List ℕ) (r : IsRequestRead front request last rest) (asked : Request) → asked ≡ request → AsksFor asked r.message
asks_for front request last rest r asked is =
    record {
      key = ap (λ (q : Request). q.key) is ∙ r.key;
      number = ap (λ (q : Request). q.number) is ∙ r.number;
      verb = ap (λ (q : Request). q.verb) is ∙ r.verb;
      body = subst (λ (b : Body). IfKept b r.message.body) (sym (ap (λ (q : Request). q.body) is)) r.body;
    }

-- ---- lists of exchanges

pub messages_more : (es : List Exchange) (e : Exchange) → messages_of (es ++ e ∷ []) ≡ messages_of es ++ e.message ∷ []
messages_more es e = map-append (λ (x : Exchange). x.message) es (e ∷ [])

items_more : (es : List Exchange) (e : Exchange) → items_of (es ++ e ∷ []) ≡ e.item ∷ items_of es
items_more es e =
    ap (λ (l : List Item). reverse l) (map-append (λ (x : Exchange). x.item) es (e ∷ []))
    ∙ reverse-append (map (λ (x : Exchange). x.item) es) (e.item ∷ [])

readings_one : (e : Exchange) (reading : Option ℤ) → e.item.reading ≡ reading → readings_in (e ∷ []) ≡ option_to_list reading
readings_one e None is = ap (λ (o : Option ℤ). cons_option o []) is
readings_one e (Some r) is = ap (λ (o : Option ℤ). cons_option o []) is

readings_more : (es : List Exchange) (e : Exchange) → readings_in (es ++ e ∷ []) ≡ readings_in es ++ option_to_list e.item.reading
readings_more es e =
    filter_map-append (λ (x : Exchange). x.item.reading) es (e ∷ []) ∙ ap (λ (rs : List ℤ). readings_in es ++ rs) (readings_one e e.item.reading refl)

-- the answers to these, and to one more
pub answers_more : (before : ℕ) (es : List Exchange) (e : Exchange) → answers before (es ++ e ∷ []) ≡ answers before es ++ answer_to (before + length es) e
answers_more before [] e = append-nil (answer_to before e) ∙ ap (λ (n : ℕ). answer_to n e) (sym (add-zero before))
answers_more before (x ∷ es) e =
    let place : (before + 1) + length es ≡ before + length (x ∷ es) = omega arith in
    ap (λ (l : List ℕ). answer_to before x ++ l) (answers_more (before + 1) es e ∙ ap (λ (n : ℕ). answers (before + 1) es ++ answer_to n e) place)
    ∙ sym (append_assoc (answer_to before x) (answers (before + 1) es) (answer_to (before + length (x ∷ es)) e))

all_more : {X : Type 0} (P : X → Type 0) (xs : List X) (x : X) → AllByRecursion P xs → P x → AllByRecursion P (xs ++ x ∷ [])
all_more P [] x all here = (here, tt)
all_more P (y ∷ ys) x all here = (all.0, all_more P ys x all.1 here)

-- ---- calls for messages

stamps_refl : (stamps : Option Stamps) → StampsOn stamps stamps
stamps_refl None = refl
stamps_refl (Some stamps) = record { later = le_refl stamps.moment; newer = []; grown = sym (append-nil stamps.given) }

-- no message was asked yet
pub attends_none : (view : View) (clock : ClockState) → Attends view view clock clock []
attends_none view clock =
    record { asks = tt; mine = refl; true_of = tt; causes = tt; order = tt; grows = ([], refl); stamps = stamps_refl view.office.stamps; stamped = tt; clock = gives_none clock; founder = refl; limit = refl }

-- one message more was asked
pub attends_more : (laws : CallLaws) (before between after : View) (a b c : ClockState) (es : List Exchange) (message : Message) (item : Item)
    → Attends before between a b es → TakesCall between after b c item → AsksFor item.request message → Attends before after a c (es ++ (record { message = message; item = item }) ∷ [])
attends_more laws before between after a b c es message item so_far call asks =
    let e : Exchange = record { message = message; item = item } in
    let founder = before.office.founder in
    let limit = before.office.limit in
    let items = items_more es e in
    let here : IsTrue founder limit (history_seen after) item =
    subst (λ (l : Option ℕ). IsTrue founder l (history_seen after) item) so_far.limit (subst (λ (f : Key). IsTrue f between.office.limit (history_seen after) item) so_far.founder call.true_of) in
    let least = laws.longer (history_seen before) (history_seen between) so_far.grows in
    record {
      asks = all_more IsExchange es e so_far.asks (record { asks = asks; reads = call.call.reads });
      mine = call.mine ∙ ap (λ (l : List Item). item ∷ l) so_far.mine ∙ sym (ap (λ (l : List Item). l ++ before.mine) items);
      true_of = subst (λ (l : List Item). AreTrue founder limit (history_seen after) l) (sym items)
          (here, are_true_later laws founder limit (history_seen between) (history_seen after) (items_of es) call.grows so_far.true_of);
      causes = subst (λ (l : List Item). AllByRecursion HasCause l) (sym items) (call.cause, so_far.causes);
      order = subst (λ (l : List Item). AreInOrder founder limit (history_seen after) (length (history_seen before)) l) (sym items)
          (order_more laws founder limit (length (history_seen before)) (history_seen between) (history_seen after) item (items_of es) least call.grows call.place so_far.true_of so_far.order);
      grows = laws.follow (history_seen before) (history_seen between) (history_seen after) so_far.grows call.grows;
      stamps = laws.stamps_follow before.office.stamps between.office.stamps after.office.stamps so_far.stamps call.stamps;
      stamped = subst (λ (l : List Item). AreStamped after.office.stamps l) (sym items)
          (laws.has_stamp call.entered after.office item call.call, laws.stamped_later between.office.stamps after.office.stamps (items_of es) call.stamps so_far.stamped);
      clock = subst (Gives a c) (sym (readings_more es e)) (laws.readings a b c (readings_in es) (option_to_list item.reading) so_far.clock call.clock);
      founder = call.founder ∙ so_far.founder;
      limit = call.limit ∙ so_far.limit;
    }
