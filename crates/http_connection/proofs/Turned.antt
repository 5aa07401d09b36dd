-- One request asked in a turn of its own.
use Rattle.std.proofs.Common.{◌≡◌, ℕ, ℤ, List, [], ◌∷◌, ◌++◌, Option, sym, ap, subst, ◌∙◌, arith}
use Rattle.std.specs.Prelude.{option_to_list}
use Rattle.act_bodies.specs.declared.key.Key.{Key}
use Rattle.act_model.specs.declared.keeper.Office.{Office}
use Rattle.act_model.specs.declared.reply.Reply.{Reply}
use Rattle.act_model.specs.declared.request.Request.{Request}
use Rattle.act_model.specs.Conducts.{Extends}
use Rattle.intake_lock.specs.declared.view.Item.{Item}
use Rattle.intake_lock.specs.declared.view.View.{View}
use Rattle.intake_lock.specs.Stamps.{StampsOn}
use Rattle.intake_lock.specs.Items.{IsTrue}
use Rattle.intake_lock.specs.Views.{history_seen, holding_view, published_view, idle}
use Rattle.act_model.specs.Clocks.{ClockState, Gives}
use Rattle.http_connection.specs.Calls.{Asks, TakesCall}
use Rattle.http_connection.specs.Laws.{CallLaws}
use Rattle.http_connection.proofs.Calls.{StepKnowsNoDisk, caused}

module _ (laws : CallLaws) (never : StepKnowsNoDisk) (before : View) (ticket : ℕ) (first last : Office) (items noted : List Item) (request : Request) (reply : Reply) (clock clock_after : ClockState)
    (founder : first.founder ≡ before.office.founder) (limit : first.limit ≡ before.office.limit) (goes_on : Extends (history_seen before) first.state.settled) (stamps : StampsOn before.office.stamps first.stamps) (none : items ≡ [])
    (asks : Asks (record { office = first; items = items; clock = clock }) (record { office = last; items = noted; clock = clock_after }) request reply) where
  -- the pass that has the turn's calls has this one more
  taken_here : (item : Item) × (item.request ≡ request) × (item.reply ≡ reply) × TakesCall before (idle (published_view last noted (holding_view ticket first before))) clock clock_after item
  taken_here =
      let item = asks.noted.0 in
      let of_item = asks.noted.2 in
      let here = laws.here first last item of_item.calls in
      let true_here : IsTrue before.office.founder before.office.limit last.state.settled item =
      subst (λ (l : Option ℕ). IsTrue before.office.founder l last.state.settled item) limit (subst (λ (f : Key). IsTrue f first.limit last.state.settled item) founder here) in
      let least = laws.longer (history_seen before) first.state.settled goes_on in
      let place = laws.place first last item of_item.calls in (
        item,
        of_item.asked,
        of_item.answered,
        record {
          mine = ap (λ (l : List Item). l ++ before.mine) (asks.noted.1 ∙ ap (λ (l : List Item). item ∷ l) none);
          entered = first;
          goes_on = goes_on;
          call = of_item.calls;
          true_of = true_here;
          cause = caused never before.office.founder before.office.limit last.state.settled item true_here;
          place = omega arith;
          grows = laws.follow (history_seen before) first.state.settled last.state.settled goes_on (laws.grows first last item of_item.calls);
          stamps = laws.stamps_follow before.office.stamps first.stamps last.stamps stamps (laws.stamps first last item of_item.calls);
          clock = subst (λ (r : Option ℤ). Gives clock clock_after (option_to_list r)) (sym of_item.read) asks.clock;
          founder = of_item.calls.founder ∙ founder;
          limit = of_item.calls.limit ∙ limit;
        },
      )

  pub taken : (entered turned after : View) → entered ≡ holding_view ticket first before → turned ≡ entered → after ≡ idle (published_view last noted turned)
      → (item : Item) × (item.request ≡ request) × (item.reply ≡ reply) × TakesCall before after clock clock_after item
  taken entered turned after enters same leaves =
      let view : after ≡ idle (published_view last noted (holding_view ticket first before)) = leaves ∙ ap (λ (v : View). idle (published_view last noted v)) (same ∙ enters) in
      subst (λ (v : View). (item : Item) × (item.request ≡ request) × (item.reply ≡ reply) × TakesCall before v clock clock_after item) (sym view) taken_here
