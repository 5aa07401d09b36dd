-- Links that are gathered, one after another.
use Rattle.std.proofs.Common.{◌≡◌, ℕ, ◌-◌, ◌<◌, ◌≤◌, Bool, true, false, nat_lt, if◌then◌else◌, List, [], ◌∷◌, ◌++◌, length, map, reverse, Option, Some, None, IfSome, refl, sym, ap, subst, ◌∙◌, arith, append_assoc, append-nil, IsPermutation}
use Rattle.std.proofs.lemmas.List.{length-append, reverse-append}
use Rattle.std.proofs.lemmas.List.Sorted.{IsPermutation-refl, IsPermutation-trans, IsPermutation-append_left, IsPermutation-append_right, IsPermutation-append_comm}
use Rattle.std.specs.List.{AllByRecursion}
use Rattle.call_log.specs.Counts.{Rises}
use Rattle.desk_io.specs.Doors.{Gives, Gives-trans}
use Rattle.act_bodies.specs.declared.key.Key.{Key}
use Rattle.act_model.specs.declared.entry.Entry.{Entry}
use Rattle.act_model.specs.declared.keeper.Office.{Office}
use Rattle.act_model.specs.Conducts.{Extends}
use Rattle.intake_lock.specs.declared.view.Item.{Item}
use Rattle.intake_lock.specs.declared.view.View.{View}
use Rattle.intake_lock.specs.Views.{history_seen, stem, branch, joint_view, longer_office}
use Rattle.act_model.specs.Clocks.{ClockState}
use Rattle.serve_command.specs.declared.ends.LinkEnd.{LinkEnd}
use Rattle.serve_command.specs.declared.accepting.Stop.{Stop}
use Rattle.serve_command.specs.declared.accepting.Stop.TheVariants.{Full, Shut, Failed, NoMemory}
use Rattle.serve_command.specs.Links.{LinkWords, LinkStart, IsLinkAttended, Attendance, link_of, end_of, calls_of, calls_in}
use Rattle.serve_command.specs.Gathering.{DoorState, Stops, IsAnother, IsBetween, GatherStart, GatherEnd, Gathers}

-- ---- histories and clocks

pub extends_on : (a b c : List Entry) → Extends a b → Extends b c → Extends a c
extends_on a b c (first, is) (second, goes) =
    (second ++ first, goes ∙ ap (λ (l : List Entry). second ++ l) is ∙ sym (append_assoc second first a))

-- an earlier history is no longer
pub no_longer : (a b : List Entry) → Extends a b → length a ≤ length b
no_longer a b (newer, is) = let n = ap length is in omega (arith, length-append newer a)

pub extends_same : (a : List Entry) → Extends a a
extends_same a = ([], refl)

another_on : (a b c : ClockState) → IsAnother a b → IsAnother b c → IsAnother a c
another_on a b c first second =
    record { to_come = λ k. second.to_come k ∙ first.to_come k; last = second.last ∙ first.last }

-- the office of two views together is that of one of them
longer_founder : (a b : Office) (key : Key) → a.founder ≡ key → b.founder ≡ key → (longer_office a b).founder ≡ key
longer_founder a b key first second = by (nat_lt (length a.state.settled) (length b.state.settled))
  where
    by : (shorter : Bool) → (if shorter then b else a).founder ≡ key
    by true = second
    by false = first

longer_limit : (a b : Office) (limit : Option ℕ) → a.limit ≡ limit → b.limit ≡ limit → (longer_office a b).limit ≡ limit
longer_limit a b limit first second = by (nat_lt (length a.state.settled) (length b.state.settled))
  where
    by : (shorter : Bool) → (if shorter then b else a).limit ≡ limit
    by true = second
    by false = first

-- ---- links among others

module _ {I O : Type 0} (on : LinkWords I O) where
  -- what lies between an office and a history lies between an earlier office and a later history
  pub between_on : (clock other : ClockState) (opening earlier : Office) (later last : List Entry) → IsAnother other clock
      → opening.founder ≡ earlier.founder → opening.limit ≡ earlier.limit → Extends earlier.state.settled opening.state.settled
      → Extends later last → (attendances : List (Attendance on)) → AllByRecursion (IsBetween clock opening later) attendances
      → AllByRecursion (IsBetween other earlier last) attendances
  between_on clock other opening earlier later last same founder limit begins ends [] each = tt
  between_on clock other opening earlier later last same founder limit begins ends (a ∷ rest) each = (
    record {
      founder = each.0.founder ∙ founder;
      limit = each.0.limit ∙ limit;
      another = another_on other clock a.start.clock same each.0.another;
      first = extends_on earlier.state.settled opening.state.settled (history_seen a.start.view) begins each.0.first;
      last = extends_on (history_seen a.after) later last each.0.last ends;
    },
    between_on clock other opening earlier later last same founder limit begins ends rest each.1,
  )

  -- ---- no link

  pub no_link : (start : GatherStart I O) (after : DoorState I O) (stop : Stop) → Gives start.door.links after.links []
      → Stops start.most [] start.door after stop
      → Gathers on start (record { view = start.view; door = after; ends = start.ends; stop = stop })
  no_link start after stop gave stops =
      record {
        attendances = [];
        gave = gave;
        ended = sym (append-nil start.ends);
        each = tt;
        calls = IsPermutation-refl start.view.mine;
        grows = extends_same (history_seen start.view);
        founder = refl;
        limit = refl;
        stops = stops;
      }

  -- the same, of another view, door and stop that are these
  pub same_end : (start : GatherStart I O) (view now : View) (door after : DoorState I O) (ends : List (LinkEnd I O)) (stop last : Stop)
      → now ≡ view → after ≡ door → last ≡ stop
      → Gathers on start (record { view = view; door = door; ends = ends; stop = stop })
      → Gathers on start (record { view = now; door = after; ends = ends; stop = last })
  same_end start view now door after ends stop last view_is door_is stop_is gathers =
      subst (λ (v : View). Gathers on start (record { view = v; door = after; ends = ends; stop = last })) (sym view_is)
      (subst (λ (d : DoorState I O). Gathers on start (record { view = view; door = d; ends = ends; stop = last })) (sym door_is)
      (subst (λ (s : Stop). Gathers on start (record { view = view; door = door; ends = ends; stop = s })) (sym stop_is) gathers))

  -- ---- one link before the others

  -- all links that a door told came, where the others were all that it told then
  one_told : (before mid : Option (List (I × O))) (link : I × O) (came : List (I × O)) → Gives before mid (link ∷ [])
      → IfSome mid (λ told. told ≡ came) → IfSome before (λ told. told ≡ link ∷ came)
  one_told None mid link came gave told = tt
  one_told (Some links) None link came gave told = absurd gave
  one_told (Some links) (Some rest) link came gave told = gave ∙ ap (λ (l : List (I × O)). link ∷ l) told

  stops_on : (most : ℕ) (link : I × O) (came : List (I × O)) (before mid after : DoorState I O) (stop : Stop) → 0 < most
      → Gives before.links mid.links (link ∷ []) → mid.faults ≡ before.faults → Stops (most - 1) came mid after stop
      → Stops most (link ∷ came) before after stop
  stops_on most link came before mid after Full some gave same stops =
      (let e = stops.0 in omega arith, stops.1 ∙ same)
  stops_on most link came before mid after Shut some gave same stops =
      (let e = stops.0 in omega arith, stops.1 ∙ same, one_told before.links mid.links link came gave stops.2)
  stops_on most link came before mid after Failed some gave same stops =
      (let e = stops.0 in omega arith, subst (λ (n : ℕ). Rises n after.faults) same stops.1)
  stops_on most link came before mid after NoMemory some gave same stops = stops ∙ same

  module _ (start : GatherStart I O) (mid : DoorState I O) (source : I) (sink : O) (end : LinkEnd I O) (some : 0 < start.most)
      (gave : Gives start.door.links mid.links ((source, sink) ∷ [])) (same : mid.faults ≡ start.door.faults)
      (mine_clock other : ClockState) (kept : IsAnother start.clock mine_clock) (another : IsAnother start.clock other)
      (others : GatherEnd I O) where
    -- the link as it came to be attended, where the pass knew this
    abbrev link_start : View → LinkStart I O
    link_start view = record { source = source; sink = sink; view = view; clock = other }

    -- the other links begin with this view of the root
    abbrev others_start : View → GatherStart I O
    others_start view = record { view = view; clock = mine_clock; door = mid; most = start.most - 1; ends = start.ends }

    -- all links end with this view of the root
    abbrev all_end : View → GatherEnd I O
    all_end view = record { view = view; door = others.door; ends = others.ends ++ end ∷ []; stop = others.stop }

    -- the end of this link stands after those of the others
    ended_behind : (ends : List (LinkEnd I O)) → others.ends ≡ start.ends ++ reverse ends
        → others.ends ++ end ∷ [] ≡ start.ends ++ reverse (end ∷ ends)
    ended_behind ends ended =
        ap (λ (l : List (LinkEnd I O)). l ++ end ∷ []) ended
        ∙ append_assoc start.ends (reverse ends) (end ∷ [])
        ∙ ap (λ (l : List (LinkEnd I O)). start.ends ++ l) (sym (reverse-append (end ∷ []) ends))

    -- the link was attended by a branch, while the root took in the others
    pub branch_joins : (w : View) → IsLinkAttended on (link_start (branch start.view)) end w
        → Gathers on (others_start (stem start.view)) others
        → Extends (history_seen others.view) (history_seen (joint_view others.view w)) → Extends (history_seen w) (history_seen (joint_view others.view w))
        → Gathers on start (all_end (joint_view others.view w))
    branch_joins w attended rest root_grows branch_grows =
        let v = start.view in
        let r = others.view in
        let a : Attendance on = record { start = link_start (branch start.view); end = end; after = w; attended = attended } in
        let made : w.mine ≡ calls_of a = attended.attended.attends.mine ∙ append-nil (calls_of a) in
        record {
          attendances = a ∷ rest.attendances;
          gave = Gives-trans start.door.links mid.links others.door.links ((source, sink) ∷ []) (map link_of rest.attendances) gave rest.gave;
          ended = ended_behind (map end_of rest.attendances) rest.ended;
          each = (
            record {
              founder = refl;
              limit = refl;
              another = another;
              first = extends_same (history_seen v);
              last = branch_grows;
            },
            between_on mine_clock start.clock v.office v.office (history_seen r) (history_seen (joint_view r w)) kept refl refl (extends_same (history_seen v)) root_grows
                rest.attendances rest.each,
          );
          calls = subst (λ (l : List Item). IsPermutation ((calls_of a ++ calls_in rest.attendances) ++ v.mine) (l ++ r.mine)) (sym made)
              (subst (λ (l : List Item). IsPermutation l (calls_of a ++ r.mine))
              (sym (append_assoc (calls_of a) (calls_in rest.attendances) v.mine))
              (IsPermutation-append_right (calls_of a) (calls_in rest.attendances ++ v.mine) r.mine rest.calls));
          grows = extends_on (history_seen v) (history_seen r) (history_seen (joint_view r w)) rest.grows root_grows;
          founder = longer_founder r.office w.office v.office.founder rest.founder attended.attended.attends.founder;
          limit = longer_limit r.office w.office v.office.limit rest.limit attended.attended.attends.limit;
          stops = stops_on start.most (source, sink) (map link_of rest.attendances) start.door mid others.door others.stop some gave same rest.stops;
        }

    -- the link was attended by the root, and then the root took in the others
    pub root_goes_on : (w : View) → IsLinkAttended on (link_start start.view) end w → Gathers on (others_start w) others
        → Gathers on start (all_end others.view)
    root_goes_on w attended rest =
        let v = start.view in
        let r = others.view in
        let a : Attendance on = record { start = link_start start.view; end = end; after = w; attended = attended } in
        let was = attended.attended.attends in
        record {
          attendances = a ∷ rest.attendances;
          gave = Gives-trans start.door.links mid.links others.door.links ((source, sink) ∷ []) (map link_of rest.attendances) gave rest.gave;
          ended = ended_behind (map end_of rest.attendances) rest.ended;
          each = (
            record {
              founder = refl;
              limit = refl;
              another = another;
              first = extends_same (history_seen v);
              last = rest.grows;
            },
            between_on mine_clock start.clock w.office v.office (history_seen r) (history_seen r) kept was.founder was.limit was.grows (extends_same (history_seen r))
                rest.attendances rest.each,
          );
          calls = IsPermutation-trans ((calls_of a ++ calls_in rest.attendances) ++ v.mine)
              ((calls_in rest.attendances ++ calls_of a) ++ v.mine) r.mine
              (IsPermutation-append_left v.mine (calls_of a ++ calls_in rest.attendances) (calls_in rest.attendances ++ calls_of a)
              (IsPermutation-append_comm (calls_of a) (calls_in rest.attendances)))
              (subst (λ (l : List Item). IsPermutation l r.mine)
              (ap (λ (l : List Item). calls_in rest.attendances ++ l) was.mine
              ∙ sym (append_assoc (calls_in rest.attendances) (calls_of a) v.mine))
              rest.calls);
          grows = extends_on (history_seen v) (history_seen w) (history_seen r) was.grows rest.grows;
          founder = rest.founder ∙ was.founder;
          limit = rest.limit ∙ was.limit;
          stops = stops_on start.most (source, sink) (map link_of rest.attendances) start.door mid others.door others.stop some gave same rest.stops;
        }

    -- the same, of what the calls ensure
    pub branch_joined : (stem_view branch_view w last : View) (items : List (LinkEnd I O)) → stem_view ≡ stem start.view
        → branch_view ≡ branch start.view → last ≡ joint_view others.view w → items ≡ others.ends ++ end ∷ []
        → IsLinkAttended on (link_start branch_view) end w → Gathers on (others_start stem_view) others
        → Extends (history_seen others.view) (history_seen last) → Extends (history_seen w) (history_seen last)
        → Gathers on start (record { view = last; door = others.door; ends = items; stop = others.stop })
    branch_joined stem_view branch_view w last items stem_is branch_is last_is items_is attended rest root_grows branch_grows =
        subst (λ (l : View). Gathers on start (record { view = l; door = others.door; ends = items; stop = others.stop })) (sym last_is)
        (subst (λ (l : List (LinkEnd I O)). Gathers on start (record { view = joint_view others.view w; door = others.door; ends = l; stop = others.stop })) (sym items_is)
        (branch_joins w
        (subst (λ (l : View). IsLinkAttended on (link_start l) end w) branch_is attended)
        (subst (λ (l : View). Gathers on (others_start l) others) stem_is rest)
        (subst (λ (l : View). Extends (history_seen others.view) (history_seen l)) last_is root_grows)
        (subst (λ (l : View). Extends (history_seen w) (history_seen l)) last_is branch_grows)))

    pub root_went_on : (root_view w : View) (items : List (LinkEnd I O)) → root_view ≡ start.view → items ≡ others.ends ++ end ∷ []
        → IsLinkAttended on (link_start root_view) end w → Gathers on (others_start w) others
        → Gathers on start (record { view = others.view; door = others.door; ends = items; stop = others.stop })
    root_went_on root_view w items root_is items_is attended rest =
        subst (λ (l : List (LinkEnd I O)). Gathers on start (record { view = others.view; door = others.door; ends = l; stop = others.stop })) (sym items_is)
        (root_goes_on w (subst (λ (l : View). IsLinkAttended on (link_start l) end w) root_is attended) rest)
