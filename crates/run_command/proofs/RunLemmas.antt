-- The office of a run: from what opening found to what is there at the end.
use Rattle.std.proofs.Common.{◌≡◌, ℕ, ◌+◌, ◌-◌, ◌≤◌, List, [], ◌∷◌, length, Option, Some, None, refl, sym, ap, subst, inl, inr, arith}
use Rattle.std.specs.Io.KnownBytes.{Appends}
use Rattle.std.proofs.KnownBytes.{Appends-nil}
use Rattle.std.proofs.lemmas.List.{length-append}
use Rattle.std.proofs.lemmas.List.Sums.{sum_by-cons}
use Rattle.disk_model.specs.Crashes.{During}
use Rattle.disk_model.specs.Moments.{during_weaker, during_joined}
use Rattle.desk_io.specs.Reads.{Passes}
use Rattle.frame_service.specs.Runs.{Run, AwaitsNext, Stops}
use Rattle.act_bodies.specs.declared.key.Key.{Key}
use Rattle.act_model.specs.declared.entry.Entry.{Entry}
use Rattle.act_model.specs.declared.keeper.OfficeState.{OfficeState}
use Rattle.act_model.specs.History.{EachNumberOnce}
use Rattle.act_model.specs.Conducts.{Extends, HadMemory, HadNoFault, IsStepped}
use Rattle.act_model.specs.Turns.{Turn, Conduct, Mends, at_rest, rises_of}
use Rattle.mpc_desk.specs.Desks.{DeskState, count_of}
use Rattle.mpc_desk.specs.Pairs.{DiskPair, pair, DuringBoth, HaveRisen, EitherRises, PairState, disks_of}
use Rattle.mpc_desk.specs.PairLaws.{both_then}
use Rattle.frame_service.specs.declared.serving.Stop.{Stop}
use Rattle.frame_service.specs.declared.serving.Stop.TheVariants as stop
use Rattle.command_ends.specs.declared.status.Status.{Status}
use Rattle.command_ends.specs.declared.status.Status.TheVariants.{Done, Usage, BadFrame, DiskFault, Damaged, ReadFault, WriteFault, NoMemory, DoorFault, MirrorFault, TooMany}
use Rattle.act_model.specs.Clocks.{ClockState}
use Rattle.command_ends.specs.Disks.{DiskWords, DiskRose}
use Rattle.run_command.specs.Conducted.{LeavesIn, LeavesBoth, Rests, TurnsOn, KeepsEach}
use Rattle.run_command.specs.Serving.{Serves}
use Rattle.run_command.specs.Runs.{RunsOn, ServesNothing, Course, Ends}
use Rattle.command_ends.specs.Opening.{journal_bytes, Opens, EndsUnopened}
use Rattle.command_ends.specs.Closing.{IsNotMended, IsMended, IsStillInDoubt, IsClosed}
use Rattle.run_command.specs.Closing.{Finishes}
use Rattle.run_command.proofs.Laws.{OfficeLaws}
use Rattle.run_command.proofs.Conducting.{grows, extends_on, rose_more}
use Rattle.run_command.proofs.Closings.{never_rose, rise_between, nothing_mended, mended_extends, mended_has, mended_none, closed_as_is}
use Rattle.run_command.proofs.Keeping.{turns_during, keeps_each}
use Rattle.run_command.proofs.Served.{TakesTurns}
use Rattle.read_ahead.specs.Reading.{Supplies}
use Rattle.read_ahead.specs.Supplied.{remaining, supplies_nothing}

-- ---- the office

rests_so : (state : OfficeState) → state.doubt ≡ None → state ≡ at_rest state.settled
rests_so state none = by state.settled state.doubt none
  where
    by : (h : List Entry) (o : Option Entry) → o ≡ None → ◌≡◌ {A = OfficeState} (record { settled = h; doubt = o }) (at_rest h)
    by h o none = cc

-- where the rises of turns come to nothing, none of them rose
none_rose : (turns : List Turn) → rises_of turns ≡ 0 → HadNoFault turns
none_rose [] is = tt
none_rose (turn ∷ turns) is =
    let sum = sum_by-cons (λ (t : Turn). t.rise) turn turns in
    (omega (arith, sum, is), none_rose turns (omega (arith, sum, is)))

longer : (first last : List Entry) → Extends first last → (added : ℕ) → added ≡ length last - length first → length last ≡ length first + added
longer first last (newer, is) added counted = omega (arith, counted, ap length is, length-append newer first)

module _ (laws : OfficeLaws) {D : Type 0} (on : DiskWords D) (only_now : (disk : D) (image : List ℕ) → on.since disk (on.moment disk) image → on.leaves disk image)
    (founder : Key) (disks : DiskPair D) (office : PairState D) (served : DeskState D) (turns : List Turn) (opens : Opens on founder disks office) (takes : TakesTurns on founder journal_bytes office.chained turns served) where
  abbrev opened : DeskState D
  opened = office.chained

  -- the turns as a conduct from the history that the disk stood for
  record Conducted (start : OfficeState) : Type 0 where
    conduct : Conduct founder (Some journal_bytes) start turns served.state
    each : TurnsOn on founder (Some journal_bytes) start turns served.state conduct opened.disk served.disk

  conducted : Conducted (at_rest opened.state.settled)
  conducted = subst Conducted (rests_so opened.state opens.settled) (record { conduct = takes.conduct; each = takes.each })

  turn_images : During on.moment on.since opened.disk served.disk (LeavesIn founder (Some journal_bytes) (at_rest opened.state.settled) turns served.state conducted.conduct)
  turn_images =
      turns_during laws.keeps founder (Some journal_bytes) (laws.grow founder (Some journal_bytes)) on only_now (at_rest opened.state.settled) turns served.state conducted.conduct opened.disk served.disk conducted.each

  rests : Rests on opened.disk (at_rest opened.state.settled)
  rests = subst (λ (s : OfficeState). Rests on opened.disk s) (rests_so opened.state opens.settled) opens.at_rest

  module _ (Closes : OfficeState → ℕ → OfficeState → Type 0) (mending : ℕ) (last : DeskState D) (now : DiskPair D) (added : ℕ)
      (closes : Closes served.state mending last.state) (mends : Mends served.state.settled served.state.doubt last.state.settled)
      (closed : IsClosed on mending served last) (disks_are : now ≡ pair office.first last.disk) (counted : added ≡ length last.state.settled - length opened.state.settled) where
    all_extends : Extends opened.state.settled last.state.settled
    all_extends =
        extends_on founder (Some journal_bytes) opened.state.settled served.state.settled last.state.settled
        (laws.grow founder (Some journal_bytes) (at_rest opened.state.settled) served.state turns conducted.conduct)
        (mended_extends served.state.settled served.state.doubt last.state.settled mends)

    abbrev end : DiskPair D
    end = pair office.first last.disk

    -- by how much each count rose in opening
    abbrev in_first : ℕ
    in_first = count_of (on.faults office.first) - count_of (on.faults disks.first)

    abbrev in_second : ℕ
    in_second = count_of (on.faults opened.disk) - count_of (on.faults disks.second)

    second_counts : DiskRose on (in_second + rises_of turns + mending) disks.second last.disk
    second_counts =
        rose_more (on.faults disks.second) (on.faults served.disk) (on.faults last.disk) (in_second + rises_of turns) mending _
        (rose_more (on.faults disks.second) (on.faults opened.disk) (on.faults served.disk) in_second (rises_of turns) _ (rise_between (on.faults disks.second) (on.faults opened.disk) opens.counts.second) takes.counts refl)
        closed.counts refl

    opening_counts : HaveRisen on (in_first + in_second) disks (disks_of office)
    opening_counts = record {
      first = in_first;
      second = in_second;
      sum = refl;
      rose_first = rise_between (on.faults disks.first) (on.faults office.first) opens.counts.first;
      rose_second = rise_between (on.faults disks.second) (on.faults opened.disk) opens.counts.second;
    }

    all_counts : HaveRisen on (in_first + in_second + rises_of turns + mending) disks end
    all_counts = record {
      first = in_first;
      second = in_second + rises_of turns + mending;
      sum = omega arith;
      rose_first = rise_between (on.faults disks.first) (on.faults office.first) opens.counts.first;
      rose_second = second_counts;
    }

    all_images : DuringBoth on disks end (LeavesBoth founder (Some journal_bytes) (at_rest opened.state.settled) turns served.state conducted.conduct)
    all_images =
        both_then (LeavesBoth founder (Some journal_bytes) (at_rest opened.state.settled) turns served.state conducted.conduct) (λ files alike. inl alike.now) (λ files may. inr may) opens.images refl
        (during_joined turn_images (during_weaker _ (λ image never. absurd never) closed.no_image))

    once : EachNumberOnce last.state.settled
    once =
        mended_has EachNumberOnce served.state last.state.settled
        (laws.once founder (Some journal_bytes) (at_rest opened.state.settled) served.state turns conducted.conduct (laws.legal_once founder opened.state.settled opens.legal, tt)) mends

    all_stepped : (EitherRises on disks end → ⊥) → HadMemory turns → IsStepped founder (Some journal_bytes) opened.state.settled turns last.state.settled
    all_stepped never memory =
        let none = never_rose (on.faults disks.second) (on.faults last.disk) _ (λ rises. never (inr rises)) second_counts in
        let faultless = none_rose turns (omega (arith, none)) in
        let rests = laws.rests founder (Some journal_bytes) opened.state.settled served.state turns conducted.conduct faultless in
        let same = mended_none served.state last.state.settled (ap (λ (s : OfficeState). s.doubt) rests) mends in
        subst (λ (h : List Entry). IsStepped founder (Some journal_bytes) opened.state.settled turns h) (sym same)
        (laws.steps founder (Some journal_bytes) opened.state.settled served.state turns conducted.conduct faultless memory)

    all_kept : KeepsEach on last.disk founder (Some journal_bytes) (at_rest opened.state.settled) turns served.state conducted.conduct opened.disk served.disk
    all_kept =
        keeps_each laws.keeps founder (Some journal_bytes) (laws.grow founder (Some journal_bytes)) on only_now served.disk last.disk closed.no_image
        (at_rest opened.state.settled) turns served.state conducted.conduct opened.disk (opens.legal, tt) rests conducted.each

    -- the images and the counts of the disks at the end
    record OnDisks (at : DiskPair D) : Type 0 where
      kept : KeepsEach on at.second founder (Some journal_bytes) (at_rest opened.state.settled) turns served.state conducted.conduct opened.disk served.disk
      counts : HaveRisen on (in_first + in_second + rises_of turns + mending) disks at
      images : DuringBoth on disks at (LeavesBoth founder (Some journal_bytes) (at_rest opened.state.settled) turns served.state conducted.conduct)
      stepped : (EitherRises on disks at → ⊥) → HadMemory turns → IsStepped founder (Some journal_bytes) opened.state.settled turns last.state.settled

    on_disks : OnDisks now
    on_disks = subst OnDisks (sym disks_are) (record { kept = all_kept; counts = all_counts; images = all_images; stepped = all_stepped })

    pub runs_on : RunsOn on founder disks now turns Closes added
    runs_on = record {
      office = record {
        opened = office;
        opens = opens;
        left = served;
        conduct = conducted.conduct;
        grows = grows founder (Some journal_bytes) (laws.grow founder (Some journal_bytes)) (at_rest opened.state.settled) turns served.state conducted.conduct;
        last = last;
        mending = mending;
        closes = closes;
        closed = closed;
      };
      disks_are = disks_are;
      kept = on_disks.kept;
      opening = in_first + in_second;
      rose_opening = opening_counts;
      counts = on_disks.counts;
      images = on_disks.images;
      is_left = record {
        entries = longer opened.state.settled last.state.settled all_extends added counted;
        once = once;
        places = laws.places last.state.settled;
        rows = laws.rows last.state.settled;
        numbers = laws.numbers last.state.settled;
        lines = laws.lines opened.state.settled last.state.settled all_extends;
      };
      stepped = on_disks.stepped;
    }

  -- the history at the end isn't shorter
  pub fewer_before : (last : DeskState D) → Mends served.state.settled served.state.doubt last.state.settled → length opened.state.settled ≤ length last.state.settled
  fewer_before last mends =
      let (newer, is) =
      extends_on founder (Some journal_bytes) opened.state.settled served.state.settled last.state.settled
      (laws.grow founder (Some journal_bytes) (at_rest opened.state.settled) served.state turns conducted.conduct)
      (mended_extends served.state.settled served.state.doubt last.state.settled mends) in
      omega (arith, ap length is, length-append newer opened.state.settled)

  -- ---- the ends of a run that was served

  module _ (before after : ClockState) (run : Run) (Uncalled : Type 0) (last : DeskState D) (now : DiskPair D) (added : ℕ)
      (disks_are : now ≡ pair office.first last.disk) (counted : added ≡ length last.state.settled - length opened.state.settled) where
    not_mended : last ≡ served → RunsOn on founder disks now turns IsNotMended added
    not_mended same =
        runs_on IsNotMended 0 last now added (ap (λ (d : DeskState D). d.state) same, refl)
        (subst (λ (d : DeskState D). Mends served.state.settled served.state.doubt d.state.settled) (sym same) (nothing_mended served.state.settled served.state.doubt))
        (subst (λ (d : DeskState D). IsClosed on 0 served d) (sym same) (closed_as_is on served (takes.at_rest opens.at_rest)))
        disks_are counted

    abbrev course : Course D
    course = record { founder = founder; disks = disks; disks_after = now; clock = before; clock_after = after; run = run; added = added }

    pub served_ends : (stopped : Stop) (status : Status) → Serves before after (Stops run stopped) turns → Finishes on served stopped status last → Ends on course Uncalled status
    served_ends stop.Over Done stops (rise, mended, closed) =
        (turns, stops, runs_on IsMended rise last now added mended mended.mends closed disks_are counted)
    served_ends stop.Over DiskFault stops (rise, doubted, closed) =
        inr (
          turns,
          stops,
          runs_on IsStillInDoubt rise last now added doubted
              (subst (λ (s : OfficeState). Mends served.state.settled served.state.doubt s.settled) (sym doubted.stays) (nothing_mended served.state.settled served.state.doubt))
              closed disks_are counted,
        )
    served_ends stop.Over Usage stops ends = absurd ends
    served_ends stop.Over (BadFrame offset) stops ends = absurd ends
    served_ends stop.Over (Damaged file offset) stops ends = absurd ends
    served_ends stop.Over ReadFault stops ends = absurd ends
    served_ends stop.Over WriteFault stops ends = absurd ends
    served_ends stop.Over NoMemory stops ends = absurd ends
    served_ends stop.Over DoorFault stops ends = absurd ends
    served_ends stop.Over MirrorFault stops ends = absurd ends
    served_ends stop.Over (TooMany count) stops ends = absurd ends
    served_ends (stop.NoFrameAt offset) status stops (is, same) =
        subst (λ (s : Status). Ends on course Uncalled s) (sym is) (turns, stops, not_mended same)
    served_ends stop.ReadFailed status stops (is, same) =
        subst (λ (s : Status). Ends on course Uncalled s) (sym is) (turns, stops, not_mended same)
    served_ends stop.WriteFailed status stops (is, same) =
        subst (λ (s : Status). Ends on course Uncalled s) (sym is) (turns, stops, not_mended same)

-- ---- the ends of a run whose office wasn't opened

module _ {D : Type 0} (on : DiskWords D) (founder : Key) (disks now : DiskPair D) (clock : ClockState) (Uncalled : Type 0) (uncalled : Uncalled) (added : ℕ) (more : List ℕ) where
  idle : ServesNothing (record { came = []; more = more; answered = 0; texts = [] }) Uncalled
  idle = record { uncalled = uncalled; came = refl; texts = refl }

  abbrev not_run : Run → Course D
  not_run run = record { founder = founder; disks = disks; disks_after = now; clock = clock; clock_after = clock; run = run; added = added }

  pub unopened_ends : (status : Status) → EndsUnopened on founder disks now added status
      → Ends on (not_run (record { came = []; more = more; answered = 0; texts = [] })) Uncalled status
  unopened_ends DiskFault ends = inl (idle, ends)
  unopened_ends (Damaged file offset) ends = (idle, ends)
  unopened_ends NoMemory ends = (idle, ends)
  unopened_ends Done ends = absurd ends
  unopened_ends Usage ends = absurd ends
  unopened_ends (BadFrame offset) ends = absurd ends
  unopened_ends ReadFault ends = absurd ends
  unopened_ends WriteFault ends = absurd ends
  unopened_ends DoorFault ends = absurd ends
  unopened_ends MirrorFault ends = absurd ends
  unopened_ends (TooMany count) ends = absurd ends

-- nothing was served
pub nothing_served : {S : Type 0} (left : S → Option (List ℕ)) (gives : Passes S) (source : S) (taken : Option (List ℕ)) {D : Type 0} (on : DiskWords D) (founder : Key) (disks now : DiskPair D) (clock : ClockState)
    (Uncalled : Type 0) (uncalled : Uncalled) (added : ℕ) (status : Status) → EndsUnopened on founder disks now added status
    → (run : Run) × Supplies left gives (AwaitsNext run.answered) source source run.came run.more × Appends taken taken run.texts × Ends on (record { founder = founder; disks = disks; disks_after = now; clock = clock; clock_after = clock; run = run; added = added }) Uncalled status
nothing_served left gives source taken on founder disks now clock Uncalled uncalled added status ends =
    let more : List ℕ = (remaining (left source)).0 in
    let run : Run = record { came = []; more = more; answered = 0; texts = [] } in
    (run, supplies_nothing left gives (AwaitsNext 0) source, Appends-nil taken, unopened_ends on founder disks now clock Uncalled uncalled added more status ends)
