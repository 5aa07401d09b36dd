-- The register of a run: from what opening found to what is there at the end.
use Rattle.std.proofs.Common.{◌≡◌, ◌⊎◌, ℕ, ◌+◌, ◌-◌, ◌≤◌, List, [], ◌∷◌, length, Option, Some, None, refl, sym, ap, subst, ◌∙◌, inl, inr, ⊎_elim, arith}
use Rattle.std.specs.Io.KnownBytes.{Appends}
use Rattle.std.proofs.KnownBytes.{Appends-nil}
use Rattle.std.proofs.lemmas.List.{length-append}
use Rattle.std.proofs.lemmas.List.Sums.{sum_by-cons}
use Rattle.call_log.specs.Counts.{Rises}
use Rattle.disk_model.specs.Crashes.{During}
use Rattle.disk_model.specs.Moments.{during_weaker, during_joined}
use Rattle.desk_io.specs.Reads.{Passes}
use Rattle.read_ahead.specs.Reading.{Supplies}
use Rattle.read_ahead.specs.Supplied.{remaining, supplies_nothing}
use Rattle.frame_service.specs.declared.serving.Stop.{Stop}
use Rattle.frame_service.specs.declared.serving.Stop.TheVariants as stop
use Rattle.frame_service.specs.Runs.{Run, AwaitsNext, Stops}
use Rattle.act_bodies.specs.declared.key.Key.{Key}
use Rattle.act_model.specs.declared.entry.Entry.{Entry}
use Rattle.act_model.specs.declared.keeper.OfficeState.{OfficeState}
use Rattle.act_model.specs.Clocks.{ClockState}
use Rattle.act_model.specs.Conducts.{Extends}
use Rattle.act_model.specs.Deeds.{deeds}
use Rattle.act_model.specs.Turns.{Mends, at_rest}
use Rattle.mpc_desk.specs.Desks.{count_of}
use Rattle.mpc_desk.specs.Pairs.{DiskPair, PairState}
use Rattle.command_ends.specs.declared.status.Status.{Status}
use Rattle.command_ends.specs.declared.status.Status.TheVariants.{Done, Usage, BadFrame, DiskFault, Damaged, ReadFault, WriteFault, NoMemory, DoorFault, MirrorFault, TooMany}
use Rattle.command_ends.specs.Closing.{IsNotMended, IsMended, IsStillInDoubt}
use Rattle.command_ends.specs.Courses.{Change, change}
use Rattle.command_ends.specs.Disks.{DiskWords, DiskRose}
use Rattle.command_ends.specs.Opening.{Opens, EndsUnopened}
use Rattle.command_ends.specs.Reading.{reader, KeepsOffice}
use Rattle.comet_model.specs.Conducts.{HadMemory, HadNoFault, IsStepped}
use Rattle.comet_model.specs.Turns.{CometTurn, rises_of}
use Rattle.comet_desk.specs.Desks.{CometDeskState}
use Rattle.comet_desk.specs.Opening.{IsOpened}
use Rattle.comets_command.specs.Terms.{Terms, register_bytes, terms_at, IsLegalIn, ConductIn}
use Rattle.comets_command.specs.Closing.{IsClosed, MendsLast, Finishes}
use Rattle.comets_command.specs.Conducted.{terms_of, LeavesIn, LeavesAt, Rests, TurnsOn, KeepsEach}
use Rattle.comets_command.specs.Opening.{EndsUnbegun}
use Rattle.comets_command.specs.Runs.{Course, RegisterOn, IsOfficeShut, IsRegisterShut, IsNotServed, Ends}
use Rattle.comets_command.specs.Serving.{FrontState, Serves}
use Rattle.comets_command.specs.Laws.{RegisterLaws}
use Rattle.comets_command.proofs.Closings.{never_rose, rise_between, nothing_mended, mended_extends, mended_has, mended_none, closed_as_is, doubt_stays}
use Rattle.comets_command.proofs.Conducting.{grows, extends_on, rose_more}
use Rattle.comets_command.proofs.Keeping.{turns_during, keeps_each}
use Rattle.comets_command.proofs.Served.{TakesTurns, terms_in}

-- ---- the register

rests_so : (state : OfficeState) → state.doubt ≡ None → state ≡ at_rest state.settled
rests_so state none = by state.settled state.doubt none
  where
    by : (h : List Entry) (o : Option Entry) → o ≡ None → ◌≡◌ {A = OfficeState} (record { settled = h; doubt = o }) (at_rest h)
    by h o none = cc

-- where the rises of turns come to nothing, none of them rose
none_rose : (turns : List CometTurn) → rises_of turns ≡ 0 → HadNoFault turns
none_rose [] is = tt
none_rose (turn ∷ turns) is =
    let sum = sum_by-cons (λ (t : CometTurn). t.rise) turn turns in
    (omega (arith, sum, is), none_rose turns (omega (arith, sum, is)))

longer : (first last : List Entry) → Extends first last → (added : ℕ) → added ≡ length last - length first → length last ≡ length first + added
longer first last (newer, is) added counted = omega (arith, counted, ap length is, length-append newer first)

module _ (laws : RegisterLaws) {D : Type 0} (on : DiskWords D) (only_now : (disk : D) (image : List ℕ) → on.since disk (on.moment disk) image → on.leaves disk image)
    (terms : Terms) (disk : D) (opened left : CometDeskState D) (turns : List CometTurn) (opens : IsOpened on terms.founder terms.limit terms.desk disk opened) (takes : TakesTurns on terms opened turns left) where
  abbrev start : OfficeState
  start = at_rest opened.state.settled

  -- the turns as a conduct from the entries that the disk held
  record Conducted (from : OfficeState) : Type 0 where
    conduct : ConductIn terms from turns left.state
    each : TurnsOn on terms from turns left.state conduct opened.disk left.disk

  conducted : Conducted start
  conducted = subst Conducted (rests_so opened.state opens.settled) (record { conduct = takes.conduct; each = takes.each })

  turn_images : During on.moment on.since opened.disk left.disk (LeavesIn terms start turns left.state conducted.conduct)
  turn_images = turns_during laws terms on only_now start turns left.state conducted.conduct opened.disk left.disk conducted.each

  rests : Rests on opened.disk start
  rests = subst (λ (s : OfficeState). Rests on opened.disk s) (rests_so opened.state opens.settled) opens.at_rest

  grown : Extends opened.state.settled left.state.settled
  grown = laws.grow terms.founder (Some terms.limit) terms.desk start left.state turns conducted.conduct

  -- the register at the end isn't shorter
  pub fewer_before : (last : CometDeskState D) → Mends left.state.settled left.state.doubt last.state.settled → length opened.state.settled ≤ length last.state.settled
  fewer_before last mends =
      let (newer, is) = extends_on opened.state.settled left.state.settled last.state.settled grown (mended_extends left.state.settled left.state.doubt last.state.settled mends) in
      omega (arith, ap length is, length-append newer opened.state.settled)

  module _ (Closes : OfficeState → ℕ → OfficeState → Type 0) (mending : ℕ) (last : CometDeskState D) (now : D) (added : ℕ)
      (closes : Closes left.state mending last.state) (mends : Mends left.state.settled left.state.doubt last.state.settled)
      (closed : IsClosed on mending left last) (disk_is : now ≡ last.disk) (counted : added ≡ length last.state.settled - length opened.state.settled) where
    all_extends : Extends opened.state.settled last.state.settled
    all_extends = extends_on opened.state.settled left.state.settled last.state.settled grown (mended_extends left.state.settled left.state.doubt last.state.settled mends)

    -- by how much the count rose in opening
    abbrev in_opening : ℕ
    in_opening = count_of (on.faults opened.disk) - count_of (on.faults disk)

    all_counts : DiskRose on (in_opening + rises_of turns + mending) disk last.disk
    all_counts =
        rose_more (on.faults disk) (on.faults left.disk) (on.faults last.disk) (in_opening + rises_of turns) mending _
        (rose_more (on.faults disk) (on.faults opened.disk) (on.faults left.disk) in_opening (rises_of turns) _ (rise_between (on.faults disk) (on.faults opened.disk) opens.counts) takes.counts refl)
        closed.counts refl

    all_images : During on.moment on.since disk last.disk (LeavesAt terms start turns left.state conducted.conduct)
    all_images =
        during_joined (during_weaker _ (λ image holds. inl holds) opens.images)
        (during_weaker _ (λ image has. inr has) (during_joined turn_images (during_weaker _ (λ image never. absurd never) closed.no_image)))

    legal : IsLegalIn terms last.state.settled
    legal =
        mended_has (IsLegalIn terms) left.state last.state.settled
        (laws.legal_conduct terms.founder (Some terms.limit) terms.desk start left.state turns (opens.legal, tt) conducted.conduct) mends

    all_stepped : (Rises (on.faults disk) (on.faults last.disk) → ⊥) → HadMemory turns → IsStepped terms.founder (Some terms.limit) terms.desk opened.state.settled turns last.state.settled
    all_stepped never memory =
        let none = never_rose (on.faults disk) (on.faults last.disk) _ never all_counts in
        let faultless = none_rose turns (omega (arith, none)) in
        let rests = laws.rests terms.founder (Some terms.limit) terms.desk opened.state.settled left.state turns conducted.conduct faultless in
        let same = mended_none left.state last.state.settled (ap (λ (s : OfficeState). s.doubt) rests) mends in
        subst (λ (h : List Entry). IsStepped terms.founder (Some terms.limit) terms.desk opened.state.settled turns h) (sym same)
        (laws.steps terms.founder (Some terms.limit) terms.desk opened.state.settled left.state turns conducted.conduct faultless memory)

    all_kept : KeepsEach on last.disk terms start turns left.state conducted.conduct opened.disk left.disk
    all_kept = keeps_each laws terms on only_now left.disk last.disk closed.no_image start turns left.state conducted.conduct opened.disk (opens.legal, tt) rests conducted.each

    -- the images and the count of the disk at the end
    record OnDisk (at : D) : Type 0 where
      kept : KeepsEach on at terms start turns left.state conducted.conduct opened.disk left.disk
      counts : DiskRose on (in_opening + rises_of turns + mending) disk at
      images : During on.moment on.since disk at (LeavesAt terms start turns left.state conducted.conduct)
      stepped : (Rises (on.faults disk) (on.faults at) → ⊥) → HadMemory turns → IsStepped terms.founder (Some terms.limit) terms.desk opened.state.settled turns last.state.settled

    on_disk : OnDisk now
    on_disk = subst OnDisk (sym disk_is) (record { kept = all_kept; counts = all_counts; images = all_images; stepped = all_stepped })

    pub register_on : RegisterOn on terms disk now turns Closes added
    register_on = record {
      run = record {
        opened = opened;
        opens = opens;
        left = left;
        conduct = conducted.conduct;
        grows = grows terms (laws.grow terms.founder (Some terms.limit) terms.desk) start turns left.state conducted.conduct;
        last = last;
        mending = mending;
        closes = closes;
        closed = closed;
      };
      disk_is = disk_is;
      kept = on_disk.kept;
      opening = in_opening;
      rose_opening = rise_between (on.faults disk) (on.faults opened.disk) opens.counts;
      counts = on_disk.counts;
      images = on_disk.images;
      is_left = record {
        entries = longer opened.state.settled last.state.settled all_extends added counted;
        goes_on = all_extends;
        legal = legal;
        once = laws.once terms.founder terms.desk last.state.settled legal;
        names = laws.names terms.desk last.state.settled;
      };
      stepped = on_disk.stepped;
    }

  -- ---- how it is closed

  module _ (last : CometDeskState D) (now : D) (added : ℕ) (disk_is : now ≡ last.disk) (counted : added ≡ length last.state.settled - length opened.state.settled) where
    not_mended : last ≡ left → RegisterOn on terms disk now turns IsNotMended added
    not_mended same =
        register_on IsNotMended 0 last now added (ap (λ (d : CometDeskState D). d.state) same, refl)
        (subst (λ (d : CometDeskState D). Mends left.state.settled left.state.doubt d.state.settled) (sym same) (nothing_mended left.state.settled left.state.doubt))
        (subst (λ (d : CometDeskState D). IsClosed on 0 left d) (sym same) (closed_as_is on left (takes.at_rest opens.at_rest)))
        disk_is counted

    mended : (rise : ℕ) → IsMended left.state rise last.state → IsClosed on rise left last → RegisterOn on terms disk now turns IsMended added
    mended rise is closed = register_on IsMended rise last now added is is.mends closed disk_is counted

    still_in_doubt : (rise : ℕ) → IsStillInDoubt left.state rise last.state → IsClosed on rise left last → RegisterOn on terms disk now turns IsStillInDoubt added
    still_in_doubt rise is closed = register_on IsStillInDoubt rise last now added is (doubt_stays on left last is.stays) closed disk_is counted

-- ---- what was opened

-- the office that was read is kept as it was opened, in the one that is closed
pub keeps_read : {D : Type 0} (on : DiskWords D) (disks now : DiskPair D) (office closed : PairState D) (added : ℕ) → closed ≡ office → added ≡ 0
    → ((founder : Key) (start : DiskPair D) → Opens on founder start closed → KeepsOffice on founder start now added closed.chained.state.settled)
    → Opens on reader disks office → KeepsOffice on reader disks now 0 office.chained.state.settled
keeps_read {D} on disks now office closed added same none keeps opens =
    let kept = keeps reader disks (subst (λ (o : PairState D). Opens on reader disks o) (sym same) opens) in
    subst (λ (n : ℕ). KeepsOffice on reader disks now n office.chained.state.settled) none
    (subst (λ (o : PairState D). KeepsOffice on reader disks now added o.chained.state.settled) same kept)

-- the terms of the register that was opened beside it
pub terms_opened : {D : Type 0} (on : DiskWords D) (founder : Key) (office : PairState D) (disk : D) (opened : CometDeskState D) → IsOpened on founder register_bytes (deeds office.chained.state.settled) disk opened
    → (front : FrontState D) → front.office ≡ office → front.register ≡ opened → terms_in front ≡ terms_at founder office.chained.state.settled
terms_opened {D} on founder office disk opened opens front same again =
    let desk = deeds office.chained.state.settled in
    ap (λ (o : PairState D). terms_of (deeds o.chained.state.settled) front.register) same
    ∙ ap (λ (r : CometDeskState D). terms_of desk r) again
    ∙ ap (λ (k : Key). record { founder = k; limit = opened.limit; desk = desk }) opens.founder_is
    ∙ ap (λ (n : ℕ). record { founder = founder; limit = n; desk = desk }) opens.limit_is

-- turns from the register that was opened to the one at which serving stopped
pub takes_between : {D : Type 0} (on : DiskWords D) (terms : Terms) (turns : List CometTurn) (old new opened left : CometDeskState D) → old ≡ opened → left ≡ new → TakesTurns on terms old turns new → TakesTurns on terms opened turns left
takes_between {D} on terms turns old new opened left same again takes =
    subst (λ (d : CometDeskState D). TakesTurns on terms opened turns d) (sym again) (subst (λ (d : CometDeskState D). TakesTurns on terms d turns new) same takes)

-- ---- the ends of a run that was served

module _ (laws : RegisterLaws) {D : Type 0} (on : DiskWords D) (only_now : (disk : D) (image : List ℕ) → on.since disk (on.moment disk) image → on.leaves disk image) (course : Course D) (history : List Entry)
    (office : KeepsOffice on reader course.disks.old course.disks.new 0 history) (opened left last : CometDeskState D) (turns : List CometTurn)
    (opens : IsOpened on course.founder (terms_at course.founder history).limit (terms_at course.founder history).desk course.register.old opened)
    (takes : TakesTurns on (terms_at course.founder history) opened turns left) (disk_is : course.register.new ≡ last.disk)
    (counted : course.added ≡ length last.state.settled - length opened.state.settled) (Uncalled : Type 0) where
  abbrev terms : Terms
  terms = terms_at course.founder history

  closed_so : (stopped : Stop) (status : Status) → (same : last ≡ left) → RegisterOn on terms course.register.old course.register.new turns IsNotMended course.added
  closed_so stopped status same =
      not_mended laws on only_now terms course.register.old opened left turns opens takes last course.register.new course.added disk_is counted same

  last_mended : (status : Status) → Serves course.clock.old course.clock.new (Stops course.run stop.Over) turns → MendsLast on left status last → Ends on course Uncalled status
  last_mended status stops ends =
      ⊎_elim
      (λ done. subst (λ (s : Status). Ends on course Uncalled s) (sym done.0) (
        turns,
        stops,
        record {
          history = history;
          office = office;
          register = mended laws on only_now terms course.register.old opened left turns opens takes last course.register.new course.added disk_is counted ends.rise done.1 ends.closed;
        },
      ))
      (λ doubted. subst (λ (s : Status). Ends on course Uncalled s) (sym doubted.0) (inr (
        turns,
        stops,
        record {
          history = history;
          office = office;
          register = still_in_doubt laws on only_now terms course.register.old opened left turns opens takes last course.register.new course.added disk_is counted ends.rise doubted.1 ends.closed;
        },
      )))
      ends.mends

  pub served_ends : (stopped : Stop) (status : Status) → Serves course.clock.old course.clock.new (Stops course.run stopped) turns → Finishes on left stopped status last → Ends on course Uncalled status
  served_ends stop.Over status stops ends = last_mended status stops ends
  served_ends (stop.NoFrameAt offset) status stops (is, same) =
      subst (λ (s : Status). Ends on course Uncalled s) (sym is) (turns, stops, record { history = history; office = office; register = closed_so (stop.NoFrameAt offset) status same })
  served_ends stop.ReadFailed status stops (is, same) =
      subst (λ (s : Status). Ends on course Uncalled s) (sym is) (turns, stops, record { history = history; office = office; register = closed_so stop.ReadFailed status same })
  served_ends stop.WriteFailed status stops (is, same) =
      subst (λ (s : Status). Ends on course Uncalled s) (sym is) (turns, stops, record { history = history; office = office; register = closed_so stop.WriteFailed status same })

-- ---- the ends of a run in which nothing was served

module _ {D : Type 0} (on : DiskWords D) (course : Course D) (Uncalled : Type 0) where
  never : (status : Status) → (IsOfficeShut on course status → ⊥) → (IsRegisterShut on course status → ⊥) → IsNotServed on course Uncalled status → ⊥
  never status office register idle = ⊎_elim office register idle.1

  not_served : (status : Status) → IsNotServed on course Uncalled status → Ends on course Uncalled status
  not_served DiskFault idle = inl idle
  not_served (Damaged file offset) idle = idle
  not_served NoMemory idle = idle
  not_served Done idle = absurd (never Done (λ shut. shut.unopened) (λ shut. shut.unbegun) idle)
  not_served (BadFrame offset) idle = absurd (never (BadFrame offset) (λ shut. shut.unopened) (λ shut. shut.unbegun) idle)
  not_served ReadFault idle = absurd (never ReadFault (λ shut. shut.unopened) (λ shut. shut.unbegun) idle)
  not_served WriteFault idle = absurd (never WriteFault (λ shut. shut.unopened) (λ shut. shut.unbegun) idle)
  not_served Usage idle = never Usage (λ shut. shut.unopened) (λ shut. shut.unbegun) idle
  not_served DoorFault idle = never DoorFault (λ shut. shut.unopened) (λ shut. shut.unbegun) idle
  not_served MirrorFault idle = never MirrorFault (λ shut. shut.unopened) (λ shut. shut.unbegun) idle
  not_served (TooMany count) idle = never (TooMany count) (λ shut. shut.unopened) (λ shut. shut.unbegun) idle

module _ {D : Type 0} (on : DiskWords D) (founder : Key) (disks : Change (DiskPair D)) (register : Change D) (clock : ClockState) (added : ℕ) where
  -- the course of a run in which nothing was served
  abbrev pub idle_course : Run → Course D
  idle_course run = record { founder = founder; disks = disks; register = register; clock = change clock clock; run = run; added = added }

  pub nothing_served : {S : Type 0} (left : S → Option (List ℕ)) (gives : Passes S) (source : S) (taken : Option (List ℕ)) (Uncalled : Type 0) (uncalled : Uncalled) (status : Status)
      → ((run : Run) → IsOfficeShut on (idle_course run) status ⊎ IsRegisterShut on (idle_course run) status)
      → (run : Run) × Supplies left gives (AwaitsNext run.answered) source source run.came run.more × Appends taken taken run.texts × Ends on (idle_course run) Uncalled status
  nothing_served left gives source taken Uncalled uncalled status shut =
      let more : List ℕ = (remaining (left source)).0 in
      let run : Run = record { came = []; more = more; answered = 0; texts = [] } in (
        run,
        supplies_nothing left gives (AwaitsNext 0) source,
        Appends-nil taken,
        not_served on (idle_course run) Uncalled status (record { uncalled = uncalled; came = refl; texts = refl }, shut run),
      )

  pub office_shut : (status : Status) → EndsUnopened on reader disks.old disks.new added status → register.new ≡ register.old → (run : Run) → IsOfficeShut on (idle_course run) status ⊎ IsRegisterShut on (idle_course run) status
  office_shut status unopened same run = inl (record { unopened = unopened; uncalled = same })

  pub register_shut : (status : Status) (history : List Entry) → KeepsOffice on reader disks.old disks.new 0 history → EndsUnbegun on founder (deeds history) register.old register.new status → added ≡ 0
      → (run : Run) → IsOfficeShut on (idle_course run) status ⊎ IsRegisterShut on (idle_course run) status
  register_shut status history office unbegun none run = inr (record { history = history; office = office; unbegun = unbegun; added = none })
