use Rattle.std.proofs.Common.{◌≡◌, ◌∙◌, ◌-◌, length, Some, ap, arith, sym}
use Rattle.obs_journal.specs.Formats.{front_length}
use Rattle.obs_journal.specs.declared.format.Format.TheVariants.{Chained}
use Rattle.obs_journal.specs.Chains.{IsChain}
use Rattle.obs_journal.specs.Journals.{IsDoubtfulIn}
use Rattle.obs_journal.proofs.Steps.{each_now, rows_stay, are_staged, are_doubtful, are_more, during_stage, during_gate}
use Rattle.obs_journal.proofs.Chains.{at_gate, bytes_next, reached_more}
use Rattle.obs_journal.proofs.journal.Journal.append.Goals as goal

pub returns-in_default-clause-untouched : goal.returns-in_default-clause-untouched
returns-in_default-clause-untouched g c = rw (← c.self.view_is) (λ _ ps h.
    let rows = rows_stay g.D.Disk.reads g.D.Disk.leaves g.D.Disk.moment g.D.Disk.since g.met.D.Disk.as_read g.met.D.Disk.counts_now Chained ps c.args.parcel c.self.inside.reached.position (length c.deref.result.now) (at_gate c.self.inside.reached ps h.reached) h.images c.stage.ensures.images in
    record {
      images = each_now g.D.Disk.reads g.D.Disk.leaves g.D.Disk.moment g.D.Disk.since g.met.D.Disk.as_read g.met.D.Disk.counts_now (λ image. IsChain image ps) c.stage.ensures.time rows;
      reached = h.reached;
      in_doubt = h.in_doubt;
    })

pub returns-in_default-clause-any_moment : goal.returns-in_default-clause-any_moment
returns-in_default-clause-any_moment g c = rw (← c.self.view_is) (λ ps h.
    let rows = rows_stay g.D.Disk.reads g.D.Disk.leaves g.D.Disk.moment g.D.Disk.since g.met.D.Disk.as_read g.met.D.Disk.counts_now Chained ps c.args.parcel c.self.inside.reached.position (length c.deref.result.now) (at_gate c.self.inside.reached ps h.reached) h.images c.stage.ensures.images in
    during_stage g.D.Disk.reads g.D.Disk.leaves g.D.Disk.moment g.D.Disk.since g.met.D.Disk.as_read g.met.D.Disk.counts_now Chained ps c.args.parcel c.stage.ensures.time rows)

pub returns-in_default-open_gate-clause-in_doubt : goal.returns-in_default-open_gate-clause-in_doubt
returns-in_default-open_gate-clause-in_doubt g c = rw (← c.self.view_is) (λ _ ps h.
    let gate : c.self.inside.reached.position - 1 ≡ front_length Chained ps = omega (arith, at_gate c.self.inside.reached ps h.reached) in
    let half = are_staged g.D.Disk.reads g.D.Disk.leaves g.D.Disk.moment g.D.Disk.since g.met.D.Disk.as_read g.met.D.Disk.counts_now Chained ps c.args.parcel c.self.inside.reached.position c.deref.result.now (at_gate c.self.inside.reached ps h.reached) (bytes_next c.self.inside.reached ps c.args.parcel _ _ h.reached c.sealed-sealed.ensures.digest (c.deref.ensures.value ∙ c.sealed-sealed.ensures.bytes)) c.sealed-sealed.ensures.fits h.images c.in-Ok.ensures.safe in
    let doubtful = are_doubtful g.D.Disk.reads g.D.Disk.leaves g.D.Disk.moment g.D.Disk.since g.met.D.Disk.as_read g.met.D.Disk.counts_now Chained ps c.args.parcel (c.self.inside.reached.position - 1) gate half c.open_gate.ensures.images in
    record {
      images = each_now g.D.Disk.reads g.D.Disk.leaves g.D.Disk.moment g.D.Disk.since g.met.D.Disk.as_read g.met.D.Disk.counts_now (λ image. IsDoubtfulIn Chained image ps c.args.parcel) c.open_gate.ensures.time doubtful;
      reached = h.reached;
      in_doubt = ap Some (reached_more c.self.inside.reached ps c.args.parcel _ _ h.reached (c.len.ensures ∙ sym c.deref.ensures.len ∙ ap length c.deref.ensures.value ∙ c.sealed-sealed.ensures.length) c.sealed-sealed.ensures.digest);
    })

pub returns-in_default-open_gate-clause-any_moment : goal.returns-in_default-open_gate-clause-any_moment
returns-in_default-open_gate-clause-any_moment g c = rw (← c.self.view_is) (λ ps h.
    let gate : c.self.inside.reached.position - 1 ≡ front_length Chained ps = omega (arith, at_gate c.self.inside.reached ps h.reached) in
    let rows = rows_stay g.D.Disk.reads g.D.Disk.leaves g.D.Disk.moment g.D.Disk.since g.met.D.Disk.as_read g.met.D.Disk.counts_now Chained ps c.args.parcel c.self.inside.reached.position (length c.deref.result.now) (at_gate c.self.inside.reached ps h.reached) h.images c.stage.ensures.images in
    let half = are_staged g.D.Disk.reads g.D.Disk.leaves g.D.Disk.moment g.D.Disk.since g.met.D.Disk.as_read g.met.D.Disk.counts_now Chained ps c.args.parcel c.self.inside.reached.position c.deref.result.now (at_gate c.self.inside.reached ps h.reached) (bytes_next c.self.inside.reached ps c.args.parcel _ _ h.reached c.sealed-sealed.ensures.digest (c.deref.ensures.value ∙ c.sealed-sealed.ensures.bytes)) c.sealed-sealed.ensures.fits h.images c.in-Ok.ensures.safe in
    let doubtful = are_doubtful g.D.Disk.reads g.D.Disk.leaves g.D.Disk.moment g.D.Disk.since g.met.D.Disk.as_read g.met.D.Disk.counts_now Chained ps c.args.parcel (c.self.inside.reached.position - 1) gate half c.open_gate.ensures.images in
    during_gate g.D.Disk.reads g.D.Disk.leaves g.D.Disk.moment g.D.Disk.since g.met.D.Disk.as_read g.met.D.Disk.counts_now Chained ps c.args.parcel (during_stage g.D.Disk.reads g.D.Disk.leaves g.D.Disk.moment g.D.Disk.since g.met.D.Disk.as_read g.met.D.Disk.counts_now Chained ps c.args.parcel c.stage.ensures.time rows) c.open_gate.ensures.time doubtful)

pub returns-clause-added : goal.returns-clause-added
returns-clause-added g c = rw (← c.self.view_is) (λ ps h.
    let gate : c.self.inside.reached.position - 1 ≡ front_length Chained ps = omega (arith, at_gate c.self.inside.reached ps h.reached) in
    let half = are_staged g.D.Disk.reads g.D.Disk.leaves g.D.Disk.moment g.D.Disk.since g.met.D.Disk.as_read g.met.D.Disk.counts_now Chained ps c.args.parcel c.self.inside.reached.position c.deref.result.now (at_gate c.self.inside.reached ps h.reached) (bytes_next c.self.inside.reached ps c.args.parcel _ _ h.reached c.sealed-sealed.ensures.digest (c.deref.ensures.value ∙ c.sealed-sealed.ensures.bytes)) c.sealed-sealed.ensures.fits h.images c.in-Ok.ensures.safe in
    record {
      images = are_more g.D.Disk.reads g.D.Disk.leaves g.D.Disk.moment g.D.Disk.since g.met.D.Disk.as_read g.met.D.Disk.counts_now Chained ps c.args.parcel (c.self.inside.reached.position - 1) gate half c.in-Ok-open_gate.ensures.safe;
      reached = reached_more c.self.inside.reached ps c.args.parcel _ _ h.reached (c.len.ensures ∙ sym c.deref.ensures.len ∙ ap length c.deref.ensures.value ∙ c.sealed-sealed.ensures.length) c.sealed-sealed.ensures.digest;
      in_doubt = h.in_doubt;
    })

pub returns-clause-any_moment : goal.returns-clause-any_moment
returns-clause-any_moment g c = rw (← c.self.view_is) (λ ps h.
    let gate : c.self.inside.reached.position - 1 ≡ front_length Chained ps = omega (arith, at_gate c.self.inside.reached ps h.reached) in
    let rows = rows_stay g.D.Disk.reads g.D.Disk.leaves g.D.Disk.moment g.D.Disk.since g.met.D.Disk.as_read g.met.D.Disk.counts_now Chained ps c.args.parcel c.self.inside.reached.position (length c.deref.result.now) (at_gate c.self.inside.reached ps h.reached) h.images c.stage.ensures.images in
    let half = are_staged g.D.Disk.reads g.D.Disk.leaves g.D.Disk.moment g.D.Disk.since g.met.D.Disk.as_read g.met.D.Disk.counts_now Chained ps c.args.parcel c.self.inside.reached.position c.deref.result.now (at_gate c.self.inside.reached ps h.reached) (bytes_next c.self.inside.reached ps c.args.parcel _ _ h.reached c.sealed-sealed.ensures.digest (c.deref.ensures.value ∙ c.sealed-sealed.ensures.bytes)) c.sealed-sealed.ensures.fits h.images c.in-Ok.ensures.safe in
    let doubtful = are_doubtful g.D.Disk.reads g.D.Disk.leaves g.D.Disk.moment g.D.Disk.since g.met.D.Disk.as_read g.met.D.Disk.counts_now Chained ps c.args.parcel (c.self.inside.reached.position - 1) gate half c.open_gate.ensures.images in
    during_gate g.D.Disk.reads g.D.Disk.leaves g.D.Disk.moment g.D.Disk.since g.met.D.Disk.as_read g.met.D.Disk.counts_now Chained ps c.args.parcel (during_stage g.D.Disk.reads g.D.Disk.leaves g.D.Disk.moment g.D.Disk.since g.met.D.Disk.as_read g.met.D.Disk.counts_now Chained ps c.args.parcel c.stage.ensures.time rows) c.open_gate.ensures.time doubtful)
