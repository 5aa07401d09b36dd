use Rattle.std.proofs.Common.{rules, ◌≡◌, ◌+◌, ◌-◌, ◌++◌, length, take, drop, arith, ◌∙◌, ap, subst, length-drop}
use Rattle.std.proofs.lemmas.Option.{IfSome_then}
use Rattle.std.specs.Prelude.{IfSome, Ok}
use Rattle.obs_journal.specs.Parcels.{RawParcel, IsParcel}
use Rattle.obs_journal.specs.Formats.{seal_length, kept_seal}
use Rattle.std.specs.Int.{w64}
use Rattle.std.specs.Int.RustNames.{FitsSigned}
use Rattle.obs_journal.specs.Fronts.{with_body}
use Rattle.obs_journal.proofs.Heads.{no_room}
use Rattle.obs_journal.proofs.Fronts.{made_of, sealed_behind, wrong_behind}
use Rattle.obs_journal.proofs.gates.read_parcel.Goals as goal

pub returns-then-not-branch-clause-behind : goal.returns-then-not-branch-clause-behind
returns-then-not-branch-clause-behind g c =
    IfSome_then (g.D.Disk.reads c.args.disk.now) (c.in_ok-read_bytes.ensures.ends (ap Ok c.if-not-branch.true)) (λ file short.
    no_room c.args.format (kept_seal c.args.format c.args.last.now) (drop c.args.at file) c.args.head c.requires.least (omega (arith, c.requires.most)) (omega (arith, short, c.seal_bytes.ensures, length-drop c.args.at file)))

pub returns-then-not-is_seal-clause-behind : goal.returns-then-not-is_seal-clause-behind
returns-then-not-is_seal-clause-behind g c =
    let said = c.in_ok-read_bytes.ensures.whole (ap Ok c.if-not-branch.false) in
    let long = c.in_ok-read_bytes.ensures.length (ap Ok c.if-not-branch.false) in
    let n = c.args.head.counted - 21 in
    let count = n + c.seal_bytes.result in
    let fits_moment : FitsSigned w64 c.args.head.moment = search rules in
    let p_is : c.in_ok-parcel.parcel ≡ with_body c.args.head c.split_at.result.0.now = c.in_ok-parcel.ensures ∙ made_of c.args.head c.split_at.result.0.now fits_moment in
    let own_long : length c.split_at.result.1.now ≡ seal_length c.args.format = omega (arith, long, ap length c.clear.ensures.items, c.seal_bytes.ensures, ap length c.deref.ensures.value, c.split_at.ensures.back_len) in
    IfSome_then (g.D.Disk.reads c.args.disk.now) (subst (λ b. IfSome (g.D.Disk.reads c.args.disk.now) (λ file. c.read_bytes.new.bytes.items ≡ b ++ take count (drop c.args.at file))) c.clear.ensures.items said) (λ file got_is.
    wrong_behind c.args.format (kept_seal c.args.format c.args.last.now) (kept_seal c.args.format c.next-digest.result) (drop c.args.at file) c.read_bytes.new.bytes.items c.split_at.result.0.now c.split_at.result.1.now n count c.args.head c.in_ok-parcel.parcel got_is
    (c.split_at.ensures.front ∙ ap (λ l. take n l) c.deref.ensures.value) (c.split_at.ensures.back ∙ ap (λ l. drop n l) c.deref.ensures.value) (omega (arith, c.split_at.ensures.front_len, c.requires.least)) p_is c.next-digest.ensures
    (subst (λ (p : RawParcel). IsParcel p) c.parcel.view_is c.parcel.invariant.fits) own_long (λ same. let t = c.is_seal.ensures.1 same in let f = c.if-not-is_seal.true in absurd (cc (t, f))))

pub returns-clause-behind : goal.returns-clause-behind
returns-clause-behind g c =
    let said = c.in_ok-read_bytes.ensures.whole (ap Ok c.if-not-branch.false) in
    let n = c.args.head.counted - 21 in
    let count = n + c.seal_bytes.result in
    let fits_moment : FitsSigned w64 c.args.head.moment = search rules in
    let p_is : c.in_ok-parcel.parcel ≡ with_body c.args.head c.split_at.result.0.now = c.in_ok-parcel.ensures ∙ made_of c.args.head c.split_at.result.0.now fits_moment in
    IfSome_then (g.D.Disk.reads c.args.disk.now) (subst (λ b. IfSome (g.D.Disk.reads c.args.disk.now) (λ file. c.read_bytes.new.bytes.items ≡ b ++ take count (drop c.args.at file))) c.clear.ensures.items said) (λ file got_is.
    sealed_behind c.args.format (kept_seal c.args.format c.args.last.now) (kept_seal c.args.format c.next-digest.result) (drop c.args.at file) c.read_bytes.new.bytes.items c.split_at.result.0.now c.split_at.result.1.now n count c.args.head c.in_ok-parcel.parcel got_is
    (c.split_at.ensures.front ∙ ap (λ l. take n l) c.deref.ensures.value) (c.split_at.ensures.back ∙ ap (λ l. drop n l) c.deref.ensures.value) (omega (arith, c.split_at.ensures.front_len, c.requires.least)) p_is c.next-digest.ensures
    (c.is_seal.ensures.0 c.if-not-is_seal.false))
