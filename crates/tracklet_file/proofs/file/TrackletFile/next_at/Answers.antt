use Rattle.std.proofs.Common.{◌≡◌, ℕ, ◌∷◌, Option, ap, sym, subst, ◌∙◌}
use Rattle.std.specs.Prelude.{reverse, IfSome}
use Rattle.tracklet_file.specs.Tracklets.{later_at, next_at}
use Rattle.tracklet_file.specs.Contents.{Contents}
use Rattle.tracklet_file.proofs.HomeLemmas.{first_at, next_from, rest_from}
use Rattle.tracklet_file.proofs.file.TrackletFile.next_at.Goals as goal

pub returns-clause-next : goal.returns-clause-next
returns-clause-next c =
    let tracklets = reverse c.self.inside.tracklets.items in
    let first = first_at c.orders.ensures c.args.d c.args.after tracklets _ c.self.invariant.homed c.next_above.result c.next_above.ensures in
    c.number_at.ensures ∙ next_from tracklets c.args.d c.args.after _ first ∙ ap (λ (v : Contents). next_at v.tracklets c.args.d c.args.after) c.self.view_is

pub returns-clause-rest : goal.returns-clause-rest
returns-clause-rest c =
    let tracklets = reverse c.self.inside.tracklets.items in
    let first = first_at c.orders.ensures c.args.d c.args.after tracklets _ c.self.invariant.homed c.next_above.result c.next_above.ensures in
    subst (λ (v : Contents). IfSome c.number_at.result (λ t. later_at v.tracklets c.args.d c.args.after ≡ t ∷ later_at v.tracklets c.args.d t)) c.self.view_is
    (subst (λ (o : Option ℕ). IfSome o (λ t. later_at tracklets c.args.d c.args.after ≡ t ∷ later_at tracklets c.args.d t)) (sym c.number_at.ensures) (rest_from tracklets c.args.d c.args.after _ first))
