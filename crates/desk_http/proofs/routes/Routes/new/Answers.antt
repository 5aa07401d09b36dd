use Rattle.std.proofs.Common.{refl}
use Rattle.matchit.specs.Route.{scan}
use Rattle.desk_http.proofs.routes.Routes.new.Goals as goal

pub invariant_of-result : goal.invariant_of-result
unfolding scan
invariant_of-result c = rw (c.in-Ok-insert.ensures.1, c.in-Ok.ensures.1, c.new-router.ensures) refl
