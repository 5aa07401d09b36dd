-- The routes of the office, as a matchit router sees them, and what a path is that has one.
use Rattle.std.specs.Prelude.{◌≡◌, ℕ, ◌<◌, List, [], ◌∷◌, ◌++◌, length, false, None, codes}
use Rattle.matchit.specs.Rows.{RowsOf, param_token}
use Rattle.matchit.specs.Router.{RouteOf}
use Rattle.matchit.specs.Seek.{first, has_slash, slash}
use Rattle.desk_http.specs.declared.routes.Route.{Route}
use Rattle.desk_http.specs.declared.routes.Route.TheVariants as routes
use Rattle.desk_http.specs.declared.routes.Routed.{Routed}
use Rattle.desk_http.specs.declared.routes.Routed.TheVariants as routed

-- the route of an act, `/v1/act/{number}/{verb}`
abbrev pub act_route : RouteOf Route
act_route = record {
  pattern = codes "/v1/act/" ++ param_token ∷ slash ∷ param_token ∷ [];
  text = codes "/v1/act/{number}/{verb}";
  names = (9, 15) ∷ (18, 22) ∷ [];
  value = routes.Act;
}

-- the route of a query, `/v1/ask/{verb}`
abbrev pub query_route : RouteOf Route
query_route = record {
  pattern = codes "/v1/ask/" ++ param_token ∷ [];
  text = codes "/v1/ask/{verb}";
  names = (9, 13) ∷ [];
  value = routes.Query;
}

-- the rows of the router
abbrev pub office_routes : RowsOf (RouteOf Route)
office_routes = (act_route.pattern, act_route) ∷ (query_route.pattern, query_route) ∷ []

-- a path of an act is `/v1/act/`, a number of at least one byte without a slash, a slash and a verb; a path of a query
-- is `/v1/ask/` and a verb
abbrev pub IsRouted : List ℕ → Routed → Type 0
IsRouted path (routed.Act number verb) =
    (path ≡ codes "/v1/act/" ++ (number.now ++ slash ∷ verb.now)) × (has_slash number.now ≡ false)
    × (0 < length number.now)
IsRouted path (routed.Query verb) = path ≡ codes "/v1/ask/" ++ verb.now
IsRouted path routed.Nothing = first office_routes path ≡ None
