-- The router that has the routes.
use Rattle.std.specs.Prelude.{Bool, Err, List, Ok, Result, [], false, is_none, true, ◌&&◌, ◌∷◌}
use Rattle.matchit.specs.Order.{placed}
use Rattle.matchit.specs.Route.{Scan, parse_route}
use Rattle.matchit.specs.Router.{RouteOf, nearest, route_from}
use Rattle.matchit.specs.Rows.{RowsOf}
use Rattle.matchit.specs.declared.error.InsertError.{InsertError}
use Rattle.gt_requests.specs.Resources.{resources, route_text}
use Rattle.gt_requests.specs.declared.resource.Resource.{Resource}

-- the rows of a router
abbrev pub Rows : Type 0
Rows = RowsOf (RouteOf Resource)

abbrev pub added : Result Scan InsertError → Resource → Rows → Rows
added (Ok scan) r rows = placed ((route_from scan r).pattern, route_from scan r) rows
added (Err e) r rows = rows

-- the rows, and one more
abbrev pub with_route : Resource → Rows → Rows
with_route r rows = added (parse_route (route_text r)) r rows

unfoldable pub table_from : List Resource → Rows → Rows
table_from [] rows = rows
table_from (r ∷ rs) rows = table_from rs (with_route r rows)

-- the rows of all routes
abbrev pub table : Rows
table = table_from resources []

-- the text is a route, which conflicts with none of these rows
abbrev pub takes : Rows → Result Scan InsertError → Bool
takes rows (Ok scan) = is_none (nearest scan.pattern rows)
takes rows (Err e) = false

abbrev pub is_apart : Resource → Rows → Bool
is_apart r rows = takes rows (parse_route (route_text r))

-- the same of each of these, with those before it among the rows
unfoldable pub are_apart : List Resource → Rows → Bool
are_apart [] rows = true
are_apart (r ∷ rs) rows = is_apart r rows && are_apart rs (with_route r rows)
