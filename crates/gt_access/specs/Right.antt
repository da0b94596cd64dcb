-- What a caller may do with a path.
use Rattle.std.specs.List.{list_any}
use Rattle.std.specs.Prelude.{Bool, List, false, filter, fold, if◌then◌else◌, length, map, max, true, ℕ, ◌&&◌, ◌==◌}
use Rattle.std.specs.Str.{bytes_eq}
use Rattle.gt_access.specs.declared.row.AccessRow.{AccessRow}
use Rattle.gt_access.specs.declared.row.Right.{Right}
use Rattle.gt_access.specs.declared.row.Right.TheVariants.{Nothing, Read, Write}
use Rattle.gt_paths.specs.Path.{PathValue, is_under}
use Rattle.gt_values.specs.Life.{is_alive}
use Rattle.gt_types.specs.declared.rule.Principal.{Principal}
use Rattle.gt_types.specs.declared.rule.Principal.TheVariants.{AllAuthenticated, Anonymous, Group, Identity}
use Rattle.gt_types.specs.declared.rule.Who.{Who}

-- whether the principal is the caller, one of the caller's groups, or everybody
abbrev pub is_named : Principal → Who → Bool
is_named (Identity id) who = bytes_eq id who.identity
is_named (Group id) who = list_any (λ group. bytes_eq group id) who.groups
is_named AllAuthenticated who = true
is_named Anonymous who = true

-- whether the rule is alive at k, and is for the caller and the path
abbrev pub applies : ℕ → Who → ℕ → PathValue → AccessRow → Bool
applies k who collection path row =
    is_alive k row.born row.ended && (row.collection == collection)
    && is_named row.spec.principal who && is_under path row.spec.path

-- the length of the longest path
abbrev pub longest : List AccessRow → ℕ
longest rows = fold max 0 (map (λ row. length row.spec.path) rows)

-- those with a path of this length
abbrev pub of_length : ℕ → List AccessRow → List AccessRow
of_length depth rows = filter (λ row. length row.spec.path == depth) rows

-- those with the longest path
abbrev pub deepest : List AccessRow → List AccessRow
deepest rows = of_length (longest rows) rows

-- the greatest permission of the rows
abbrev pub greatest_right : List AccessRow → Right
greatest_right rows =
    if list_any (λ row. row.spec.write) rows then Write else if length rows == 0 then Nothing else Read

-- the right at the event k; the owner of the collection has each
abbrev pub right_of : ℕ → Who → ℕ → List ℕ → PathValue → List AccessRow → Right
right_of k who collection owner path rows =
    if bytes_eq owner who.identity then Write else greatest_right (deepest (filter (applies k who collection path) rows))

-- whether the right lets one read
abbrev pub may_read : Right → Bool
may_read Nothing = false
may_read Read = true
may_read Write = true

-- whether the right lets one write
abbrev pub may_write : Right → Bool
may_write Nothing = false
may_write Read = false
may_write Write = true
