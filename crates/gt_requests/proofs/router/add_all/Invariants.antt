use Rattle.std.proofs.Common.{◌≡◌, drop, true}
use Rattle.gt_requests.specs.Router.{are_apart, table_from}
use Rattle.gt_requests.proofs.router.add_all.Given as goal

-- what is left to add is apart from the rows, and leads to those that all lead to
abbrev pub invariant-loop-resource : goal.invariant-loop-resource
invariant-loop-resource l = record {
  apart : are_apart (drop l.resource-index l.resources) l.router ≡ true;
  rows : table_from (drop l.resource-index l.resources) l.router ≡ table_from l.resources l.fn.router;
}
