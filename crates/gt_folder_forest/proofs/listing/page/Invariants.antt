use Rattle.gt_folder_forest.proofs.listing.page.Given as goal
use Rattle.gt_forest.specs.Listing.{names_of}
use Rattle.gt_folder_forest.proofs.PageLemmas.{IsRow}
use Rattle.std.proofs.Common.{length, option_copied, ◌++◌, ◌≤◌}
use Rattle.std.specs.Map.{keys_of}

-- what was given is short, and begins the names that are wanted
abbrev pub invariant-loop-name : goal.invariant-loop-name
invariant-loop-name g l = record {
  few : length l.entries.items ≤ l.limit;
  row : IsRow (option_copied l.after) (names_of l.entries.items ++ keys_of l.name-iterator);
}
