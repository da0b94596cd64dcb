use Rattle.std.proofs.Common.{◌≡◌, ◌++◌, Ok, drop, length, true}
use Rattle.std.specs.List.{list_all}
use Rattle.serde_json.specs.View.{items_view}
use Rattle.gt_documents.specs.Lists.{items_from}
use Rattle.gt_values.specs.Results.{◌>>=◌}
use Rattle.gt_documents.proofs.lists.each_item.Given as goal

-- the items so far, and what is left to read
abbrev pub invariant-loop-at : goal.invariant-loop-at
invariant-loop-at g l =
    let read = g.R.ReadItem.reading l.reader in
    record {
      value :
          items_from read l.list 0 (items_view l.values)
          ≡ (items_from read l.list l.at (items_view (drop l.at l.values)) >>= λ rest. Ok (l.items.items ++ rest));
      count : length l.items.items ≡ l.at;
      good : list_all (g.R.ReadItem.is_good l.reader) l.items.items ≡ true;
    }
