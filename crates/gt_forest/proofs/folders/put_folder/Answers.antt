use Rattle.gt_forest.proofs.MapLemmas.{puts_folder}
use Rattle.gt_forest.proofs.folders.put_folder.Goals as goal
use Rattle.gt_forest.specs.Rows.{PutsFolder, folder_rows}
use Rattle.std.proofs.Common.{Some, subst}

pub returns-clause-ok : goal.returns-clause-ok
returns-clause-ok c =
    subst (λ contents. PutsFolder c.args.path.items (Some contents) (folder_rows c.args.folders.now) (folder_rows c.insert.new.self)) c.new.ensures.empty
    (puts_folder c.args.folders.now c.insert.new.self c.args.path.items (Some c.new.result) c.in_ok-insert.ensures.updates)
