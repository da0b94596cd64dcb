use Rattle.std.proofs.Common.{sym}
use Rattle.gt_requests.specs.Resources.{resource_at, resources}
use Rattle.gt_requests.proofs.ApartLemmas.{the_resource, no_resource}
use Rattle.gt_requests.proofs.RowLemmas.{found_is_at, none_is_at, bytes_of_text}
use Rattle.gt_requests.proofs.router.found.Goals as goal

pub returns-in-Ok : goal.returns-in-Ok
unfolding resource_at
returns-in-Ok c =
    let path = c.args.path.now in
    let t = c.type_inv.path in
    sym (the_resource _ path (found_is_at path _ (bytes_of_text path t) (rw c.requires at c.in-Ok.ensures.found)))

pub returns-in-Err : goal.returns-in-Err
unfolding resource_at
returns-in-Err c = let path = c.args.path.now in sym (no_resource resources path (none_is_at path (rw c.requires at c.in-Err.ensures.missing)))
