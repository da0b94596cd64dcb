use Rattle.gt_forest.proofs.CallLemmas.{folder_is_no_file, folder_is_there}
use Rattle.gt_forest.proofs.ListingLemmas.{is_listing}
use Rattle.gt_forest.proofs.TreeLemmas.{held-child}
use Rattle.gt_forest.proofs.tree.MemTree.list.Goals as goal
use Rattle.gt_forest.specs.Listing.{IsListing}
use Rattle.gt_forest.specs.Rows.{contents_of, entry_of, folder_rows, held_at, tree_of}
use Rattle.gt_forest.specs.Tree.{is_file}
use Rattle.std.proofs.Common.{Some, ap, false, is_none, is_some, option_and_then, option_copied, rules, subst, sym, ◌∙◌, ◌≡◌}

pub returns-clause-ok : goal.returns-clause-ok
returns-clause-ok c =
    let m = c.self.inside in
    let es = c.in-Some.found.now.entries in
    let there : contents_of (folder_rows m.folders) c.args.path.now ≡ Some es = search rules in
    let listing = is_listing (held_at m.root (folder_rows m.folders)) c.args.path.now (option_copied c.args.after) c.args.limit es
    (λ name. held-child m.root (folder_rows m.folders) c.args.path.now name ∙ ap (option_and_then (λ contents. entry_of contents name)) there) c.in_ok-entries.ensures.indexed in
    (subst (IsListing (held_at m.root (folder_rows m.folders)) c.args.path.now (option_copied c.args.after) c.args.limit) (sym c.in_ok-entries.ensures.listed) listing).order

pub returns-clause-answer : goal.returns-clause-answer
returns-clause-answer c =
    let m = c.self.inside in
    let es = c.in-Some.found.now.entries in
    let there : contents_of (folder_rows m.folders) c.args.path.now ≡ Some es = search rules in
    let listing = is_listing (held_at m.root (folder_rows m.folders)) c.args.path.now (option_copied c.args.after) c.args.limit es
    (λ name. held-child m.root (folder_rows m.folders) c.args.path.now name ∙ ap (option_and_then (λ contents. entry_of contents name)) there) c.in_ok-entries.ensures.indexed in
    let folder = c.self.invariant.folders_held c.args.path.now ∙ ap is_some there in (
      record {
        denied = search rules;
        absent = subst (λ v. is_none (held_at v.root v.folders c.args.path.now) ≡ false) c.self.view_is (folder_is_there _ folder);
        kind = subst (λ v. is_file (held_at v.root v.folders c.args.path.now) ≡ false) c.self.view_is (folder_is_no_file _ folder);
        empty = λ full. full;
      },
      subst (λ v. IsListing (tree_of v).nodes c.args.path.now (option_copied c.args.after) c.args.limit c.in_ok-entries.entries.items) c.self.view_is
          (subst (IsListing (held_at m.root (folder_rows m.folders)) c.args.path.now (option_copied c.args.after) c.args.limit) (sym c.in_ok-entries.ensures.listed) listing),
    )
