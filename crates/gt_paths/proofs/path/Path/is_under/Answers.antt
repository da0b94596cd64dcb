use Rattle.gt_paths.proofs.PathLemmas.{is_under-says, starts_with-is_under}
use Rattle.gt_paths.proofs.path.Path.is_under.Goals as goal

pub returns-clause-test : goal.returns-clause-test
returns-clause-test c =
    rw (c.starts_with.ensures.value, c.as_slice.ensures.value, c.as_slice-2.ensures.value, ← c.self.view_is, ← c.folder.view_is)
    (starts_with-is_under c.self.inside.names.items c.folder.inside.names.items)

pub returns-clause-prefix : goal.returns-clause-prefix
returns-clause-prefix c = rw (returns-clause-test c) (is_under-says _ _)
