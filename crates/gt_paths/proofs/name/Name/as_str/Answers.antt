use Rattle.gt_paths.proofs.NameLemmas.{is_name-from_IsName}
use Rattle.gt_paths.proofs.name.Name.as_str.Goals as goal

pub returns-clause-test : goal.returns-clause-test
returns-clause-test c = rw (← c.self.view_is) (is_name-from_IsName _ c.self.invariant)
