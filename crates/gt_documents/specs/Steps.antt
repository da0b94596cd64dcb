-- The steps of a place, as it holds them.
use Rattle.std.specs.Prelude.{List, None, Option, Some, [], ◌∷◌}
use Rattle.gt_documents.specs.declared.place.Step.{Step}

-- the steps from this one on; without it there are none
abbrev pub steps_of : Option Step → List Step → List Step
steps_of None rest = []
steps_of (Some step) rest = step ∷ rest
