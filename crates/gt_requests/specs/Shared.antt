-- The members that the documents of several submissions have.
use Rattle.std.specs.Prelude.{List, Ok, Option, Result, [], codes, ℕ, ◌∷◌}
use Rattle.serde_json.specs.Data.{Data}
use Rattle.gt_documents.specs.Members.{absent_at, flag_at, text_if}
use Rattle.gt_documents.specs.Place.{Place}
use Rattle.gt_documents.specs.declared.values.TextLimit.TheVariants.{Characters}
use Rattle.gt_types.specs.Kept.{kept_members, name_of, no_kept, with_flag}
use Rattle.gt_types.specs.declared.kept.Kept.{Kept}
use Rattle.gt_types.specs.declared.kept.KeptMember.{KeptMember}
use Rattle.gt_values.specs.Results.{◌>>=◌}

-- a label of at most 128 characters, if it is there
abbrev pub label_at : Data → Result (Option (List ℕ)) Place
label_at d = text_if (Characters 128) d (codes "label")

-- no deadline
abbrev pub deadline_at : Data → Result Unit Place
deadline_at d = absent_at d (codes "deadline")

-- what is given of one more member without effect
abbrev pub with_member : Data → Kept → KeptMember → Result Kept Place
with_member d kept m = flag_at d (name_of m) >>= λ flag. Ok (with_flag kept m flag)

-- what is given of each of them, one after the other
abbrev pub kept_among : Data → Kept → List KeptMember → Result Kept Place
kept_among d kept [] = Ok kept
kept_among d kept (m ∷ ms) = with_member d kept m >>= λ more. kept_among d more ms

-- what is given of the six members without effect
unfoldable pub kept_at : Data → Result Kept Place
kept_at d = kept_among d no_kept kept_members
