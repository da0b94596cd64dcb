use denote.Shadow.{shadow}
use denote.Text.{Utf8}
use Rattle.std.proofs.Common.{◌≡◌, ◌≤◌, ◌<◌, ◌+◌, ◌++◌, List, ℕ, None, length}
use Rattle.gt_paths.specs.Draft.{IsDraftOf}
use Rattle.gt_paths.specs.Path.{PathValue}
use Rattle.gt_paths.specs.PathText.{first_bad, pieces_of}
use Rattle.gt_paths.specs.declared.draft.Draft.{Draft}
use Rattle.gt_paths.proofs.draft.Draft.read.Given as goal

-- the pieces before the rest are names, and have been added
pub record Reads (old new : Draft) (text rest : List ℕ) (place at : ℕ) (seen : PathValue) : Type 0 where
  pub pieces : pieces_of text ≡ seen ++ pieces_of rest
  pub good : first_bad seen ≡ None
  pub draft : (names : PathValue) → IsDraftOf old names → IsDraftOf new (names ++ seen)
  pub counted : at ≡ length seen + place
  pub shorter : length rest ≤ length text
  pub depth : new.depth + length rest ≤ old.depth + length text
  pub places : at + length rest ≤ place + length text
  pub bytes : new.bytes ≤ old.bytes + length text + 1
  pub more : 0 < length rest → new.bytes + length rest ≤ old.bytes + length text

abbrev pub invariant-loop-rest : goal.invariant-loop-rest
invariant-loop-rest l = shadow (Utf8 l.rest) × ((seen : PathValue) × Reads l.initial.self l.self l.text l.rest l.place l.at seen)

abbrev pub decreases-loop-rest : goal.decreases-loop-rest
decreases-loop-rest l = length l.rest
