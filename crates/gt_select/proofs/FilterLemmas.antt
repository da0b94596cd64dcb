-- The rule that decides, by its place.
use Rattle.std.proofs.Common.{◌≡◌, ◌∙◌, List, length, Bool, true, false, cond, Some, None, refl}
use Rattle.std.proofs.lemmas.Bool.{ltb-false}
use Rattle.std.proofs.lemmas.List.Folds.{find_at}
use Rattle.std.proofs.lemmas.Option.{slice_get_past}
use Rattle.std.specs.List.{find, position, position_or_len, slice_get}
use Rattle.std.specs.Prelude.{nat_lt, option_and_then}

-- the first element that passes is the one at the place of the first
pub find-position : {X : Type 0} (p : X → Bool) (xs : List X) → find p xs ≡ option_and_then (slice_get xs) (position p xs)
find-position p xs = find_at p xs ∙ by (nat_lt (position_or_len p xs) (length xs)) refl
  where
    by : (b : Bool) → nat_lt (position_or_len p xs) (length xs) ≡ b
        → slice_get xs (position_or_len p xs) ≡ option_and_then (slice_get xs) (cond b (Some (position_or_len p xs)) None)
    by true e = refl
    by false e = slice_get_past xs (position_or_len p xs) (ltb-false (position_or_len p xs) (length xs) e)
