-- The numbers after each change of the rows.
use Rattle.std.proofs.Common.{Bool, List, None, Option, Some, [], ap, arith, cond, false, length, refl, set, sym, true, ℕ, ◌+◌, ◌++◌, ◌-◌, ◌∙◌, ◌∷◌, ◌≡◌, ◌≤◌}
use Rattle.std.specs.List.{slice_get}
use Rattle.std.specs.Prelude.{IfSome, IsSome, is_some, option_and_then}
use Rattle.std.proofs.lemmas.List.{length_push}
use Rattle.gt_access.specs.Filed.{with_end}
use Rattle.gt_access.specs.Indexed.{EndsBeforeNext, IsNumbered, last_of, numbers_of}
use Rattle.gt_access.specs.Rule.{access_row, ended_access, is_live_access, live_access, replaced_access}
use Rattle.gt_access.specs.declared.row.AccessRow.{AccessRow}
use Rattle.gt_types.specs.declared.rule.AccessSpec.{AccessSpec}
use Rattle.gt_access.proofs.FiledLemmas.{with_end_is}
use Rattle.gt_access.proofs.NumberLemmas.{IsNumbered-add, IsNumbered-again, ended_access-at, live_access-last}

pub IsNumbered-added : (row : AccessRow) (rows after : List AccessRow) (newest newest_after : List ℕ) → IsNumbered rows newest → after ≡ rows ++ row ∷ []
    → newest_after ≡ newest ++ length rows ∷ [] → row.number ≡ length newest_after → IsNumbered after newest_after
IsNumbered-added row rows after newest newest_after old is newest_are new =
    let own : row.number ≡ length newest + 1 = new ∙ ap length newest_are ∙ length_push newest (length rows) in
    rw (is, newest_are) (IsNumbered-add row rows newest old own)

pub IsNumbered-added_again : (row : AccessRow) (rows after : List AccessRow) (newest newest_after : List ℕ) → IsNumbered rows newest → after ≡ rows ++ row ∷ []
    → newest_after ≡ set newest (row.number - 1) (length rows) → live_access row.number rows ≡ None → 1 ≤ row.number → row.number ≤ length newest
    → IsNumbered after newest_after
IsNumbered-added_again row rows after newest newest_after old is newest_are none some within =
    rw (is, newest_are) (IsNumbered-again row rows newest old none some within)

live_from : (lives : Bool) (row : AccessRow) → IsSome (cond lives (Some row) None) → lives ≡ true
live_from true row some = refl
live_from false row some = some

-- the live row ends by a write at its place
pub ended_at_place : (k number place : ℕ) (rows : List AccessRow) → EndsBeforeNext rows → IsSome (live_access number rows)
    → last_of number (numbers_of rows) ≡ place + 1 → with_end k place rows ≡ ended_access k number rows
ended_at_place k number place rows ends live last = of_found (slice_get rows place) refl (live_access-last number rows place ends last)
  where
    of_found : (found : Option AccessRow) → slice_get rows place ≡ found
        → live_access number rows ≡ option_and_then (λ row. cond (is_live_access row) (Some row) None) found
        → with_end k place rows ≡ ended_access k number rows
    of_found None at is = absurd (let none : is_some (live_access number rows) ≡ false = rw is refl in cc)
    of_found (Some row) at is =
        let some : IsSome (cond (is_live_access row) (Some row) None) = rw is at live in
        with_end_is k rows place row at
        ∙ ended_access-at k number rows place row ends last at (live_from (is_live_access row) row some)

live_access-number : (number : ℕ) (rows : List AccessRow) (row : AccessRow) → live_access number rows ≡ Some row → row.number ≡ number
live_access-number number [] row e = cc
live_access-number number (x ∷ rows) row e = grind (arith, live_access-number number rows row, e)

-- the rows where the live row ends and one of its number follows
pub replaced_is : (k number : ℕ) (spec : AccessSpec) (rows ended after : List AccessRow) (row : AccessRow) → live_access number rows ≡ Some row
    → ended ≡ ended_access k number rows → after ≡ ended ++ access_row number k row.collection spec ∷ []
    → IfSome (live_access number rows) (λ r. after ≡ replaced_access k spec r rows)
replaced_is k number spec rows ended after row live ended_are after_are =
    let own : number ≡ row.number = sym (live_access-number number rows row live) in
    rw live
    (after_are
    ∙ ap (λ xs. xs ++ access_row number k row.collection spec ∷ []) ended_are
    ∙ ap (λ n. ended_access k n rows ++ access_row n k row.collection spec ∷ []) own)
