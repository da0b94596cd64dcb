-- Rows that are numbered in their order.
use Rattle.std.proofs.Common.{Bool, List, None, Option, Some, [], ap, arith, cond, false, filter, find, length, map, min, refl, set, suc, sym, true, zero, ℕ, ◌&&◌, ◌+◌, ◌++◌, ◌-◌, ◌<◌, ◌∙◌, ◌∷◌, ◌≡◌, ◌≤◌}
use Rattle.std.specs.List.{fold, list_any, slice_get}
use Rattle.std.specs.Option.{option_map}
use Rattle.std.specs.Prelude.{IsSome, is_some, option_and_then}
use Rattle.std.proofs.lemmas.Bool.{eq-eqb, ne_eqb}
use Rattle.gt_pauses.specs.Indexed.{IsNumberedFrom}
use Rattle.gt_pauses.specs.Paused.{least}
use Rattle.gt_pauses.specs.Rule.{ended_pause, is_live_pause, is_live_rule, live_pause}
use Rattle.gt_pauses.specs.declared.row.PauseRow.{PauseRow}
use Rattle.gt_values.specs.Rows.{row_at}

-- the row, if it is live
abbrev pub if_live : PauseRow → Option PauseRow
if_live row = cond (is_live_pause row) (Some row) None

and_false : (b : Bool) → (b && false) ≡ false
and_false true = refl
and_false false = refl

and_true : (b : Bool) → (b && true) ≡ b
and_true true = refl
and_true false = refl

other_number : (number : ℕ) (row : PauseRow) → (row.number ≡ number → ⊥) → is_live_rule number row ≡ false
other_number number row other = rw (ne_eqb row.number number other) (and_false (is_live_pause row))

own_number : (number : ℕ) (row : PauseRow) → row.number ≡ number → is_live_rule number row ≡ is_live_pause row
own_number number row own = rw (eq-eqb row.number number own) (and_true (is_live_pause row))

-- no row has a number below the first
live_pause-below : (number next : ℕ) (rows : List PauseRow) → IsNumberedFrom next rows → number < next → live_pause number rows ≡ None
live_pause-below number next [] is below = refl
live_pause-below number next (row ∷ rows) is below =
    rw (other_number number row (λ e. omega (arith, is.0))) (live_pause-below number (next + 1) rows is.1 (omega arith))

ended_pause-below : (k number next : ℕ) (rows : List PauseRow) → IsNumberedFrom next rows → number < next → ended_pause k number rows ≡ rows
ended_pause-below k number next [] is below = refl
ended_pause-below k number next (row ∷ rows) is below =
    rw (other_number number row (λ e. omega (arith, is.0))) (ap (λ xs. row ∷ xs) (ended_pause-below k number (next + 1) rows is.1 (omega arith)))

only_own : (lives : Bool) (row : PauseRow) (rest : Option PauseRow) → rest ≡ None → cond lives (Some row) rest ≡ cond lives (Some row) None
only_own lives row rest e = rw e refl

-- the live row of a number is the row at its place, if that is live
live_at : (number next : ℕ) (rows : List PauseRow) (i : ℕ) → IsNumberedFrom next rows → number ≡ next + i
    → live_pause number rows ≡ option_and_then if_live (slice_get rows i)
live_at number next [] i is e = refl
live_at number next (row ∷ rows) zero is e =
    rw (own_number number row (omega (arith, is.0)))
    (only_own (is_live_pause row) row (live_pause number rows) (live_pause-below number (next + 1) rows is.1 (omega arith)))
live_at number next (row ∷ rows) (suc i) is e =
    rw (other_number number row (λ own. omega (arith, is.0))) (live_at number (next + 1) rows i is.1 (omega arith))

-- only the live row of the number ends
ended_at : (k number next : ℕ) (rows : List PauseRow) (i : ℕ) (row : PauseRow) → IsNumberedFrom next rows → number ≡ next + i
    → slice_get rows i ≡ Some row → is_live_pause row ≡ true → set rows i (record row { ended = Some k }) ≡ ended_pause k number rows
ended_at k number next [] i row is e at live = refl
ended_at k number next (x ∷ rows) zero row is e at live =
    let same : x ≡ row = cc in
    let lives : is_live_pause x ≡ true = rw (← same) at live in
    rw (← same, own_number number x (omega (arith, is.0)), lives)
    (ap (λ xs. record x { ended = Some k } ∷ xs) (sym (ended_pause-below k number (next + 1) rows is.1 (omega arith))))
ended_at k number next (x ∷ rows) (suc i) row is e at live =
    rw (other_number number x (λ own. omega (arith, is.0)))
    (ap (λ xs. x ∷ xs) (ended_at k number (next + 1) rows i row is.1 (omega arith) at live))

pub IsNumberedFrom-ended : (k number next : ℕ) (rows : List PauseRow) → IsNumberedFrom next rows → IsNumberedFrom next (ended_pause k number rows)
IsNumberedFrom-ended k number next [] is = tt
IsNumberedFrom-ended k number next (row ∷ rows) is =
    (grind (arith, is.0), IsNumberedFrom-ended k number (next + 1) rows is.1)

pub IsNumberedFrom-push : (next : ℕ) (rows : List PauseRow) (row : PauseRow) → IsNumberedFrom next rows → row.number ≡ next + length rows
    → IsNumberedFrom next (rows ++ row ∷ [])
IsNumberedFrom-push next [] row is e = (omega arith, tt)
IsNumberedFrom-push next (x ∷ rows) row is e = (is.0, IsNumberedFrom-push (next + 1) rows row is.1 (omega arith))

-- the live rule of a number, by the row of this number
live_row : (number : ℕ) (rows : List PauseRow) → IsNumberedFrom 1 rows → live_pause number rows ≡ option_and_then if_live (row_at rows number)
live_row zero rows is = live_pause-below 0 1 rows is (omega arith)
live_row (suc i) rows is = live_at (suc i) 1 rows i is (omega arith)

pub live_pause-row : (number : ℕ) (rows : List PauseRow) (row : PauseRow) → IsNumberedFrom 1 rows → row_at rows number ≡ Some row
    → live_pause number rows ≡ if_live row
live_pause-row number rows row is at = live_row number rows is ∙ ap (option_and_then if_live) at

pub live_pause-none : (number : ℕ) (rows : List PauseRow) → IsNumberedFrom 1 rows → row_at rows number ≡ None → live_pause number rows ≡ None
live_pause-none number rows is at = live_row number rows is ∙ ap (option_and_then if_live) at

some_before : (found : Option PauseRow) → IsSome (option_and_then if_live found) → IsSome found
some_before None some = some
some_before (Some row) some = refl

-- a live rule has a row
pub row_there : (number : ℕ) (rows : List PauseRow) → IsNumberedFrom 1 rows → IsSome (live_pause number rows) → IsSome (row_at rows number)
row_there number rows is live =
    let some : IsSome (option_and_then if_live (row_at rows number)) = rw (live_row number rows is) at live in
    some_before (row_at rows number) some

pub row_place : (number : ℕ) (rows : List PauseRow) (row : PauseRow) → row_at rows number ≡ Some row → slice_get rows (number - 1) ≡ Some row
row_place zero rows row at = cc
row_place (suc i) rows row at =
    let place : suc i - 1 ≡ i = omega arith in
    rw place at

live_from : (lives : Bool) (row : PauseRow) → IsSome (cond lives (Some row) None) → lives ≡ true
live_from true row some = refl
live_from false row some = some

-- the live rule ends by a write to its row
pub ended_is : (k number : ℕ) (rows : List PauseRow) (row : PauseRow) → IsNumberedFrom 1 rows → IsSome (live_pause number rows)
    → row_at rows number ≡ Some row → set rows (number - 1) (record row { ended = Some k }) ≡ ended_pause k number rows
ended_is k zero rows row is live at = cc
ended_is k (suc i) rows row is live at =
    let place : suc i - 1 ≡ i = omega arith in
    let some : IsSome (if_live row) = rw (live_pause-row (suc i) rows row is at) at live in
    rw place (ended_at k (suc i) 1 rows i row is (omega arith) at (live_from (is_live_pause row) row some))

min_chosen : (b : Bool) (a n : ℕ) (ns : List ℕ) → a ≤ n → fold min a ns ≡ a → fold min a (cond b (n ∷ ns) ns) ≡ a
min_chosen true a n ns h rest =
    let less : min a n ≡ a = omega arith in
    ap (λ x. fold min x ns) less ∙ rest
min_chosen false a n ns h rest = rest

numbers_chosen : (b : Bool) (row : PauseRow) (rows : List PauseRow)
    → map (λ r. r.number) (cond b (row ∷ rows) rows) ≡ cond b (row.number ∷ map (λ r. r.number) rows) (map (λ r. r.number) rows)
numbers_chosen true row rows = refl
numbers_chosen false row rows = refl

-- no later number is less
fold_min-later : (p : PauseRow → Bool) (a next : ℕ) (rows : List PauseRow) → IsNumberedFrom next rows → a ≤ next
    → fold min a (map (λ row. row.number) (filter p rows)) ≡ a
fold_min-later p a next [] is h = refl
fold_min-later p a next (row ∷ rows) is h =
    ap (fold min a) (numbers_chosen (p row) row (filter p rows))
    ∙ min_chosen (p row) a row.number (map (λ r. r.number) (filter p rows)) (omega (arith, is.0))
    (fold_min-later p a (next + 1) rows is.1 (omega arith))

first_chosen : (b : Bool) (row : PauseRow) (rows : List PauseRow) (found : Option PauseRow)
    → fold min row.number (map (λ r. r.number) rows) ≡ row.number
    → option_map (λ r. r.number) found ≡ least (map (λ r. r.number) rows)
    → option_map (λ r. r.number) (cond b (Some row) found) ≡ least (map (λ r. r.number) (cond b (row ∷ rows) rows))
first_chosen true row rows found own rest = ap Some (sym own)
first_chosen false row rows found own rest = rest

-- the least number is that of the first row
pub least-first : (p : PauseRow → Bool) (next : ℕ) (rows : List PauseRow) → IsNumberedFrom next rows
    → option_map (λ row. row.number) (find p rows) ≡ least (map (λ row. row.number) (filter p rows))
least-first p next [] is = refl
least-first p next (row ∷ rows) is =
    first_chosen (p row) row (filter p rows) (find p rows) (fold_min-later p row.number (next + 1) rows is.1 (omega (arith, is.0)))
    (least-first p (next + 1) rows is.1)

pub is_some-first : (p : PauseRow → Bool) (rows : List PauseRow) → is_some (option_map (λ row. row.number) (find p rows)) ≡ list_any p rows
is_some-first p [] = refl
is_some-first p (row ∷ rows) = grind (arith, is_some-first p rows)
