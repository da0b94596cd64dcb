-- Rows by the numbers of their rules.
use Rattle.std.proofs.Common.{Bool, IsTrue, List, None, Option, Some, [], ap, arith, cond, false, get_or, inl, inr, length, max, refl, set, sym, true, zero, suc, ℕ, ◌&&◌, ◌+◌, ◌++◌, ◌-◌, ◌<◌, ◌∙◌, ◌∷◌, ◌≡◌, ◌≤◌}
use Rattle.std.specs.List.{fold, slice_get}
use Rattle.std.specs.Prelude.{IsSome, is_some, option_and_then}
use Rattle.std.proofs.lemmas.Bool.{cases_eq, eq-eqb, ne_eqb}
use Rattle.std.proofs.lemmas.Bool.{cases_lt}
use Rattle.std.proofs.lemmas.List.{get_or-set_other, get_or-set_same, get_or_append_left, get_or_push, length_push, length-map, length-set, map_push}
use Rattle.std.proofs.lemmas.List.Elements.{All-push}
use Rattle.std.proofs.lemmas.Option.{slice_get_read}
use Rattle.std.proofs.lemmas.List.Sums.{fold_push}
use Rattle.std.specs.Prelude.{All}
use Rattle.gt_access.specs.Indexed.{EndsBeforeNext, IsNumbered, last_of, numbers_of}
use Rattle.gt_access.specs.Rule.{ended_access, greatest_number, is_live_access, is_live_rule, live_access}
use Rattle.gt_access.specs.declared.row.AccessRow.{AccessRow}
use Rattle.gt_access.proofs.LastLemmas.{last_of-le, last_of_other, last_of_same}

-- a number that no row has
pub live_access-none : (number : ℕ) (rows : List AccessRow) → last_of number (numbers_of rows) ≡ 0 → live_access number rows ≡ None
live_access-none number [] h = refl
live_access-none number (row ∷ rows) h = grind (arith, live_access-none number rows)

pub ended_access-none : (k number : ℕ) (rows : List AccessRow) → last_of number (numbers_of rows) ≡ 0 → ended_access k number rows ≡ rows
ended_access-none k number [] h = refl
ended_access-none k number (row ∷ rows) h = grind (arith, ended_access-none k number rows)

and_true : (b : Bool) → (b && true) ≡ b
and_true true = refl
and_true false = refl

-- the last place in a list, from that in the rest
last_of-first : (key x : ℕ) (xs : List ℕ) → last_of key (x ∷ xs) ≡ 1 → (last_of key xs ≡ 0) × (x ≡ key)
last_of-first key x xs h = grind arith

last_of-later : (key x : ℕ) (xs : List ℕ) (i : ℕ) → last_of key (x ∷ xs) ≡ suc i + 1 → last_of key xs ≡ i + 1
last_of-later key x xs i h = grind arith

-- a row that has ended, or is of another number, isn't the live row of the number
not_live : (number : ℕ) (row : AccessRow) (rows : List AccessRow) (i : ℕ)
    → (IsTrue (is_live_access row) → last_of row.number (numbers_of rows) ≡ 0) → last_of number (numbers_of rows) ≡ i + 1
    → is_live_rule number row ≡ false
not_live number row rows i ends later =
    let differs : (is_live_access row ≡ true) → row.number ≡ number → ⊥ = λ live e. let none = ends live in absurd (let same : last_of number (numbers_of rows) ≡ 0 = rw e at none in omega arith) in
    grind (arith, differs)

-- the live row is the last of its number, if that is live
pub live_access-last : (number : ℕ) (rows : List AccessRow) (i : ℕ) → EndsBeforeNext rows → last_of number (numbers_of rows) ≡ i + 1
    → live_access number rows ≡ option_and_then (λ row. cond (is_live_access row) (Some row) None) (slice_get rows i)
live_access-last number [] i ends h = absurd (omega arith)
live_access-last number (row ∷ rows) zero ends h =
    let first = last_of-first number row.number (numbers_of rows) h in
    rw (eq-eqb row.number number first.1, live_access-none number rows first.0) (ap (λ b. cond b (Some row) None) (and_true (is_live_access row)))
live_access-last number (row ∷ rows) (suc i) ends h =
    let later = last_of-later number row.number (numbers_of rows) i h in
    rw (not_live number row rows i ends.0 later) (live_access-last number rows i ends.1 later)

-- only the live row of the number ends
pub ended_access-at : (k number : ℕ) (rows : List AccessRow) (i : ℕ) (row : AccessRow) → EndsBeforeNext rows
    → last_of number (numbers_of rows) ≡ i + 1 → slice_get rows i ≡ Some row → is_live_access row ≡ true
    → set rows i (record row { ended = Some k }) ≡ ended_access k number rows
ended_access-at k number [] i row ends h at live = refl
ended_access-at k number (x ∷ rows) zero row ends h at live =
    let first = last_of-first number x.number (numbers_of rows) h in
    let e : x ≡ row = cc in
    let lives : is_live_access x ≡ true = rw (← e) at live in
    rw (← e, ended_access-none k number rows first.0, eq-eqb x.number number first.1, lives) refl
ended_access-at k number (x ∷ rows) (suc i) row ends h at live =
    let later = last_of-later number x.number (numbers_of rows) i h in
    rw (not_live number x rows i ends.0 later) (ap (λ xs. x ∷ xs) (ended_access-at k number rows i row ends.1 later at live))

pub numbers_of-ended : (k number : ℕ) (rows : List AccessRow) → numbers_of (ended_access k number rows) ≡ numbers_of rows
numbers_of-ended k number [] = refl
numbers_of-ended k number (row ∷ rows) = grind (arith, numbers_of-ended k number rows)

pub live_access-ended : (k number : ℕ) (rows : List AccessRow) → live_access number (ended_access k number rows) ≡ None
live_access-ended k number [] = refl
live_access-ended k number (row ∷ rows) = grind (arith, live_access-ended k number rows)

pub ends_ended : (k number : ℕ) (rows : List AccessRow) → EndsBeforeNext rows → EndsBeforeNext (ended_access k number rows)
ends_ended k number [] ends = tt
ends_ended k number (row ∷ rows) ends = (grind (arith, numbers_of-ended k number rows, ends.0), ends_ended k number rows ends.1)

other_number : (row x : AccessRow) (rows : List AccessRow) → live_access row.number (x ∷ rows) ≡ None → is_live_access x ≡ true → row.number ≡ x.number → ⊥
other_number row x rows none live e =
    let found : live_access row.number (x ∷ rows) ≡ Some x = rw (live, eq-eqb x.number row.number (sym e)) refl in
    cc

pub ends_push : (row : AccessRow) (rows : List AccessRow) → EndsBeforeNext rows → live_access row.number rows ≡ None → EndsBeforeNext (rows ++ row ∷ [])
ends_push row [] ends none = ((λ live. refl), tt)
ends_push row (x ∷ rows) ends none = (
  λ live. rw (map_push (λ r. r.number) rows row, last_of_other x.number (numbers_of rows) row.number (other_number row x rows none live)) (ends.0 live),
  ends_push row rows ends.1 (grind arith),
)

-- no row has a number above the greatest
fold_max-le : (a : ℕ) (xs : List ℕ) → a ≤ fold max a xs
fold_max-le a [] = omega arith
fold_max-le a (x ∷ xs) = omega (arith, fold_max-le (max a x) xs)

last_of-above : (number a : ℕ) (xs : List ℕ) → fold max a xs < number → last_of number xs ≡ 0
last_of-above number a [] h = refl
last_of-above number a (x ∷ xs) h =
    let below : max a x < number = omega (arith, fold_max-le (max a x) xs) in
    let rest : last_of number xs ≡ 0 = last_of-above number (max a x) xs h in
    rw (eq-eqb (last_of number xs) 0 rest, ne_eqb x number (λ e. omega arith)) refl

-- no row has the number 0
last_of-zero : (xs : List ℕ) → All (λ n. 1 ≤ n) xs → last_of 0 xs ≡ 0
last_of-zero [] h = refl
last_of-zero (x ∷ xs) h =
    let first : 1 ≤ x = h 0 0 (omega arith) in
    let rest : All (λ n. 1 ≤ n) xs = λ k d l. h (suc k) d (omega arith) in
    rw (eq-eqb (last_of 0 xs) 0 (last_of-zero xs rest), ne_eqb x 0 (λ e. omega arith)) refl

pub live_access-zero : (rows : List AccessRow) (newest : List ℕ) → IsNumbered rows newest → live_access 0 rows ≡ None
live_access-zero rows newest is = live_access-none 0 rows (last_of-zero (numbers_of rows) is.from_one)

pub live_access-above : (number : ℕ) (rows : List AccessRow) (newest : List ℕ) → IsNumbered rows newest → length newest < number → live_access number rows ≡ None
live_access-above number rows newest is h =
    live_access-none number rows (last_of-above number 0 (numbers_of rows) (omega (arith, is.greatest)))

-- a rule with a live row has a number that was given
pub live_number : (number : ℕ) (rows : List AccessRow) (newest : List ℕ) → IsNumbered rows newest → IsSome (live_access number rows)
    → (1 ≤ number) × (number ≤ length newest)
live_number number rows newest is live =
    elim (cases_lt (length newest) number) [
      | inl above ↦ let none = live_access-above number rows newest is above in absurd (let false_live : is_some (live_access number rows) ≡ false = rw none refl in cc)
      | inr within ↦
          elim (cases_lt 0 number) [
            | inl some ↦ (some, within)
            | inr below ↦
                let e : number ≡ 0 = omega arith in
                let none : live_access number rows ≡ None = rw e (live_access-zero rows newest is) in
                absurd (let false_live : is_some (live_access number rows) ≡ false = rw none refl in cc)
          ]
    ]

-- where the last row of a number stands
pub last_place : (number : ℕ) (rows : List AccessRow) (newest : List ℕ) → IsNumbered rows newest → 1 ≤ number → number ≤ length newest
    → last_of number (numbers_of rows) ≡ get_or newest (number - 1) 0 + 1
last_place number rows newest is some within =
    let e : number - 1 + 1 ≡ number = omega arith in
    rw e at (is.places (number - 1) (omega arith))

pub place_within : (number place : ℕ) (rows : List AccessRow) → last_of number (numbers_of rows) ≡ place + 1 → place < length rows
place_within number place rows h =
    omega (arith, last_of-le number (numbers_of rows), length-map rows (λ row. row.number))

only_live_row : (lives : Bool) (row : AccessRow) (live : Option AccessRow) → live ≡ cond lives (Some row) None → IsSome live → Some row ≡ live
only_live_row true row live e some = sym e
only_live_row false row live e some = absurd (let none : is_some live ≡ false = rw e refl in cc)

only_live : (found live : Option AccessRow) → live ≡ option_and_then (λ row. cond (is_live_access row) (Some row) None) found → IsSome live → found ≡ live
only_live None live e some = sym e
only_live (Some row) live e some = only_live_row (is_live_access row) row live e some

-- the live row by its place
pub live_at_place : (number place : ℕ) (rows : List AccessRow) → EndsBeforeNext rows → last_of number (numbers_of rows) ≡ place + 1
    → IsSome (live_access number rows) → slice_get rows place ≡ live_access number rows
live_at_place number place rows ends last live =
    only_live (slice_get rows place) (live_access number rows) (live_access-last number rows place ends last) live

numbers_of-push : (row : AccessRow) (rows : List AccessRow) → numbers_of (rows ++ row ∷ []) ≡ numbers_of rows ++ row.number ∷ []
numbers_of-push row rows = map_push (λ r. r.number) rows row

from_one_push : (row : AccessRow) (rows : List AccessRow) → All (λ n. 1 ≤ n) (numbers_of rows) → 1 ≤ row.number → All (λ n. 1 ≤ n) (numbers_of (rows ++ row ∷ []))
from_one_push row rows old new = rw (numbers_of-push row rows) (All-push (λ n. 1 ≤ n) (numbers_of rows) row.number old new)

greatest-push : (row : AccessRow) (rows : List AccessRow) → greatest_number (rows ++ row ∷ []) ≡ max (greatest_number rows) row.number
greatest-push row rows = ap (fold max 0) (numbers_of-push row rows) ∙ fold_push max 0 (numbers_of rows) row.number

last_of_pushed : (row : AccessRow) (rows : List AccessRow) → last_of row.number (numbers_of (rows ++ row ∷ [])) ≡ length rows + 1
last_of_pushed row rows =
    rw (numbers_of-push row rows, last_of_same row.number (numbers_of rows), length-map rows (λ r. r.number)) refl

last_of_before : (number : ℕ) (row : AccessRow) (rows : List AccessRow) → (row.number ≡ number → ⊥)
    → last_of number (numbers_of (rows ++ row ∷ [])) ≡ last_of number (numbers_of rows)
last_of_before number row rows other =
    rw (numbers_of-push row rows) (last_of_other number (numbers_of rows) row.number other)

pub live_is : (number place : ℕ) (rows : List AccessRow) (row : AccessRow) → EndsBeforeNext rows → last_of number (numbers_of rows) ≡ place + 1
    → row ≡ get_or rows place row → (slice_get rows place ≡ Some row) × (live_access number rows ≡ cond (is_live_access row) (Some row) None)
live_is number place rows row ends last is =
    let found : slice_get rows place ≡ Some row = slice_get_read rows (length rows) place row refl (place_within number place rows last) is in
    (found, live_access-last number rows place ends last ∙ ap (option_and_then (λ r. cond (is_live_access r) (Some r) None)) found)

-- a row of a new number
pub IsNumbered-add : (row : AccessRow) (rows : List AccessRow) (newest : List ℕ) → IsNumbered rows newest → row.number ≡ length newest + 1
    → IsNumbered (rows ++ row ∷ []) (newest ++ length rows ∷ [])
IsNumbered-add row rows newest is new =
    record {
      from_one = from_one_push row rows is.from_one (omega arith);
      greatest = greatest-push row rows ∙ omega (arith, is.greatest, length_push newest (length rows));
      places = λ n h.
          elim (cases_lt n (length newest)) [
            | inl old ↦
                rw (last_of_before (n + 1) row rows (λ e. omega arith), get_or_append_left newest (length rows ∷ []) 0 n old) (is.places n old)
            | inr last ↦
                let at : length newest ≡ n = omega (arith, length_push newest (length rows)) in
                let own : n + 1 ≡ row.number = omega arith in
                rw (own, get_or_push newest (length rows) 0 n at) (last_of_pushed row rows)
          ];
      ended = ends_push row rows is.ended (live_access-above row.number rows newest is (omega arith));
    }

-- a row of a rule that has rows
pub IsNumbered-again : (row : AccessRow) (rows : List AccessRow) (newest : List ℕ) → IsNumbered rows newest → live_access row.number rows ≡ None
    → 1 ≤ row.number → row.number ≤ length newest → IsNumbered (rows ++ row ∷ []) (set newest (row.number - 1) (length rows))
IsNumbered-again row rows newest is none some within =
    record {
      from_one = from_one_push row rows is.from_one some;
      greatest = greatest-push row rows ∙ omega (arith, is.greatest, length-set newest (row.number - 1) (length rows));
      places = λ n h.
          let inside : n < length newest = omega (arith, length-set newest (row.number - 1) (length rows)) in
          elim (cases_eq n (row.number - 1)) [
            | inl same ↦
                let own : n + 1 ≡ row.number = omega arith in
                rw (own, same, get_or-set_same newest (row.number - 1) (length rows) 0 (omega arith)) (last_of_pushed row rows)
            | inr other ↦
                rw (last_of_before (n + 1) row rows (λ e. other (omega arith)), get_or-set_other newest (row.number - 1) n (length rows) 0 other)
                (is.places n inside)
          ];
      ended = ends_push row rows is.ended none;
    }

pub IsNumbered-ended : (k number : ℕ) (rows : List AccessRow) (newest : List ℕ) → IsNumbered rows newest → IsNumbered (ended_access k number rows) newest
IsNumbered-ended k number rows newest is =
    let same = numbers_of-ended k number rows in
    record {
      from_one = rw same is.from_one;
      greatest = rw same is.greatest;
      places = λ n h. rw same (is.places n h);
      ended = ends_ended k number rows is.ended;
    }
