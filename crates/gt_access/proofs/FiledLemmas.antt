-- Rows and their index after each change.
use Rattle.std.proofs.Common.{Bool, List, None, Option, Some, [], ap, arith, false, length, refl, slice_get, slice_set, suc, sym, true, zero, ℕ, ◌+◌, ◌++◌, ◌∙◌, ◌∷◌, ◌≡◌, ◌≢◌, ◌≤◌}
use Rattle.std.specs.Option.{option_map}
use Rattle.std.specs.Prelude.{IfSome}
use Rattle.std.specs.declared.cmp.Ordering.{Ordering}
use Rattle.std.proofs.lemmas.List.{length-set, length_push}
use Rattle.gt_access.specs.Filed.{IsFiledBy, NoneAfter, with_end}
use Rattle.gt_access.specs.Rule.{is_live_access}
use Rattle.gt_access.specs.declared.row.AccessRow.{AccessRow}
use Rattle.gt_index.specs.Index.{DiffersAt, IsFiled, passes_at}
use Rattle.gt_index.specs.Places.{Places}

-- rows with one more
push_other : (rows : List AccessRow) (row : AccessRow) (other : ℕ) → other ≢ length rows → slice_get (rows ++ row ∷ []) other ≡ slice_get rows other
push_other [] row zero differs = absurd (differs refl)
push_other [] row (suc other) differs = refl
push_other (x ∷ rows) row zero differs = refl
push_other (x ∷ rows) row (suc other) differs = push_other rows row other (λ e. differs (ap suc e))

push_own : (rows : List AccessRow) (row : AccessRow) → slice_get (rows ++ row ∷ []) (length rows) ≡ Some row
push_own [] row = refl
push_own (x ∷ rows) row = push_own rows row

past_end : (rows : List AccessRow) → slice_get rows (length rows) ≡ None
past_end [] = refl
past_end (x ∷ rows) = past_end rows

pub differs_push : {K : Type 0} (key : AccessRow → K) (keeps : AccessRow → Bool) (rows : List AccessRow) (row : AccessRow)
    → DiffersAt key keeps (length rows) rows (rows ++ row ∷ [])
differs_push key keeps rows row =
    record {
      others = push_other rows row;
      same_key = λ kept. let none : passes_at keeps rows (length rows) ≡ false = rw (past_end rows) refl in cc;
    }

pub push_passes : (rows : List AccessRow) (row : AccessRow) → row.ended ≡ None → passes_at is_live_access (rows ++ row ∷ []) (length rows) ≡ true
push_passes rows row live = rw (push_own rows row, live) refl

-- rows of which one ends
set_other : (rows : List AccessRow) (place : ℕ) (row : AccessRow) (other : ℕ) → other ≢ place → slice_get (slice_set rows place row) other ≡ slice_get rows other
set_other [] place row other differs = refl
set_other (x ∷ rows) zero row zero differs = absurd (differs refl)
set_other (x ∷ rows) zero row (suc other) differs = refl
set_other (x ∷ rows) (suc place) row zero differs = refl
set_other (x ∷ rows) (suc place) row (suc other) differs = set_other rows place row other (λ e. differs (ap suc e))

set_own : (rows : List AccessRow) (place : ℕ) (row old : AccessRow) → slice_get rows place ≡ Some old → slice_get (slice_set rows place row) place ≡ Some row
set_own [] place row old is = cc
set_own (x ∷ rows) zero row old is = refl
set_own (x ∷ rows) (suc place) row old is = set_own rows place row old is

pub differs_end : {K : Type 0} (key : AccessRow → K) (keeps : AccessRow → Bool) (k : ℕ) (rows : List AccessRow) (place : ℕ) (row : AccessRow)
    → slice_get rows place ≡ Some row → key (record row { ended = Some k }) ≡ key row
    → DiffersAt key keeps place rows (slice_set rows place (record row { ended = Some k }))
differs_end key keeps k rows place row is same =
    record {
      others = set_other rows place (record row { ended = Some k });
      same_key = λ kept.
          ap (option_map key) (set_own rows place (record row { ended = Some k }) row is)
          ∙ ap Some same
          ∙ sym (ap (option_map key) is);
    }

pub end_fails : (k : ℕ) (rows : List AccessRow) (place : ℕ) (row : AccessRow) → slice_get rows place ≡ Some row
    → passes_at is_live_access (slice_set rows place (record row { ended = Some k })) place ≡ false
end_fails k rows place row is = rw (set_own rows place (record row { ended = Some k }) row is) refl

-- the last change
later_end : (k later : ℕ) (ended : Option ℕ) → k ≤ later → IfSome ended (λ e. e ≤ k) → IfSome ended (λ e. e ≤ later)
later_end k later None up is = tt
later_end k later (Some e) up is = omega arith

pub none_after-later : (k later : ℕ) (rows : List AccessRow) → k ≤ later → NoneAfter k rows → NoneAfter later rows
none_after-later k later [] up is = tt
none_after-later k later (row ∷ rows) up is =
    (omega (arith, is.0), later_end k later row.ended up is.1, none_after-later k later rows up is.2)

no_end : (k : ℕ) (ended : Option ℕ) → ended ≡ None → IfSome ended (λ e. e ≤ k)
no_end k None is = tt
no_end k (Some e) is = cc

pub none_after-push : (k : ℕ) (rows : List AccessRow) (row : AccessRow) → NoneAfter k rows → row.born ≤ k → row.ended ≡ None → NoneAfter k (rows ++ row ∷ [])
none_after-push k [] row is born live = (born, no_end k row.ended live, tt)
none_after-push k (x ∷ rows) row is born live = (is.0, is.1, none_after-push k rows row is.2 born live)

pub none_after-end : (k at : ℕ) (rows : List AccessRow) (place : ℕ) (row : AccessRow) → NoneAfter k rows → at ≤ k → slice_get rows place ≡ Some row
    → NoneAfter k (slice_set rows place (record row { ended = Some at }))
none_after-end k at [] place row is within own = tt
none_after-end k at (x ∷ rows) zero row is within own = let same : x ≡ row = cc in (rw same at is.0, within, is.2)
none_after-end k at (x ∷ rows) (suc place) row is within own = (is.0, is.1, none_after-end k at rows place row is.2 within own)

pub with_end_is : (k : ℕ) (rows : List AccessRow) (place : ℕ) (row : AccessRow) → slice_get rows place ≡ Some row
    → with_end k place rows ≡ slice_set rows place (record row { ended = Some k })
with_end_is k rows place row is = rw is refl

module _ {K : Type 0} (cmp : K → K → Ordering) (key : AccessRow → K) (rows : List AccessRow) (capacity : ℕ) (live : Places) (changed room : ℕ)
    (is : IsFiledBy cmp key rows capacity live changed room) where
  pub filed_push : (row : AccessRow) (place : ℕ) (after now : List AccessRow) (capacity_after : ℕ) (before live_after : Places) (later left : ℕ) → row.ended ≡ None
      → place ≡ length rows → after ≡ rows ++ row ∷ [] → now ≡ after → before ≡ live → IsFiled cmp key true place now before.places live_after.places
      → before.spare ≤ live_after.spare + 1 → capacity ≤ capacity_after → changed ≤ later → row.born ≤ later → left + 1 ≡ room
      → IsFiledBy cmp key after capacity_after live_after later left
  filed_push row place after now capacity_after before live_after later left alive last after_is now_is before_is filed spare roomy up born one =
      let filed_at : IsFiled cmp key true (length rows) (rows ++ row ∷ []) live.places live_after.places =
      rw (now_is, after_is, last, before_is) at filed in
      let more : length (rows ++ row ∷ []) ≡ length rows + 1 = length_push rows row in
      let room_left : live.spare ≤ live_after.spare + 1 = rw before_is at spare in
      let result : IsFiledBy cmp key (rows ++ row ∷ []) capacity_after live_after later left =
      record {
        index = filed_at is_live_access rows is.index (differs_push key is_live_access rows row) (push_passes rows row alive);
        last = none_after-push later rows row (none_after-later changed later rows up is.last) born alive;
        reserved = omega (arith, is.reserved);
        spare = omega (arith, is.spare);
        few = omega (arith, is.few);
      } in
      rw after_is result

  pub filed_end : (place at : ℕ) (row : AccessRow) (after now : List AccessRow) (capacity_after : ℕ) (before live_after : Places) (later left : ℕ)
      → slice_get rows place ≡ Some row → key (record row { ended = Some at }) ≡ key row → after ≡ slice_set rows place (record row { ended = Some at })
      → now ≡ after → before ≡ live → IsFiled cmp key false place now before.places live_after.places → before.spare ≤ live_after.spare
      → capacity ≤ capacity_after → changed ≤ later → at ≤ later → left ≡ room → IsFiledBy cmp key after capacity_after live_after later left
  filed_end place at row after now capacity_after before live_after later left own same after_is now_is before_is filed spare roomy up within one =
      let ended = slice_set rows place (record row { ended = Some at }) in
      let filed_at : IsFiled cmp key false place ended live.places live_after.places = rw (now_is, after_is, before_is) at filed in
      let as_many : length ended ≡ length rows = length-set rows place (record row { ended = Some at }) in
      let room_left : live.spare ≤ live_after.spare = rw before_is at spare in
      let result : IsFiledBy cmp key ended capacity_after live_after later left =
      record {
        index =
            filed_at is_live_access rows is.index (differs_end key is_live_access at rows place row own same) (end_fails at rows place row own);
        last = none_after-end later at rows place row (none_after-later changed later rows up is.last) within own;
        reserved = omega (arith, is.reserved);
        spare = omega (arith, is.spare);
        few = omega (arith, is.few);
      } in
      rw after_is result
