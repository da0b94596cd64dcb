-- Each item is in exactly one class.
use Rattle.std.proofs.Common.{◌≡◌, ℕ, ◌+◌, List, [], ◌∷◌, length, filter, Bool, true, false, refl, arith, cond}
use Rattle.std.specs.Prelude.{◌&&◌, ◌==◌}
use Rattle.gt_subtasks.specs.declared.item.Class.{Class}
use Rattle.gt_subtasks.specs.declared.item.Class.TheVariants.{Canceled as CanceledClass, Expired as ExpiredClass, Failed as FailedClass, Pending as PendingClass, Retrying as RetryingClass, Skipped as SkippedClass, Succeeded as SucceededClass}
use Rattle.gt_subtasks.specs.declared.item.Item.{Item}
use Rattle.gt_subtasks.specs.declared.item.ItemState.{ItemState}
use Rattle.gt_subtasks.specs.declared.item.ItemState.TheVariants.{Canceled, Expired, Failed, Pending, Retrying, Running, Skipped, Succeeded}
use Rattle.gt_subtasks.specs.Counters.{count_of}
use Rattle.gt_subtasks.specs.Item.{class_number, class_of, is_in_class, items_of}

-- how often the state is in the class of this number
abbrev pub times : ItemState → ℕ → ℕ
times s n = cond (class_number (class_of s) == n) 1 0

one : (s : ItemState) (a b c d e f g t : ℕ) → a + b + c + d + e + f + g ≡ t
    → (times s 0 + a) + (times s 1 + b) + (times s 2 + c) + (times s 3 + d) + (times s 4 + e) + (times s 5 + f) + (times s 6 + g) ≡ t + 1
one Pending a b c d e f g t h = omega arith
one (Running worker grant) a b c d e f g t h = omega arith
one Retrying a b c d e f g t h = omega arith
one (Succeeded how) a b c d e f g t h = omega arith
one (Failed code) a b c d e f g t h = omega arith
one (Skipped code) a b c d e f g t h = omega arith
one Canceled a b c d e f g t h = omega arith
one Expired a b c d e f g t h = omega arith

-- how many items of the task are in the class
abbrev pub count : Class → ℕ → List Item → ℕ
count class task items = count_of (is_in_class class) task items

-- what the first item adds to a count, if it is of the task
count-cons : (class : Class) (task : ℕ) (x : Item) (xs : List Item) (mine : Bool) → (x.task == task) ≡ mine
    → count class task (x ∷ xs) ≡ cond mine (times x.state (class_number class)) 0 + count class task xs
count-cons class task x xs false e = rw e (omega arith)
count-cons class task x xs true e = rw e (by_cases (is_in_class class x))
  where
    by_cases : (b : Bool) → length (cond b (x ∷ filter (λ (item : Item). (item.task == task) && is_in_class class item) xs)
        (filter (λ (item : Item). (item.task == task) && is_in_class class item) xs)) ≡ cond b 1 0 + count class task xs
    by_cases true = omega arith
    by_cases false = omega arith

total-cons : (task : ℕ) (x : Item) (xs : List Item) (mine : Bool) → (x.task == task) ≡ mine → length (items_of task (x ∷ xs)) ≡ cond mine 1 0 + length (items_of task xs)
total-cons task x xs false e = rw e (omega arith)
total-cons task x xs true e = rw e (omega arith)

-- from the sums over the others to those with the first
sums : (x : Item) (mine : Bool) (p r s e c f k n a b c' d e' f' g t : ℕ) → p + r + s + e + c + f + k ≡ n → t ≡ cond mine 1 0 + n
    → a ≡ cond mine (times x.state 0) 0 + p → b ≡ cond mine (times x.state 1) 0 + r → c' ≡ cond mine (times x.state 2) 0 + s
    → d ≡ cond mine (times x.state 3) 0 + e → e' ≡ cond mine (times x.state 4) 0 + c → f' ≡ cond mine (times x.state 5) 0 + f
    → g ≡ cond mine (times x.state 6) 0 + k → a + b + c' + d + e' + f' + g ≡ t
sums x false p r s e c f k n a b c' d e' f' g t h total in_a in_b in_c in_d in_e in_f in_g = omega (arith, h, total, in_a, in_b, in_c, in_d, in_e, in_f, in_g)
sums x true p r s e c f k n a b c' d e' f' g t h total in_a in_b in_c in_d in_e in_f in_g =
    omega (arith, total, in_a, in_b, in_c, in_d, in_e, in_f, in_g, one x.state p r s e c f k n h)

pub sum_of_classes : (task : ℕ) (items : List Item)
    → count PendingClass task items + count RetryingClass task items + count SucceededClass task items + count ExpiredClass task items
    + count CanceledClass task items + count FailedClass task items + count SkippedClass task items ≡ length (items_of task items)
sum_of_classes task [] = refl
sum_of_classes task (x ∷ xs) =
    let mine : Bool = x.task == task in
    sums x mine _ _ _ _ _ _ _ _ _ _ _ _ _ _ _ _ (sum_of_classes task xs) (total-cons task x xs mine refl)
    (count-cons PendingClass task x xs mine refl) (count-cons RetryingClass task x xs mine refl) (count-cons SucceededClass task x xs mine refl)
    (count-cons ExpiredClass task x xs mine refl) (count-cons CanceledClass task x xs mine refl) (count-cons FailedClass task x xs mine refl)
    (count-cons SkippedClass task x xs mine refl)
