-- How a run of disk calls goes on.
use Rattle.std.specs.Prelude.{IsTrue, ℕ, List}
use Rattle.std.proofs.Common.{inl, inr, ⊎_elim}
use Rattle.std.proofs.Math.Nat.{le_refl, le_trans}
use Rattle.gt_causes.specs.Outcomes.{NoMore}
use Rattle.gt_disk.specs.Disk.{DiskLaws, DiskWords, Elapses, LeavesOnly}

module _ {D : Type 0} (words : DiskWords D) where
  -- before the first call
  pub started : (old : D) (P : List ℕ → Type 0) → ((c : List ℕ) → words.left_since old (words.moment old) c → P c) → LeavesOnly words old old P
  started old P here = record { later = le_refl (words.moment old); each = here; before = λ t c le left. inl left }

  -- one call more, after which a crash leaves what has P
  pub goes_on : (old mid new : D) (P : List ℕ → Type 0) → LeavesOnly words old mid P → Elapses words mid new → ((c : List ℕ) → words.may_leave new c → P c) → LeavesOnly words old new P
  goes_on old mid new P so_far time here = record {
    later = le_trans so_far.later time.later;
    each = λ c left. ⊎_elim (so_far.each c) (here c) (time.nothing_else (words.moment old) c so_far.later left);
    before = λ t c le left. ⊎_elim (so_far.before t c le) (λ now. inr (here c now)) (time.nothing_else t c (le_trans le so_far.later) left);
  }

  -- the same promise in weaker words
  pub weaker : (old new : D) (P Q : List ℕ → Type 0) → ((c : List ℕ) → P c → Q c) → LeavesOnly words old new P → LeavesOnly words old new Q
  weaker old new P Q so run = record {
    later = run.later;
    each = λ c left. so c (run.each c left);
    before = λ t c le left. ⊎_elim (λ was. inl was) (λ now. inr (so c now)) (run.before t c le left);
  }

  -- one run after another
  pub joined : (old mid new : D) (P : List ℕ → Type 0) → LeavesOnly words old mid P → LeavesOnly words mid new P → LeavesOnly words old new P
  joined old mid new P first second = record {
    later = le_trans first.later second.later;
    each = λ c left. ⊎_elim (first.each c) (λ now. now) (second.before (words.moment old) c first.later left);
    before = λ t c le left. ⊎_elim (first.before t c le) (λ now. inr now) (second.before t c (le_trans le first.later) left);
  }

  -- before the first call of an honest disk
  pub begun : DiskLaws words → (old : D) (P : List ℕ → Type 0) → IsTrue (words.honest old) → NoMore P (words.may_leave old) → LeavesOnly words old old P
  begun laws old P honest here = started old P (λ c left. here c (laws.only_now old c honest left))
