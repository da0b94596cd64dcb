-- How a run of disk calls goes on, after each of which a crash leaves what has P.
use Rattle.std.proofs.Common.{ℕ, List, length}
use Rattle.std.specs.Prelude.{IsTrue, Result}
use Rattle.gt_causes.specs.Outcomes.{NoMore}
use Rattle.gt_disk.specs.Disk.{DiskWords, DiskLaws, Torn, ReadAnswer, WriteAnswer, SyncAnswer}
use Rattle.gt_disk.specs.Moments.{started, goes_on, joined}
use Rattle.gt_journal.specs.Gates.{Keeps}

module _ {D : Type 0} (words : DiskWords D) where
  -- before the first call
  pub begins : (laws : DiskLaws words) (disk : D) (P : List ℕ → Type 0) → IsTrue (words.honest disk) → NoMore P (words.may_leave disk) → Keeps words disk disk P
  begins laws disk P honest images = record { moments = started words disk P (λ c left. images c (laws.only_now disk c honest left)); images = images }

  pub and_read : {E : Type 0} (old mid new : D) (P : List ℕ → Type 0) (at : ℕ) (before after : List ℕ) (result : Result Unit E) → Keeps words old mid P → ReadAnswer words mid at before result after new → Keeps words old new P
  and_read old mid new P at before after result so_far answer =
      let images : NoMore P (words.may_leave new) = λ c now. so_far.images c (answer.images c now) in
      record { moments = goes_on words old mid new P so_far.moments answer.time images; images = images }

  pub and_sync : {E : Type 0} (old mid new : D) (P : List ℕ → Type 0) (result : Result Unit E) → Keeps words old mid P → SyncAnswer words mid result new → Keeps words old new P
  and_sync old mid new P result so_far answer =
      let images : NoMore P (words.may_leave new) = λ c now. so_far.images c (answer.images c now) in
      record { moments = goes_on words old mid new P so_far.moments answer.time images; images = images }

  -- a write, torn or not, that keeps P
  pub and_write : {E : Type 0} (old mid new : D) (P : List ℕ → Type 0) (at : ℕ) (bytes : List ℕ) (result : Result Unit E) → ((d c : List ℕ) → P d → Torn at (length bytes) d c → P c)
      → Keeps words old mid P → WriteAnswer words mid at bytes result new → Keeps words old new P
  and_write old mid new P at bytes result keeps so_far answer =
      let images : NoMore P (words.may_leave new) = λ c now. let from = answer.images c now in keeps from.0 c (so_far.images from.0 from.1) from.2 in
      record { moments = goes_on words old mid new P so_far.moments answer.time images; images = images }

  -- one run after another
  pub and_run : (old mid new : D) (P : List ℕ → Type 0) → Keeps words old mid P → Keeps words mid new P → Keeps words old new P
  and_run old mid new P first second = record { moments = joined words old mid new P first.moments second.moments; images = second.images }
