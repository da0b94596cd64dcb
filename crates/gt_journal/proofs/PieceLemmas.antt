-- How far a file was read.
use Rattle.std.proofs.Common.{◌≡◌, inl, inr, ℕ, ◌+◌, ◌≤◌, List, ◌++◌, length, take, drop, sym, ◌∙◌, ap, arith, length-append, length-take, length-drop, take-append-drop}
use Rattle.std.specs.Prelude.{IsTrue, Result}
use Rattle.std.proofs.lemmas.Bool.{cases_lt}
use Rattle.std.proofs.lemmas.List.{take-take, take_all, drop-take}
use Rattle.std.proofs.Math.Nat.{le_trans}
use Rattle.gt_disk.specs.Disk.{DiskWords, DiskLaws, IsSameDisk, ReadAnswer}
use Rattle.gt_disk.specs.Moments.{started, goes_on}
use Rattle.gt_journal.specs.Reading.{HasRead, HasLooked, GoesOn}
use Rattle.gt_journal.specs.declared.reading.Reading.{Reading}

-- a front of two parts
take_both : (n m : ℕ) (xs : List ℕ) → take (n + m) xs ≡ take n xs ++ take m (drop n xs)
take_both n m xs =
    sym (take-append-drop n (take (n + m) xs))
    ∙ ap (λ (l : List ℕ). l ++ drop n (take (n + m) xs)) (take-take n (n + m) xs (omega arith))
    ∙ ap (λ (l : List ℕ). take n xs ++ l) (drop-take n m xs)

-- a front of a list is told by its length
piece : (xs ys : List ℕ) (n size : ℕ) → xs ≡ take n ys → length xs ≡ size → size ≤ length ys → xs ≡ take size ys
piece xs ys n size is long within = elim (cases_lt (length ys) n) [
  | inl past ↦ is ∙ take_all n ys (omega (arith, past)) ∙ sym (take_all size ys (omega (arith, ap length is, length-take n ys, long, past)))
  | inr short ↦ is ∙ ap (λ (k : ℕ). take k ys) (omega (arith, ap length is, length-take n ys, long, short))
]

-- what was read at a place of a file that was as it is
pub piece_of : (into seen file : List ℕ) (at n size : ℕ) → into ≡ take n (drop at seen) → seen ≡ file → length into ≡ size → at + size ≤ length file → into ≡ take size (drop at file)
piece_of into seen file at n size is same long within =
    piece into (drop at file) n size (is ∙ ap (λ (f : List ℕ). take n (drop at f)) same) long (omega (arith, within, length-drop at file))

module _ {D : Type 0} (words : DiskWords D) where
  -- nothing is lost in two calls
  pub same_on : (first mid new : D) → IsSameDisk words first mid → IsSameDisk words mid new → IsSameDisk words first new
  same_on first mid new one two = record { later = le_trans one.later two.later; honest = two.honest ∙ one.honest; loan = two.loan ∙ one.loan }

  -- one piece more
  pub read_more : (disk : D) (at size : ℕ) (bytes : List ℕ) (old new : Reading) → HasRead words disk at old → GoesOn old bytes new → length bytes ≡ size
      → (IsTrue (words.honest disk) → bytes ≡ take size (drop at (words.seen disk))) → HasRead words disk (at + size) new
  read_more disk at size bytes old new read goes long told = record {
    file = read.file ++ bytes;
    long = omega (arith, length-append read.file bytes, read.long, long);
    reads = goes read.file read.reads;
    told = λ honest.
        ap (λ (l : List ℕ). l ++ bytes) (read.told honest) ∙ ap (λ (l : List ℕ). take at (words.seen disk) ++ l) (told honest) ∙ sym (take_both at size (words.seen disk));
  }

  -- no look yet
  pub not_looked : (laws : DiskLaws words) (disk : D) → IsTrue (words.honest disk) → HasLooked words disk disk
  not_looked laws disk honest = record {
    seen = λ i. words.seen disk;
    images = λ c now. now;
    moments = started words disk (words.may_leave disk) (λ c left. laws.only_now disk c honest left);
  }

  -- one look more
  pub looked_more : {E : Type 0} (first mid new : D) (at : ℕ) (before after : List ℕ) (result : Result Unit E) → HasLooked words first mid → ReadAnswer words mid at before result after new → HasLooked words first new
  looked_more first mid new at before after result so_far answer = record {
    seen = answer.seen ∙ so_far.seen;
    images = λ c now. so_far.images c (answer.images c now);
    moments = goes_on words first mid new (words.may_leave first) so_far.moments answer.time (λ c now. so_far.images c (answer.images c now));
  }
