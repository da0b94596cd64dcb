-- What writes since a sync may leave in a crash, step by step and in words of the bytes.
use Rattle.std.specs.Prelude.{◌≡◌, ◌⊎◌, ℕ, ◌+◌, ◌<◌, ◌≤◌, max, List, [], ◌∷◌, length, slice_index}
use Rattle.gt_disk.specs.Disk.{Torn}

-- each write, a place and a number of bytes with the newest first, may have been torn
abbrev pub Reaches : List ℕ → List (ℕ × ℕ) → List ℕ → Type 0
Reaches synced [] c = c ≡ synced
Reaches synced (write ∷ earlier) c = (d : List ℕ) × Reaches synced earlier d × Torn write.0 write.1 d c

-- the place is in none of the written ranges
abbrev pub IsOutside : List (ℕ × ℕ) → ℕ → Type 0
IsOutside [] i = Unit {0}
IsOutside (write ∷ earlier) i = ((i < write.0) ⊎ (write.0 + write.1 ≤ i)) × IsOutside earlier i

-- the greatest length since the file had n bytes
abbrev pub greatest : ℕ → List (ℕ × ℕ) → ℕ
greatest n [] = n
greatest n (write ∷ earlier) = max (greatest n earlier) (write.0 + write.1)

-- each write began within the file as long as it may have been
abbrev pub BeginWithin : ℕ → List (ℕ × ℕ) → Type 0
BeginWithin n [] = Unit {0}
BeginWithin n (write ∷ earlier) = (write.0 ≤ greatest n earlier) × BeginWithin n earlier

-- Any bytes in the written ranges and past the end of the file at the last sync, bytes outside as they were,
-- and a length between that of the last sync and the greatest since.
pub record MayBe (synced : List ℕ) (writes : List (ℕ × ℕ)) (c : List ℕ) : Type 0 where
  pub no_shorter : length synced ≤ length c
  pub no_longer : length c ≤ greatest (length synced) writes
  pub outside : (i : ℕ) → i < length synced → IsOutside writes i → slice_index c i ≡ slice_index synced i
