-- Which bodies a file stands for, and where it is damaged.
use Rattle.std.specs.Prelude.{◌≡◌, ◌≢◌, ◌⊎◌, ℕ, ◌<◌, ◌≤◌, ◌+◌, ◌^◌, Option, None, Some, List, [], ◌∷◌, ◌++◌, length, slice_index, take, drop}
use Rattle.std.specs.List.{flat_map, AllByRecursion}
use Rattle.std.specs.Int.{w64, to_be_bytes, from_be_bytes}

-- the length in eight bytes, the greatest first, and the body
unfoldable pub frame : List ℕ → List ℕ
frame body = to_be_bytes w64 (length body) ++ body

-- a record: an open gate and the frame
abbrev pub text : List ℕ → List ℕ
text body = 1 ∷ frame body

-- the records of these bodies
abbrev pub texts : List (List ℕ) → List ℕ
texts bodies = flat_map text bodies

-- a body whose length a header tells
abbrev pub Fits : List ℕ → Type 0
Fits body = length body < 2 ^ 63

-- too short for a record, or behind a closed gate
abbrev pub IsTail : List ℕ → Type 0
IsTail tail = (length tail < 9) ⊎ (slice_index tail 0 ≢ 1)

-- an open gate, and a length that runs past the end
pub record IsCutOff (rest : List ℕ) : Type 0 where
  pub gate : slice_index rest 0 ≡ 1
  pub header : 9 ≤ length rest
  pub short : length rest < 9 + from_be_bytes w64 (take 8 (drop 1 rest))

-- each number is a byte
abbrev pub IsBytes : List ℕ → Type 0
IsBytes bytes = (i : ℕ) → slice_index bytes i < 256

-- the file is the records of these bodies, and a tail
pub record IsJournalText (bodies : List (List ℕ)) (file : List ℕ) : Type 0 where
  pub fit : AllByRecursion Fits bodies
  pub tail : List ℕ
  pub whole : file ≡ texts bodies ++ tail
  pub is_tail : IsTail tail

-- the file is the records of these bodies, and then one whose length runs past the end
pub record IsDamagedAfter (bodies : List (List ℕ)) (file : List ℕ) : Type 0 where
  pub fit : AllByRecursion Fits bodies
  pub rest : List ℕ
  pub whole : file ≡ texts bodies ++ rest
  pub cut_off : IsCutOff rest

-- the file stands for the bodies, or for them and the one in doubt
abbrev pub IsTextWithDoubt : List (List ℕ) → Option (List ℕ) → List ℕ → Type 0
IsTextWithDoubt bodies None file = IsJournalText bodies file
IsTextWithDoubt bodies (Some body) file = IsJournalText bodies file ⊎ IsJournalText (bodies ++ body ∷ []) file

-- The bytes before the next record's gate stand for these bodies, whatever follows a closed gate.
pub record IsFront (bodies : List (List ℕ)) (front : List ℕ) : Type 0 where
  pub fit : AllByRecursion Fits bodies
  pub is : front ≡ texts bodies
