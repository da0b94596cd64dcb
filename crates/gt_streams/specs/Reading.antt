-- What reading a line, or a number of bytes, answers and takes.
use Rattle.gt_streams.specs.declared.line.LineEnd.{LineEnd}
use Rattle.gt_streams.specs.declared.line.LineEnd.TheVariants.{EndOfInput, Line}
use Rattle.gt_streams.specs.declared.line.StreamFault.{StreamFault}
use Rattle.gt_streams.specs.declared.line.StreamFault.TheVariants.{Cut, OutOfMemory, ReadFault, TooLong}
use Rattle.std.specs.List.{AllByRecursion, position_or_len}
use Rattle.std.specs.Prelude.{Err, List, Ok, Result, [], if◌then◌else◌, length, nat_le, nat_lt, ◌++◌, ◌<◌, ◌==◌, ◌∷◌, ◌≡◌, ◌≢◌, ◌⊎◌, ℕ}

-- none of these bytes is a newline
abbrev pub HasNoNewline : List ℕ → Type 0
HasNoNewline bytes = AllByRecursion (λ b. b ≢ 10) bytes

-- how many bytes stand before the first newline, or how many there are where there is none
abbrev pub line_length : List ℕ → ℕ
line_length bytes = position_or_len (λ b. b == 10) bytes

-- how reading a line of these bytes ends, where nothing fails
abbrev pub line_end_of : ℕ → List ℕ → Result LineEnd StreamFault
line_end_of max bytes = if nat_le max (line_length bytes) then Err (TooLong max)
    else if nat_lt (line_length bytes) (length bytes) then Ok Line
    else Ok (EndOfInput (line_length bytes))

-- how reading so many of these bytes ends, where nothing fails
abbrev pub bytes_end_of : ℕ → List ℕ → Result Unit StreamFault
bytes_end_of want bytes = if nat_le want (length bytes) then Ok tt else Err (Cut (length bytes) want)

-- a source's fault is told as one: where the answer is another, the count of faults stays
abbrev pub TellsFaults : {T : Type 0} → ℕ → Result T StreamFault → ℕ → Type 0
TellsFaults before (Err ReadFault) now = Unit {0}
TellsFaults before (Err OutOfMemory) now = now ≡ before
TellsFaults before (Err (TooLong max)) now = now ≡ before
TellsFaults before (Err (Cut have want)) now = now ≡ before
TellsFaults before (Ok done) now = now ≡ before

-- the answer, or that of a failed source or of want of memory in its place
abbrev pub IsUnlessFault : {T : Type 0} → Result T StreamFault → Result T StreamFault → Type 0
IsUnlessFault answer result = (result ≡ answer) ⊎ ((result ≡ Err ReadFault) ⊎ (result ≡ Err OutOfMemory))

-- of the bytes left before, a line's answer took those handed out, and a newline behind them where it says so
abbrev pub TakesLine : List ℕ → Result LineEnd StreamFault → List ℕ → List ℕ → Type 0
TakesLine before (Ok Line) bytes after = before ≡ bytes ++ 10 ∷ after
TakesLine before (Ok (EndOfInput have)) bytes after = (before ≡ bytes ++ after) × (after ≡ [])
TakesLine before (Err (TooLong max)) bytes after = before ≡ bytes ++ after
TakesLine before (Err ReadFault) bytes after = before ≡ bytes ++ after
TakesLine before (Err OutOfMemory) bytes after = before ≡ bytes ++ after
TakesLine before (Err (Cut have want)) bytes after = ⊥

-- how many bytes a line's answer handed out
abbrev pub NumbersLine : ℕ → Result LineEnd StreamFault → ℕ → Type 0
NumbersLine max (Ok Line) number = number < max
NumbersLine max (Ok (EndOfInput have)) number = (have ≡ number) × (number < max)
NumbersLine max (Err (TooLong most)) number = (most ≡ max) × (number ≡ max)
NumbersLine max (Err ReadFault) number = number < max
NumbersLine max (Err OutOfMemory) number = number < max
NumbersLine max (Err (Cut have want)) number = ⊥

-- What reading a line answers and hands out, of every source: no newline, and so many bytes.
pub record HandsOutLine (max : ℕ) (result : Result LineEnd StreamFault) (bytes : List ℕ) : Type 0 where
  pub plain : HasNoNewline bytes
  pub numbers : NumbersLine max result (length bytes)

-- What reading a line takes of the bytes left, and which answer comes: only a fault or want of memory takes its place.
pub record ReadsLine (max : ℕ) (before : List ℕ) (result : Result LineEnd StreamFault) (bytes after : List ℕ) : Type 0 where
  pub taken : TakesLine before result bytes after
  pub answer : IsUnlessFault (line_end_of max before) result

-- of the bytes left before, these were handed out, and where the answer is a cut none is left
abbrev pub TakesBytes : List ℕ → Result Unit StreamFault → List ℕ → List ℕ → Type 0
TakesBytes before (Ok done) bytes after = before ≡ bytes ++ after
TakesBytes before (Err (Cut have want)) bytes after = (before ≡ bytes ++ after) × (after ≡ [])
TakesBytes before (Err ReadFault) bytes after = before ≡ bytes ++ after
TakesBytes before (Err OutOfMemory) bytes after = before ≡ bytes ++ after
TakesBytes before (Err (TooLong max)) bytes after = ⊥

-- how many bytes the answer handed out, of those wanted
abbrev pub NumbersBytes : ℕ → Result Unit StreamFault → ℕ → Type 0
NumbersBytes want (Ok done) number = number ≡ want
NumbersBytes want (Err (Cut have most)) number = (have ≡ number) × (most ≡ want) × (number < want)
NumbersBytes want (Err ReadFault) number = number < want
NumbersBytes want (Err OutOfMemory) number = number < want
NumbersBytes want (Err (TooLong max)) number = ⊥

-- What reading so many bytes takes of those left, and which answer comes: only a fault or want of memory takes its place.
pub record ReadsBytes (want : ℕ) (before : List ℕ) (result : Result Unit StreamFault) (bytes after : List ℕ) : Type 0 where
  pub taken : TakesBytes before result bytes after
  pub answer : IsUnlessFault (bytes_end_of want before) result
