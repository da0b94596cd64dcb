-- Reading from the front of a list of bytes: how readers are put together, and how a call keeps to one.
use Rattle.gt_records.specs.declared.fault.DecodeFault.{DecodeFault}
use Rattle.gt_values.specs.Grammar.{Read, ◌>>=◌}
use Rattle.std.specs.Int.{Width, byte_len, from_be_bytes}
use Rattle.std.specs.Prelude.{Bool, Err, List, None, Ok, Option, Result, Some, [], drop, if◌then◌else◌, length, nat_lt, suc, take, zero, ℕ, ◌==◌, ◌∷◌, ◌≡◌}
use Rattle.gt_records.specs.declared.fault.DecodeFault.TheVariants as faults

-- reading gives nothing, unless memory ran out
abbrev pub Fails : {X : Type 0} → DecodeFault → Read X → Type 0
Fails faults.OutOfMemory read = Unit {0}
Fails faults.NotRecord read = read ≡ None

-- what a reader returned and left is what reading gives, unless memory ran out
abbrev pub Gives : {X : Type 0} → Result X DecodeFault → Read X → List ℕ → Type 0
Gives (Ok x) read left = read ≡ Some (x, left)
Gives (Err e) read left = Fails e read

-- one field and the next
infixr 10 ◌⊗◌
abbrev pub ◌⊗◌ : {A B : Type 0} → (List ℕ → Read A) → (List ℕ → Read B) → List ℕ → Read (A × B)
(first ⊗ second) bytes = do
  a ← first bytes
  b ← second a.1
  Some ((a.0, b.0), b.1)

-- a first value, and what it leads to
abbrev pub led : {L X : Type 0} → (List ℕ → Read L) → (L → List ℕ → Read X) → List ℕ → Read X
led first next bytes = do
  lead ← first bytes
  next lead.0 lead.1

-- a value made of what is read
abbrev pub mapped : {A B : Type 0} → (A → B) → (List ℕ → Read A) → List ℕ → Read B
mapped make reader bytes = do
  a ← reader bytes
  Some (make a.0, a.1)

-- what is read, if it passes the test
abbrev pub checked : {A : Type 0} → (A → Bool) → (List ℕ → Read A) → List ℕ → Read A
checked test reader bytes = do
  a ← reader bytes
  if test a.0 then Some a else None

-- so many bytes
unfoldable pub bytes_at : ℕ → List ℕ → Read (List ℕ)
bytes_at count bytes = if nat_lt (length bytes) count then None else Some (take count bytes, drop count bytes)

-- a number of this width, its greatest byte first
unfoldable pub number_at : Width → List ℕ → Read ℕ
number_at width = mapped (from_be_bytes width) (bytes_at (byte_len width))

-- one byte
unfoldable pub byte_at : List ℕ → Read ℕ
byte_at [] = None
byte_at (b ∷ rest) = Some (b, rest)

-- the value that one byte stands for
unfoldable pub coded_at : {X : Type 0} → (ℕ → Option X) → List ℕ → Read X
coded_at value_of bytes = do
  b ← byte_at bytes
  x ← value_of b.0
  Some (x, b.1)

-- the first of the values whose number it is
abbrev pub numbered : {X : Type 0} → (X → ℕ) → List X → ℕ → Option X
numbered number_of [] n = None
numbered number_of (x ∷ xs) n = if n == number_of x then Some x else numbered number_of xs n

-- so many values
unfoldable pub times_at : {X : Type 0} → (List ℕ → Read X) → ℕ → List ℕ → Read (List X)
times_at reader zero bytes = Some ([], bytes)
times_at reader (suc count) bytes = do
  first ← reader bytes
  others ← times_at reader count first.1
  Some (first.0 ∷ others.0, others.1)

-- one of several forms of a value: the number that stands before it, and how what follows is read
pub record Form (X : Type 0) : Type 0 where
  pub number : ℕ
  pub reader : List ℕ → Read X

-- the value by the first form whose number it is
abbrev pub of_form : {X : Type 0} → List (Form X) → ℕ → List ℕ → Read X
of_form [] number bytes = None
of_form (form ∷ forms) number bytes = if number == form.number then form.reader bytes else of_form forms number bytes

-- a value that nothing follows
abbrev pub alone : {X : Type 0} → X → List ℕ → Read X
alone x bytes = Some (x, bytes)
