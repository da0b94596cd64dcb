-- What is said of open folders and files, in one word; and what the calls do to the table of what is open.
use Rattle.std.specs.Prelude.{Bool, IfOk, IsErr, Result, false, true, ◌≡◌, ◌≢◌, ℕ}

-- All that is said of them. What stands in the folders isn't told.
pub record FolderWords (F : Type 0) : Type 1 where
  -- whether something is open under this number
  pub is_open : F → ℕ → Bool

-- a call that opens and closes nothing
abbrev pub IsSameOpen : {F : Type 0} → FolderWords F → F → F → Type 0
IsSameOpen words old new = (n : ℕ) → words.is_open new n ≡ words.is_open old n

-- a call that opens one, under a number that was free
pub record OpensOne {F E : Type 0} (words : FolderWords F) (old : F) (result : Result ℕ E) (new : F) : Type 0 where
  pub was : IfOk result (λ n. words.is_open old n ≡ false)
  pub is : IfOk result (λ n. words.is_open new n ≡ true)
  pub others : IfOk result (λ n. (m : ℕ) → m ≢ n → words.is_open new m ≡ words.is_open old m)
  -- one that fails leaves nothing open
  pub err : IsErr result → IsSameOpen words old new

-- a call that closes this number alone
pub record ClosesOne {F : Type 0} (words : FolderWords F) (old : F) (number : ℕ) (new : F) : Type 0 where
  pub is : words.is_open new number ≡ false
  pub others : (m : ℕ) → m ≢ number → words.is_open new m ≡ words.is_open old m
