-- What reading one line of a script took, where so many bytes of the script were taken before.
use Rattle.gt_setup.specs.Setup.{Setup}
use Rattle.std.specs.Prelude.{List, [], length, ◌++◌, ◌+◌, ◌∷◌, ◌≡◌, ◌≤◌, ℕ}
use Rattle.gt_script.specs.CommandLine.{IsCommandText, most_command_bytes}
use Rattle.gt_script.specs.Script.{Follows, IsTextOf, most_script_bytes}
use Rattle.gt_script.specs.declared.command_line.CommandLine.{CommandLine}
use Rattle.gt_script.specs.declared.line.Line.{Line}
use Rattle.gt_script.specs.declared.line.ScriptFault.{ScriptFault}
use Rattle.gt_script.specs.declared.line.ScriptFault.TheVariants.{OutOfMemory, Refused, SourceFault}

-- This line stands at the front of the bytes left, within the limit. Behind it `after` is left, and that number was taken.
pub record BeginsWith (setup : Setup) (line : Line) (before : ℕ) (bytes after : List ℕ) (taken : ℕ) : Type 0 where
  pub text : List ℕ
  pub is_text : IsTextOf setup line text
  pub whole : bytes ≡ text ++ after
  pub count : before + length text ≡ taken
  pub fits : taken ≤ most_script_bytes

-- no line stands there within the limit
abbrev pub BeginsNoLine : Setup → ℕ → List ℕ → Type 0
BeginsNoLine setup before bytes = (line : Line) (after : List ℕ) (taken : ℕ) → BeginsWith setup line before bytes after taken → ⊥

-- a line that stands there ends with the bytes
abbrev pub EndsWithLine : Setup → ℕ → List ℕ → Type 0
EndsWithLine setup before bytes = (line : Line) (after : List ℕ) (taken : ℕ) → BeginsWith setup line before bytes after taken → after ≡ []

-- of the bytes left, some were taken, and they hold no whole line
pub record BreaksOff (setup : Setup) (before : ℕ) (bytes after : List ℕ) : Type 0 where
  pub gone : List ℕ
  pub whole : bytes ≡ gone ++ after
  pub unfinished : BeginsNoLine setup before gone

-- of the bytes left, some were taken, and nothing behind a whole line
pub record TakesOneLine (setup : Setup) (before : ℕ) (bytes after : List ℕ) : Type 0 where
  pub gone : List ℕ
  pub whole : bytes ≡ gone ++ after
  pub at_most_one : EndsWithLine setup before gone

-- what was taken where no line was read
abbrev pub Stops : Setup → ℕ → List ℕ → List ℕ → ScriptFault → Type 0
Stops setup before bytes after (Refused line) = BreaksOff setup before bytes after
Stops setup before bytes after SourceFault = BreaksOff setup before bytes after
Stops setup before bytes after OutOfMemory = TakesOneLine setup before bytes after

-- the count of the bytes taken, as it was before, grew by those taken
abbrev pub Counts : ℕ → List ℕ → List ℕ → ℕ → Type 0
Counts before bytes after taken = before + length bytes ≡ taken + length after

-- a refusal names this line, and comes because of that
abbrev pub Refuses : ℕ → Type 0 → ScriptFault → Type 0
Refuses number because (Refused line) = (line ≡ number) × because
Refuses number because SourceFault = Unit {0}
Refuses number because OutOfMemory = Unit {0}

-- This command line stands at the front of the bytes left, with its newline.
pub record BeginsCommand (setup : Setup) (command_line : CommandLine) (before : ℕ) (bytes after : List ℕ) (taken : ℕ) : Type 0 where
  pub command : List ℕ
  pub is_command : IsCommandText setup command_line command
  pub short : length command ≤ most_command_bytes
  pub whole : bytes ≡ command ++ 10 ∷ after
  pub count : before + length command + 1 ≡ taken

-- Behind a command line this line's rest stands at the front of the bytes left, within the limit.
pub record GoesOn (setup : Setup) (command_line : CommandLine) (line : Line) (before : ℕ) (bytes after : List ℕ) (taken : ℕ) : Type 0 where
  pub rest : List ℕ
  pub follows : Follows setup command_line line rest
  pub whole : bytes ≡ rest ++ after
  pub count : before + length rest ≡ taken
  pub fits : taken ≤ most_script_bytes

-- no line goes on there within the limit
abbrev pub GoesOnNowhere : Setup → CommandLine → ℕ → List ℕ → Type 0
GoesOnNowhere setup command_line before bytes = (line : Line) (after : List ℕ) (taken : ℕ) → GoesOn setup command_line line before bytes after taken → ⊥

-- behind the command line some bytes were taken, and they make no whole line with it
pub record BreaksOffBehind (setup : Setup) (command_line : CommandLine) (before : ℕ) (bytes after : List ℕ) : Type 0 where
  pub gone : List ℕ
  pub whole : bytes ≡ gone ++ after
  pub unfinished : GoesOnNowhere setup command_line before gone

-- no body of this size with a newline stands there within the limit
abbrev pub HasNoBody : ℕ → ℕ → List ℕ → Type 0
HasNoBody size before bytes = (body behind : List ℕ) → length body ≡ size → bytes ≡ body ++ 10 ∷ behind → before + size + 1 ≤ most_script_bytes → ⊥

-- some bytes were taken, and they hold no whole body of this size with a newline
pub record BreaksOffBody (size before : ℕ) (bytes after : List ℕ) : Type 0 where
  pub gone : List ℕ
  pub whole : bytes ≡ gone ++ after
  pub unfinished : HasNoBody size before gone
