-- The text of a script: the texts of its lines, one after another.
use Rattle.gt_setup.specs.Setup.{Setup}
use Rattle.std.specs.Prelude.{List, Option, [], length, ◌++◌, ◌∷◌, ◌≡◌, ◌≤◌, ℕ}
use Rattle.gt_script.specs.CommandLine.{IsCommandText, most_command_bytes}
use Rattle.gt_script.specs.declared.command_line.CommandLine.{CommandLine}
use Rattle.gt_script.specs.declared.command_line.CommandLine.TheVariants.{End as EndCommand, Now as NowCommand, Restart as RestartCommand, Send as SendCommand}
use Rattle.gt_script.specs.declared.line.Line.{Line}
use Rattle.gt_script.specs.declared.line.Line.TheVariants.{End, Now, Restart, Send}

-- the most bytes of a script
abbrev pub most_script_bytes : ℕ
most_script_bytes = 67108864

-- Behind the command line of a request, with its newline, its body and a newline make the line.
pub record IsRequest (token : Option (List ℕ)) (method target : List ℕ) (size : ℕ) (line : Line) (rest : List ℕ) : Type 0 where
  pub body : List ℕ
  pub sized : length body ≡ size
  pub asks : line ≡ Send token method target body
  pub whole : rest ≡ body ++ 10 ∷ []

-- behind a command line, with its newline, this makes the line
abbrev pub Follows : Setup → CommandLine → Line → List ℕ → Type 0
Follows setup EndCommand line rest = (line ≡ End) × (rest ≡ [])
Follows setup (NowCommand moment) line rest = (line ≡ Now moment) × (rest ≡ [])
Follows setup RestartCommand line rest = (line ≡ Restart) × (rest ≡ [])
Follows setup (SendCommand token method target size) line rest = IsRequest token method target size line rest

-- a text of a line: its command line, a newline, and what follows it
pub record IsTextOf (setup : Setup) (line : Line) (text : List ℕ) : Type 0 where
  pub command_line : CommandLine
  pub command : List ℕ
  pub rest : List ℕ
  pub is_command : IsCommandText setup command_line command
  pub short : length command ≤ most_command_bytes
  pub follows : Follows setup command_line line rest
  pub whole : text ≡ command ++ 10 ∷ rest

-- the bytes are texts of these lines, one after another
abbrev pub ScriptText : Setup → List Line → List ℕ → Type 0
ScriptText setup [] bytes = bytes ≡ []
ScriptText setup (line ∷ rest) bytes = (text : List ℕ) × (others : List ℕ) × IsTextOf setup line text × ScriptText setup rest others × (bytes ≡ text ++ others)

-- these lines stand at the front of the bytes, within a script's limit, and `after` is left behind them
pub record Reads (setup : Setup) (lines : List Line) (bytes after : List ℕ) : Type 0 where
  pub text : List ℕ
  pub is_text : ScriptText setup lines text
  pub whole : bytes ≡ text ++ after
  pub fits : length text ≤ most_script_bytes

-- no further line stands behind these
abbrev pub EndsBehind : Setup → List Line → List ℕ → Type 0
EndsBehind setup lines bytes = (line : Line) (after : List ℕ) → Reads setup (lines ++ line ∷ []) bytes after → ⊥

-- a further line behind these ends with the bytes, if one stands there
abbrev pub EndsWithNext : Setup → List Line → List ℕ → Type 0
EndsWithNext setup lines bytes = (line : Line) (after : List ℕ) → Reads setup (lines ++ line ∷ []) bytes after → after ≡ []
