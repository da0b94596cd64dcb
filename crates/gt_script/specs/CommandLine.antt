-- The command line of a script's line: what stands before its first newline.
use Rattle.gt_setup.specs.Setup.{Setup}
use Rattle.gt_values.specs.Forms.{is_moment}
use Rattle.std.specs.Char.{is_ascii_graphic}
use Rattle.std.specs.Fmt.{decimal}
use Rattle.std.specs.List.{list_all}
use Rattle.std.specs.Prelude.{Bool, IfSome, IsTrue, List, None, Option, Some, codes, length, not, ◌&&◌, ◌++◌, ◌==◌, ◌∷◌, ◌≡◌, ◌≤◌, ℕ}
use Rattle.std.specs.Str.{bytes_eq}
use Rattle.gt_script.specs.declared.command_line.CommandLine.{CommandLine}
use Rattle.gt_script.specs.declared.command_line.CommandLine.TheVariants.{End, Now, Restart, Send}

-- the most bytes of a command line, its newline not counted
abbrev pub most_command_bytes : ℕ
most_command_bytes = 8192

-- the most bytes of a request's body
abbrev pub most_body_bytes : ℕ
most_body_bytes = 8388608

-- one or more bytes, each of printable ASCII and no space
abbrev pub is_word : List ℕ → Bool
is_word word = not (length word == 0) && list_all is_ascii_graphic word

-- `-` stands for no token
abbrev pub no_token : List ℕ
no_token = codes "-"

-- a token is a word other than `-`
abbrev pub is_token : List ℕ → Bool
is_token word = is_word word && not (bytes_eq word no_token)

-- the word that stands for a token, or for none
abbrev pub token_word : Option (List ℕ) → List ℕ
token_word None = no_token
token_word (Some token) = token

-- What follows `send `: a token or `-`, a method, a target, and the number of the body's bytes.
pub record IsSendText (token : Option (List ℕ)) (method target : List ℕ) (size : ℕ) (text : List ℕ) : Type 0 where
  pub has_token : IfSome token (λ word. IsTrue (is_token word))
  pub has_method : IsTrue (is_word method)
  pub has_target : IsTrue (is_word target)
  pub fits : size ≤ most_body_bytes
  pub whole : text ≡ token_word token ++ 32 ∷ (method ++ 32 ∷ (target ++ 32 ∷ decimal size))

-- the texts of a command line: `end`, `now SECONDS`, `restart`, `send TOKEN METHOD TARGET N`; none depends on the setup
abbrev pub IsCommandText : Setup → CommandLine → List ℕ → Type 0
IsCommandText setup End text = text ≡ codes "end"
IsCommandText setup (Now moment) text = IsTrue (is_moment moment) × (text ≡ codes "now " ++ decimal moment)
IsCommandText setup Restart text = text ≡ codes "restart"
IsCommandText setup (Send token method target size) text = (request : List ℕ) × IsSendText token method target size request × (text ≡ codes "send " ++ request)

-- the command line is one of a request, and this text follows its first word
abbrev pub IsSendOf : CommandLine → List ℕ → Type 0
IsSendOf (Send token method target size) text = IsSendText token method target size text
IsSendOf line text = ⊥

-- the command line is one of a moment, and this text follows its first word
abbrev pub IsNowOf : CommandLine → List ℕ → Type 0
IsNowOf (Now moment) text = IsTrue (is_moment moment) × (text ≡ decimal moment)
IsNowOf line text = ⊥
