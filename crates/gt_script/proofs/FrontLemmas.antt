-- Where no line stands at the front of some bytes.
use Rattle.gt_setup.specs.Setup.{Setup}
use Rattle.gt_streams.specs.Reading.{HasNoNewline}
use Rattle.std.proofs.Common.{Bool, Err, IfErr, IfOk, IsTrue, List, Ok, Result, [], ap, append-nil, append_assoc, arith, length, length-append, refl, subst, sym, ◌++◌, ◌+◌, ◌<◌, ◌∙◌, ◌∷◌, ◌≡◌, ◌≤◌, ℕ}
use Rattle.gt_script.proofs.CommandLemmas.{command_plain, one_command}
use Rattle.gt_script.proofs.ListLemmas.{no_longer, same_front}
use Rattle.gt_script.specs.CommandLine.{IsCommandText}
use Rattle.gt_script.specs.Reading.{BeginsCommand, BeginsNoLine, BeginsWith, BreaksOff, BreaksOffBehind, Counts, GoesOn, GoesOnNowhere, Refuses, Stops, TakesOneLine}
use Rattle.gt_script.specs.Script.{Follows, IsTextOf, most_script_bytes}
use Rattle.gt_script.specs.declared.command_line.CommandLine.{CommandLine}
use Rattle.gt_script.specs.declared.line.Line.{Line}
use Rattle.gt_script.specs.declared.line.ScriptFault.{ScriptFault}
use Rattle.gt_script.specs.declared.line.ScriptFault.TheVariants.{OutOfMemory, Refused, SourceFault}

module _ (setup : Setup) where
  -- the bytes of a line that stands there, as its command line, its newline and the rest
  split : (line : Line) (before : ℕ) (bytes after : List ℕ) (taken : ℕ) (here : BeginsWith setup line before bytes after taken)
      → bytes ≡ here.is_text.command ++ 10 ∷ (here.is_text.rest ++ after)
  split line before bytes after taken here =
      let is = here.is_text in
      here.whole ∙ ap (λ t. t ++ after) is.whole ∙ append_assoc is.command (10 ∷ is.rest) after

  plain_of : (line : Line) (text : List ℕ) (is : IsTextOf setup line text) → HasNoNewline is.command
  plain_of line text is = command_plain setup is.command_line is.command is.is_command

  -- a command line of no line
  pub other_command : (before : ℕ) (command new : List ℕ) → HasNoNewline command → ((line : CommandLine) → IsCommandText setup line command → ⊥) → BeginsNoLine setup before (command ++ 10 ∷ new)
  other_command before command new plain none line after taken here =
      let is = here.is_text in
      let front = same_front 10 command is.command new (is.rest ++ after) plain (plain_of line here.text is) (split line before (command ++ 10 ∷ new) after taken here) in
      none is.command_line (subst (IsCommandText setup is.command_line) (sym front.word) is.is_command)

  -- a command line that is too long
  pub long_command : (before : ℕ) (command new : List ℕ) → HasNoNewline command → 8192 < length command → BeginsNoLine setup before (command ++ new)
  long_command before command new plain long line after taken here =
      let is = here.is_text in
      let short : length command ≤ length is.command = no_longer 10 command is.command new (is.rest ++ after) plain (split line before (command ++ new) after taken here) in
      omega (arith, long, short, is.short)

  -- bytes that end before a newline
  pub no_newline : (before : ℕ) (bytes : List ℕ) → HasNoNewline bytes → BeginsNoLine setup before bytes
  no_newline before bytes plain line after taken here =
      let is = here.is_text in
      let whole : bytes ≡ is.command ++ 10 ∷ (is.rest ++ after) = split line before bytes after taken here in
      let short : length bytes ≤ length is.command = no_longer 10 bytes is.command [] (is.rest ++ after) plain (append-nil bytes ∙ whole) in
      omega (arith, short, ap length whole, length-append is.command (10 ∷ (is.rest ++ after)))

  size_of : (line : Line) (before : ℕ) (bytes after : List ℕ) (taken : ℕ) (here : BeginsWith setup line before bytes after taken) → before + length here.is_text.command + 1 + length here.is_text.rest ≡ taken
  size_of line before bytes after taken here =
      let is = here.is_text in
      omega (arith, here.count, ap length is.whole, length-append is.command (10 ∷ is.rest))

  -- a command line that ends behind the script's limit
  pub late_command : (before : ℕ) (command new : List ℕ) → HasNoNewline command → most_script_bytes < before + length command + 1 → BeginsNoLine setup before (command ++ 10 ∷ new)
  late_command before command new plain late line after taken here =
      let is = here.is_text in
      let front = same_front 10 command is.command new (is.rest ++ after) plain (plain_of line here.text is) (split line before (command ++ 10 ∷ new) after taken here) in
      omega (arith, late, size_of line before (command ++ 10 ∷ new) after taken here, here.fits, ap length front.word)

  -- the rest of a line behind a command line that stands there
  pub goes_on : (command_line : CommandLine) (before : ℕ) (command bytes : List ℕ) (is : IsCommandText setup command_line command) (line : Line) (after : List ℕ) (taken : ℕ)
      → BeginsWith setup line before (command ++ 10 ∷ bytes) after taken → GoesOn setup command_line line (before + length command + 1) bytes after taken
  goes_on command_line before command bytes is line after taken here =
      let text = here.is_text in
      let front = same_front 10 command text.command bytes (text.rest ++ after) (command_plain setup command_line command is) (plain_of line here.text text) (split line before (command ++ 10 ∷ bytes) after taken here) in
      let head : command_line ≡ text.command_line = one_command setup command_line text.command_line command is (subst (IsCommandText setup text.command_line) (sym front.word) text.is_command) in
      record {
        rest = text.rest;
        follows = subst (λ h. Follows setup h line text.rest) (sym head) text.follows;
        whole = front.rest;
        count = omega (arith, size_of line before (command ++ 10 ∷ bytes) after taken here, ap length front.word);
        fits = here.fits;
      }

  module _ (command_line : CommandLine) (before : ℕ) (bytes behind : List ℕ) (through : ℕ) (first : BeginsCommand setup command_line before bytes behind through) where
    -- a whole line
    pub begins_with : (line : Line) (after : List ℕ) (taken : ℕ) → GoesOn setup command_line line through behind after taken → BeginsWith setup line before bytes after taken
    begins_with line after taken on = record {
      text = first.command ++ 10 ∷ on.rest;
      is_text = record { command_line = command_line; command = first.command; rest = on.rest; is_command = first.is_command; short = first.short; follows = on.follows; whole = refl };
      whole = first.whole ∙ ap (λ s. first.command ++ 10 ∷ s) on.whole ∙ sym (append_assoc first.command (10 ∷ on.rest) after);
      count = omega (arith, first.count, on.count, length-append first.command (10 ∷ on.rest));
      fits = on.fits;
    }

    -- no line stands there where none goes on behind its command line
    pub no_line : GoesOnNowhere setup command_line through behind → BeginsNoLine setup before bytes
    no_line none line after taken here =
        let there = subst (λ s. BeginsWith setup line before s after taken) first.whole here in
        let on = goes_on command_line before first.command behind first.is_command line after taken there in
        none line after taken (subst (λ n. GoesOn setup command_line line n behind after taken) first.count on)

    pub breaks_off : (after : List ℕ) → BreaksOffBehind setup command_line through behind after → BreaksOff setup before bytes after
    breaks_off after off = record {
      gone = first.command ++ 10 ∷ off.gone;
      whole = first.whole ∙ ap (λ s. first.command ++ 10 ∷ s) off.whole ∙ sym (append_assoc first.command (10 ∷ off.gone) after);
      unfinished = λ line rest taken here. off.unfinished line rest taken (subst (λ n. GoesOn setup command_line line n off.gone rest taken) first.count (goes_on command_line before first.command off.gone first.is_command line rest taken here));
    }

  -- where no whole line was taken, at most one was
  pub at_most_one : (before : ℕ) (bytes after : List ℕ) → BreaksOff setup before bytes after → TakesOneLine setup before bytes after
  at_most_one before bytes after off = record { gone = off.gone; whole = off.whole; at_most_one = λ line rest taken here. absurd (off.unfinished line rest taken here) }

  stops : (before : ℕ) (bytes after : List ℕ) (fault : ScriptFault) → BreaksOff setup before bytes after → Stops setup before bytes after fault
  stops before bytes after (Refused line) off = off
  stops before bytes after SourceFault off = off
  stops before bytes after OutOfMemory off = at_most_one before bytes after off

  -- bytes without a newline were taken
  pub cut_off : (before : ℕ) (gone bytes after : List ℕ) → HasNoNewline gone → bytes ≡ gone ++ after → BreaksOff setup before bytes after
  cut_off before gone bytes after plain whole = record { gone = gone; whole = whole; unfinished = no_newline before gone plain }

  -- a command line and its newline hold at most one line
  nothing_behind : (a b : List ℕ) → [] ≡ a ++ b → b ≡ []
  nothing_behind [] b e = sym e
  nothing_behind (x ∷ a) b e = absurd (omega (arith, ap length e))

  pub command_taken : (before : ℕ) (command bytes after : List ℕ) → HasNoNewline command → bytes ≡ command ++ 10 ∷ after → TakesOneLine setup before bytes after
  command_taken before command bytes after plain whole = record {
    gone = command ++ 10 ∷ [];
    whole = whole ∙ sym (append_assoc command (10 ∷ []) after);
    at_most_one = λ line rest taken here.
        let is = here.is_text in
        let front = same_front 10 command is.command [] (is.rest ++ rest) plain (plain_of line here.text is) (split line before (command ++ 10 ∷ []) rest taken here) in
        nothing_behind is.rest rest front.rest;
  }

  -- what reading the rest answers, of the whole line
  module _ (command_line : CommandLine) (before : ℕ) (bytes behind after : List ℕ) (through : ℕ) (told later : Bool) (same : later ≡ told) (first : IsTrue told → BeginsCommand setup command_line before bytes behind through) where
    pub line_read : (taken : ℕ) (r : Result Line ScriptFault) → IfOk r (λ line. IsTrue later → GoesOn setup command_line line through behind after taken) → IfOk r (λ line. IsTrue told → BeginsWith setup line before bytes after taken)
    line_read taken (Ok line) on = λ t. begins_with command_line before bytes behind through (first t) line after taken (on (same ∙ t))
    line_read taken (Err fault) on = tt

    -- the bytes of the command line count too
    counts_on : (taken : ℕ) → IsTrue told → Counts through behind after taken → Counts before bytes after taken
    counts_on taken t on =
        let begins = first t in
        omega (arith, on, begins.count, ap length begins.whole, length-append begins.command (10 ∷ behind))

    pub line_refused : (number : ℕ) (r : Result Line ScriptFault) → IfErr r (Refuses number (IsTrue later → GoesOnNowhere setup command_line through behind)) → IfErr r (Refuses number (IsTrue told → BeginsNoLine setup before bytes))
    line_refused number (Ok line) none = tt
    line_refused number (Err (Refused line)) none = (none.0, λ t. no_line command_line before bytes behind through (first t) (none.1 (same ∙ t)))
    line_refused number (Err SourceFault) none = tt
    line_refused number (Err OutOfMemory) none = tt

    pub line_stopped : (taken : ℕ) (r : Result Line ScriptFault) → IfErr r (λ fault. IsTrue later → BreaksOffBehind setup command_line through behind after × Counts through behind after taken) → IfErr r (λ fault. IsTrue told → Stops setup before bytes after fault × Counts before bytes after taken)
    line_stopped taken (Ok line) off = tt
    line_stopped taken (Err fault) off = λ t. let (behind_it, on) = off (same ∙ t) in (stops before bytes after fault (breaks_off command_line before bytes behind through (first t) after behind_it), counts_on taken t on)
