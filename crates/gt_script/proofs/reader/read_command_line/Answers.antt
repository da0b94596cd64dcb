-- Which bytes a command line that is none has at its front, at each way in which reading it ends.
use Rattle.std.proofs.Common.{[], ap, append_assoc, arith, length, length-append, refl, rules, subst, sym, ◌++◌, ◌+◌, ◌<◌, ◌∙◌, ◌∷◌, ◌≡◌}
use Rattle.gt_script.proofs.FrontLemmas.{at_most_one, command_taken, cut_off, late_command, long_command, no_newline, other_command}
use Rattle.gt_script.proofs.reader.read_command_line.Goals as goal
use Rattle.gt_script.specs.CommandLine.{IsCommandText}
use Rattle.gt_script.specs.Reading.{BeginsNoLine}
use Rattle.gt_script.specs.Script.{most_script_bytes}
use Rattle.gt_script.specs.declared.command_line.CommandLine.{CommandLine}

pub returns-then-taken-gt-SCRIPT_LIMIT-clause-refused : goal.returns-then-taken-gt-SCRIPT_LIMIT-clause-refused
returns-then-taken-gt-SCRIPT_LIMIT-clause-refused g c = (
  refl,
  λ told.
      let command = c.read_line-end.new.into.items in
      let after = g.S.Source.words.left c.read_line-end.new.source in
      let before = c.args.taken.now in
      let late : most_script_bytes < before + length command + 1 = omega arith in
      let whole : g.S.Source.words.left c.args.script.now ≡ command ++ 10 ∷ after = search rules in
      subst (BeginsNoLine c.args.setup.now before) (sym whole) (late_command c.args.setup.now before command after c.read_line-end.ensures.value.plain late),
)

pub returns-then-taken-gt-SCRIPT_LIMIT-clause-stopped : goal.returns-then-taken-gt-SCRIPT_LIMIT-clause-stopped
returns-then-taken-gt-SCRIPT_LIMIT-clause-stopped g c told =
    let command = c.read_line-end.new.into.items in
    let after = g.S.Source.words.left c.read_line-end.new.source in
    let before = c.args.taken.now in
    let late : most_script_bytes < before + length command + 1 = omega arith in
    let whole : g.S.Source.words.left c.args.script.now ≡ command ++ 10 ∷ after = search rules in (
      record {
        gone = command ++ 10 ∷ [];
        whole = whole ∙ sym (append_assoc command (10 ∷ []) after);
        unfinished = late_command c.args.setup.now before command [] c.read_line-end.ensures.value.plain late;
      },
      omega (arith, ap length whole, length-append command (10 ∷ after)),
    )

pub returns-in-Ok-None-clause-refused : goal.returns-in-Ok-None-clause-refused
returns-in-Ok-None-clause-refused g c = (
  refl,
  λ told.
      let command = c.read_line-end.new.into.items in
      let after = g.S.Source.words.left c.read_line-end.new.source in
      let before = c.args.taken.now in
      let whole : g.S.Source.words.left c.args.script.now ≡ command ++ 10 ∷ after = search rules in
      let none : (line : CommandLine) → IsCommandText c.args.setup.now line command → ⊥ = search rules in
      subst (BeginsNoLine c.args.setup.now before) (sym whole) (other_command c.args.setup.now before command after c.read_line-end.ensures.value.plain none),
)

pub returns-in-Ok-None-clause-stopped : goal.returns-in-Ok-None-clause-stopped
returns-in-Ok-None-clause-stopped g c told =
    let command = c.read_line-end.new.into.items in
    let after = g.S.Source.words.left c.read_line-end.new.source in
    let before = c.args.taken.now in
    let whole : g.S.Source.words.left c.args.script.now ≡ command ++ 10 ∷ after = search rules in
    let none : (line : CommandLine) → IsCommandText c.args.setup.now line command → ⊥ = search rules in (
      record {
        gone = command ++ 10 ∷ [];
        whole = whole ∙ sym (append_assoc command (10 ∷ []) after);
        unfinished = other_command c.args.setup.now before command [] c.read_line-end.ensures.value.plain none;
      },
      omega (arith, ap length whole, length-append command (10 ∷ after)),
    )

pub returns-in-Ok-EndOfInput-clause-refused : goal.returns-in-Ok-EndOfInput-clause-refused
returns-in-Ok-EndOfInput-clause-refused g c = (
  refl,
  λ told.
      let bytes = c.read_line-end.new.into.items in
      let before = c.args.taken.now in
      let whole : g.S.Source.words.left c.args.script.now ≡ bytes = search rules in
      subst (BeginsNoLine c.args.setup.now before) (sym whole) (no_newline c.args.setup.now before bytes c.read_line-end.ensures.value.plain),
)

pub returns-in-Err-TooLong-clause-refused : goal.returns-in-Err-TooLong-clause-refused
returns-in-Err-TooLong-clause-refused g c = (
  refl,
  λ told.
      let bytes = c.read_line-end.new.into.items in
      let after = g.S.Source.words.left c.read_line-end.new.source in
      let before = c.args.taken.now in
      let long : length bytes ≡ 8193 = search rules in
      let whole : g.S.Source.words.left c.args.script.now ≡ bytes ++ after = search rules in
      subst (BeginsNoLine c.args.setup.now before) (sym whole) (long_command c.args.setup.now before bytes after c.read_line-end.ensures.value.plain (omega (arith, long))),
)

pub returns-in-Ok-EndOfInput-clause-stopped : goal.returns-in-Ok-EndOfInput-clause-stopped
returns-in-Ok-EndOfInput-clause-stopped g c told =
    let bytes = c.read_line-end.new.into.items in
    let after = g.S.Source.words.left c.read_line-end.new.source in
    let whole : g.S.Source.words.left c.args.script.now ≡ bytes ++ after = search rules in
    (cut_off c.args.setup.now c.args.taken.now bytes _ after c.read_line-end.ensures.value.plain whole, omega (arith, ap length whole, length-append bytes after))

pub returns-in-Err-TooLong-clause-stopped : goal.returns-in-Err-TooLong-clause-stopped
returns-in-Err-TooLong-clause-stopped g c told =
    let bytes = c.read_line-end.new.into.items in
    let after = g.S.Source.words.left c.read_line-end.new.source in
    let whole : g.S.Source.words.left c.args.script.now ≡ bytes ++ after = search rules in
    (cut_off c.args.setup.now c.args.taken.now bytes _ after c.read_line-end.ensures.value.plain whole, omega (arith, ap length whole, length-append bytes after))

pub returns-in-Err-ReadFault-clause-stopped : goal.returns-in-Err-ReadFault-clause-stopped
returns-in-Err-ReadFault-clause-stopped g c told =
    let bytes = c.read_line-end.new.into.items in
    let after = g.S.Source.words.left c.read_line-end.new.source in
    let whole : g.S.Source.words.left c.args.script.now ≡ bytes ++ after = search rules in
    (cut_off c.args.setup.now c.args.taken.now bytes _ after c.read_line-end.ensures.value.plain whole, omega (arith, ap length whole, length-append bytes after))

pub returns-in-Err-OutOfMemory-clause-stopped : goal.returns-in-Err-OutOfMemory-clause-stopped
returns-in-Err-OutOfMemory-clause-stopped g c told =
    let bytes = c.read_line-end.new.into.items in
    let after = g.S.Source.words.left c.read_line-end.new.source in
    let whole : g.S.Source.words.left c.args.script.now ≡ bytes ++ after = search rules in
    (at_most_one c.args.setup.now c.args.taken.now _ after (cut_off c.args.setup.now c.args.taken.now bytes _ after c.read_line-end.ensures.value.plain whole), omega (arith, ap length whole, length-append bytes after))

pub returns-clause-stopped : goal.returns-clause-stopped
returns-clause-stopped g c told =
    let command = c.read_line-end.new.into.items in
    let after = g.S.Source.words.left c.read_line-end.new.source in
    let whole : g.S.Source.words.left c.args.script.now ≡ command ++ 10 ∷ after = search rules in
    (command_taken c.args.setup.now c.args.taken.now command _ after c.read_line-end.ensures.value.plain whole, omega (arith, ap length whole, length-append command (10 ∷ after)))
