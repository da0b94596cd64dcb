use Rattle.std.proofs.Common.{ap, false, sym, true, ◌∙◌, ◌≡◌}
use Rattle.gt_script.proofs.CommandLemmas.{word_cut}
use Rattle.gt_script.proofs.command_line.first_word.Goals as goal
use Rattle.gt_script.specs.CommandLine.{is_word}

pub returns-in_err-word-clause-none : goal.returns-in_err-word-clause-none
returns-in_err-word-clause-none c none word rest is whole =
    let found = word_cut c.args.text.now word rest c.split_once.result c.split_once.ensures.cases is whole in
    rw c.in_err-word.was at found

pub returns-else-is_word-clause-none : goal.returns-else-is_word-clause-none
returns-else-is_word-clause-none c none word rest is whole =
    let found = word_cut c.args.text.now word rest c.split_once.result c.split_once.ensures.cases is whole in
    let parts = rw c.in_ok-word.was at found in
    let both : false ≡ true = sym c.if-is_word.false ∙ c.is_word.ensures ∙ ap is_word (c.as_bytes.ensures.value ∙ parts.0) ∙ is in
    let no : ⊥ = cc in no
