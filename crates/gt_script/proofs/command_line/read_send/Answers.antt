-- The words of a request are those that were cut off at its spaces, one after another.
use Rattle.std.proofs.Common.{refl, ◌++◌, ◌∷◌}
use Rattle.gt_script.proofs.CommandLemmas.{same_rest, token_is_word}
use Rattle.gt_script.proofs.command_line.read_send.Goals as goal
use Rattle.gt_script.proofs.command_line.read_send.Goals.{In-Some}
use Rattle.gt_script.specs.CommandLine.{token_word}
use Rattle.std.specs.Fmt.{decimal}

pub returns-in_default-first_word-clause-none : goal.returns-in_default-first_word-clause-none
returns-in_default-first_word-clause-none c none token method target size is =
    let first = same_rest c.args.request.now c.in-Some.token.now (token_word token) c.in-Some.behind_token.now (method ++ 32 ∷ (target ++ 32 ∷ decimal size)) c.in-Some.ensures.some.0 (token_is_word token is.has_token) c.in-Some.ensures.some.1 is.whole in
    c.in_default-first_word.ensures.none refl method (target ++ 32 ∷ decimal size) is.has_method first

pub returns-in_default-first_word-2-clause-none : goal.returns-in_default-first_word-2-clause-none
returns-in_default-first_word-2-clause-none c none token method target size is =
    let first = same_rest c.args.request.now c.in-Some.token.now (token_word token) c.in-Some.behind_token.now (method ++ 32 ∷ (target ++ 32 ∷ decimal size)) c.in-Some.ensures.some.0 (token_is_word token is.has_token) c.in-Some.ensures.some.1 is.whole in
    let second = same_rest c.in-Some.behind_token.now c.in-Some-first_word.method.now method c.in-Some-first_word.behind_method.now (target ++ 32 ∷ decimal size) c.in-Some-first_word.ensures.some.0 is.has_method c.in-Some-first_word.ensures.some.1 first in
    c.in_default-first_word-2.ensures.none refl target (decimal size) is.has_target second

pub returns-in_default-read_decimal-clause-none : goal.returns-in_default-read_decimal-clause-none
returns-in_default-read_decimal-clause-none c none token method target size is =
    let first = same_rest c.args.request.now c.in-Some.token.now (token_word token) c.in-Some.behind_token.now (method ++ 32 ∷ (target ++ 32 ∷ decimal size)) c.in-Some.ensures.some.0 (token_is_word token is.has_token) c.in-Some.ensures.some.1 is.whole in
    let second = same_rest c.in-Some.behind_token.now c.in-Some-first_word.method.now method c.in-Some-first_word.behind_method.now (target ++ 32 ∷ decimal size) c.in-Some-first_word.ensures.some.0 is.has_method c.in-Some-first_word.ensures.some.1 first in
    let third = same_rest c.in-Some-first_word.behind_method.now c.in-Some-first_word-2.target.now target c.in-Some-first_word-2.digits.now (decimal size) c.in-Some-first_word-2.ensures.some.0 is.has_target c.in-Some-first_word-2.ensures.some.1 second in
    c.in_default-read_decimal.ensures.none refl size is.fits third
