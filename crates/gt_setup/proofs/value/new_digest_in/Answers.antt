use Rattle.std.proofs.Common.{sym, ◌∙◌}
use Rattle.toml.specs.View.{view}
use Rattle.gt_setup.proofs.IndexLemmas.{digest_taken, digest_untaken}
use Rattle.gt_setup.proofs.value.new_digest_in.Goals as goal

pub returns-then-contains_key-clause-value : goal.returns-then-contains_key-clause-value
returns-then-contains_key-clause-value c =
    digest_taken c.args.taken.now (view c.args.value.now) c.in-Some.digest c.in-Some.ensures (sym c.contains_key.ensures ∙ c.if-contains_key.true)

pub returns-else-contains_key-clause-value : goal.returns-else-contains_key-clause-value
returns-else-contains_key-clause-value c =
    digest_untaken c.args.taken.now (view c.args.value.now) c.in-Some.digest c.in-Some.ensures (sym c.contains_key.ensures ∙ c.if-contains_key.false)
