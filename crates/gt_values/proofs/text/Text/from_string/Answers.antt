-- A `String` has UTF-8 in it.
use Rattle.std.proofs.lemmas.Str.{IsUtf8-had, is_utf8-from_IsUtf8}
use Rattle.gt_values.proofs.text.Text.from_string.Goals as goal

pub invariant_of-result : goal.invariant_of-result
invariant_of-result c = is_utf8-from_IsUtf8 _ (IsUtf8-had _ c.args.text.ok)
