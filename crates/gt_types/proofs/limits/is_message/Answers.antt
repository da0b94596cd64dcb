use Rattle.std.proofs.Common.{length, nat_le}
use Rattle.gt_types.proofs.TextLemmas.{in_utf8}
use Rattle.gt_types.proofs.limits.is_message.Goals as goal

pub returns : goal.returns
returns c = in_utf8 c.args.message.now (nat_le (length c.args.message.now) 1024) c.utf8.message
