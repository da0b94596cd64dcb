use Rattle.gt_requests.proofs.MemberLemmas.{unknown_members}
use Rattle.gt_requests.proofs.laws.unknown_members_change_nothing.Goals as goal

pub returns : goal.returns
returns c = unknown_members c.last_member_counts.ensures.others
