-- Whether the members of an object stand in the order of their names' bytes, each name once.
use Rattle.gt_replies.specs.Documents.{refusal_document}
use Rattle.gt_replies.specs.ReplyText.{document_of}
use Rattle.gt_setup.specs.Setup.{Setup}
use Rattle.gt_types.specs.declared.reply.Reply.{Reply}
use Rattle.gt_types.specs.declared.reply.ReplyCode.{ReplyCode}
use Rattle.serde_json.specs.Data.{Data, Items, Members, array, boolean, item, member, no_items, no_members, null, number, object, string}
use Rattle.std.specs.Cmp.Lexicographic.{slice_cmp}
use Rattle.std.specs.Ordering.{is_lt, nat_cmp}
use Rattle.std.specs.Prelude.{Bool, IsTrue, List, true, ℕ, ◌&&◌}

-- the name comes before the first name of the members
abbrev pub is_before : List ℕ → Members → Bool
is_before name no_members = true
is_before name (member other value rest) = is_lt (slice_cmp nat_cmp name other)

-- in each object of the value, each name comes before the next in the order of bytes
abbrev mutual
  pub is_ordered : Data → Bool
  is_ordered null = true
  is_ordered (boolean b) = true
  is_ordered (number n) = true
  is_ordered (string s) = true
  is_ordered (array values) = are_ordered values
  is_ordered (object ms) = has_order ms

  -- the same of each value of an array
  pub are_ordered : Items → Bool
  are_ordered no_items = true
  are_ordered (item value rest) = is_ordered value && are_ordered rest

  -- the same of members, and of their values
  pub has_order : Members → Bool
  has_order no_members = true
  has_order (member name value rest) = is_before name rest && (is_ordered value && has_order rest)

-- in the document of each reply, each name of an object comes before the next in the order of bytes
abbrev pub ReplyMembersAscend : Type 0
ReplyMembersAscend = (setup : Setup) (reply : Reply) → IsTrue (is_ordered (document_of setup reply))

-- the same of each refusal
abbrev pub RefusalMembersAscend : Type 0
RefusalMembersAscend = (code : ReplyCode) (place : List ℕ) → IsTrue (is_ordered (refusal_document code place))
