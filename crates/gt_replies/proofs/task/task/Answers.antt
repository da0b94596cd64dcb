use Rattle.std.proofs.Common.{ap, ◌∙◌}
use Rattle.serde_json.proofs.Views.{view-Object}
use Rattle.serde_json.specs.Data.{object}
use Rattle.serde_json.specs.View.{members_view}
use Rattle.gt_replies.proofs.TableLemmas.{six_tables}
use Rattle.gt_replies.specs.TaskDocument.{task_document}
use Rattle.gt_replies.proofs.task.task.Goals as goal

pub returns : goal.returns
unfolding task_document
returns c =
    view-Object c.put_options.new.members ∙ ap object (six_tables _ _ _ _ _ _ _ _ _ _ _ _ _ (ap members_view c.new-members.ensures.empty)
    c.in_ok-put_identity.ensures c.in_ok-put_state.ensures c.in_ok-put_times.ensures
    c.in_ok-put_subtasks.ensures c.in_ok-put_work.ensures c.in_ok-put_options.ensures)
