-- What the documents of tasks, items and access rules show.
use Rattle.std.specs.Prelude.{Bool, List, None, Option, Some, false, filter, is_some, unwrap_or, ℕ, ◌&&◌, ◌==◌}
use Rattle.std.specs.Str.{bytes_eq}
use Rattle.gt_access.specs.Rule.{is_live_access}
use Rattle.gt_access.specs.declared.row.AccessRow.{AccessRow}
use Rattle.gt_machine.specs.Lists.{sorted_by}
use Rattle.gt_machine.specs.MachineState.{MachineState}
use Rattle.gt_paths.specs.Path.{PathValue}
use Rattle.gt_subtasks.specs.Counters.{counters_of}
use Rattle.gt_subtasks.specs.Item.{is_copied, items_of}
use Rattle.gt_subtasks.specs.declared.item.Item.{Item}
use Rattle.gt_subtasks.specs.declared.item.ItemState.{ItemState}
use Rattle.gt_subtasks.specs.declared.item.ItemState.TheVariants.{Skipped}
use Rattle.gt_tasks.specs.Status.{status_of}
use Rattle.gt_tasks.specs.declared.row.TaskRow.{TaskRow}
use Rattle.gt_types.specs.SpecParts.{options_of}
use Rattle.gt_types.specs.declared.act.Act.{Act}
use Rattle.gt_types.specs.declared.act.Act.TheVariants.{Erase, RemoveFolder, Transfer}
use Rattle.gt_types.specs.declared.code.Code.{Code}
use Rattle.gt_types.specs.declared.code.Code.TheVariants.{FileNotFound}
use Rattle.gt_types.specs.declared.reply.AccessDocument.{AccessDocument}
use Rattle.gt_types.specs.declared.reply.PathPair.{PathPair}
use Rattle.gt_types.specs.declared.reply.SkippedDocument.{SkippedDocument}
use Rattle.gt_types.specs.declared.reply.TaskDocument.{TaskDocument}

-- what the document of a task shows: its label and deadline are those in force; there are no pause rules yet
abbrev pub task_document : MachineState → TaskRow → TaskDocument
task_document m task =
    record {
      number = task.number;
      owner = task.owner;
      options = options_of task.spec;
      label = task.label;
      deadline = task.deadline;
      requested = task.requested;
      completed = task.completed;
      status = status_of task;
      fatal_error = task.closing;
      is_paused = false;
      counters = counters_of task.number m.items;
    }

-- the caller's tasks, by number
abbrev pub tasks_of : List ℕ → MachineState → List TaskRow
tasks_of identity m = filter (λ task. bytes_eq task.owner identity) m.tasks

-- the event at which the item ended
abbrev pub end_of : Item → ℕ
end_of item = unwrap_or item.ended 0

-- the copied items of the task, in the order of the events at which they ended
abbrev pub copied_items : MachineState → TaskRow → List Item
copied_items m task = sorted_by end_of (filter is_copied (items_of task.number m.items))

-- why an item in this state was skipped
abbrev pub skip_code : ItemState → Option Code
skip_code (Skipped code) = Some code
skip_code _ = None

-- whether the item was skipped
abbrev pub is_skipped : Item → Bool
is_skipped item = is_some (skip_code item.state)

-- the skipped items of the task, in the order of the events at which they ended
abbrev pub skipped_items : MachineState → TaskRow → List Item
skipped_items m task = sorted_by end_of (filter is_skipped (items_of task.number m.items))

-- the path that the act reads; a removal has one path, for both
abbrev pub source_path : Act → PathValue
source_path (Transfer source destination want) = source
source_path (Erase path want) = path
source_path (RemoveFolder path) = path

-- the path that the act writes
abbrev pub destination_path : Act → PathValue
destination_path (Transfer source destination want) = destination
destination_path (Erase path want) = path
destination_path (RemoveFolder path) = path

-- the two paths of an item
abbrev pub pair_of : Item → PathPair
pair_of item = record { source = source_path item.act; destination = destination_path item.act }

-- the row of a skipped item
abbrev pub skipped_document : Item → SkippedDocument
skipped_document item =
    record {
      source = source_path item.act;
      destination = destination_path item.act;
      code = unwrap_or (skip_code item.state) FileNotFound;
    }

-- what the document of an access rule shows
abbrev pub access_document : AccessRow → AccessDocument
access_document row = record { number = row.number; spec = row.spec }

-- the live rules of the collection, by number
abbrev pub access_rules : MachineState → ℕ → List AccessRow
access_rules m collection =
    sorted_by (λ row. row.number) (filter (λ row. is_live_access row && (row.collection == collection)) m.access)
