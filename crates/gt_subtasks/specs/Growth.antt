-- The items that a task begins with.
use Rattle.std.specs.Prelude.{Bool, List, None, Option, Some, [], false, if◌then◌else◌, map, true, ℕ, ◌+◌, ◌∷◌}
use Rattle.gt_subtasks.specs.declared.item.Item.{Item}
use Rattle.gt_subtasks.specs.declared.item.ItemState.TheVariants.{Pending}
use Rattle.gt_paths.specs.Path.{PathValue}
use Rattle.gt_types.specs.declared.act.Act.{Act}
use Rattle.gt_types.specs.declared.act.Act.TheVariants.{Erase, Transfer}
use Rattle.gt_types.specs.declared.act.Want.{Want}
use Rattle.gt_types.specs.declared.act.Want.TheVariants.{Either, File as AFile, Folder as AFolder}
use Rattle.gt_types.specs.declared.spec.Spec.{Spec}
use Rattle.gt_types.specs.declared.spec.Spec.TheVariants.{Delete as OfDelete, Transfer as OfTransfer}
use Rattle.gt_types.specs.declared.spec.TransferEntry.{TransferEntry}

-- a new item
abbrev pub new_item : ℕ → ℕ → Option ℕ → ℕ → Act → Item
new_item number task parent entry act =
    record {
      number = number;
      task = task;
      parent = parent;
      entry = entry;
      act = act;
      state = Pending;
      faults = 0;
      checked = 0;
      tried = false;
      granted = None;
      ended = None;
    }

-- what an entry's member `recursive` asks for
abbrev pub want_of_recursive : Option Bool → Want
want_of_recursive (Some true) = AFolder
want_of_recursive (Some false) = AFile
want_of_recursive None = Either

-- the act that an entry of a transfer gives
abbrev pub transfer_of : TransferEntry → Act
transfer_of entry = Transfer entry.source entry.destination (want_of_recursive entry.recursive)

-- the act that an entry of a deletion gives
abbrev pub erase_of : Bool → PathValue → Act
erase_of recursive path = Erase path (if recursive then Either else AFile)

-- the acts that a task begins with, one for each entry
abbrev pub first_acts : Spec → List Act
first_acts (OfTransfer spec) = map transfer_of spec.entries
first_acts (OfDelete spec) = map (erase_of spec.recursive) spec.entries

-- an item for each act, numbered from `number` on; `entry` is the place of the first
abbrev pub entry_items : ℕ → ℕ → ℕ → List Act → List Item
entry_items task number entry [] = []
entry_items task number entry (act ∷ acts) =
    new_item number task None entry act ∷ entry_items task (number + 1) (entry + 1) acts

-- the items that a task begins with
abbrev pub first_items : ℕ → ℕ → Spec → List Item
first_items task number spec = entry_items task number 0 (first_acts spec)

-- the items, numbered from `number` on in place of the numbers that they bear
abbrev pub numbered : ℕ → List Item → List Item
numbered number [] = []
numbered number (item ∷ items) = (record item { number = number }) ∷ numbered (number + 1) items
