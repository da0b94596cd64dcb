-- What the values of rows keep to in each state that events lead to.
use Rattle.std.specs.Prelude.{Bool, IsTrue, length, ◌&&◌, ◌<◌}
use Rattle.gt_access.specs.declared.row.AccessRow.{AccessRow}
use Rattle.gt_paths.specs.Path.{is_path}
use Rattle.gt_setup.specs.Setup.{Setup, has_identity}
use Rattle.gt_subtasks.specs.declared.item.Item.{Item}
use Rattle.gt_tasks.specs.declared.row.TaskRow.{TaskRow}
use Rattle.gt_types.specs.Forms.{is_label}
use Rattle.gt_types.specs.SpecForms.{is_access_spec, is_delete_spec, is_transfer_spec}
use Rattle.gt_types.specs.SpecParts.{destination_of, source_of}
use Rattle.gt_types.specs.declared.act.Act.{Act}
use Rattle.gt_types.specs.declared.act.Act.TheVariants.{Erase, RemoveFolder, Transfer}
use Rattle.gt_types.specs.declared.spec.Spec.{Spec}
use Rattle.gt_types.specs.declared.spec.Spec.TheVariants.{Delete as OfDelete, Transfer as OfTransfer}
use Rattle.gt_values.specs.Forms.{if_there, is_id, is_moment}

-- whether the specification is within its limits
abbrev pub is_spec : Spec → Bool
is_spec (OfTransfer spec) = is_transfer_spec spec
is_spec (OfDelete spec) = is_delete_spec spec

-- an identity of the setup made the task, on collections of the setup; its values are within their forms
pub record IsTaskOfSetup (setup : Setup) (task : TaskRow) : Type 0 where
  pub owner : IsTrue (has_identity setup task.owner)
  pub submission : IsTrue (is_id task.submission)
  pub source : source_of task.spec < length setup.collections
  pub destination : destination_of task.spec < length setup.collections
  pub spec : IsTrue (is_spec task.spec)
  pub label : IsTrue (if_there is_label task.label)
  pub deadline : IsTrue (if_there is_moment task.deadline)
  pub requested : IsTrue (is_moment task.requested)

-- the rule is on a collection of the setup, and its principal and path are within their forms
pub record IsRuleOfSetup (setup : Setup) (row : AccessRow) : Type 0 where
  pub collection : row.collection < length setup.collections
  pub spec : IsTrue (is_access_spec row.spec)

-- whether the act's paths are within the limits of paths
abbrev pub are_paths : Act → Bool
are_paths (Transfer source destination want) = is_path source && is_path destination
are_paths (Erase path want) = is_path path
are_paths (RemoveFolder path) = is_path path

-- the item's paths are
abbrev pub HasPaths : Item → Type 0
HasPaths item = IsTrue (are_paths item.act)
