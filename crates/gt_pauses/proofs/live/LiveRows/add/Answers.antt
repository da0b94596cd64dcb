use Rattle.gt_pauses.specs.declared.row.PauseAct.TheVariants.{Delete, Ls, Mkdir, TransferRead, TransferWrite}
use Rattle.gt_pauses.proofs.live.LiveRows.add.Goals as goal

pub file-requires : goal.file-requires
file-requires c = c.requires TransferRead

pub file-requires-2 : goal.file-requires-2
file-requires-2 c = c.requires TransferWrite

pub file-requires-3 : goal.file-requires-3
file-requires-3 c = c.requires Delete

pub file-requires-4 : goal.file-requires-4
file-requires-4 c = c.requires Ls

pub file-requires-5 : goal.file-requires-5
file-requires-5 c = c.requires Mkdir
