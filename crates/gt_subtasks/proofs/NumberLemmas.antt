-- The numbers of items that are added.
use Rattle.std.proofs.Common.{List, None, [], ap, append_assoc, length, refl, ℕ, ◌+◌, ◌++◌, ◌∷◌, ◌≡◌}
use Rattle.std.proofs.lemmas.List.{length_push}
use Rattle.gt_subtasks.specs.Growth.{entry_items, new_item, numbered}
use Rattle.gt_subtasks.specs.declared.item.Item.{Item}
use Rattle.gt_types.specs.declared.act.Act.{Act}

-- the items of a document's entries bear their numbers already
pub numbered-entry_items : (task number entry : ℕ) (acts : List Act) → numbered number (entry_items task number entry acts) ≡ entry_items task number entry acts
numbered-entry_items task number entry [] = refl
numbered-entry_items task number entry (act ∷ acts) =
    ap (λ items. new_item number task None entry act ∷ items) (numbered-entry_items task (number + 1) (entry + 1) acts)

-- adding the items one by one
pub numbered_step : (rows after : List Item) (item : Item) (left rest : List Item) → left ≡ item ∷ rest → after ≡ rows ++ numbered (length rows + 1) (item ∷ [])
    → after ++ numbered (length after + 1) rest ≡ rows ++ numbered (length rows + 1) left
numbered_step rows after item left rest left_is after_is =
    let row : Item = record item { number = length rows + 1 } in
    let last : after ≡ rows ++ row ∷ [] = after_is in
    rw (left_is, last, length_push rows row) (append_assoc rows (row ∷ []) (numbered (length rows + 1 + 1) rest))
