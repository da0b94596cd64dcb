-- Which acts are paused, and by which rule.
use Rattle.std.specs.List.{list_any}
use Rattle.std.specs.Option.{option_map_or}
use Rattle.std.specs.Prelude.{Bool, List, None, Option, Some, [], filter, fold, map, min, true, ℕ, ◌&&◌, ◌==◌, ◌∷◌}
use Rattle.std.specs.Str.{bytes_eq}
use Rattle.gt_pauses.specs.declared.row.PauseAct.{PauseAct}
use Rattle.gt_pauses.specs.declared.row.PauseAct.TheVariants.{Delete, Ls, Mkdir, TransferRead, TransferWrite}
use Rattle.gt_pauses.specs.declared.row.PauseRow.{PauseRow}
use Rattle.gt_types.specs.declared.rule.PauseSpec.{PauseSpec}
use Rattle.gt_values.specs.Life.{is_alive}

-- the rule's member for the act
abbrev pub has_act : PauseAct → PauseSpec → Bool
has_act TransferRead spec = spec.transfer_read
has_act TransferWrite spec = spec.transfer_write
has_act Delete spec = spec.delete
has_act Ls spec = spec.ls
has_act Mkdir spec = spec.mkdir

-- whether the rule is for the identity: a rule that names none is for all
abbrev pub is_for : List ℕ → PauseSpec → Bool
is_for identity spec = option_map_or (λ id. bytes_eq id identity) spec.identity true

-- whether the rule is alive at k, and pauses this act of the identity on the collection
abbrev pub pauses : ℕ → List ℕ → ℕ → PauseAct → PauseRow → Bool
pauses k identity collection act row =
    is_alive k row.born row.ended && (row.spec.collection == collection)
    && has_act act row.spec && is_for identity row.spec

-- whether some rule pauses the act
abbrev pub is_paused : ℕ → List ℕ → ℕ → PauseAct → List PauseRow → Bool
is_paused k identity collection act rows = list_any (pauses k identity collection act) rows

-- the least of the numbers, if there is one
abbrev pub least : List ℕ → Option ℕ
least [] = None
least (n ∷ ns) = Some (fold min n ns)

-- the least number of a rule that pauses the act
abbrev pub least_pause : ℕ → List ℕ → ℕ → PauseAct → List PauseRow → Option ℕ
least_pause k identity collection act rows =
    least (map (λ row. row.number) (filter (pauses k identity collection act) rows))
