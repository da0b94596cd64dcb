-- Each item has a task, and the two paths of a transfer within one collection don't overlap.
use Rattle.std.proofs.Common.{◌≡◌, ⊎_elim, ℕ, zero, suc, ◌+◌, List, [], ◌∷◌, ◌++◌, length, map, All, Bool, true, false, Option, Some, None, refl, sym, ap, ◌∙◌, subst, get_or}
use Rattle.std.specs.Prelude.{IsSomeAnd, not, slice_get, ◌&&◌, ◌==◌}
use Rattle.std.specs.List.{list_all}
use Rattle.std.specs.Option.{option_map}
use Rattle.std.proofs.Math.Numerals.{add-one}
use Rattle.std.proofs.lemmas.Bool.{eq-eqb}
use Rattle.std.proofs.lemmas.Option.{slice_get-get_or, slice_get-map}
use Rattle.gt_paths.specs.Path.{is_path, overlaps}
use Rattle.gt_types.specs.SpecForms.{is_transfer_entry, is_transfer_spec}
use Rattle.gt_types.specs.declared.act.Act.{Act}
use Rattle.gt_types.specs.declared.spec.Spec.{Spec}
use Rattle.gt_types.specs.declared.spec.Spec.TheVariants.{Transfer as OfTransfer}
use Rattle.gt_types.specs.declared.spec.TransferEntry.{TransferEntry}
use Rattle.gt_types.specs.declared.spec.TransferSpec.{TransferSpec}
use Rattle.gt_subtasks.specs.Growth.{entry_items, first_acts, transfer_of}
use Rattle.gt_machine.specs.MachineState.{MachineState}
use Rattle.gt_machine.specs.SoundRows.{IsApart, IsOfTask}
use Rattle.gt_subtasks.specs.declared.item.Item.{Item}
use Rattle.gt_tasks.specs.declared.row.TaskRow.{TaskRow}
use Rattle.gt_machine.proofs.Effects.{first_holds, second_holds}
use Rattle.gt_machine.proofs.ItemKeys.{ItemKey, item_key, item_keys, row-append, split_at}
use Rattle.gt_machine.proofs.OneTask.{length-keys}
use Rattle.gt_machine.proofs.TaskKeys.{Key, key_of, keys}
use Rattle.gt_values.specs.Rows.{row_at}

-- all of the acts
abbrev pub AllApart : Spec → List Act → Type 0
AllApart spec [] = Unit {0}
AllApart spec (act ∷ acts) = IsApart spec act × AllApart spec acts

not_both : (one over : Bool) → not (one && over) ≡ true → one ≡ true → over ≡ false
not_both true true h is_one = absurd (cc)
not_both true false h is_one = refl
not_both false over h is_one = absurd (cc)

entry_apart : (spec : TransferSpec) (entry : TransferEntry) → is_transfer_entry (spec.source == spec.destination) entry ≡ true → IsApart (OfTransfer spec) (transfer_of entry)
entry_apart spec entry good same =
    not_both (spec.source == spec.destination) (overlaps entry.source entry.destination)
    (second_holds (is_path entry.source && is_path entry.destination) (not ((spec.source == spec.destination) && overlaps entry.source entry.destination)) good)
    (eq-eqb spec.source spec.destination same)

entries_apart : (spec : TransferSpec) (entries : List TransferEntry) → list_all (is_transfer_entry (spec.source == spec.destination)) entries ≡ true
    → AllApart (OfTransfer spec) (map transfer_of entries)
entries_apart spec [] good = tt
entries_apart spec (entry ∷ entries) good = (
  entry_apart spec entry (first_holds (is_transfer_entry (spec.source == spec.destination) entry) _ good),
  entries_apart spec entries (second_holds (is_transfer_entry (spec.source == spec.destination) entry) _ good),
)

-- the entries of a specification within its limits are apart
pub transfer_apart : (spec : TransferSpec) → is_transfer_spec spec ≡ true → AllApart (OfTransfer spec) (first_acts (OfTransfer spec))
transfer_apart spec good = entries_apart spec spec.entries (second_holds _ _ (second_holds _ _ good))

-- the item's task stands in the list, and its collections suit the item's act
pub record TaskApart (ks : List Key) (q : ItemKey) : Type 0 where
  pub key : Key
  pub row : row_at ks q.task ≡ Some key
  pub apart : IsApart key.spec q.act

abbrev pub AllTaskApart : List Key → List ItemKey → Type 0
AllTaskApart ks qs = (j : ℕ) (q : ItemKey) → slice_get qs j ≡ Some q → TaskApart ks q

pub apart-more_tasks : (ks new : List Key) (qs : List ItemKey) → AllTaskApart ks qs → AllTaskApart (ks ++ new) qs
apart-more_tasks ks new qs all j q at =
    let t : TaskApart ks q = all j q at in record { key = t.key; row = row-append ks new q.task t.key t.row; apart = t.apart }

pub apart-more_items : (ks : List Key) (xs ys : List ItemKey) → AllTaskApart ks xs → AllTaskApart ks ys → AllTaskApart ks (xs ++ ys)
apart-more_items ks xs ys in_xs in_ys j q at =
    ⊎_elim (λ (old : slice_get xs j ≡ Some q). in_xs j q old) (λ (new : (i : ℕ) × (slice_get ys i ≡ Some q)). in_ys new.0 q new.1) (split_at xs ys j q at)

pub apart-entries : (ks : List Key) (task n e : ℕ) (key : Key) → row_at ks task ≡ Some key → (acts : List Act) → AllApart key.spec acts
    → AllTaskApart ks (item_keys (entry_items task n e acts))
apart-entries ks task n e key row [] all j q at = absurd (cc)
apart-entries ks task n e key row (act ∷ acts) all zero q at =
    let same : record { number = n; task = task; parent = None; entry = e; act = act } ≡ q = cc in
    subst (TaskApart ks) same record { key = key; row = row; apart = all.0 }
apart-entries ks task n e key row (act ∷ acts) all (suc j) q at = apart-entries ks task (n + 1) (e + 1) key row acts all.1 j q at

last_of : {X : Type 0} (xs : List X) (x : X) → slice_get (xs ++ x ∷ []) (length xs) ≡ Some x
last_of [] x = refl
last_of (y ∷ xs) x = last_of xs x

-- the row of a new task
pub new_row : (tasks : List TaskRow) (key : Key) → row_at (keys tasks ++ key ∷ []) (length tasks + 1) ≡ Some key
new_row tasks key =
    ap (row_at (keys tasks ++ key ∷ [])) (add-one (length tasks))
    ∙ ap (slice_get (keys tasks ++ key ∷ [])) (sym (length-keys tasks)) ∙ last_of (keys tasks) key

task_of_row : (tasks : List TaskRow) (n : ℕ) → row_at (keys tasks) n ≡ option_map key_of (row_at tasks n)
task_of_row tasks zero = refl
task_of_row tasks (suc i) = slice_get-map key_of tasks i

pub all_of_tasks : (m : MachineState) → AllTaskApart (keys m.tasks) (item_keys m.items) → All (IsOfTask m) m.items
all_of_tasks m all k d below = found (row_at m.tasks x.task) (sym (task_of_row m.tasks x.task) ∙ t.row)
  where
    x : Item
    x = get_or m.items k d

    t : TaskApart (keys m.tasks) (item_key x)
    t = all k (item_key x) (slice_get-map item_key m.items k ∙ ap (option_map item_key) (slice_get-get_or m.items k d below))

    found : (o : Option TaskRow) → option_map key_of o ≡ Some t.key → IsSomeAnd o (λ (task : TaskRow). IsApart task.spec x.act)
    found None same = absurd (cc)
    found (Some task) same = let key : key_of task ≡ t.key = cc in subst (λ (k : Key). IsApart k.spec x.act) (sym key) t.apart
