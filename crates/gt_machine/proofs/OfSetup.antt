-- Each step keeps that rows are of the setup, and their values within their forms.
use Rattle.std.proofs.Common.{◌≡◌, ◌<◌, ℕ, ◌+◌, List, [], ◌∷◌, ◌++◌, length, map, All, Bool, true, Some, refl, sym, ◌∙◌, subst, arith, rules, get_or}
use Rattle.std.specs.List.{list_all}
use Rattle.std.specs.Prelude.{if◌then◌else◌, nat_lt, ◌&&◌}
use Rattle.std.proofs.lemmas.List.Elements.{All-append, All-cons, All-map, All-nil}
use Rattle.std.proofs.lemmas.Option.{slice_get_within, slice_get-get_or}
use Rattle.gt_access.specs.Rule.{access_row, ended_access, is_live_rule, live_access}
use Rattle.gt_access.specs.declared.row.AccessRow.{AccessRow}
use Rattle.gt_types.specs.Event.{has_collections, is_recordable_happening}
use Rattle.gt_types.specs.Forms.{is_label}
use Rattle.gt_types.specs.SpecForms.{is_transfer_entry, is_transfer_spec}
use Rattle.gt_types.specs.declared.event.Event.{Event}
use Rattle.gt_types.specs.declared.event.Happening.{Happening}
use Rattle.gt_types.specs.declared.event.Happening.TheVariants.{AccessAdd, AccessEnd, AccessReplace, Issue, SubmitTransfer}
use Rattle.gt_types.specs.declared.spec.Spec.TheVariants.{Transfer as OfTransfer}
use Rattle.gt_types.specs.declared.spec.TransferEntry.{TransferEntry}
use Rattle.gt_types.specs.declared.spec.TransferSpec.{TransferSpec}
use Rattle.gt_values.specs.Forms.{if_there, is_id, is_moment}
use Rattle.gt_setup.specs.Setup.{Setup, has_identity}
use Rattle.gt_subtasks.specs.Growth.{entry_items, first_items, transfer_of}
use Rattle.gt_machine.specs.MachineState.{MachineState, empty_state}
use Rattle.gt_machine.specs.RuleSteps.{replaced_spec}
use Rattle.gt_machine.specs.Sound.{IsOfSetup}
use Rattle.gt_machine.specs.SoundValues.{HasPaths, IsRuleOfSetup, IsTaskOfSetup}
use Rattle.gt_machine.specs.Step.{effect_of, is_allowed, step_of}
use Rattle.gt_machine.specs.TaskSteps.{new_task, submit_step}
use Rattle.gt_machine.proofs.ApartSteps.{has_form, has_values}
use Rattle.gt_machine.proofs.Effects.{and_then_is, first_holds, of_either, only_if_is, second_holds}
use Rattle.gt_machine.proofs.OneLive.{found_at}
use Rattle.gt_machine.proofs.Runs.{StepParts, step_is}

below : (a b : ℕ) → nat_lt a b ≡ true → a < b
below a b test = grind (arith, rules, test)

kept : (setup : Setup) (x next : MachineState) → x ≡ next → IsOfSetup setup x → IsOfSetup setup next
kept setup x next is good = subst (IsOfSetup setup) is good

-- one row more
one_more : {X : Type 0} (P : X → Type 0) (xs : List X) (x : X) → All P xs → P x → All P (xs ++ x ∷ [])
one_more P xs x all one = All-append P xs (x ∷ []) all (All-cons P x [] one (All-nil P))

-- what of an event makes its task one of the setup
record Asked (setup : Setup) (moment : ℕ) (owner submission : List ℕ) (spec : TransferSpec) : Type 0 where
  pub known : has_identity setup owner ≡ true
  pub when : is_moment moment ≡ true
  pub collections : (nat_lt spec.source (length setup.collections) && nat_lt spec.destination (length setup.collections)) ≡ true
  pub values : (is_id owner && is_id submission && is_transfer_spec spec) ≡ true

task_of_setup : (setup : Setup) (number moment : ℕ) (owner submission : List ℕ) (spec : TransferSpec) → Asked setup moment owner submission spec
    → IsTaskOfSetup setup (new_task number moment owner submission (OfTransfer spec))
task_of_setup setup number moment owner submission spec asked =
    let form : is_transfer_spec spec ≡ true = second_holds _ _ asked.values in
    let dated : (if_there is_label spec.label && if_there is_moment spec.deadline) ≡ true =
    first_holds _ _ (first_holds _ _ (first_holds _ _ (first_holds _ _ form))) in
    record {
      owner = asked.known;
      submission = second_holds _ _ (first_holds _ _ asked.values);
      source = below spec.source (length setup.collections) (first_holds _ _ asked.collections);
      destination = below spec.destination (length setup.collections) (second_holds _ _ asked.collections);
      spec = form;
      label = first_holds _ _ dated;
      deadline = second_holds _ _ dated;
      requested = asked.when;
    }

items_have_paths : (one : Bool) (task number entry : ℕ) (entries : List TransferEntry) → list_all (is_transfer_entry one) entries ≡ true
    → All HasPaths (entry_items task number entry (map transfer_of entries))
items_have_paths one task number entry [] good = All-nil HasPaths
items_have_paths one task number entry (e ∷ es) good = All-cons HasPaths _ _
    (first_holds _ _ (first_holds (is_transfer_entry one e) _ good))
    (items_have_paths one task (number + 1) (entry + 1) es (second_holds (is_transfer_entry one e) _ good))

submit_of_setup : (setup : Setup) (moment : ℕ) (owner submission : List ℕ) (spec : TransferSpec) (m next : MachineState)
    → submit_step moment owner submission (OfTransfer spec) m ≡ Some next → Asked setup moment owner submission spec → IsOfSetup setup m → IsOfSetup setup next
submit_of_setup setup moment owner submission spec m next is asked good =
    let number = length m.tasks + 1 in
    let form : is_transfer_spec spec ≡ true = second_holds _ _ asked.values in
    kept setup _ next (only_if_is _ _ next is).1 record {
      namespace = good.namespace;
      tasks = one_more (IsTaskOfSetup setup) m.tasks _ good.tasks (task_of_setup setup number moment owner submission spec asked);
      access = good.access;
      items = All-append HasPaths m.items (first_items number (length m.items + 1) (OfTransfer spec)) good.items
          (items_have_paths _ number (length m.items + 1) 0 spec.entries (second_holds _ _ (second_holds _ _ form)));
    }

with_access : (setup : Setup) (m : MachineState) (rows : List AccessRow) → All (IsRuleOfSetup setup) rows → IsOfSetup setup m → IsOfSetup setup (record m { access = rows })
with_access setup m rows all good = record { namespace = good.namespace; tasks = good.tasks; access = all; items = good.items }

rules_ended : (setup : Setup) (k number : ℕ) (rows : List AccessRow) → All (IsRuleOfSetup setup) rows → All (IsRuleOfSetup setup) (ended_access k number rows)
rules_ended setup k number rows all = All-map (IsRuleOfSetup setup) _ rows (λ i d within. one (get_or rows i d) (all i d within))
  where
    one : (row : AccessRow) → IsRuleOfSetup setup row → IsRuleOfSetup setup (if is_live_rule number row then record row { ended = Some k } else row)
    one row good = of_either (IsRuleOfSetup setup) (is_live_rule number row) (record row { ended = Some k }) row (record { collection = good.collection; spec = good.spec }) good

-- a row that is found is one of the setup
row_found : (setup : Setup) (number : ℕ) (row : AccessRow) (rows : List AccessRow) → live_access number rows ≡ Some row → All (IsRuleOfSetup setup) rows → IsRuleOfSetup setup row
row_found setup number row rows found all =
    let at = found_at (is_live_rule number) rows row found in
    let within = slice_get_within rows at.0 row at.1 in
    let same : row ≡ get_or rows at.0 row = some_same row (get_or rows at.0 row) (sym at.1 ∙ slice_get-get_or rows at.0 row within) in
    subst (IsRuleOfSetup setup) (sym same) (all at.0 row within)
  where
    some_same : (a b : AccessRow) → Some a ≡ Some b → a ≡ b
    some_same a b is = cc

effect_of_setup : (setup : Setup) (k moment : ℕ) (what : Happening) (m next : MachineState) → is_moment moment ≡ true → has_collections (length setup.collections) what ≡ true
    → is_recordable_happening what ≡ true → is_allowed setup m moment what ≡ true → effect_of k moment what m ≡ Some next → IsOfSetup setup m → IsOfSetup setup next
effect_of_setup setup k moment (Issue identity) m next when there values known is good =
    kept setup _ next (only_if_is _ _ next is).1 record { namespace = good.namespace; tasks = good.tasks; access = good.access; items = good.items }
effect_of_setup setup k moment (SubmitTransfer owner submission spec) m next when there values known is good =
    submit_of_setup setup moment owner submission spec m next is record { known = known; when = when; collections = there; values = values } good
effect_of_setup setup k moment (AccessAdd collection spec) m next when there values known is good =
    kept setup _ next (only_if_is _ _ next is).1
    (with_access setup m _ (one_more (IsRuleOfSetup setup) m.access _ good.access record { collection = below collection (length setup.collections) there; spec = values }) good)
effect_of_setup setup k moment (AccessReplace rule write) m next when there values known is good =
    let found = and_then_is _ (live_access rule m.access) next is in
    let row : AccessRow = found.0 in
    let old : IsRuleOfSetup setup row = row_found setup rule row m.access found.1 good.access in
    kept setup _ next (only_if_is _ _ next found.2).1
    (with_access setup m _
    (one_more (IsRuleOfSetup setup) (ended_access k row.number m.access) (access_row row.number k row.collection (replaced_spec write row))
    (rules_ended setup k row.number m.access good.access) record { collection = old.collection; spec = old.spec }) good)
effect_of_setup setup k moment (AccessEnd rule) m next when there values known is good =
    kept setup _ next (only_if_is _ _ next is).1 (with_access setup m _ (rules_ended setup k rule m.access good.access) good)
effect_of_setup setup k moment _ m next when there values known is good = absurd (cc)

abbrev pub OfSetup : Setup → List Event → MachineState → Type 0
OfSetup setup history m = IsOfSetup setup m

pub step_of_setup : (setup : Setup) (history : List Event) (m next : MachineState) (event : Event) → OfSetup setup history m → step_of setup m event ≡ Some next
    → IsOfSetup setup next
step_of_setup setup history m next event good is =
    let s : StepParts setup m next event = step_is setup m next event is in
    let fits = first_holds _ _ (has_form setup m next event is) in
    let after : IsOfSetup setup s.changed =
    effect_of_setup setup (m.events + 1) event.moment event.what m s.changed (first_holds _ _ fits) (second_holds _ _ fits) (has_values setup m next event is)
    (second_holds _ _ s.comes) s.effect good in
    kept setup _ next (sym s.result) record { namespace = after.namespace; tasks = after.tasks; access = after.access; items = after.items }

pub empty_of_setup : (setup : Setup) → IsOfSetup setup (empty_state setup.namespace)
empty_of_setup setup = record { namespace = refl; tasks = All-nil (IsTaskOfSetup setup); access = All-nil (IsRuleOfSetup setup); items = All-nil HasPaths }
