-- No access rule has a number above the number of rows: a new one gets one more than the greatest, and a replacement keeps it.
use Rattle.std.proofs.Common.{◌≡◌, ◌≤◌, ℕ, suc, ◌+◌, List, [], ◌∷◌, ◌++◌, length, length-append, map, max, fold, All, Some, sym, subst, arith, get_or}
use Rattle.std.specs.Prelude.{if◌then◌else◌}
use Rattle.std.proofs.lemmas.List.Elements.{All-append, All-cons, All-map, All-nil}
use Rattle.gt_access.specs.Rule.{access_row, ended_access, is_live_rule, live_access, next_rule, replaced_access}
use Rattle.gt_access.specs.declared.row.AccessRow.{AccessRow}
use Rattle.gt_types.specs.declared.event.Event.{Event}
use Rattle.gt_types.specs.declared.event.Happening.{Happening}
use Rattle.gt_types.specs.declared.event.Happening.TheVariants.{AccessAdd, AccessEnd, AccessReplace, Issue, SubmitTransfer}
use Rattle.gt_types.specs.declared.rule.AccessSpec.{AccessSpec}
use Rattle.gt_setup.specs.Setup.{Setup}
use Rattle.gt_machine.specs.MachineState.{MachineState}
use Rattle.gt_machine.specs.RuleSteps.{replaced_spec}
use Rattle.gt_machine.specs.SoundRows.{IsNumberedWithin}
use Rattle.gt_machine.specs.Step.{effect_of, step_of}
use Rattle.gt_machine.proofs.Effects.{and_then_is, of_either, only_if_is}
use Rattle.gt_machine.proofs.Limits.{length-map}
use Rattle.gt_machine.proofs.NamedLemmas.{all_at}
use Rattle.gt_machine.proofs.OneLive.{found_at}
use Rattle.gt_machine.proofs.Runs.{StepParts, step_is}

-- no number is above n
abbrev pub Below : ℕ → List AccessRow → Type 0
Below n rows = All (λ (row : AccessRow). row.number ≤ n) rows

-- nor is the greatest
fold_below : (a n : ℕ) (rows : List AccessRow) → a ≤ n → Below n rows → fold max a (map (λ (row : AccessRow). row.number) rows) ≤ n
fold_below a n [] low below = low
fold_below a n (row ∷ rows) low below =
    let first : row.number ≤ n = below 0 row (omega arith) in
    fold_below (max a row.number) n rows (grind (arith, low, first)) (λ i d within. below (suc i) d (omega (arith, within)))

pub next_within : (rows : List AccessRow) → Below (length rows) rows → next_rule rows ≤ length rows + 1
next_within rows below = let greatest = fold_below 0 (length rows) rows (omega arith) below in omega (arith, greatest)

-- with a row more, whose number is not above their number
one_more : (rows : List AccessRow) (row : AccessRow) → Below (length rows) rows → row.number ≤ length rows + 1 → IsNumberedWithin (λ (r : AccessRow). r.number) (rows ++ row ∷ [])
one_more rows row below one =
    let count = length-append rows (row ∷ []) in
    All-append Within rows (row ∷ []) (λ i d within. let low = below i d within in omega (arith, low, count))
    (All-cons Within row [] (omega (arith, one, count)) (All-nil Within))
  where
    Within : AccessRow → Type 0
    Within r = r.number ≤ length (rows ++ row ∷ [])

-- an end changes no number
ended : (n k number : ℕ) (rows : List AccessRow) → Below n rows → Below n (ended_access k number rows)
ended n k number rows below = All-map (λ (row : AccessRow). row.number ≤ n) _ rows (λ i d within. one (get_or rows i d) (below i d within))
  where
    one : (row : AccessRow) → row.number ≤ n → (if is_live_rule number row then record row { ended = Some k } else row).number ≤ n
    one row low = of_either (λ (r : AccessRow). r.number ≤ n) (is_live_rule number row) (record row { ended = Some k }) row low low

replaced : (k : ℕ) (spec : AccessSpec) (row : AccessRow) (rows : List AccessRow) → row.number ≤ length rows → Below (length rows) rows
    → IsNumberedWithin (λ (r : AccessRow). r.number) (replaced_access k spec row rows)
replaced k spec row rows low below =
    let count : length (ended_access k row.number rows) ≡ length rows = length-map _ rows in
    one_more (ended_access k row.number rows) (access_row row.number k row.collection spec)
    (subst (λ (n : ℕ). Below n (ended_access k row.number rows)) (sym count) (ended (length rows) k row.number rows below))
    (omega (arith, low, count))

all_ended : (k number : ℕ) (rows : List AccessRow) → Below (length rows) rows → IsNumberedWithin (λ (r : AccessRow). r.number) (ended_access k number rows)
all_ended k number rows below =
    let count : length (ended_access k number rows) ≡ length rows = length-map _ rows in
    subst (λ (n : ℕ). Below n (ended_access k number rows)) (sym count) (ended (length rows) k number rows below)

abbrev pub RulesWithin : MachineState → Type 0
RulesWithin m = IsNumberedWithin (λ (row : AccessRow). row.number) m.access

kept : (x next : MachineState) → x ≡ next → RulesWithin x → RulesWithin next
kept x next is good = subst RulesWithin is good

effect_within : (k moment : ℕ) (what : Happening) (m next : MachineState) → effect_of k moment what m ≡ Some next → RulesWithin m → RulesWithin next
effect_within k moment (Issue identity) m next is good = kept _ next (only_if_is _ _ next is).1 good
effect_within k moment (SubmitTransfer owner submission spec) m next is good = kept _ next (only_if_is _ _ next is).1 good
effect_within k moment (AccessAdd collection spec) m next is good =
    kept _ next (only_if_is _ _ next is).1 (one_more m.access (access_row (next_rule m.access) k collection spec) good (next_within m.access good))
effect_within k moment (AccessReplace rule write) m next is good =
    let found = and_then_is _ (live_access rule m.access) next is in
    let row : AccessRow = found.0 in
    let at = found_at (is_live_rule rule) m.access row found.1 in
    let low : row.number ≤ length m.access = all_at (λ (r : AccessRow). r.number ≤ length m.access) m.access at.0 row good at.1 in
    kept _ next (only_if_is _ _ next found.2).1 (replaced k (replaced_spec write row) row m.access low good)
effect_within k moment (AccessEnd rule) m next is good = kept _ next (only_if_is _ _ next is).1 (all_ended k rule m.access good)
effect_within k moment _ m next is good = absurd (cc)

abbrev pub HasRulesWithin : List Event → MachineState → Type 0
HasRulesWithin history m = RulesWithin m

pub step_rules_within : (setup : Setup) (history : List Event) (m next : MachineState) (event : Event) → HasRulesWithin history m → step_of setup m event ≡ Some next
    → RulesWithin next
step_rules_within setup history m next event good is =
    let s : StepParts setup m next event = step_is setup m next event is in
    let after : RulesWithin s.changed = effect_within (m.events + 1) event.moment event.what m s.changed s.effect good in
    subst RulesWithin (sym s.result) after

pub no_rules_within : IsNumberedWithin (λ (row : AccessRow). row.number) []
no_rules_within = All-nil _
