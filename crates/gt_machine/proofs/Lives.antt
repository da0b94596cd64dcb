-- A rule is born at an event, and ends at a later one.
use Rattle.std.proofs.Common.{◌≡◌, ℕ, ◌+◌, List, [], ◌∷◌, ◌++◌, All, Option, Some, None, refl, sym, subst, arith, get_or}
use Rattle.std.specs.Prelude.{if◌then◌else◌}
use Rattle.std.proofs.lemmas.List.Elements.{All-append, All-cons, All-map}
use Rattle.gt_types.specs.declared.event.Event.{Event}
use Rattle.gt_types.specs.declared.event.Happening.{Happening}
use Rattle.gt_types.specs.declared.event.Happening.TheVariants.{AccessAdd, AccessEnd, AccessReplace, Issue, SubmitTransfer}
use Rattle.gt_access.specs.Rule.{access_row, ended_access, is_live_rule, live_access}
use Rattle.gt_access.specs.declared.row.AccessRow.{AccessRow}
use Rattle.gt_setup.specs.Setup.{Setup}
use Rattle.gt_machine.specs.MachineState.{MachineState}
use Rattle.gt_machine.specs.RuleSteps.{replaced_spec}
use Rattle.gt_machine.specs.SoundRows.{IsLife}
use Rattle.gt_machine.specs.Step.{effect_of, step_of}
use Rattle.gt_machine.proofs.Effects.{and_then_is, of_either, only_if_is}
use Rattle.gt_machine.proofs.Runs.{StepParts, step_is}

abbrev pub AccessLife : ℕ → AccessRow → Type 0
AccessLife events row = IsLife events row.born row.ended

-- the lives of all rules, after so many events
abbrev pub Lives : ℕ → MachineState → Type 0
Lives events m = All (AccessLife events) m.access

later : (e b : ℕ) (o : Option ℕ) → IsLife e b o → IsLife (e + 1) b o
later e b o life = record {
  after_start = life.after_start;
  counted = omega (arith, life.counted);
  before_end = λ k is. ((life.before_end k is).0, omega (arith, (life.before_end k is).1));
}

-- a rule that ends at the next event
ending : (e b : ℕ) (o : Option ℕ) → IsLife e b o → IsLife (e + 1) b (Some (e + 1))
ending e b o life = record {
  after_start = life.after_start;
  counted = omega (arith, life.counted);
  before_end = λ k is. let same : e + 1 ≡ k = cc in (omega (arith, same, life.counted), omega (arith, same));
}

-- a rule that is born at the next event
starting : (e : ℕ) → IsLife (e + 1) (e + 1) None
starting e = record { after_start = omega arith; counted = omega arith; before_end = λ k is. absurd (cc) }

all_later : (e : ℕ) (rows : List AccessRow) → All (AccessLife e) rows → All (AccessLife (e + 1)) rows
all_later e rows all k d below = later e (get_or rows k d).born (get_or rows k d).ended (all k d below)

access_ended : (e number : ℕ) (rows : List AccessRow) → All (AccessLife e) rows → All (AccessLife (e + 1)) (ended_access (e + 1) number rows)
access_ended e number rows all = All-map (AccessLife (e + 1)) _ rows (λ k d below. one (get_or rows k d) (all k d below))
  where
    one : (row : AccessRow) → AccessLife e row → AccessLife (e + 1) (if is_live_rule number row then record row { ended = Some (e + 1) } else row)
    one row life = of_either (AccessLife (e + 1)) (is_live_rule number row) (record row { ended = Some (e + 1) }) row (ending e row.born row.ended life) (later e row.born row.ended life)

nothing : {X : Type 0} (P : X → Type 0) → All P []
nothing P = λ k d below. absurd (omega arith)

access_added : (e : ℕ) (rows : List AccessRow) (row : AccessRow) → All (AccessLife (e + 1)) rows → AccessLife (e + 1) row → All (AccessLife (e + 1)) (rows ++ row ∷ [])
access_added e rows row all one = All-append (AccessLife (e + 1)) rows (row ∷ []) all (All-cons (AccessLife (e + 1)) row [] one (nothing (AccessLife (e + 1))))

kept : (e : ℕ) (m x next : MachineState) → x ≡ next → x.access ≡ m.access → Lives e m → Lives (e + 1) next
kept e m x next is same good =
    subst (Lives (e + 1)) is (subst (λ (rows : List AccessRow). All (AccessLife (e + 1)) rows) (sym same) (all_later e m.access good))

changed : (e : ℕ) (x next : MachineState) → x ≡ next → Lives e x → Lives e next
changed e x next is good = subst (Lives e) is good

effect_lives : (e moment : ℕ) (what : Happening) (m next : MachineState) → effect_of (e + 1) moment what m ≡ Some next → Lives e m → Lives (e + 1) next
effect_lives e moment (Issue identity) m next is good = kept e m _ next (only_if_is _ _ next is).1 refl good
effect_lives e moment (SubmitTransfer owner submission spec) m next is good = kept e m _ next (only_if_is _ _ next is).1 refl good
effect_lives e moment (AccessAdd collection spec) m next is good =
    changed (e + 1) _ next (only_if_is _ _ next is).1
    (access_added e m.access (access_row _ (e + 1) collection spec) (all_later e m.access good) (starting e))
effect_lives e moment (AccessReplace rule write) m next is good =
    let found = and_then_is _ (live_access rule m.access) next is in
    let row : AccessRow = found.0 in
    changed (e + 1) _ next (only_if_is _ _ next found.2).1
    (access_added e (ended_access (e + 1) row.number m.access) (access_row row.number (e + 1) row.collection (replaced_spec write row))
    (access_ended e row.number m.access good) (starting e))
effect_lives e moment (AccessEnd rule) m next is good =
    changed (e + 1) _ next (only_if_is _ _ next is).1 (access_ended e rule m.access good)
effect_lives e moment _ m next is good = absurd (cc)

abbrev pub HasLives : List Event → MachineState → Type 0
HasLives history m = Lives m.events m

pub step_lives : (setup : Setup) (history : List Event) (m next : MachineState) (event : Event) → HasLives history m → step_of setup m event ≡ Some next
    → Lives next.events next
step_lives setup history m next event good is =
    let s : StepParts setup m next event = step_is setup m next event is in
    let after : Lives (m.events + 1) s.changed = effect_lives m.events event.moment event.what m s.changed s.effect good in
    subst (λ (n : MachineState). Lives n.events n) (sym s.result) after

pub no_lives : All (AccessLife 0) []
no_lives = nothing (AccessLife 0)
