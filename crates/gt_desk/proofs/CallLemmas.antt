-- No call takes an event away from the history.
use Rattle.std.proofs.Common.{◌≡◌, ℕ, ⊎_elim, List, [], ◌∷◌, ◌++◌, Option, None, Some, ap, append-nil, subst, sym, ◌∙◌, append_assoc, refl}
use Rattle.gt_desk.specs.Calls.{AreCalls, Call}
use Rattle.gt_desk.specs.History.{Keeps, Ledger, Stands, StandsDuring, StandsFor, StandsWith}
use Rattle.gt_disk.specs.Moments.{joined, weaker}
use Rattle.gt_disk.specs.Disk.{DiskWords, LeavesOnly}
use Rattle.gt_setup.specs.Setup.{Setup}
use Rattle.gt_types.specs.declared.event.Event.{Event}

-- the new history begins with the old one
abbrev Begins : List Event → List Event → Type 0
Begins old new = (more : List Event) × (new ≡ old ++ more)

pub begins_same : (history : List Event) → Begins history history
begins_same history = ([], sym (append-nil history))

begins_more : (old mid new more : List Event) → Begins old mid → new ≡ mid ++ more → Begins old new
begins_more old mid new more (before, is) longer =
    (before ++ more, longer ∙ ap (λ (events : List Event). events ++ more) is ∙ append_assoc old before more)

keeps_for : (setup : Setup) (history longer : List Event) (file : List ℕ) → Begins history longer → StandsFor setup longer file → Keeps setup history file
keeps_for setup history longer file (more, is) stands = (more, subst (λ h. StandsFor setup h file) is stands)

keeps_with : (setup : Setup) (history now : List Event) (doubt : Option Event) (file : List ℕ) → Begins history now → StandsWith setup now doubt file → Keeps setup history file
keeps_with setup history now None file begins stands = keeps_for setup history now file begins stands
keeps_with setup history now (Some event) file begins stands =
    ⊎_elim (λ short. keeps_for setup history now file begins short)
    (λ long. keeps_for setup history (now ++ event ∷ []) file (begins_more history now (now ++ event ∷ []) (event ∷ []) begins refl) long) stands

keeps_ledger : (setup : Setup) (history : List Event) (ledger : Ledger) (file : List ℕ) → Begins history ledger.history → Stands setup ledger file → Keeps setup history file
keeps_ledger setup history ledger file begins stands = keeps_with setup history ledger.history ledger.doubt file begins stands

module _ {D : Type 0} (words : DiskWords D) (setup : Setup) (history : List Event) where
  pub keeps_calls : (calls : List (Call D)) (disk last : D) (ledger : Ledger) → Begins history ledger.history → AreCalls words setup disk ledger calls last
      → LeavesOnly words disk last (Keeps setup history)
  keeps_calls [] disk last ledger begins idle =
      weaker words disk last (Stands setup ledger) (Keeps setup history) (λ file stands. keeps_ledger setup history ledger file begins stands) idle
  keeps_calls (call ∷ calls) disk last ledger begins (grown, run, rest) =
      let after = begins_more history ledger.history call.ledger.history call.moved begins grown in
      let keeps : (file : List ℕ) → StandsDuring setup ledger call.ledger file → Keeps setup history file =
      λ file stands. ⊎_elim (λ old. keeps_ledger setup history ledger file begins old) (λ new. keeps_ledger setup history call.ledger file after new) stands in
      joined words disk call.disk last (Keeps setup history)
      (weaker words disk call.disk (StandsDuring setup ledger call.ledger) (Keeps setup history) keeps run)
      (keeps_calls calls call.disk last call.ledger after rest)
