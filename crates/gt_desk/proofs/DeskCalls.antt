-- The parts of a call make the call.
use Rattle.std.proofs.Common.{◌≡◌, ℕ, inl, inr, ⊎_elim, List, [], ◌++◌, None, IsSome, Result, Ok, Err, append-nil, refl, sym, ap, subst, ◌∙◌}
use Rattle.gt_desk.specs.DeskCall.{Records}
use Rattle.gt_desk.specs.Desk.{Desk, HasRecorded, HasSettled, IsCall, IsSameLedger}
use Rattle.gt_desk.specs.History.{Ledger, StandsDuring, StandsWith}
use Rattle.gt_desk.specs.declared.fault.DeskFault.{DeskFault}
use Rattle.gt_desk.specs.declared.fault.DeskFault.TheVariants as faults
use Rattle.gt_desk.proofs.Histories.{run_none}
use Rattle.gt_desk.proofs.Standing.{stands_before}
use Rattle.gt_disk.specs.Disk.{DiskWords}
use Rattle.gt_machine.specs.MachineState.{MachineState}
use Rattle.gt_machine.specs.RunFacts.{run_join}
use Rattle.gt_machine.specs.declared.decision.Decision.{Decision}
use Rattle.gt_machine.specs.declared.decision.Decision.TheVariants.{Do, Say}
use Rattle.gt_setup.specs.Setup.{Setup}
use Rattle.gt_types.specs.declared.event.Event.{Event}
use Rattle.std.proofs.Common.{IsTrue, append_assoc}

module _ {D A : Type 0} (words : DiskWords D) (decide : MachineState → Decision A) (old mid new : Desk D) where
  -- what was settled, and then recorded
  pub both : (settled : HasSettled words old mid) (decision : Decision A) → decision ≡ decide mid.ledger.machine → (result : Result A DeskFault) (recorded : HasRecorded words decision mid result new)
      → mid.setup ≡ old.setup → (IsTrue (words.honest old.disk) → IsTrue (words.honest mid.disk)) → IsCall words decide old result new
  both settled decision is result recorded same honest = record {
    moved = settled.kept ++ recorded.made;
    call = record {
      runs = run_join old.setup old.ledger.machine mid.ledger.machine new.ledger.machine settled.kept recorded.made settled.runs (rw same at recorded.runs);
      comes = inl (record {
        kept = settled.kept;
        settles = settled.settles;
        settled = mid.ledger.machine;
        leads = settled.runs;
        made = recorded.made;
        moves = refl;
        records = subst (λ d. Records d result recorded.made new.ledger.doubt) is recorded.records;
      });
    };
    history = λ t. recorded.history (honest t) ∙ ap (λ (h : List Event). h ++ recorded.made) (settled.history t) ∙ append_assoc old.ledger.history settled.kept recorded.made;
  }

-- the doubt was settled, and memory was wanted
pub gave_up : {D A : Type 0} (words : DiskWords D) (decide : MachineState → Decision A) (old mid : Desk D) → HasSettled words old mid → IsCall words decide old (Err faults.OutOfMemory) mid
gave_up words decide old mid settled = record {
  moved = settled.kept;
  call = record {
    runs = settled.runs;
    comes = inl (record {
      kept = settled.kept;
      settles = settled.settles;
      settled = mid.ledger.machine;
      leads = settled.runs;
      made = [];
      moves = sym (append-nil settled.kept);
      records = (refl, settled.clear);
    });
  };
  history = settled.history;
}

-- the journal failed in settling
pub not_settled : {D A : Type 0} (words : DiskWords D) (decide : MachineState → Decision A) (old new : Desk D) → IsSome old.ledger.doubt → IsSameLedger words old new
    → IsCall words decide old (Err faults.JournalFault) new
not_settled words decide old new some same = record {
  moved = [];
  call = record {
    runs = run_none old.setup [] old.ledger.machine new.ledger.machine refl same.machine;
    comes = inr (record { fault = refl; in_doubt = some; still = refl; doubt = same.doubt });
  };
  history = λ t. same.history t ∙ sym (append-nil old.ledger.history);
}

-- what stands for the settled ledger stood for the one before
pub during_settled : {D : Type 0} (words : DiskWords D) (setup : Setup) (old mid : Desk D) (new : Ledger) (settled : HasSettled words old mid) → IsTrue (words.honest old.disk)
    → (c : List ℕ) → StandsDuring setup mid.ledger new c → StandsDuring setup old.ledger new c
during_settled words setup old mid new settled honest c during =
    ⊎_elim (λ stands. inl (stands_before setup old.ledger.doubt old.ledger.history settled.kept settled.settles c
    (subst (λ h. StandsWith setup h None c) (settled.history honest) (subst (λ d. StandsWith setup mid.ledger.history d c) settled.clear stands)))) (λ after. inr after) during

-- memory was wanted, and nothing recorded
pub idle_recorded : {D A : Type 0} (words : DiskWords D) (decision : Decision A) (desk : Desk D) → desk.ledger.doubt ≡ None → HasRecorded words decision desk (Err faults.OutOfMemory) desk
idle_recorded words decision desk clear = record { made = []; runs = refl; history = λ t. sym (append-nil desk.ledger.history); records = (refl, clear) }

-- an answer without an event
pub said_recorded : {D A : Type 0} (words : DiskWords D) (answer : A) (desk : Desk D) → desk.ledger.doubt ≡ None → HasRecorded words (Say answer) desk (Ok answer) desk
said_recorded words answer desk clear = record { made = []; runs = refl; history = λ t. sym (append-nil desk.ledger.history); records = (refl, refl, clear) }

-- an event that was recorded or not, with the answer that tells of it
module _ {D A : Type 0} (words : DiskWords D) (event : Event) (answer : A) (old new : Desk D) where
  pub done_recorded : HasRecorded words (Do event (tt {0})) old (Ok (tt {0})) new → HasRecorded words (Do event answer) old (Ok answer) new
  done_recorded made = record { made = made.made; runs = made.runs; history = made.history; records = (refl, made.records.1, made.records.2) }

  pub fault_recorded : (fault : DeskFault) → HasRecorded words (Do event (tt {0})) old (Err fault) new → HasRecorded words (Do event answer) old (Err fault) new
  fault_recorded faults.JournalFault made = record { made = made.made; runs = made.runs; history = made.history; records = made.records }
  fault_recorded faults.OutOfMemory made = record { made = made.made; runs = made.runs; history = made.history; records = made.records }
