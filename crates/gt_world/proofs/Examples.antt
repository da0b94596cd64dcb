-- Computed examples: steps of a world whose ledger is empty or has an event in doubt.
use Rattle.gt_desk.specs.History.{Ledger}
use Rattle.gt_desk.specs.declared.fault.DeskFault.TheVariants.{JournalFault as DiskFailed}
use Rattle.gt_machine.specs.MachineState.{empty_state}
use Rattle.gt_requests.specs.declared.fault.RequestFault.TheVariants.{Refused}
use Rattle.gt_service.specs.Service.{refusal_of, response_of}
use Rattle.gt_setup.specs.Setup.{Setup}
use Rattle.gt_types.specs.declared.command.Command.TheVariants.{IssueId}
use Rattle.gt_types.specs.declared.event.Event.{Event}
use Rattle.gt_types.specs.declared.event.Happening.TheVariants.{Issue}
use Rattle.gt_types.specs.declared.reply.Reply.TheVariants.{Identifier}
use Rattle.gt_types.specs.declared.reply.ReplyCode.TheVariants.{JournalFault, NotFound}
use Rattle.gt_world.specs.World.{NoMemory, Quiet, Reopen, Reopened, ServesWorld, SetMoment, World, WorldStep, world_on}
use Rattle.std.proofs.Common.{Err, List, None, Ok, Some, [], ap, inl, inr, refl, rules, true, ◌∷◌, ◌≡◌, ℕ}
use Rattle.std.proofs.Math.Nat.{le_refl}

abbrev ann : List ℕ
ann = 0 ∷ 0 ∷ 0 ∷ 0 ∷ 0 ∷ 0 ∷ 64 ∷ 0 ∷ 128 ∷ 0 ∷ 0 ∷ 0 ∷ 0 ∷ 0 ∷ 0 ∷ 161 ∷ []

-- one identity, no collection
abbrev setup : Setup
setup = record {
  namespace = 7;
  identities = (record { who = record { identity = ann; groups = [] }; name = []; tokens = [] }) ∷ [];
  collections = [];
}

abbrev empty : Ledger
empty = record { history = []; machine = empty_state 7; doubt = None }

-- the empty ledger at this moment
abbrev at : ℕ → World
at moment = record { ledger = empty; moment = moment; faults = 0 }

-- a run begins at the moment 0
pub begins : world_on empty 0 ≡ at 0
begins = refl

-- another moment is set, nothing is told and nothing else changes
pub moment_set : WorldStep setup true (at 0) (SetMoment 100) Quiet (at 100)
moment_set = refl

pub only_the_moment_set : WorldStep setup true (at 0) (SetMoment 100) Quiet (record (at 100) { faults = 1 }) → ⊥
only_the_moment_set is = let same : 1 ≡ 0 = ap (λ (w : World). w.faults) is in absurd (cc same)

-- it is told nothing else
pub moment_wants_no_memory : WorldStep setup true (at 0) (SetMoment 100) NoMemory (at 0) → ⊥
moment_wants_no_memory is = is

abbrev issued : Event
issued = record { moment = 100; what = Issue ann }

-- the ledger with the first identifier
abbrev with_issued : Ledger
with_issued = record { history = issued ∷ []; machine = record (empty_state 7) { issued = 1; greatest = 100; events = 1 }; doubt = None }

-- a request for an identifier is told the first one, and its event is behind the history
pub identifier_told : ServesWorld setup (Ok (ann, IssueId)) (at 100) (Some (response_of setup (Identifier 1))) (record (at 100) { ledger = with_issued })
identifier_told = inr (record {
  answer = Ok (Identifier 1);
  call = record {
    moved = issued ∷ [];
    call = record {
      runs = refl;
      comes = inl (record {
        kept = [];
        settles = refl;
        settled = empty_state 7;
        leads = refl;
        made = issued ∷ [];
        moves = refl;
        records = (refl, refl, refl);
      });
    };
    history = refl;
    step = record { frame = refl; later = le_refl 0 };
  };
  told = refl;
})

-- the world with the event in doubt, behind a fault of the disk
abbrev doubtful : World
doubtful = record { ledger = record empty { doubt = Some issued }; moment = 100; faults = 1 }

-- a request that isn't read is told so, and an event in doubt stays in doubt
pub refusal_told : ServesWorld setup (Err (Refused NotFound [])) doubtful (Some (refusal_of NotFound [])) doubtful
refusal_told = record { still = refl; told = refl }

pub refusal_settles_nothing : ServesWorld setup (Err (Refused NotFound [])) doubtful (Some (refusal_of NotFound [])) (record doubtful { ledger = with_issued }) → ⊥
refusal_settles_nothing is = let same : 1 ≡ 0 = ap (λ (w : World). w.ledger.machine.issued) is.still in absurd (cc same)

-- the journal failed, which was counted: the caller is told so, and the event may count
pub fault_told : ServesWorld setup (Ok (ann, IssueId)) (at 100) (Some (refusal_of JournalFault [])) doubtful
fault_told = inr (record {
  answer = Err DiskFailed;
  call = record {
    moved = [];
    call = record {
      runs = refl;
      comes = inl (record {
        kept = [];
        settles = refl;
        settled = empty_state 7;
        leads = refl;
        made = [];
        moves = refl;
        records = (refl, (issued, refl, inr refl));
      });
    };
    history = refl;
    step = record { frame = refl; later = search rules };
  };
  told = refl;
})

-- a restart finds that the event counts, or that it doesn't
pub doubt_kept : WorldStep setup true doubtful Reopen Reopened (record doubtful { ledger = with_issued })
doubt_kept = record {
  found = with_issued;
  finds = λ t. record { kept = issued ∷ []; settles = inr refl; history = refl };
  opens = record { found_runs = refl; found_clear = refl; moves = refl; clear = refl };
  history = refl;
  step = record { frame = refl; later = le_refl 1 };
}

pub doubt_dropped : WorldStep setup true doubtful Reopen Reopened (record doubtful { ledger = empty })
doubt_dropped = record {
  found = empty;
  finds = λ t. record { kept = []; settles = inl refl; history = refl };
  opens = record { found_runs = refl; found_clear = refl; moves = refl; clear = refl };
  history = refl;
  step = record { frame = refl; later = le_refl 1 };
}
