-- Computed examples of what lines print and add where nothing fails, and of the tables of steps, outputs and exits.
use Rattle.gt_machine.specs.MachineState.{empty_state}
use Rattle.gt_requests.specs.declared.fault.RequestFault.{RequestFault}
use Rattle.gt_requests.specs.declared.fault.RequestFault.TheVariants.{Refused}
use Rattle.gt_requests.specs.declared.incoming.Incoming.{Incoming}
use Rattle.gt_script.specs.declared.line.Line.{Line}
use Rattle.gt_script.specs.declared.line.Line.TheVariants.{End, Now, Restart, Send}
use Rattle.gt_service.specs.Service.{refusal_of, response_of}
use Rattle.gt_setup.specs.Setup.{Setup}
use Rattle.gt_setup.specs.declared.parts.Collection.{Collection}
use Rattle.gt_types.specs.declared.code.Status.TheVariants.{Succeeded}
use Rattle.gt_types.specs.declared.command.Command.{Command}
use Rattle.gt_types.specs.declared.command.Command.TheVariants.{IssueId, SubmitTransfer as AskTransfer}
use Rattle.gt_types.specs.declared.event.Event.{Event}
use Rattle.gt_types.specs.declared.event.Happening.TheVariants.{Issue, SubmitTransfer}
use Rattle.gt_types.specs.declared.reply.Reply.TheVariants.{Identifier, Submitted}
use Rattle.gt_types.specs.declared.reply.ReplyCode.{ReplyCode}
use Rattle.gt_types.specs.declared.reply.ReplyCode.TheVariants.{NotFound}
use Rattle.gt_types.specs.declared.spec.TransferSpec.{TransferSpec}
use Rattle.gt_world.specs.World.{NoMemory, Quiet, SetMoment, Taken, World, world_on}
use Rattle.std.proofs.Common.{Err, List, None, Ok, Result, [], refl, ◌++◌, ◌∷◌, ◌≡◌, ℕ}
use Rattle.std.specs.Fmt.{digits}
use Rattle.std.specs.Prelude.{codes, false, true}
use Rattle.std.specs.Str.{chars, is_utf8}
use lib.Utf8.{encode}
use Rattle.transferd.specs.Calm.{calm_script}
use Rattle.transferd.specs.Exits.{status_of}
use Rattle.transferd.specs.Output.{answer_text, response_text, restart_text, task_text}
use Rattle.transferd.specs.Run.{Makes}
use Rattle.transferd.specs.declared.exit.Exit.TheVariants.{Damaged, Done, JournalFault, OutOfMemory, ScriptRefused, SinkFault, SourceFault, Usage}

-- an identifier of sixteen bytes, of which the last is this
abbrev id : ℕ → List ℕ
id n = 0 ∷ 0 ∷ 0 ∷ 0 ∷ 0 ∷ 0 ∷ 64 ∷ 0 ∷ 128 ∷ 0 ∷ 0 ∷ 0 ∷ 0 ∷ 0 ∷ 0 ∷ n ∷ []

abbrev ann : List ℕ
ann = id 161

-- one identity, no collection
abbrev setup : Setup
setup = record {
  namespace = 7;
  identities = (record { who = record { identity = ann; groups = [] }; name = []; tokens = [] }) ∷ [];
  collections = [];
}

-- each request is read as this one
abbrev all_as : Command → Incoming → Result (List ℕ × Command) RequestFault
all_as command incoming = Ok (ann, command)

-- a request with this body
abbrev send : List ℕ → Line
send body = Send None [] [] body

-- an end of an empty desk, also at another moment
pub empty_end : calm_script (all_as IssueId) setup [] (End ∷ []) ≡ (codes "end 0 0" ++ 10 ∷ [], [])
unfolding digits
empty_end = refl

pub later_end : calm_script (all_as IssueId) setup [] (Now 1700000000 ∷ End ∷ []) ≡ (codes "end 0 0" ++ 10 ∷ [], [])
unfolding digits
later_end = refl

abbrev issued : ℕ → Event
issued moment = record { moment = moment; what = Issue ann }

-- what is printed of an identifier
abbrev identifier_line : ℕ → List ℕ
identifier_line number = response_text (response_of setup (Identifier number))

-- two identifiers, the second at an earlier moment, which doesn't take the event back; a restart keeps both
pub identifiers :
    calm_script (all_as IssueId) setup [] (Now 100 ∷ send [] ∷ Now 50 ∷ send [] ∷ Restart ∷ End ∷ [])
    ≡ (identifier_line 1 ++ (identifier_line 2 ++ (codes "restart 2" ++ 10 ∷ (codes "end 2 0" ++ 10 ∷ []))), issued 100 ∷ issued 100 ∷ [])
unfolding digits
identifiers = refl

-- a script on a history goes on from there
pub on_a_history : calm_script (all_as IssueId) setup (issued 100 ∷ []) (send [] ∷ End ∷ []) ≡ (identifier_line 2 ++ (codes "end 2 0" ++ 10 ∷ []), issued 100 ∷ [])
unfolding digits
on_a_history = refl

-- requests that aren't read
abbrev none_as : ReplyCode → Incoming → Result (List ℕ × Command) RequestFault
none_as code incoming = Err (Refused code [])

-- a request that is refused without the desk is told so, and adds nothing
pub refused_adds_nothing :
    calm_script (none_as NotFound) setup (issued 100 ∷ []) (send [] ∷ End ∷ [])
    ≡ (response_text (refusal_of NotFound []) ++ (codes "end 1 0" ++ 10 ∷ []), [])
unfolding digits
refused_adds_nothing = refl

abbrev collection : ℕ → Collection
collection n = record { id = id n; name = []; owner = ann; home = [] }

-- one identity and two collections
abbrev desk : Setup
desk = record setup { collections = collection 192 ∷ collection 193 ∷ [] }

-- a transfer of `/e` to a path of one name
abbrev transfer_to : List ℕ → TransferSpec
transfer_to name = record {
  source = 0;
  destination = 1;
  label = None;
  deadline = None;
  level = None;
  verify = true;
  preserve = false;
  extra = false;
  skip_source = false;
  kept = record { given = 0; set = 0 };
  rules = [];
  entries = record { source = (101 ∷ []) ∷ []; destination = name ∷ []; recursive = None } ∷ [];
}

-- each request is read as a transfer to the name that its body is
abbrev as_transfer : Incoming → Result (List ℕ × Command) RequestFault
as_transfer incoming = Ok (ann, AskTransfer (id 178) (transfer_to incoming.body))

-- a submission, and one with the same identifier and another document, which is told of the first one's task
pub submission_and_repeat :
    calm_script as_transfer desk [] (Now 100 ∷ send (101 ∷ []) ∷ send (102 ∷ []) ∷ End ∷ [])
    ≡ (
      response_text (response_of desk (Submitted false true (id 178) 1)) ++ (response_text (response_of desk (Submitted false false (id 178) 1))
          ++ (codes "end 1 1" ++ 10 ∷ (codes "task 1 TRANSFER ACTIVE 1 1 0 0 0 0 0 0 0 0" ++ 10 ∷ []))),
      (record { moment = 100; what = SubmitTransfer ann (id 178) (transfer_to (101 ∷ [])) }) ∷ [],
    )
unfolding digits is_utf8 chars encode
submission_and_repeat = refl

-- a task's line shows ten of its counters
pub task_line :
    task_text (record {
      number = 3;
      is_delete = true;
      status = Succeeded;
      counters = record {
        total = 1;
        pending = 2;
        retrying = 3;
        succeeded = 4;
        expired = 5;
        canceled = 6;
        failed = 7;
        skipped_errors = 8;
        files = 90;
        directories = 91;
        files_skipped = 92;
        files_transferred = 9;
        bytes_transferred = 10;
        bytes_checksummed = 93;
        faults = 94;
      };
    })
    ≡ codes "task 3 DELETE SUCCEEDED 1 2 3 4 5 6 7 8 9 10" ++ 10 ∷ []
unfolding digits
task_line = refl

pub restart_line : restart_text 12 ≡ codes "restart 12" ++ 10 ∷ []
unfolding digits
restart_line = refl

-- a request for which memory was wanted prints nothing
pub no_memory_prints_nothing : answer_text NoMemory ≡ []
no_memory_prints_nothing = refl

abbrev start : World
start = world_on (record { history = []; machine = empty_state 7; doubt = None }) 0

abbrev set : Taken
set = record { step = SetMoment 100; answer = Quiet; world = record start { moment = 100 } }

-- a moment is one step, and prints nothing
pub now_makes : Makes (Now 100) (set ∷ [])
now_makes = (refl, refl)

pub end_makes_nothing : Makes End (set ∷ []) → ⊥
end_makes_nothing is = cc is

-- the statuses of a process
pub statuses :
    (status_of Done ∷ status_of Usage ∷ status_of (ScriptRefused 1) ∷ status_of SourceFault ∷ status_of SinkFault ∷ status_of JournalFault ∷ status_of (Damaged 0) ∷ status_of OutOfMemory ∷ [])
    ≡ 0 ∷ 2 ∷ 4 ∷ 5 ∷ 6 ∷ 7 ∷ 8 ∷ 9 ∷ []
statuses = refl
