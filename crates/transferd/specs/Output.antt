-- What a run prints.
use Rattle.gt_machine.specs.TaskLine.{task_lines}
use Rattle.gt_machine.specs.declared.line.TaskLine.{TaskLine}
use Rattle.gt_replies.specs.Words.{status_name, type_name}
use Rattle.gt_service.specs.Service.{Response}
use Rattle.gt_script.specs.declared.line.Line.{Line}
use Rattle.gt_script.specs.declared.line.Line.TheVariants.{End, Now, Restart, Send}
use Rattle.std.specs.Fmt.{decimal}
use Rattle.std.specs.List.{flat_map}
use Rattle.std.specs.Option.{option_map_or}
use Rattle.std.specs.Prelude.{List, [], codes, length, take, ◌++◌, ◌<◌, ◌∷◌, ◌≡◌, ℕ}
use Rattle.transferd.specs.Run.{Played, response_in}
use Rattle.gt_world.specs.World.{StepAnswer, Taken, World, world_after}

-- some bytes at the front of a text were written behind those before, and not all
pub record IsPart (text before after : List ℕ) : Type 0 where
  pub number : ℕ
  pub not_all : number < length text
  pub written : after ≡ before ++ take number text

-- numbers with a space before each, and a text behind them
abbrev pub numbers_text : List ℕ → List ℕ → List ℕ
numbers_text [] behind = behind
numbers_text (number ∷ rest) behind = codes " " ++ (decimal number ++ numbers_text rest behind)

-- the ten numbers that a task's line shows
abbrev pub numbers_of : TaskLine → List ℕ
numbers_of line =
    line.counters.total ∷ line.counters.pending ∷ line.counters.retrying ∷ line.counters.succeeded ∷ line.counters.expired ∷ line.counters.canceled ∷ line.counters.failed
    ∷ line.counters.skipped_errors ∷ line.counters.files_transferred ∷ line.counters.bytes_transferred ∷ []

-- a task's line: `task NUMBER TYPE STATUS` and ten numbers
abbrev pub task_text : TaskLine → List ℕ
task_text line =
    codes "task " ++ (decimal line.number ++ (codes " " ++ (type_name line.is_delete ++ (codes " " ++ (status_name line.status ++ numbers_text (numbers_of line) (10 ∷ []))))))

-- the first line of an end: `end EVENTS TASKS`
abbrev pub count_text : ℕ → ℕ → List ℕ
count_text events tasks = codes "end " ++ (decimal events ++ (codes " " ++ (decimal tasks ++ 10 ∷ [])))

-- the numbers of events and of tasks, and a line for each task
abbrev pub table_text : ℕ → List TaskLine → List ℕ
table_text events lines = count_text events (length lines) ++ flat_map task_text lines

-- what an end prints: the table of the tasks that the history made
abbrev pub end_text : World → List ℕ
end_text world =
    table_text (length world.ledger.history) (task_lines world.ledger.machine)

-- what a reopened desk prints: `restart EVENTS`
abbrev pub restart_text : ℕ → List ℕ
restart_text events = codes "restart " ++ (decimal events ++ 10 ∷ [])

-- what a response prints: `reply STATUS LENGTH`, and its body on a line
abbrev pub response_text : Response → List ℕ
response_text response =
    codes "reply " ++ (decimal response.0 ++ (codes " " ++ (decimal (length response.1) ++ 10 ∷ []))) ++ response.1 ++ 10 ∷ []

-- what a request prints, by what its step was told
abbrev pub answer_text : StepAnswer → List ℕ
answer_text answer = option_map_or response_text (response_in answer) []

-- what a line prints, by its steps from the world before it
abbrev pub line_output : World → Line → List Taken → List ℕ
line_output start End steps = end_text start
line_output start (Now moment) steps = []
line_output start (Send token method target body) steps = flat_map (λ taken. answer_text taken.answer) steps
line_output start Restart steps = restart_text (length (world_after start steps).ledger.history)

-- what a run prints
abbrev pub out_text : World → List Played → List ℕ
out_text start [] = []
out_text start (played ∷ rest) = line_output start played.line played.steps ++ out_text (world_after start played.steps) rest
