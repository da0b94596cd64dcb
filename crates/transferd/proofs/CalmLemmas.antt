-- A run in which the disk's count of faults didn't rise prints and adds what its lines do where nothing fails.
use Rattle.gt_causes.specs.Causes.{Rose}
use Rattle.gt_desk.specs.DeskCall.{Decides, FailsToSettle, IsKept}
use Rattle.gt_desk.specs.Opening.{opening_events}
use Rattle.gt_desk.specs.declared.fault.DeskFault.{DeskFault}
use Rattle.gt_desk.specs.declared.fault.DeskFault.TheVariants.{JournalFault, OutOfMemory as DeskOutOfMemory}
use Rattle.gt_machine.specs.Answer.{answer_of}
use Rattle.gt_machine.specs.Decision.{events_in, said}
use Rattle.gt_machine.specs.MachineState.{MachineState, empty_state}
use Rattle.gt_machine.specs.Run.{run_from, run_of}
use Rattle.gt_machine.specs.TaskLine.{task_lines}
use Rattle.gt_machine.specs.declared.decision.Decision.{Decision}
use Rattle.gt_requests.specs.declared.fault.RequestFault.{RequestFault}
use Rattle.gt_requests.specs.declared.fault.RequestFault.TheVariants.{OutOfMemory, Refused}
use Rattle.gt_script.specs.declared.line.Line.{Line}
use Rattle.gt_script.specs.declared.line.Line.TheVariants.{End, Now, Restart, Send}
use Rattle.gt_service.specs.Service.{IsAnswered, IsUntouched, RefusesAs, Response, reading_of, refusal_of, response_of, response_to}
use Rattle.gt_setup.specs.Setup.{Setup}
use Rattle.gt_types.specs.declared.command.Command.{Command}
use Rattle.gt_types.specs.declared.event.Event.{Event}
use Rattle.gt_types.specs.declared.reply.Reply.{Reply}
use Rattle.gt_types.specs.declared.reply.ReplyCode.TheVariants.{JournalFault as Unavailable}
use Rattle.gt_world.specs.RunFacts.{run_later}
use Rattle.gt_world.specs.World.{Asks, NoMemory, Reopen, Reopens, Replied, Request, ServesWorld, SetMoment, StepAnswer, Taken, World, WorldRun, WorldStep, world_after}
use Rattle.std.proofs.Common.{Bool, Err, IsTrue, List, Ok, Option, Result, Some, [], ap, append-nil, append_assoc, arith, length, refl, subst, sym, ⊎_elim, ◌++◌, ◌∙◌, ◌∷◌, ◌≡◌, ◌≤◌, ℕ}
use Rattle.std.proofs.Math.Nat.{le_refl, le_trans}
use Rattle.std.specs.Option.{option_map_or}
use Rattle.std.specs.Prelude.{IsSome}
use Rattle.transferd.specs.Calm.{IsCalmRun, IsSettled, calm, decided, events_of, moment_behind, state_of, text_of}
use Rattle.transferd.specs.Output.{answer_text, line_output, out_text, response_text, restart_text, table_text}
use Rattle.transferd.specs.Run.{Makes, Played, ScriptRun, incoming_of, lines_of, response_in, world_at}

-- what the machine says of runs that go on
abbrev pub GoesOn : Setup → Type 0
GoesOn setup = (m middle last : MachineState) (front back : List Event) → run_from setup m front ≡ Some middle → run_from setup middle back ≡ Some last → run_from setup m (front ++ back) ≡ Some last

-- the count did not rise
abbrev pub NotRose : ℕ → ℕ → Type 0
NotRose before now = Rose before now → ⊥

pub rose_within : (a b c d : ℕ) → a ≤ b → c ≤ d → Rose b c → Rose a d
rose_within a b c d low high rose = omega (arith, low, high, rose)

module _ (setup : Setup) where
  of_some : Option MachineState → MachineState
  of_some o = option_map_or (λ m. m) o (empty_state setup.namespace)

  -- the state that a history leads to is that of its run
  pub state_is : (history : List Event) (m : MachineState) → run_of setup history ≡ Some m → state_of setup history ≡ m
  unfolding of_some
  state_is history m runs = ap of_some runs

  one_state : (m n : MachineState) → Some m ≡ Some n → m ≡ n
  unfolding of_some
  one_state m n same = ap of_some same

  module _ (go_on : GoesOn setup) (honest : Bool) (t : IsTrue honest) where
    -- a line of a settled world, in which no fault was counted
    record CalmLine (start : World) (line : Line) (steps : List Taken) : Type 0 where
      text : line_output start line steps ≡ text_of (reading_of setup) setup start.ledger.history start.moment line
      history : (world_after start steps).ledger.history ≡ start.ledger.history ++ events_of (reading_of setup) setup start.ledger.history start.moment line
      moment : (world_after start steps).moment ≡ moment_behind start.moment line
      settled : IsSettled setup (world_after start steps)

    -- the response to a request that is read so, and its events
    record CalmAnswer (start : World) (reading : Result (List ℕ × Command) RequestFault) (response : Response) (new : World) : Type 0 where
      told : (decided setup start.ledger.history start.moment reading).0 ≡ Some response
      history : new.ledger.history ≡ start.ledger.history ++ (decided setup start.ledger.history start.moment reading).1
      moment : new.moment ≡ start.moment
      settled : IsSettled setup new

    replied : (start new : World) (identity : List ℕ) (command : Command) (reply : Reply) → IsSettled setup start → (is : Asks setup identity command start (Ok reply) new)
        → Decides setup (λ m. answer_of setup m identity command start.moment) start.ledger (Ok reply) is.moved new.ledger → CalmAnswer start (Ok (identity, command)) (response_of setup reply) new
    replied start new identity command reply settled is d =
        let h = start.ledger.history in
        let kept : d.kept ≡ [] = subst (λ o. IsKept o d.kept) settled.clear d.settles in
        let leads : Some start.ledger.machine ≡ Some d.settled = subst (λ k. run_from setup start.ledger.machine k ≡ Some d.settled) kept d.leads in
        let state : d.settled ≡ state_of setup h = sym (one_state start.ledger.machine d.settled leads) ∙ sym (state_is h start.ledger.machine settled.runs) in
        let decision : answer_of setup d.settled identity command start.moment ≡ answer_of setup (state_of setup h) identity command start.moment =
        ap (λ m. answer_of setup m identity command start.moment) state in
        let moved : is.moved ≡ events_in (answer_of setup (state_of setup h) identity command start.moment) =
        d.moves ∙ ap (λ k. k ++ d.made) kept ∙ d.records.1 ∙ ap (λ (it : Decision Reply). events_in it) decision in
        record {
          told = ap (λ r. Some (response_of setup r)) (sym (d.records.0 ∙ ap (λ (it : Decision Reply). said it) decision));
          history = is.history ∙ ap (λ e. h ++ e) moved;
          moment = ap (λ (w : World). w.moment) is.step.frame;
          settled = record {
            runs = subst (λ e. run_of setup e ≡ Some new.ledger.machine) (sym is.history) (go_on (empty_state setup.namespace) start.ledger.machine new.ledger.machine h is.moved settled.runs is.call.runs);
            clear = d.records.2;
          };
        }

    -- the desk was asked, and its disk didn't fail
    asked : (start new : World) (identity : List ℕ) (command : Command) (answer : Result Reply DeskFault) (response : Response) → IsSettled setup start → Asks setup identity command start answer new
        → response_to setup answer ≡ Some response → (response.0 ≡ 503 → ⊥) → CalmAnswer start (Ok (identity, command)) response new
    asked start new identity command (Ok reply) response settled is told none =
        let same : response_of setup reply ≡ response = cc told in
        subst (λ r. CalmAnswer start (Ok (identity, command)) r new) same
        (⊎_elim (λ (d : Decides setup (λ m. answer_of setup m identity command start.moment) start.ledger (Ok reply) is.moved new.ledger). replied start new identity command reply settled is d)
        (λ (fails : FailsToSettle start.ledger (Ok reply) is.moved new.ledger). let never : ⊥ = cc (fails.fault) in absurd never) is.call.comes)
    asked start new identity command (Err JournalFault) response settled is told none =
        let same : refusal_of Unavailable [] ≡ response = cc told in
        absurd (none (ap (λ (r : Response). r.0) (sym same)))
    asked start new identity command (Err DeskOutOfMemory) response settled is told none = let never : ⊥ = cc told in absurd never

    -- nothing was done
    refused : (start new : World) (fault : RequestFault) (response : Response) → IsSettled setup start → new ≡ start → RefusesAs fault (Some response) → CalmAnswer start (Err fault) response new
    refused start new (Refused code place) response settled same told = record {
      told = ap (λ (r : Response). Some r) (sym told);
      history = ap (λ (w : World). w.ledger.history) same ∙ sym (append-nil start.ledger.history);
      moment = ap (λ (w : World). w.moment) same;
      settled = subst (IsSettled setup) (sym same) settled;
    }
    refused start new OutOfMemory response settled same told = let never : ⊥ = cc told in absurd never

    served : (start new : World) (reading : Result (List ℕ × Command) RequestFault) (response : Response) → IsSettled setup start → ServesWorld setup reading start (Some response) new → (response.0 ≡ 503 → ⊥)
        → CalmAnswer start reading response new
    served start new (Ok request) response settled is none =
        ⊎_elim (λ (u : IsUntouched start (Some response) new). let never : ⊥ = cc (u.none) in absurd never)
        (λ (a : IsAnswered setup (λ answer. Asks setup request.0 request.1 start answer new) (Some response)). asked start new request.0 request.1 a.answer response settled a.call a.told none) is
    served start new (Err fault) response settled is none = refused start new fault response settled is.still is.told

    answered : (start : World) (token : Option (List ℕ)) (method target body : List ℕ) (taken : Taken) (answer : StepAnswer) → taken.answer ≡ answer → IsSome (response_in answer)
        → WorldStep setup honest start (Request (incoming_of token method target body)) answer taken.world → IsSettled setup start → NotRose start.faults taken.world.faults
        → CalmLine start (Send token method target body) (taken ∷ [])
    answered start token method target body taken (Replied response) told has is settled none =
        let calm = served start taken.world (reading_of setup (incoming_of token method target body)) response settled is.serves (λ failed. none (is.cause failed)) in
        record {
          text = append-nil (answer_text taken.answer) ∙ ap answer_text told ∙ ap (λ (o : Option Response). option_map_or response_text o []) (sym calm.told);
          history = calm.history;
          moment = calm.moment;
          settled = calm.settled;
        }
    answered start token method target body taken NoMemory told has is settled none = let never : ⊥ = cc has in absurd never
    answered start token method target body taken answer told has is settled none = absurd is

    reopened : (start : World) (taken : Taken) → IsSettled setup start → Reopens setup honest start taken.world → CalmLine start Restart (taken ∷ [])
    reopened start taken settled is =
        let h = start.ledger.history in
        let new = taken.world in
        let f = is.finds t in
        let kept : f.kept ≡ [] = subst (λ o. IsKept o f.kept) settled.clear f.settles in
        let found : is.found.history ≡ h = f.history ∙ ap (λ k. h ++ k) kept ∙ append-nil h in
        let state : is.found.machine ≡ state_of setup h = sym (state_is h is.found.machine (subst (λ e. run_of setup e ≡ Some is.found.machine) found is.opens.found_runs)) in
        let history : new.ledger.history ≡ h ++ opening_events (state_of setup h) = is.history ∙ ap (λ e. e ++ opening_events is.found.machine) found ∙ ap (λ m. h ++ opening_events m) state in
        record {
          text = ap (λ (e : List Event). restart_text (length e)) history;
          history = history;
          moment = ap (λ (w : World). w.moment) is.step.frame;
          settled = record {
            runs = subst (λ e. run_of setup e ≡ Some new.ledger.machine) (sym is.history)
                (go_on (empty_state setup.namespace) is.found.machine new.ledger.machine is.found.history (opening_events is.found.machine) is.opens.found_runs is.opens.moves);
            clear = is.opens.clear;
          };
        }

    another_moment : (start : World) (moment : ℕ) (taken : Taken) → IsSettled setup start → taken.world ≡ record start { moment = moment } → CalmLine start (Now moment) (taken ∷ [])
    another_moment start moment taken settled is = record {
      text = refl;
      history = ap (λ (w : World). w.ledger.history) is ∙ sym (append-nil start.ledger.history);
      moment = ap (λ (w : World). w.moment) is;
      settled = subst (IsSettled setup) (sym is) (record { runs = settled.runs; clear = settled.clear });
    }

    calm_line : (start : World) (line : Line) (steps : List Taken) → Makes line steps → WorldRun setup honest start steps → IsSettled setup start → NotRose start.faults (world_after start steps).faults
        → CalmLine start line steps
    calm_line start End [] makes run settled none = record {
      text = ap (λ m. table_text (length start.ledger.history) (task_lines m)) (sym (state_is start.ledger.history start.ledger.machine settled.runs));
      history = sym (append-nil start.ledger.history);
      moment = refl;
      settled = settled;
    }
    calm_line start End (taken ∷ rest) makes run settled none = let never : ⊥ = cc makes in absurd never
    calm_line start (Now moment) (taken ∷ []) makes run settled none =
        another_moment start moment taken settled
        (subst (λ a. WorldStep setup honest start (SetMoment moment) a taken.world) makes.1 (subst (λ s. WorldStep setup honest start s taken.answer taken.world) makes.0 run.0))
    calm_line start (Send token method target body) (taken ∷ []) makes run settled none =
        answered start token method target body taken taken.answer refl makes.1 (subst (λ s. WorldStep setup honest start s taken.answer taken.world) makes.0 run.0) settled none
    calm_line start Restart (taken ∷ []) makes run settled none =
        reopened start taken settled
        (subst (λ a. WorldStep setup honest start Reopen a taken.world) makes.1 (subst (λ s. WorldStep setup honest start s taken.answer taken.world) makes.0 run.0))
    calm_line start line steps makes run settled none = absurd makes

    lines_later : (start : World) (run : List Played) → ScriptRun setup honest start run → start.faults ≤ (world_at start run).faults
    lines_later start [] lines = le_refl start.faults
    lines_later start (played ∷ rest) lines = le_trans (run_later setup honest start played.steps lines.1) (lines_later (world_after start played.steps) rest lines.2)

    pub calm_run : (start : World) (run : List Played) → IsSettled setup start → ScriptRun setup honest start run → NotRose start.faults (world_at start run).faults → IsCalmRun setup start run
    calm_run start [] settled lines none = record { text = refl; history = sym (append-nil start.ledger.history); settled = settled }
    calm_run start (played ∷ rest) settled lines none =
        let h = start.ledger.history in
        let mid = world_after start played.steps in
        let last = world_at mid rest in
        let first = calm_line start played.line played.steps lines.0 lines.1 settled (λ rose. none (rose_within start.faults start.faults mid.faults last.faults (le_refl start.faults) (lines_later mid rest lines.2) rose)) in
        let behind = calm_run mid rest first.settled lines.2 (λ rose. none (rose_within start.faults mid.faults last.faults last.faults (run_later setup honest start played.steps lines.1) (le_refl last.faults) rose)) in
        let reads = reading_of setup in
        let events = events_of reads setup h start.moment played.line in
        let text = text_of reads setup h start.moment played.line in
        let moment = moment_behind start.moment played.line in
        let others = lines_of rest in
        let same : calm reads setup mid.ledger.history mid.moment others ≡ calm reads setup (h ++ events) moment others =
        ap (λ e. calm reads setup e mid.moment others) first.history ∙ ap (λ n. calm reads setup (h ++ events) n others) first.moment in
        record {
          text = ap (λ s. s ++ out_text mid rest) first.text ∙ ap (λ s. text ++ s) (behind.text ∙ ap (λ (it : List ℕ × List Event). it.0) same);
          history =
              behind.history ∙ ap (λ e. e ++ (calm reads setup mid.ledger.history mid.moment others).1) first.history
              ∙ ap (λ (it : List ℕ × List Event). (h ++ events) ++ it.1) same
              ∙ append_assoc h events (calm reads setup (h ++ events) moment others).1;
          settled = behind.settled;
        }
