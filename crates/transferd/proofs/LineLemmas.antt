-- What the lines make and print.
use Rattle.gt_causes.specs.Causes.{Rose}
use Rattle.gt_causes.specs.Outcomes.{NoMore}
use Rattle.gt_desk.specs.Desk.{Desk, Stays, StaysDuring}
use Rattle.gt_desk.specs.DeskCall.{of_history}
use Rattle.gt_desk.specs.History.{Ledger, Stands, StandsDuring, StandsWith}
use Rattle.gt_desk.specs.Opening.{FailsToReopen, Finds, IsNotReopened, IsReopened, opening_events}
use Rattle.gt_desk.specs.declared.fault.OpenFault.{OpenFault}
use Rattle.gt_desk.specs.declared.fault.OpenFault.TheVariants.{Damaged as OpenDamaged, JournalFault as OpenJournalFault, OutOfMemory as OpenOutOfMemory}
use Rattle.gt_desk.specs.declared.fault.OpenRefused.{OpenRefused}
use Rattle.gt_disk.specs.Disk.{DiskLaws, DiskWords, IsSameDisk, LeavesOnly}
use Rattle.gt_disk.specs.Moments.{started}
use Rattle.gt_machine.specs.Answer.{answer_of}
use Rattle.gt_machine.specs.MachineState.{MachineState, empty_state}
use Rattle.gt_machine.specs.Run.{run_from, run_of}
use Rattle.gt_machine.specs.TaskLine.{task_lines}
use Rattle.gt_requests.specs.declared.fault.RequestFault.{RequestFault}
use Rattle.gt_requests.specs.declared.incoming.Incoming.{Incoming}
use Rattle.gt_script.specs.declared.line.Line.{Line}
use Rattle.gt_script.specs.declared.line.Line.TheVariants.{End, Now, Restart, Send}
use Rattle.gt_service.specs.Service.{AsksDesk, IsAsked, IsUntouched, Response, Serves, ServesAs, reading_of}
use Rattle.gt_setup.specs.Setup.{Setup}
use Rattle.gt_types.specs.declared.command.Command.{Command}
use Rattle.gt_types.specs.declared.event.Event.{Event}
use Rattle.std.proofs.Common.{Bool, Err, IsTrue, List, None, Ok, Option, Result, Some, [], ap, append-nil, inl, inr, length, refl, subst, sym, ⊎_elim, ◌⊎◌, ◌++◌, ◌∙◌, ◌∷◌, ◌≡◌, ℕ}
use Rattle.std.specs.Prelude.{IfSome}
use Rattle.gt_world.specs.CrashFacts.{crashes_step}
use Rattle.gt_world.specs.Crashes.{CrashesKeep}
use Rattle.transferd.specs.Endings.{Stream, StopsLine, WroteNothing}
use Rattle.transferd.specs.Exits.{exit_of_open}
use Rattle.transferd.specs.Output.{IsPart, line_output, response_text, restart_text, table_text}
use Rattle.transferd.specs.Progress.{IsPresent, MadeLine, StoppedLine, world_of}
use Rattle.transferd.specs.Run.{Makes, ReopenFails, incoming_of}
use Rattle.gt_world.specs.World.{IsDeskStep, IsServed, NoMemory, NotOpened, Quiet, Reopen, Reopened, Replied, Request, ServesWorld, SetMoment, Step, StepAnswer, Taken, World, WorldStep}
use Rattle.transferd.specs.declared.exit.Exit.{Exit}
use Rattle.transferd.specs.declared.exit.Exit.TheVariants.{OutOfMemory, SinkFault}
use Rattle.transferd.specs.declared.session.Session.{Session}

-- a restart's line stops in an opening that failed
stops_open : (fault : OpenFault) (start : World) (steps : List Taken) → ReopenFails fault steps → (out : Stream) → WroteNothing out → StopsLine (exit_of_open fault) start Restart steps out
stops_open OpenJournalFault start steps is out none = (refl, is, none)
stops_open (OpenDamaged number) start steps is out none = (refl, is, none)
stops_open OpenOutOfMemory start steps is out none = (inr (inr is), none)

-- a line whose text was not made, or not written
module _ {D : Type 0} (words : DiskWords D) (honest : Bool) (setup : Setup) (line : Line) (start : World) (old : D) (session : Session D) (text : List ℕ) (made : MadeLine words honest setup line start old session text) where
  stopped_as : (exit : Exit) (disk : D) → disk ≡ session.desk.disk → (out : Stream) → StopsLine exit start line made.steps out → StoppedLine words honest exit setup line start old disk out
  stopped_as exit disk same out stops =
      subst (λ (d : D). StoppedLine words honest exit setup line start old d out) (sym same) (record {
        steps = made.steps;
        run = made.run;
        crashes = made.crashes;
        kept = made.leads.images;
        count = ap (λ (w : World). w.faults) made.leads.is;
        stops = stops;
      })

  pub not_printed : (exit : Exit) → exit ≡ OutOfMemory → (disk : D) → disk ≡ session.desk.disk → (out : Stream) → out.after ≡ out.before → StoppedLine words honest exit setup line start old disk out
  not_printed exit is disk same out wrote =
      subst (λ (e : Exit). StoppedLine words honest e setup line start old disk out) (sym is) (stopped_as OutOfMemory disk same out (inr (inl made.makes), λ t. wrote))

  pub half_printed : (exit : Exit) → exit ≡ SinkFault → (disk : D) → disk ≡ session.desk.disk → (out : Stream) → (IsTrue out.told → IsPart text out.before out.after) → StoppedLine words honest exit setup line start old disk out
  half_printed exit is disk same out part =
      subst (λ (e : Exit). StoppedLine words honest e setup line start old disk out) (sym is)
      (stopped_as SinkFault disk same out (made.makes, λ t. subst (λ (s : List ℕ). IsPart s out.before out.after) (sym made.prints) (part t)))

-- a refused opening leaves the ledger, since no opening makes an event
left_same : (setup : Setup) (honest : Bool) (old : Ledger) (fault : OpenFault) (new : Ledger) → FailsToReopen setup honest old fault new → new ≡ old
left_same setup honest old OpenJournalFault new fails = ⊎_elim (λ same. same) (λ behind. let never : ⊥ = cc (behind.2.made) in absurd never) fails
left_same setup honest old (OpenDamaged number) new fails = fails.1
left_same setup honest old OpenOutOfMemory new fails = fails

same_fails : (setup : Setup) (honest : Bool) (old : Ledger) (fault : OpenFault) (new ledger : Ledger) → FailsToReopen setup honest old fault new → FailsToReopen setup honest ledger fault ledger
same_fails setup honest old OpenJournalFault new ledger fails = inl refl
same_fails setup honest old (OpenDamaged number) new ledger fails = (fails.0, refl)
same_fails setup honest old OpenOutOfMemory new ledger fails = refl

module _ {D : Type 0} (words : DiskWords D) (laws : DiskLaws words) where
  module _ (session : Session D) where
    abbrev honest : Bool
    honest = words.honest session.desk.disk

    abbrev setup : Setup
    setup = session.desk.setup

    -- since this moment a crash leaves what stands for the ledger
    idle_crashes : (start : World) → IsPresent words honest setup start session → IsTrue honest → (c : List ℕ) → words.left_since session.desk.disk (words.moment session.desk.disk) c → Stands setup start.ledger c
    idle_crashes start leads t c left = leads.images t c (laws.only_now session.desk.disk c t left)

    -- an end
    pub end_made : ((history : List Event) (m : MachineState) → run_of setup history ≡ Some m → m.events ≡ length history) → (start : World)
        → IsPresent words honest setup start session → MadeLine words honest setup End start session.desk.disk session (table_text session.desk.ledger.machine.events (task_lines session.desk.ledger.machine))
    end_made counted start leads = record {
      steps = [];
      makes = refl;
      run = tt;
      leads = leads;
      crashes = λ t. started words session.desk.disk (Stands setup start.ledger) (idle_crashes start leads t);
      prints =
          ap (λ (w : World). table_text (length start.ledger.history) (task_lines w.ledger.machine)) leads.is
          ∙ ap (λ (n : ℕ). table_text n (task_lines session.desk.ledger.machine)) (sym (counted start.ledger.history session.desk.ledger.machine leads.runs));
    }

    -- a line that makes no step, for which memory was wanted
    pub idle_stopped : (line : Line) (exit : Exit) → exit ≡ OutOfMemory → (disk : D) → disk ≡ session.desk.disk → (start : World) → IsPresent words honest setup start session → (out : Stream) → out.after ≡ out.before
        → StoppedLine words honest exit setup line start session.desk.disk disk out
    idle_stopped line exit is disk same start leads out wrote =
        subst (λ (e : Exit). StoppedLine words honest e setup line start session.desk.disk disk out) (sym is)
        (subst (λ (d : D). StoppedLine words honest OutOfMemory setup line start session.desk.disk d out) (sym same) (record {
          steps = [];
          run = tt;
          crashes = λ t. started words session.desk.disk (Stands setup start.ledger) (idle_crashes start leads t);
          kept = leads.images;
          count = ap (λ (w : World). w.faults) leads.is;
          stops = (inl refl, λ t. wrote);
        }))

    -- another moment
    pub now_made : (moment : ℕ) (start : World) → IsPresent words honest setup start session → MadeLine words honest setup (Now moment) start session.desk.disk (record session { now = moment }) []
    now_made moment start leads =
        let taken : Taken = record { step = SetMoment moment; answer = Quiet; world = record start { moment = moment } } in
        record {
          steps = taken ∷ [];
          makes = (refl, refl);
          run = (refl, tt);
          leads = record {
            same_setup = leads.same_setup;
            is = ap (λ (w : World). record w { moment = moment }) leads.is;
            runs = leads.runs;
            history = leads.history;
            images = leads.images;
          };
          crashes = λ t.
              crashes_step words setup session.desk.disk session.desk.disk start taken
              (started words session.desk.disk (StandsDuring setup start.ledger start.ledger) (λ c left. inl (idle_crashes start leads t c left))) (leads.images t)
              (λ c left. laws.only_now session.desk.disk c t left);
          prints = refl;
        }

  -- a step of the desk, from a session on a history to a session on a later one
  module _ (old new : Session D) (history later : List Event) (kept : IsSameDisk words old.desk.disk new.desk.disk) (new_setup : new.desk.setup ≡ old.desk.setup) (moment : new.now ≡ old.now)
      (is_old : IsTrue (words.honest old.desk.disk) → history ≡ old.desk.ledger.history) (is_new : IsTrue (words.honest old.desk.disk) → later ≡ new.desk.ledger.history)
      (during : StaysDuring words old.desk new.desk) (images : Stays words new.desk) (runs : run_of old.desk.setup later ≡ Some new.desk.ledger.machine) where
    abbrev truth : Bool
    truth = words.honest old.desk.disk

    abbrev under : Setup
    under = old.desk.setup

    abbrev before : World
    before = world_of words old history

    abbrev after : World
    after = world_of words new later

    abbrev taken : Step → StepAnswer → Taken
    taken step answer = record { step = step; answer = answer; world = after }

    is_step : IsDeskStep before after
    is_step = record {
      frame = ap (λ (m : ℕ). record { ledger = after.ledger; moment = m; faults = after.faults }) moment;
      later = kept.later;
    }

    new_images : IsTrue truth → NoMore (Stands under after.ledger) (words.may_leave new.desk.disk)
    new_images t =
        subst (λ (h : List Event). NoMore (StandsWith under h new.desk.ledger.doubt) (words.may_leave new.desk.disk)) (sym (is_new t))
        (subst (λ (s : Setup). NoMore (Stands s new.desk.ledger) (words.may_leave new.desk.disk)) new_setup (images (kept.honest ∙ t)))

    leads_on : IsPresent words truth under after new
    leads_on = record { same_setup = new_setup; is = refl; runs = runs; history = is_new; images = new_images }

    step_crashes : (step : Step) (answer : StepAnswer) → IsTrue truth → CrashesKeep words under old.desk.disk before (taken step answer ∷ []) new.desk.disk
    step_crashes step answer t =
        crashes_step words under old.desk.disk new.desk.disk before (taken step answer)
        (subst (λ (h : List Event). LeavesOnly words old.desk.disk new.desk.disk (λ c. StandsWith under h old.desk.ledger.doubt c ⊎ StandsWith under later new.desk.ledger.doubt c)) (sym (is_old t))
        (subst (λ (h : List Event). LeavesOnly words old.desk.disk new.desk.disk (λ c. StandsWith under old.desk.ledger.history old.desk.ledger.doubt c ⊎ StandsWith under h new.desk.ledger.doubt c)) (sym (is_new t))
        (during t)))
        (new_images t) (λ c left. laws.only_now new.desk.disk c (kept.honest ∙ t) left)

    -- the step, and how a line with it stands
    step_made : (step : Step) (answer : StepAnswer) (line : Line) (text : List ℕ) → Makes line (taken step answer ∷ []) → (IsDeskStep before after → WorldStep under truth before step answer after)
        → line_output before line (taken step answer ∷ []) ≡ text → MadeLine words truth under line before old.desk.disk new text
    step_made step answer line text makes is prints =
        record { steps = taken step answer ∷ []; makes = makes; run = (is is_step, tt); leads = leads_on; crashes = step_crashes step answer; prints = prints }

    -- the step, and the run stops
    step_stopped : (step : Step) (answer : StepAnswer) (line : Line) (out : Stream) → (IsDeskStep before after → WorldStep under truth before step answer after)
        → StopsLine OutOfMemory before line (taken step answer ∷ []) out → StoppedLine words truth OutOfMemory under line before old.desk.disk new.desk.disk out
    step_stopped step answer line out is stops =
        record { steps = taken step answer ∷ []; run = (is is_step, tt); crashes = step_crashes step answer; kept = new_images; count = refl; stops = stops }

  -- a request that was served
  module _ (old new : Session D) (incoming : Incoming) (response : Option Response) (served : Serves words incoming old.now old.desk response new.desk)
      (kept : IsSameDisk words old.desk.disk new.desk.disk) (new_setup : new.desk.setup ≡ old.desk.setup) (moment : new.now ≡ old.now) (during : StaysDuring words old.desk new.desk) (images : Stays words new.desk)
      (cause : IfSome response (λ r. r.0 ≡ 503 → Rose (words.faults old.desk.disk) (words.faults new.desk.disk)))
      (go_on : (setup : Setup) (m middle last : MachineState) (front back : List Event) → run_from setup m front ≡ Some middle → run_from setup middle back ≡ Some last → run_from setup m (front ++ back) ≡ Some last)
      (start : World) (leads : IsPresent words (words.honest old.desk.disk) old.desk.setup start old) where
    abbrev history : List Event
    history = start.ledger.history

    abbrev now_before : World
    now_before = world_of words old history

    -- the history behind the request, which was read so
    record Behind (reading : Result (List ℕ × Command) RequestFault) : Type 0 where
      later : List Event
      is_new : IsTrue (words.honest old.desk.disk) → later ≡ new.desk.ledger.history
      runs : run_of old.desk.setup later ≡ Some new.desk.ledger.machine
      serves : IsDeskStep now_before (world_of words new later) → ServesWorld old.desk.setup reading now_before response (world_of words new later)

    unchanged : new.desk ≡ old.desk → world_of words new history ≡ now_before
    unchanged same =
        ap (λ (m : ℕ). record { ledger = record new.desk.ledger { history = history }; moment = m; faults = words.faults new.desk.disk }) moment
        ∙ ap (λ (d : Desk D). record { ledger = record d.ledger { history = history }; moment = old.now; faults = words.faults d.disk }) same

    -- the desk wasn't asked
    as_before : (reading : Result (List ℕ × Command) RequestFault) → new.desk ≡ old.desk
        → (world_of words new history ≡ now_before → ServesWorld old.desk.setup reading now_before response (world_of words new history)) → Behind reading
    as_before reading same serves = record {
      later = history;
      is_new = λ t. leads.history t ∙ ap (λ (d : Desk D). d.ledger.history) (sym same);
      runs = leads.runs ∙ ap (λ (d : Desk D). Some d.ledger.machine) (sym same);
      serves = λ step. serves (unchanged same);
    }

    -- it was asked
    as_asked : (identity : List ℕ) (command : Command) → IsAsked words identity command old.now old.desk response new.desk → Behind (Ok (identity, command))
    as_asked identity command asked =
        let call = asked.call in
        record {
          later = history ++ call.moved;
          is_new = λ t. ap (λ (h : List Event). h ++ call.moved) (leads.history t) ∙ sym (call.history t);
          runs = go_on old.desk.setup (empty_state old.desk.setup.namespace) old.desk.ledger.machine new.desk.ledger.machine history call.moved leads.runs call.call.runs;
          serves = λ step.
              inr (record {
                answer = asked.answer;
                call = record {
                  moved = call.moved;
                  call = of_history old.desk.setup (λ m. answer_of old.desk.setup m identity command old.now) history old.desk.ledger asked.answer call.moved new.desk.ledger call.call;
                  history = refl;
                  step = step;
                };
                told = asked.told;
              });
        }

    by_reading : (reading : Result (List ℕ × Command) RequestFault) → ServesAs old.desk.setup (AsksDesk words old.now old.desk new.desk) reading old.desk response new.desk → Behind reading
    by_reading (Ok request) is =
        ⊎_elim (λ (u : IsUntouched old.desk response new.desk). as_before (Ok request) u.still (λ same. inl (record { still = same; none = u.none })))
        (λ (asked : IsAsked words request.0 request.1 old.now old.desk response new.desk). as_asked request.0 request.1 asked) is
    by_reading (Err fault) is = as_before (Err fault) is.still (λ same. record { still = same; told = is.told })

    behind : Behind (reading_of old.desk.setup incoming)
    behind = by_reading (reading_of old.desk.setup incoming) served

    is_served : (r : Option Response) → response ≡ r → IsDeskStep now_before (world_of words new behind.later) → IsServed old.desk.setup incoming now_before r (world_of words new behind.later)
    is_served r is step = subst (λ o. IsServed old.desk.setup incoming now_before o (world_of words new behind.later)) is (record { serves = behind.serves step; cause = cause })

    -- the line of a request that has a response
    pub request_made : (token : Option (List ℕ)) (method target body : List ℕ) → incoming ≡ incoming_of token method target body → (r : Response) → response ≡ Some r
        → MadeLine words (words.honest old.desk.disk) old.desk.setup (Send token method target body) start old.desk.disk new (response_text r)
    request_made token method target body same r is =
        let line = Send token method target body in
        subst (λ w. MadeLine words (words.honest old.desk.disk) old.desk.setup line w old.desk.disk new (response_text r)) (sym leads.is)
        (step_made old new history behind.later kept new_setup moment leads.history behind.is_new during images behind.runs (Request incoming) (Replied r) line (response_text r)
        (ap (λ (i : Incoming). Request i) same, refl) (is_served (Some r) is) (append-nil (response_text r)))

    -- the line of one for which memory was wanted
    pub request_stopped : (token : Option (List ℕ)) (method target body : List ℕ) → incoming ≡ incoming_of token method target body → response ≡ None → (exit : Exit) → exit ≡ OutOfMemory → (disk : D) → disk ≡ new.desk.disk
        → (out : Stream) → out.after ≡ out.before → StoppedLine words (words.honest old.desk.disk) exit old.desk.setup (Send token method target body) start old.desk.disk disk out
    request_stopped token method target body same is exit same_exit disk same_disk out wrote =
        let line = Send token method target body in
        subst (λ (e : Exit). StoppedLine words (words.honest old.desk.disk) e old.desk.setup line start old.desk.disk disk out) (sym same_exit)
        (subst (λ (d : D). StoppedLine words (words.honest old.desk.disk) OutOfMemory old.desk.setup line start old.desk.disk d out) (sym same_disk)
        (subst (λ w. StoppedLine words (words.honest old.desk.disk) OutOfMemory old.desk.setup line w old.desk.disk new.desk.disk out) (sym leads.is)
        (step_stopped old new history behind.later kept new_setup moment leads.history behind.is_new during images behind.runs (Request incoming) NoMemory line out
        (is_served None is) (inr (inr (ap (λ (i : Incoming). Request i) same, refl)), λ t. wrote))))

  -- a restart
  module _ (old new : Session D) (reopened : IsReopened words old.desk new.desk) (kept : IsSameDisk words old.desk.disk new.desk.disk) (new_setup : new.desk.setup ≡ old.desk.setup) (moment : new.now ≡ old.now)
      (during : StaysDuring words old.desk new.desk) (images : Stays words new.desk)
      (go_on : (setup : Setup) (m middle last : MachineState) (front back : List Event) → run_from setup m front ≡ Some middle → run_from setup middle back ≡ Some last → run_from setup m (front ++ back) ≡ Some last)
      (counted : (history : List Event) (m : MachineState) → run_of old.desk.setup history ≡ Some m → m.events ≡ length history)
      (start : World) (leads : IsPresent words (words.honest old.desk.disk) old.desk.setup start old) where
    abbrev first_history : List Event
    first_history = start.ledger.history

    abbrev found : Ledger
    found = reopened.found

    abbrev opened : List Event
    opened = found.history ++ opening_events found.machine

    opened_runs : run_of old.desk.setup opened ≡ Some new.desk.ledger.machine
    opened_runs = go_on old.desk.setup (empty_state old.desk.setup.namespace) found.machine new.desk.ledger.machine found.history (opening_events found.machine) reopened.opens.found_runs reopened.opens.moves

    finds : IsTrue (words.honest old.desk.disk) → Finds (world_of words old first_history).ledger found
    finds t =
        let f = reopened.finds t in
        record { kept = f.kept; settles = f.settles; history = f.history ∙ ap (λ (h : List Event). h ++ f.kept) (sym (leads.history t)) }

    restart_as : MadeLine words (words.honest old.desk.disk) old.desk.setup Restart (world_of words old first_history) old.desk.disk new (restart_text new.desk.ledger.machine.events)
    restart_as =
        step_made old new first_history opened kept new_setup moment leads.history (λ t. sym (reopened.history t)) during images opened_runs Reopen Reopened Restart (restart_text new.desk.ledger.machine.events) (refl, refl)
        (λ step. record {
          found = found;
          finds = finds;
          opens = record { found_runs = reopened.opens.found_runs; found_clear = reopened.opens.found_clear; moves = reopened.opens.moves; clear = reopened.opens.clear };
          history = refl;
          step = step;
        })
        (ap restart_text (sym (counted opened new.desk.ledger.machine opened_runs)))

    pub restart_made : MadeLine words (words.honest old.desk.disk) old.desk.setup Restart start old.desk.disk new (restart_text new.desk.ledger.machine.events)
    restart_made = subst (λ w. MadeLine words (words.honest old.desk.disk) old.desk.setup Restart w old.desk.disk new (restart_text new.desk.ledger.machine.events)) (sym leads.is) restart_as

  -- a restart that did not open the desk
  module _ (old : Session D) (refused : OpenRefused D) (closed : IsNotReopened words old.desk refused) (kept : IsSameDisk words old.desk.disk refused.disk)
      (cause : refused.fault ≡ OpenJournalFault → Rose (words.faults old.desk.disk) (words.faults refused.disk))
      (start : World) (leads : IsPresent words (words.honest old.desk.disk) old.desk.setup start old) where
    abbrev last_history : List Event
    last_history = start.ledger.history

    abbrev from : World
    from = world_of words old last_history

    abbrev same_world : World
    same_world = record from { faults = words.faults refused.disk }

    left_is : closed.left ≡ old.desk.ledger
    left_is = left_same old.desk.setup (words.honest old.desk.disk) old.desk.ledger refused.fault closed.left closed.fails

    still_images : IsTrue (words.honest old.desk.disk) → NoMore (Stands old.desk.setup from.ledger) (words.may_leave refused.disk)
    still_images t =
        subst (λ (h : List Event). NoMore (StandsWith old.desk.setup h old.desk.ledger.doubt) (words.may_leave refused.disk)) (sym (leads.history t))
        (subst (λ (l : Ledger). NoMore (Stands old.desk.setup l) (words.may_leave refused.disk)) left_is (closed.images t))

    during : IsTrue (words.honest old.desk.disk) → LeavesOnly words old.desk.disk refused.disk (StandsDuring old.desk.setup from.ledger from.ledger)
    during t =
        subst (λ (h : List Event). LeavesOnly words old.desk.disk refused.disk (λ c. StandsWith old.desk.setup h old.desk.ledger.doubt c ⊎ StandsWith old.desk.setup h old.desk.ledger.doubt c)) (sym (leads.history t))
        (subst (λ (l : Ledger). LeavesOnly words old.desk.disk refused.disk (StandsDuring old.desk.setup old.desk.ledger l)) left_is (closed.any_moment t))

    stopped_from : (out : Stream) → out.after ≡ out.before → StoppedLine words (words.honest old.desk.disk) (exit_of_open refused.fault) old.desk.setup Restart from old.desk.disk refused.disk out
    stopped_from out wrote =
        let taken : Taken = record { step = Reopen; answer = NotOpened refused.fault; world = same_world } in
        record {
          steps = taken ∷ [];
          run = (
            record {
              fails = same_fails old.desk.setup (words.honest old.desk.disk) old.desk.ledger refused.fault closed.left from.ledger closed.fails;
              step = record { frame = refl; later = kept.later };
              cause = cause;
            },
            tt,
          );
          crashes = λ t. crashes_step words old.desk.setup old.desk.disk refused.disk from taken (during t) (still_images t) (λ c left. laws.only_now refused.disk c (kept.honest ∙ t) left);
          kept = still_images;
          count = refl;
          stops = stops_open refused.fault from (taken ∷ []) (refl, refl) out (λ t. wrote);
        }

    pub restart_stopped : (exit : Exit) → exit ≡ exit_of_open refused.fault → (out : Stream) → out.after ≡ out.before
        → StoppedLine words (words.honest old.desk.disk) exit old.desk.setup Restart start old.desk.disk refused.disk out
    restart_stopped exit is out wrote =
        subst (λ (e : Exit). StoppedLine words (words.honest old.desk.disk) e old.desk.setup Restart start old.desk.disk refused.disk out) (sym is)
        (subst (λ w. StoppedLine words (words.honest old.desk.disk) (exit_of_open refused.fault) old.desk.setup Restart w old.desk.disk refused.disk out) (sym leads.is) (stopped_from out wrote))
