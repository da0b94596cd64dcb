-- What a request makes: at most one event, and none where it reads or is refused.
use Rattle.std.proofs.Common.{◌≡◌, ◌≤◌, ℕ, List, [], ◌++◌, ◌∙◌, ⊎_elim, length, Bool, true, false, Option, Some, None, Err, Ok, Result, refl, sym, ap, subst, arith, inl, inr}
use Rattle.std.proofs.lemmas.List.{append-nil}
use Rattle.std.specs.Prelude.{nat_le, ◌&&◌, ◌⊎◌}
use Rattle.gt_desk.specs.Desk.{Desk, IsCall}
use Rattle.gt_desk.specs.DeskCall.{Decides, FailsToSettle, IsKept, Records}
use Rattle.gt_desk.specs.declared.fault.DeskFault.{DeskFault}
use Rattle.gt_desk.specs.declared.fault.DeskFault.TheVariants.{JournalFault as DiskFailed, OutOfMemory as NoMemory}
use Rattle.gt_disk.specs.Disk.{DiskWords}
use Rattle.gt_machine.specs.Answer.{answer_of}
use Rattle.gt_machine.specs.Decision.{events_in}
use Rattle.gt_machine.specs.MachineState.{MachineState}
use Rattle.gt_machine.specs.declared.decision.Decision.{Decision}
use Rattle.gt_replies.specs.ReplyText.{reply_status}
use Rattle.gt_requests.specs.declared.fault.RequestFault.{RequestFault}
use Rattle.gt_service.specs.Laws.{Makes, MakesOne, ReadsMakeNone, RefusalsMakeNone}
use Rattle.gt_service.specs.Service.{AsksDesk, IsAsked, IsUntouched, Response, ServesAs, reading_of, response_of, response_to}
use Rattle.gt_service.proofs.Shapes.{read_makes_none, shape}
use Rattle.gt_types.specs.declared.command.Command.{Command}
use Rattle.gt_types.specs.declared.event.Event.{Event}
use Rattle.gt_types.specs.declared.reply.Reply.{Reply}
use Rattle.gt_types.specs.declared.reply.Reply.TheVariants.{Access, AccessCreated, AccessList, Done, Endpoint, Identifier, Pause, PauseCreated, PauseList, Refused, Skipped, Submitted, Successes, Task, Tasks}
use Rattle.gt_types.specs.declared.reply.ReplyCode.{ReplyCode}

nothing_kept : (doubt : Option Event) → IsKept doubt []
nothing_kept None = refl
nothing_kept (Some event) = inl refl

-- a desk that is as before
pub makes_nothing : {D : Type 0} (words : DiskWords D) (P : List Event → Type 0) (old new : Desk D) → P [] → new ≡ old → Makes words P old new
makes_nothing words P old new holds same = record {
  kept = [];
  settles = nothing_kept old.ledger.doubt;
  made = [];
  is = holds;
  history = λ honest. ap (λ (d : Desk _). d.ledger.history) same ∙ sym (append-nil old.ledger.history);
}

-- what a call of the desk makes: nothing, or the event of the decision
pub makes_decided : {D : Type 0} (words : DiskWords D) (P : List Event → Type 0) (decide : MachineState → Decision Reply) (old new : Desk D) (answer : Result Reply DeskFault)
    → P [] → ((m : MachineState) → P (events_in (decide m))) → IsCall words decide old answer new → Makes words P old new
makes_decided words P decide old new answer none some call = ⊎_elim decided failed call.call.comes
  where
    by_answer : (result : Result Reply DeskFault) (m : MachineState) (made : List Event) → Records (decide m) result made new.ledger.doubt → P made
    by_answer (Ok reply) m made records = subst P (sym records.1) (some m)
    by_answer (Err DiskFailed) m made records = subst P (sym records.0) none
    by_answer (Err NoMemory) m made records = subst P (sym records.0) none

    decided : Decides old.setup decide old.ledger answer call.moved new.ledger → Makes words P old new
    decided d = record {
      kept = d.kept;
      settles = d.settles;
      made = d.made;
      is = by_answer answer d.settled d.made d.records;
      history = λ honest. call.history honest ∙ ap (λ (es : List Event). old.ledger.history ++ es) d.moves;
    }

    failed : FailsToSettle old.ledger answer call.moved new.ledger → Makes words P old new
    failed f = record {
      kept = [];
      settles = nothing_kept old.ledger.doubt;
      made = [];
      is = none;
      history = λ honest. call.history honest ∙ ap (λ (es : List Event). old.ledger.history ++ es) f.still;
    }

pub makes_one : {D : Type 0} (words : DiskWords D) → MakesOne words
makes_one words incoming now old new response serves = by_reading (reading_of old.setup incoming) serves
  where
    Few : List Event → Type 0
    Few made = length made ≤ 1

    by_reading : (reading : Result (List ℕ × Command) RequestFault) → ServesAs old.setup (AsksDesk words now old new) reading old response new → Makes words Few old new
    by_reading (Ok request) served =
        ⊎_elim (λ (u : IsUntouched old response new). makes_nothing words Few old new (omega arith) u.still)
        (λ (a : IsAsked words request.0 request.1 now old response new).
        makes_decided words Few (λ m. answer_of old.setup m request.0 request.1 now) old new a.answer (omega arith)
        (λ m. (shape old.setup m request.0 request.1 now).few) a.call) served
    by_reading (Err fault) served = makes_nothing words Few old new (omega arith) served.still

pub reads_make_none : {D : Type 0} (words : DiskWords D) → ReadsMakeNone words
reads_make_none words incoming now old new response identity command reading is serves =
    let served : ServesAs old.setup (AsksDesk words now old new) (Ok (identity, command)) old response new =
    subst (λ r. ServesAs old.setup (AsksDesk words now old new) r old response new) reading serves in
    ⊎_elim (λ (u : IsUntouched old response new). makes_nothing words None_made old new refl u.still)
    (λ (a : IsAsked words identity command now old response new).
    makes_decided words None_made (λ m. answer_of old.setup m identity command now) old new a.answer refl
    (λ m. read_makes_none old.setup m identity command now is) a.call) served
  where
    None_made : List Event → Type 0
    None_made made = made ≡ []

-- a reply with a status of 400 or more is a refusal
refusal_reply : (reply : Reply) → nat_le 400 (reply_status reply) ≡ true → (code : ReplyCode) × (reply ≡ Refused code)
refusal_reply (Refused code) is = (code, refl)
refusal_reply (Submitted is_delete true submission task) is = absurd (cc)
refusal_reply (Submitted is_delete false submission task) is = absurd (cc)
refusal_reply (Identifier number) is = absurd (cc)
refusal_reply (Done code) is = absurd (cc)
refusal_reply (AccessCreated rule) is = absurd (cc)
refusal_reply (PauseCreated rule) is = absurd (cc)
refusal_reply (Task task) is = absurd (cc)
refusal_reply (Tasks rows page) is = absurd (cc)
refusal_reply (Successes rows page) is = absurd (cc)
refusal_reply (Skipped rows page) is = absurd (cc)
refusal_reply (Access rule) is = absurd (cc)
refusal_reply (AccessList rows collection) is = absurd (cc)
refusal_reply (Pause rule) is = absurd (cc)
refusal_reply (PauseList rows) is = absurd (cc)
refusal_reply (Endpoint collection) is = absurd (cc)

both : (a b : Bool) → (a && b) ≡ true → (a ≡ true) × (b ≡ true)
both true b is = (refl, is)
both false b is = absurd (cc)

-- a call that answers a refusal made nothing, and nothing is in doubt
refused_makes_none : {D : Type 0} (words : DiskWords D) (identity : List ℕ) (command : Command) (now : ℕ) (old new : Desk D) (reply : Reply)
    → IsCall words (λ m. answer_of old.setup m identity command now) old (Ok reply) new → nat_le 400 (reply_status reply) ≡ true
    → Makes words (λ made. made ≡ []) old new × (new.ledger.doubt ≡ None)
refused_makes_none words identity command now old new reply call status = ⊎_elim decided failed call.call.comes
  where
    decide : MachineState → Decision Reply
    decide m = answer_of old.setup m identity command now

    decided : Decides old.setup decide old.ledger (Ok reply) call.moved new.ledger → Makes words (λ made. made ≡ []) old new × (new.ledger.doubt ≡ None)
    decided d =
        let refusal = refusal_reply reply status in
        let none : events_in (decide d.settled) ≡ [] = (shape old.setup d.settled identity command now).quiet refusal.0 (sym d.records.0 ∙ refusal.1) in (
          record {
            kept = d.kept;
            settles = d.settles;
            made = d.made;
            is = d.records.1 ∙ none;
            history = λ honest. call.history honest ∙ ap (λ (es : List Event). old.ledger.history ++ es) d.moves;
          },
          d.records.2,
        )

    failed : FailsToSettle old.ledger (Ok reply) call.moved new.ledger → Makes words (λ made. made ≡ []) old new × (new.ledger.doubt ≡ None)
    failed f = absurd (never f.fault)
      where
        never : {X : Type 0} {x : X} → Ok x ≡ Err DiskFailed → ⊥
        never is = cc

pub refusals_make_none : {D : Type 0} (words : DiskWords D) → RefusalsMakeNone words
refusals_make_none words incoming now old new response serves refused = by_reading (reading_of old.setup incoming) serves
  where
    Goal : Type 0
    Goal = (new ≡ old) ⊎ (Makes words (λ made. made ≡ []) old new × (new.ledger.doubt ≡ None))

    not_none : Some response ≡ None → ⊥
    not_none is = cc

    by_answer : (request : List ℕ × Command) (answer : Result Reply DeskFault) → IsCall words (λ m. answer_of old.setup m request.0 request.1 now) old answer new
        → response_to old.setup answer ≡ Some response → Goal
    by_answer request (Ok reply) call is =
        let same : response_of old.setup reply ≡ response = cc in
        let status : nat_le 400 (reply_status reply) ≡ true = ap (λ (r : Response). nat_le 400 r.0) same ∙ (both (nat_le 400 response.0) (nat_le response.0 413) refused).0 in
        inr (refused_makes_none words request.0 request.1 now old new reply call status)
    by_answer request (Err DiskFailed) call is = absurd (at_503 (response_of_fault is))
      where
        response_of_fault : response_to old.setup (Err DiskFailed) ≡ Some response → response.0 ≡ 503
        response_of_fault e = ap status_in (sym e)
          where
            status_in : Option Response → ℕ
            status_in None = 503
            status_in (Some r) = r.0

        at_503 : response.0 ≡ 503 → ⊥
        at_503 e = let low : nat_le response.0 413 ≡ true = (both (nat_le 400 response.0) (nat_le response.0 413) refused).1 in let no : nat_le 503 413 ≡ true = subst (λ n. nat_le n 413 ≡ true) e low in absurd (cc)
    by_answer request (Err NoMemory) call is = absurd (not_none (sym is))

    by_reading : (reading : Result (List ℕ × Command) RequestFault) → ServesAs old.setup (AsksDesk words now old new) reading old (Some response) new → Goal
    by_reading (Ok request) served =
        ⊎_elim (λ (u : IsUntouched old (Some response) new). absurd (not_none u.none))
        (λ (a : IsAsked words request.0 request.1 now old (Some response) new). by_answer request a.answer a.call a.told) served
    by_reading (Err fault) served = inl served.still
