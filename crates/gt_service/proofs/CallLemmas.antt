-- What a call of the desk makes, and the statuses of what is told of it.
use Rattle.std.proofs.Common.{◌≡◌, ℕ, List, [], ◌∷◌, ◌∙◌, ⊎_elim, Bool, true, false, Option, Some, None, Err, Ok, Result, refl, sym, ap, subst, rules}
use Rattle.std.specs.Option.{option_map}
use Rattle.std.specs.Result.{result_ok}
use Rattle.std.specs.Prelude.{IfOk, IfSome, ◌⊎◌}
use Rattle.gt_desk.specs.Desk.{Desk, IsCall}
use Rattle.gt_desk.specs.DeskCall.{Decides, FailsToSettle}
use Rattle.gt_desk.specs.declared.fault.DeskFault.TheVariants.{JournalFault as DiskFailed}
use Rattle.gt_disk.specs.Disk.{DiskWords}
use Rattle.gt_machine.specs.Answer.{answer_of}
use Rattle.gt_machine.specs.Decision.{said}
use Rattle.gt_machine.specs.MachineState.{MachineState}
use Rattle.gt_machine.specs.declared.decision.Decision.{Decision}
use Rattle.gt_replies.specs.ReplyText.{refusal_status, reply_status}
use Rattle.gt_requests.specs.Causes.{Asked, FirstCauseRefuses, causes, code_of, first_cause}
use Rattle.gt_requests.specs.declared.fault.RequestFault.{RequestFault}
use Rattle.gt_requests.specs.declared.fault.RequestFault.TheVariants.{OutOfMemory, Refused as RefusedReading}
use Rattle.gt_requests.specs.declared.incoming.Incoming.{Incoming}
use Rattle.gt_service.specs.Service.{RefusesAs, Response, is_answer_status, is_read_status, is_status, reading_of}
use Rattle.gt_service.proofs.Shapes.{shape}
use Rattle.gt_setup.specs.Setup.{Setup}
use Rattle.gt_types.specs.declared.command.Command.{Command}
use Rattle.gt_types.specs.declared.reply.Reply.{Reply}
use Rattle.gt_types.specs.declared.reply.ReplyCode.{ReplyCode}

-- each code of the list passes
abbrev pub AllCodes : (ReplyCode → Type 0) → List (ReplyCode × Bool) → Type 0
AllCodes P [] = Unit {0}
AllCodes P ((code, holds) ∷ rest) = P code × AllCodes P rest

first_among : (P : ReplyCode → Type 0) (rows : List (ReplyCode × Bool)) (code : ReplyCode) → AllCodes P rows → first_cause rows ≡ Some code → P code
first_among P [] code all is = absurd (cc)
first_among P ((other, true) ∷ rest) code all is = let same : other ≡ code = cc in subst P same all.0
first_among P ((other, false) ∷ rest) code all is = first_among P rest code all.1 is

-- a refusal without the desk has one of these statuses
pub read_status : FirstCauseRefuses → (setup : Setup) (incoming : Incoming) (code : ReplyCode) (place : List ℕ) → reading_of setup incoming ≡ Err (RefusedReading code place)
    → is_read_status (refusal_status code) ≡ true
read_status refuses setup incoming code place is =
    let asked : Asked = record { method = incoming.method; target = incoming.target; token = incoming.token; body = incoming.body } in
    first_among (λ c. is_read_status (refusal_status c) ≡ true) (causes setup asked) code
    (refl, (refl, (refl, (refl, (refl, (refl, (refl, (refl, tt)))))))) (sym (refuses setup asked) ∙ ap code_of is)

-- an answer of the desk is the machine's on some state
pub reply_of : {D : Type 0} (words : DiskWords D) (decide : MachineState → Decision Reply) (old : Desk D) (reply : Reply) (new : Desk D) → IsCall words decide old (Ok reply) new
    → (settled : MachineState) × (reply ≡ said (decide settled))
reply_of words decide old reply new call =
    ⊎_elim (λ (d : Decides old.setup decide old.ledger (Ok reply) call.moved new.ledger). (d.settled, d.records.0))
    (λ (f : FailsToSettle old.ledger (Ok reply) call.moved new.ledger). absurd (never f.fault)) call.call.comes
  where
    never : Ok reply ≡ Err DiskFailed → ⊥
    never is = cc

pub answer_status : {D : Type 0} (words : DiskWords D) (old new : Desk D) (identity : List ℕ) (command : Command) (now : ℕ) (reply : Reply)
    → IsCall words (λ m. answer_of old.setup m identity command now) old (Ok reply) new → is_answer_status (reply_status reply) ≡ true
answer_status words old new identity command now reply call =
    let at = reply_of words (λ m. answer_of old.setup m identity command now) old reply new call in
    subst (λ r. is_answer_status (reply_status r) ≡ true) (sym at.1) (shape old.setup at.0 identity command now).status

-- tests of statuses
pub from_read : (n : ℕ) → is_read_status n ≡ true → is_status n ≡ true
from_read n is = grind (rules, is)

pub from_answer : (n : ℕ) → is_answer_status n ≡ true → is_status n ≡ true
from_answer n is = grind (rules, is)

pub not_503 : (n : ℕ) → n ≡ 503 → is_read_status n ≡ true → ⊥
not_503 n same is = let no : is_read_status 503 ≡ true = subst (λ k. is_read_status k ≡ true) same is in absurd (cc)

pub never_503 : (n : ℕ) → n ≡ 503 → is_answer_status n ≡ true → ⊥
never_503 n same is = let no : is_answer_status 503 ≡ true = subst (λ k. is_answer_status k ≡ true) same is in absurd (cc)

-- what holds of a status holds of the one that was written
pub of_status : {V E : Type 0} (P : ℕ → Type 0) (status : ℕ) (Q : ℕ × V → Type 0) (r : Result (ℕ × V) E) → IfOk r (λ w. (w.0 ≡ status) × Q w) → P status → IfOk r (λ w. P w.0)
of_status P status Q (Ok w) is holds = subst P (sym is.0) holds
of_status P status Q (Err e) is holds = tt

-- the response to a request that isn't read has one of these statuses
pub refused_status : FirstCauseRefuses → (setup : Setup) (incoming : Incoming) (fault : RequestFault) (response : Option Response)
    → (fault ≡ OutOfMemory) ⊎ (reading_of setup incoming ≡ Err fault) → RefusesAs fault response → IfSome response (λ r. is_read_status r.0 ≡ true)
refused_status refuses setup incoming fault None is told = tt
refused_status refuses setup incoming OutOfMemory (Some r) is told = absurd (never told)
  where
    never : Some r ≡ None → ⊥
    never e = cc
refused_status refuses setup incoming (RefusedReading code place) (Some r) is told =
    let status : is_read_status (refusal_status code) ≡ true =
    ⊎_elim (λ (m : RefusedReading code place ≡ OutOfMemory). absurd (never m)) (λ read. read_status refuses setup incoming code place read) is in
    subst (λ (s : Response). is_read_status s.0 ≡ true) (sym told) status
  where
    never : RefusedReading code place ≡ OutOfMemory → ⊥
    never e = cc

-- what holds of the response holds of what was written
pub of_response : {V W E : Type 0} (f : V → W) (P : W → Type 0) (r : Result V E) → IfSome (option_map f (result_ok r)) P → IfOk r (λ w. P (f w))
of_response f P (Ok w) is = is
of_response f P (Err e) is = tt

pub weaker : {V E : Type 0} (P Q : V → Type 0) (r : Result V E) → ((w : V) → P w → Q w) → IfOk r P → IfOk r Q
weaker P Q (Ok w) so is = so w is
weaker P Q (Err e) so is = tt
