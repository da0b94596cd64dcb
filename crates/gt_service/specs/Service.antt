-- What a request is answered, and what it makes of the desk.
use Rattle.std.specs.List.{list_any}
use Rattle.std.specs.Prelude.{Bool, Err, IfSome, List, None, Ok, Option, Result, Some, [], ℕ, ◌==◌, ◌∷◌, ◌≡◌, ◌⊎◌}
use Rattle.gt_desk.specs.Desk.{Desk, IsCall}
use Rattle.gt_desk.specs.declared.fault.DeskFault.{DeskFault}
use Rattle.gt_desk.specs.declared.fault.DeskFault.TheVariants.{JournalFault as DiskFailed, OutOfMemory as NoMemory}
use Rattle.gt_disk.specs.Disk.{DiskWords}
use Rattle.gt_machine.specs.Answer.{answer_of}
use Rattle.gt_replies.specs.ReplyText.{refusal_status, refusal_text, reply_status, reply_text}
use Rattle.gt_requests.specs.Request.{request_of}
use Rattle.gt_requests.specs.declared.fault.RequestFault.{RequestFault}
use Rattle.gt_requests.specs.declared.fault.RequestFault.TheVariants.{OutOfMemory, Refused}
use Rattle.gt_requests.specs.declared.incoming.Incoming.{Incoming}
use Rattle.gt_setup.specs.Setup.{Setup}
use Rattle.gt_types.specs.declared.command.Command.{Command}
use Rattle.gt_types.specs.declared.reply.Reply.{Reply}
use Rattle.gt_types.specs.declared.reply.ReplyCode.{ReplyCode}
use Rattle.gt_types.specs.declared.reply.ReplyCode.TheVariants.{JournalFault}

-- a status, and the bytes of a document
abbrev pub Response : Type 0
Response = ℕ × List ℕ

abbrev pub response_of : Setup → Reply → Response
response_of setup reply = (reply_status reply, reply_text setup reply)

abbrev pub refusal_of : ReplyCode → List ℕ → Response
refusal_of code place = (refusal_status code, refusal_text code place)

-- the response to a desk's answer; want of memory has none
abbrev pub response_to : Setup → Result Reply DeskFault → Option Response
response_to setup (Ok reply) = Some (response_of setup reply)
response_to setup (Err DiskFailed) = Some (refusal_of JournalFault [])
response_to setup (Err NoMemory) = None

-- what the request is read as under the setup
abbrev pub reading_of : Setup → Incoming → Result (List ℕ × Command) RequestFault
reading_of setup incoming = request_of setup incoming.method incoming.target incoming.token incoming.body

-- the response to a request that isn't read
abbrev pub RefusesAs : RequestFault → Option Response → Type 0
RefusesAs (Refused code place) response = IfSome response (λ r. r ≡ refusal_of code place)
RefusesAs OutOfMemory response = response ≡ None

-- Not read: all is as before, and the response, unless memory was wanted, is the refusal.
pub record IsRefused {S : Type 0} (fault : RequestFault) (old : S) (response : Option Response) (new : S) : Type 0 where
  pub still : new ≡ old
  pub told : RefusesAs fault response

-- Memory was wanted before the desk was asked.
pub record IsUntouched {S : Type 0} (old : S) (response : Option Response) (new : S) : Type 0 where
  pub still : new ≡ old
  pub none : response ≡ None

-- The desk was asked once, and the response, unless memory was wanted, is that to its answer.
pub record IsAnswered (setup : Setup) (asks : Result Reply DeskFault → Type 0) (response : Option Response) : Type 0 where
  pub answer : Result Reply DeskFault
  pub call : asks answer
  pub told : IfSome response (λ r. response_to setup answer ≡ Some r)

-- By what the request is read as, from one state of what is served to another: of a desk, or of the world that stands for it.
-- `asks` says what asking the desk makes of it.
abbrev pub ServesAs : {S : Type 0} → Setup → (asks : List ℕ → Command → Result Reply DeskFault → Type 0) → Result (List ℕ × Command) RequestFault → S → Option Response → S → Type 0
ServesAs setup asks (Ok request) old response new = IsUntouched old response new ⊎ IsAnswered setup (asks request.0 request.1) response
ServesAs setup asks (Err fault) old response new = IsRefused fault old response new

-- the desk was asked for a caller's command at this moment, and answered so
abbrev pub AsksDesk : {D : Type 0} → DiskWords D → ℕ → Desk D → Desk D → List ℕ → Command → Result Reply DeskFault → Type 0
AsksDesk words now old new identity command answer = IsCall words (λ m. answer_of old.setup m identity command now) old answer new

abbrev pub IsAsked : {D : Type 0} → DiskWords D → List ℕ → Command → ℕ → Desk D → Option Response → Desk D → Type 0
IsAsked words identity command now old response new = IsAnswered old.setup (AsksDesk words now old new identity command) response

-- the request is served at this moment; without a response memory was wanted
abbrev pub Serves : {D : Type 0} → DiskWords D → Incoming → ℕ → Desk D → Option Response → Desk D → Type 0
Serves words incoming now old response new =
    ServesAs old.setup (AsksDesk words now old new) (reading_of old.setup incoming) old response new

-- the statuses of refusals without the desk
abbrev pub is_read_status : ℕ → Bool
is_read_status n = list_any (λ status. status == n) (400 ∷ 401 ∷ 404 ∷ 405 ∷ 413 ∷ [])

-- the statuses of the machine's answers
abbrev pub is_answer_status : ℕ → Bool
is_answer_status n = list_any (λ status. status == n) (200 ∷ 201 ∷ 202 ∷ 403 ∷ 404 ∷ 409 ∷ [])

-- the statuses of all replies
abbrev pub is_status : ℕ → Bool
is_status n =
    list_any
    (λ status. status == n)
    (200 ∷ 201 ∷ 202 ∷ 400 ∷ 401 ∷ 403 ∷ 404 ∷ 405 ∷ 409 ∷ 413 ∷ 503 ∷ [])
