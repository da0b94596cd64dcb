-- What each answer of a read says of the bytes taken and of those left.
use Rattle.gt_http.specs.Head.{fields_of, framing_of, most_body_bytes, most_fields, most_head_bytes}
use Rattle.gt_http.specs.Message.{IsHead, IsMessage}
use Rattle.gt_http.specs.declared.fault.HttpFault.{HttpFault}
use Rattle.gt_http.specs.declared.fault.HttpFault.TheVariants.{BadHead, Cut, OutOfMemory, ReadFault, TooLarge}
use Rattle.gt_requests.specs.declared.incoming.Incoming.{Incoming}
use Rattle.httparse.specs.Grammar.{HasNoRequest, MayBecomeRequest, RequestHead}
use Rattle.httparse.specs.Spans.{RequestExceeds, RequestOverflows}
use Rattle.std.specs.Prelude.{Err, List, None, Ok, Option, Result, Some, [], length, ℕ, ◌++◌, ◌<◌, ◌≡◌, ◌≤◌, ◌⊎◌}

-- a head whose body has no end that it may name
pub record IsBadlyFramed (taken : List ℕ) : Type 0 where
  pub head : RequestHead
  pub is_head : IsHead taken head
  pub framing : framing_of (fields_of head) ≡ None

-- as many bytes as a head may have, and no head at their front
pub record IsTooLongHead (taken : List ℕ) : Type 0 where
  pub full : length taken ≡ most_head_bytes
  pub none : HasNoRequest taken

-- no bytes can follow that make a head of at most 64 fields, or the head is too long, or badly framed
abbrev pub IsBadHead : List ℕ → Type 0
IsBadHead taken = RequestOverflows most_fields taken ⊎ (IsTooLongHead taken ⊎ IsBadlyFramed taken)

-- a head alone, of a body that is longer than it may be
pub record IsTooLarge (taken : List ℕ) (named : ℕ) : Type 0 where
  pub head : RequestHead
  pub is_head : IsHead taken head
  pub framing : framing_of (fields_of head) ≡ Some named
  pub large : most_body_bytes < named

-- the front of a head that bytes could still follow
pub record IsCutHead (taken : List ℕ) (have want : ℕ) : Type 0 where
  pub have_is : have ≡ length taken
  pub want_is : want ≡ 0
  pub some : 0 < have
  pub short : have < most_head_bytes
  pub none : HasNoRequest taken
  pub open_end : MayBecomeRequest taken
  -- no more lines of fields are whole than a head may have
  pub few : ¬ (RequestExceeds most_fields taken)

-- a head, and `have` of the `want` bytes of its body
pub record IsCutBody (taken : List ℕ) (have want : ℕ) : Type 0 where
  pub front : List ℕ
  pub head : RequestHead
  pub is_head : IsHead front head
  pub part : List ℕ
  pub bytes_are : taken ≡ front ++ part
  pub framing : framing_of (fields_of head) ≡ Some want
  pub fits : want ≤ most_body_bytes
  pub have_is : have ≡ length part
  pub fewer : have < want

-- What an answer says of the bytes taken and of those left.
abbrev pub Means : Result (Option Incoming) HttpFault → List ℕ → List ℕ → Type 0
Means (Ok (Some incoming)) taken left = IsMessage taken incoming
Means (Ok None) taken left = (taken ≡ []) × (left ≡ [])
Means (Err BadHead) taken left = IsBadHead taken
Means (Err (TooLarge named)) taken left = IsTooLarge taken named
Means (Err (Cut have want)) taken left = (left ≡ []) × (IsCutHead taken have want ⊎ IsCutBody taken have want)
-- no whole message was taken
Means (Err ReadFault) taken left = HasNoRequest taken ⊎ ((have want : ℕ) × IsCutBody taken have want)
Means (Err OutOfMemory) taken left = Unit {0}

-- What a read of a message took of the bytes before, and what its answer says of them. Nothing behind them is taken.
pub record ReadsMessage (before : List ℕ) (result : Result (Option Incoming) HttpFault) (after : List ℕ) : Type 0 where
  pub taken : List ℕ
  pub left : before ≡ taken ++ after
  pub means : Means result taken after

-- a stream that has a message has no bad head, and no body that is too large
abbrev pub NotRefused : Type 0
NotRefused = (message more taken left : List ℕ) (incoming : Incoming) → IsMessage message incoming
    → message ++ more ≡ taken ++ left → ¬ (IsBadHead taken) × ((named : ℕ) → ¬ (IsTooLarge taken named))
