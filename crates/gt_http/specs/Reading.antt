-- What the parts of a read say: of a head, and of what follows it.
use Rattle.gt_http.specs.Message.{IsHead}
use Rattle.gt_http.specs.Refusal.{Means}
use Rattle.gt_http.specs.declared.fault.HttpFault.{HttpFault}
use Rattle.gt_http.specs.declared.head.Head.{Head}
use Rattle.gt_http.specs.declared.head.Next.{Next}
use Rattle.gt_http.specs.declared.head.Next.TheVariants.{Byte, End, Fault}
use Rattle.gt_requests.specs.declared.incoming.Incoming.{Incoming}
use Rattle.httparse.specs.Grammar.{RequestHead}
use Rattle.httparse.specs.Spans.{IsRequestAt, IsRequestWithin}
use Rattle.httparse.specs.declared.spans.HeaderSpan.{HeaderSpan}
use Rattle.httparse.specs.declared.spans.RequestSpans.{RequestSpans}
use Rattle.std.specs.Prelude.{Err, List, None, Ok, Option, Result, Some, [], ℕ, ◌++◌, ◌∷◌, ◌≡◌}

-- the first of the bytes that were left, or none
abbrev pub IsNext : List ℕ → Next → List ℕ → Type 0
IsNext before (Byte b) after = before ≡ b ∷ after
IsNext before End after = (before ≡ []) × (after ≡ [])
IsNext before Fault after = after ≡ before

-- the bytes are a head, and the spans cover its parts
pub record IsHeadAt (bytes : List ℕ) (headers : List HeaderSpan) (spans : RequestSpans) : Type 0 where
  pub head : RequestHead
  pub at : IsRequestAt bytes headers spans head
  pub within : IsRequestWithin bytes headers spans
  pub is_head : IsHead bytes head

-- what the answer of a read of a head says of the bytes taken and of those left
abbrev pub HeadMeans : Result (Option Head) HttpFault → List ℕ → List ℕ → Type 0
HeadMeans (Ok (Some head)) taken left = taken ≡ head.bytes.items
HeadMeans (Ok None) taken left = (taken ≡ []) × (left ≡ [])
HeadMeans (Err fault) taken left = Means (Err fault) taken left

pub record ReadsHead (before : List ℕ) (result : Result (Option Head) HttpFault) (after : List ℕ) : Type 0 where
  pub taken : List ℕ
  pub left : before ≡ taken ++ after
  pub means : HeadMeans result taken after

-- what the answer of a read of a body says, behind a head
abbrev pub BodyMeans : Result Incoming HttpFault → List ℕ → List ℕ → Type 0
BodyMeans (Ok incoming) taken left = Means (Ok (Some incoming)) taken left
BodyMeans (Err fault) taken left = Means (Err fault) taken left

pub record ReadsBody (front before : List ℕ) (result : Result Incoming HttpFault) (after : List ℕ) : Type 0 where
  pub part : List ℕ
  pub left : before ≡ part ++ after
  pub means : BodyMeans result (front ++ part) after
