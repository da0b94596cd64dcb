-- The bytes of a reply (RFC 9112, section 4).
use Rattle.gt_http.specs.declared.fault.HttpWriteFault.{HttpWriteFault}
use Rattle.gt_http.specs.declared.fault.HttpWriteFault.TheVariants.{OutOfMemory, SinkFault}
use Rattle.http.specs.StatusCode.{reason_phrase}
use Rattle.std.specs.Prelude.{Bool, Err, IsTrue, List, Ok, Result, [], codes, decimal, is_some, length, nat_le, nat_lt, unwrap_or, ℕ, ◌&&◌, ◌++◌, ◌<◌, ◌∷◌, ◌≡◌}

-- the status is one that `http` has a reason for
unfoldable pub has_reason : ℕ → Bool
has_reason status = nat_le 100 status && (nat_lt status 1000 && is_some (reason_phrase status))

abbrev pub HasReason : ℕ → Type 0
HasReason status = IsTrue (has_reason status)

-- the reason that `http` gives the status
unfoldable pub reason_of : ℕ → List ℕ
reason_of status = unwrap_or (reason_phrase status) []

abbrev pub line_end : List ℕ
line_end = 13 ∷ 10 ∷ []

-- the status line, the two fields and the empty line
abbrev pub head_text : ℕ → ℕ → List ℕ
head_text status count =
    codes "HTTP/1.1 " ++ (decimal status ++ (codes " " ++ (reason_of status ++ (line_end
    ++ (codes "Content-Length: " ++ (decimal count ++ (line_end
    ++ (codes "Content-Type: application/json" ++ (line_end ++ line_end)))))))))

-- a reply: its head, and its body
abbrev pub http_text : ℕ → List ℕ → List ℕ
http_text status body = head_text status (length body) ++ body

-- what a sink took of a text: a front of it that isn't the whole
pub record TookFront (before text after : List ℕ) : Type 0 where
  pub front : List ℕ
  pub rest : List ℕ
  pub text_is : text ≡ front ++ rest
  pub cut : 0 < length rest
  pub taken : after ≡ before ++ front

-- What the answer says of the bytes that the sink took.
abbrev pub WritesReply : List ℕ → List ℕ → Result Unit HttpWriteFault → List ℕ → Type 0
WritesReply before text (Ok done) after = after ≡ before ++ text
WritesReply before text (Err SinkFault) after = TookFront before text after
WritesReply before text (Err OutOfMemory) after = after ≡ before
