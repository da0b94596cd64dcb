-- One message: a head within the limits, and as many bytes of body as it names.
use Rattle.gt_http.specs.Head.{close_of, fields_of, framing_of, most_body_bytes, most_fields, most_head_bytes, token_of}
use Rattle.gt_requests.specs.declared.incoming.Incoming.{Incoming}
use Rattle.httparse.specs.Grammar.{IsRequestHead, RequestHead, print_request}
use Rattle.std.specs.Prelude.{List, Some, length, ℕ, ◌++◌, ◌≡◌, ◌≤◌}

-- the bytes are those of a head of the grammar within the limits
pub record IsHead (bytes : List ℕ) (h : RequestHead) : Type 0 where
  pub text : bytes ≡ print_request h
  pub valid : IsRequestHead h
  pub short : length bytes ≤ most_head_bytes
  pub few : length h.fields ≤ most_fields

-- what a head and a body say
abbrev pub incoming_of : RequestHead → List ℕ → Incoming
incoming_of h body = record {
  method = h.method;
  target = h.target;
  token = token_of (fields_of h);
  body = body;
  close = close_of h.minor (fields_of h);
}

-- The bytes are a message, and `incoming` is what they say. A head has many texts, and a text one head.
pub record IsMessage (bytes : List ℕ) (incoming : Incoming) : Type 0 where
  pub front : List ℕ
  pub head : RequestHead
  pub is_head : IsHead front head
  -- the body: as many bytes as the head names
  pub body : List ℕ
  pub bytes_are : bytes ≡ front ++ body
  pub length_is : framing_of (fields_of head) ≡ Some (length body)
  pub fits : length body ≤ most_body_bytes
  pub says : incoming ≡ incoming_of head body

-- whatever follows, a stream has at most one first message
abbrev pub OneFirstMessage : Type 0
OneFirstMessage = (a b more rest : List ℕ) (x y : Incoming) → IsMessage a x → IsMessage b y
    → a ++ more ≡ b ++ rest → (a ≡ b) × (x ≡ y)
