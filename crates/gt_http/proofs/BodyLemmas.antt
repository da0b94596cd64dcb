-- What stands behind a head.
use Rattle.gt_http.specs.Head.{fields_of, framing_of, most_body_bytes, most_fields, most_head_bytes}
use Rattle.gt_http.specs.Message.{IsHead, IsMessage}
use Rattle.gt_http.specs.Reading.{IsHeadAt, ReadsBody, ReadsHead}
use Rattle.gt_http.specs.Refusal.{IsCutBody, ReadsMessage}
use Rattle.gt_http.specs.declared.head.Head.{Head}
use Rattle.gt_requests.specs.declared.incoming.Incoming.{Incoming}
use Rattle.gt_http.proofs.HeadLemmas.{whole_head}
use Rattle.httparse.specs.Grammar.{HasNoRequest, ReadsRequest, RequestHead, is_token_byte}
use Rattle.httparse.specs.Spans.{IsRequestOf, IsRequestWithin, header_bytes, name_and_value, span_bytes}
use Rattle.httparse.specs.declared.spans.HeaderSpan.{HeaderSpan}
use Rattle.httparse.specs.declared.spans.RequestSpans.{RequestSpans}
use Rattle.std.proofs.Common.{IsUtf8, List, Ok, Some, [], ap, append_assoc, arith, drop, length, length-take, refl, subst, sym, take, true, ℕ, ◌++◌, ◌<◌, ◌∙◌, ◌∷◌, ◌≡◌, ◌≤◌}
use Rattle.std.proofs.lemmas.Bool.Decides.{nat_tests}
use Rattle.std.proofs.lemmas.List.{length-map}
use Rattle.std.proofs.lemmas.List.Elements.{All-weaker}
use Rattle.std.proofs.lemmas.Str.{IsUtf8-from_ascii}
use Rattle.std.proofs.lemmas.Str.Ascii.{IsAscii-from_all}

-- the bytes that one more byte makes a head, with the spans of a parse
pub head_at : (buf bytes : List ℕ) (b : ℕ) (headers : List HeaderSpan) (spans : RequestSpans) → HasNoRequest buf
    → bytes ≡ buf ++ b ∷ [] → length bytes ≤ most_head_bytes → length headers ≡ most_fields
    → IsRequestOf bytes headers spans → IsRequestWithin bytes headers spans → IsHeadAt bytes headers spans
head_at buf bytes b headers spans none is short room found within =
    let h = found.0 in
    let at = found.1 in
    let reads = subst (λ (s : List ℕ). ReadsRequest s h (drop spans.len bytes)) is at.reads in
    record {
      head = h;
      at = at;
      within = within;
      is_head = record {
        text = is ∙ whole_head buf b h (drop spans.len bytes) none reads;
        valid = at.reads.0;
        short = short;
        few = omega (arith, ap (length {A = List ℕ × List ℕ}) at.fields, length-map (take spans.headers headers) (header_bytes bytes), length-map h.fields name_and_value, length-take spans.headers headers, room);
      };
    }

token_is_ascii : (b : ℕ) → is_token_byte b ≡ true → b < 128
unfolding is_token_byte
token_is_ascii b token = grind (arith, nat_tests)

-- a method is a text
pub method_text : (bytes : List ℕ) (headers : List HeaderSpan) (spans : RequestSpans) → IsHeadAt bytes headers spans
    → IsUtf8 (span_bytes bytes spans.method)
method_text bytes headers spans is =
    subst IsUtf8 (sym is.at.method) (IsUtf8-from_ascii _ (IsAscii-from_all _
    (All-weaker (λ b. is_token_byte b ≡ true) (λ b. b < 128) token_is_ascii _ is.is_head.valid.method.1)))

pub cut_body : (front part : List ℕ) (h : RequestHead) (want have : ℕ) → IsHead front h → framing_of (fields_of h) ≡ Some want
    → want ≤ most_body_bytes → have ≡ length part → have < want → IsCutBody (front ++ part) have want
cut_body front part h want have is framing fits is_have fewer = record {
  front = front;
  head = h;
  is_head = is;
  part = part;
  bytes_are = refl;
  framing = framing;
  fits = fits;
  have_is = is_have;
  fewer = fewer;
}

-- a head, and the message or the fault behind it
pub joined_ok : (before mid after : List ℕ) (head : Head) (incoming : Incoming) → ReadsHead before (Ok (Some head)) mid
    → ReadsBody head.bytes.items mid (Ok incoming) after → ReadsMessage before (Ok (Some incoming)) after
joined_ok before mid after head incoming h b = record {
  taken = h.taken ++ b.part;
  left = h.left ∙ ap (λ t. h.taken ++ t) b.left ∙ sym (append_assoc h.taken b.part after);
  means = subst (λ s. IsMessage (s ++ b.part) incoming) (sym h.means) b.means;
}

-- one more byte goes from what is left to what is taken
pub one_taken : (before taken left : List ℕ) (b : ℕ) (rest : List ℕ) → before ≡ taken ++ left → left ≡ b ∷ rest
    → before ≡ (taken ++ b ∷ []) ++ rest
one_taken before taken left b rest told is = told ∙ ap (λ t. taken ++ t) is ∙ sym (append_assoc taken (b ∷ []) rest)
