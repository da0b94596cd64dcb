-- One message at the front of a stream, and no refusal of it: a text has one head, whatever follows.
use Rattle.gt_http.proofs.HeadLemmas.{longer}
use Rattle.gt_http.specs.Head.{fields_of, framing_of}
use Rattle.gt_http.specs.Message.{IsHead, IsMessage, OneFirstMessage, incoming_of}
use Rattle.gt_http.specs.Refusal.{IsBadHead, IsTooLarge, NotRefused}
use Rattle.gt_requests.specs.declared.incoming.Incoming.{Incoming}
use Rattle.httparse.proofs.GrammarLemmas.{request_unique}
use Rattle.httparse.specs.Grammar.{ReadsRequest, RequestHead, print_request}
use Rattle.std.proofs.Common.{List, None, Option, Some, ap, append_assoc, arith, inl, inr, is_some, length, refl, sym, take, ℕ, ◌++◌, ◌∙◌, ◌≡◌}
use Rattle.std.proofs.lemmas.Bool.{true≢false}
use Rattle.std.proofs.lemmas.List.{take_at}
use Rattle.std.specs.Prelude.{unwrap_or}

reads_head : (bytes front body more : List ℕ) (h : RequestHead) → IsHead front h → bytes ≡ front ++ body
    → ReadsRequest (bytes ++ more) h (body ++ more)
reads_head bytes front body more h is e =
    (is.valid, ap (λ t. t ++ more) e ∙ append_assoc front body more ∙ ap (λ t. t ++ (body ++ more)) is.text)

reads_alone : (taken left : List ℕ) (h : RequestHead) → IsHead taken h → ReadsRequest (taken ++ left) h left
reads_alone taken left h is = (is.valid, ap (λ t. t ++ left) is.text)

same_value : (m n : ℕ) → Some m ≡ Some n → m ≡ n
same_value m n e = ap (λ o. unwrap_or o 0) e

some_or_none : (n : ℕ) → Some n ≡ None → ⊥
some_or_none n e = true≢false (ap (λ (o : Option ℕ). is_some o) e)

pub one_first : OneFirstMessage
one_first a b more rest x y m n same =
    let p = reads_head a m.front m.body more m.head m.is_head m.bytes_are in
    let q = reads_head b n.front n.body rest n.head n.is_head n.bytes_are in
    let u = request_unique (a ++ more) m.head n.head (m.body ++ more) (n.body ++ rest) p (q.0, same ∙ q.1) in
    let size : length m.body ≡ length n.body =
    same_value _ _ (sym m.length_is ∙ ap (λ h. framing_of (fields_of h)) u.0 ∙ n.length_is) in
    let body : m.body ≡ n.body =
    sym (take_at m.body more (length m.body) refl) ∙ ap (take (length m.body)) u.1 ∙ take_at n.body rest (length m.body) (sym size) in
    let front : m.front ≡ n.front = m.is_head.text ∙ ap print_request u.0 ∙ sym n.is_head.text in
    let bytes : m.front ++ m.body ≡ n.front ++ n.body = λ i. front i ++ body i in
    let says : incoming_of m.head m.body ≡ incoming_of n.head n.body = λ i. incoming_of (u.0 i) (body i) in
    (m.bytes_are ∙ bytes ∙ sym n.bytes_are, m.says ∙ says ∙ sym n.says)

not_bad : (message more taken left : List ℕ) (incoming : Incoming) → IsMessage message incoming
    → message ++ more ≡ taken ++ left → ¬ (IsBadHead taken)
not_bad message more taken left incoming m same bad =
    let p = reads_head message m.front m.body more m.head m.is_head m.bytes_are in
    let reads : ReadsRequest (taken ++ left) m.head (m.body ++ more) = (p.0, sym same ∙ p.1) in
    let size : length m.front ≡ length (print_request m.head) = ap (length {A = ℕ}) m.is_head.text in
    elim bad [
      | inl over ↦ absurd (omega (arith, over left m.head (m.body ++ more) reads, m.is_head.few))
      | inr other ↦ elim other [
        | inl long ↦ absurd (omega (arith, longer taken left m.head (m.body ++ more) long.none reads, long.full, m.is_head.short, size))
        | inr framed ↦
            let u = request_unique (taken ++ left) m.head framed.head (m.body ++ more) left reads (reads_alone taken left framed.head framed.is_head) in
            some_or_none (length m.body) (sym m.length_is ∙ ap (λ h. framing_of (fields_of h)) u.0 ∙ framed.framing)
      ]
    ]

not_large : (message more taken left : List ℕ) (incoming : Incoming) → IsMessage message incoming
    → message ++ more ≡ taken ++ left → (named : ℕ) → ¬ (IsTooLarge taken named)
not_large message more taken left incoming m same named t =
    let p = reads_head message m.front m.body more m.head m.is_head m.bytes_are in
    let reads : ReadsRequest (taken ++ left) m.head (m.body ++ more) = (p.0, sym same ∙ p.1) in
    let u = request_unique (taken ++ left) m.head t.head (m.body ++ more) left reads (reads_alone taken left t.head t.is_head) in
    let size : length m.body ≡ named =
    same_value _ _ (sym m.length_is ∙ ap (λ h. framing_of (fields_of h)) u.0 ∙ t.framing) in
    omega (arith, size, m.fits, t.large)

pub not_refused : NotRefused
not_refused message more taken left incoming m same =
    (not_bad message more taken left incoming m same, not_large message more taken left incoming m same)
