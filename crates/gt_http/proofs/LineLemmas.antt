-- How many lines of fields are whole in a head, and in bytes that bytes can follow.
use Rattle.gt_http.proofs.HeadLemmas.{longer, no_line_token}
use Rattle.gt_http.specs.Place.{field_lines, is_line_byte, place_after}
use Rattle.gt_http.specs.declared.place.Place.{Place}
use Rattle.gt_http.specs.declared.place.Place.TheVariants.{Blank, Fields, StartLine}
use Rattle.httparse.proofs.GrammarLemmas.{cons-append, print_request-append}
use Rattle.httparse.specs.Grammar.{Field, HasNoRequest, IsField, IsRequestHead, LineEnd, RequestHead, crlf, is_token_byte, is_uri_byte, is_value_byte, lf, print_blank, print_end, print_field, print_request, print_section, print_version}
use Rattle.httparse.specs.Spans.{RequestExceeds, RequestOverflows}
use Rattle.std.proofs.Common.{All, Bool, List, [], ap, append-nil, append_assoc, arith, codes, drop, false, if◌then◌else◌, length, refl, subst, sym, take, true, ℕ, ◌+◌, ◌++◌, ◌<◌, ◌==◌, ◌∙◌, ◌∷◌, ◌≡◌, ◌≤◌}
use Rattle.std.proofs.lemmas.Bool.Decides.{nat_tests}
use Rattle.std.proofs.lemmas.List.{length_push, same_from_push, take-append-drop, take-append-le, take_at}
use Rattle.std.proofs.lemmas.List.Elements.{All-append, All-cons, All-from_recursion, All-head, All-nil, All-tail, All-weaker}
use Rattle.std.specs.List.{flat_map}

-- the byte ends no line
abbrev IsPlain : ℕ → Type 0
IsPlain b = (b == 10) ≡ false

-- ---- a byte at a time

abbrev counted : Bool → ℕ
counted v = if v then 1 else 0

in_field : (word s : List ℕ) → All IsPlain word → field_lines Fields (word ++ s) ≡ field_lines Fields s
in_field [] s plain = refl
in_field (b ∷ word) s plain =
    let none : counted (b == 10) ≡ 0 = ap counted (All-head IsPlain b word plain) in
    let rest = in_field word s (All-tail IsPlain b word plain) in
    omega (arith, none, rest)

in_start : (word s : List ℕ) → All IsPlain word → field_lines StartLine (word ++ s) ≡ field_lines StartLine s
in_start [] s plain = refl
in_start (b ∷ word) s plain =
    let stays : field_lines (if b == 10 then Fields else StartLine) (word ++ s) ≡ field_lines StartLine (word ++ s) =
    ap (λ (v : Bool). field_lines (if v then Fields else StartLine) (word ++ s)) (All-head IsPlain b word plain) in
    omega (arith, stays, in_start word s (All-tail IsPlain b word plain))

start_ends : (e : LineEnd) (s : List ℕ) → field_lines StartLine (print_end e ++ s) ≡ field_lines Fields s
start_ends crlf s = omega arith
start_ends lf s = omega arith

field_ends : (e : LineEnd) (s : List ℕ) → field_lines Fields (print_end e ++ s) ≡ field_lines Fields s + 1
field_ends crlf s = omega arith
field_ends lf s = omega arith

blanks : (ends : List LineEnd) (s : List ℕ) → field_lines Blank (print_blank ends ++ s) ≡ field_lines Blank s
blanks [] s = refl
blanks (crlf ∷ ends) s = omega (arith, blanks ends s)
blanks (lf ∷ ends) s = omega (arith, blanks ends s)

no_line : (b : ℕ) → is_token_byte b ≡ true → is_line_byte b ≡ false
no_line b token = decided (is_line_byte b) refl
  where
    decided : (v : Bool) → is_line_byte b ≡ v → v ≡ false
    decided true e = absurd (no_line_token b token e)
    decided false e = refl

begins : (b : ℕ) (s : List ℕ) → is_token_byte b ≡ true → field_lines Blank (b ∷ s) ≡ field_lines StartLine s
begins b s token =
    let starts : field_lines (if is_line_byte b then Blank else StartLine) s ≡ field_lines StartLine s =
    ap (λ (v : Bool). field_lines (if v then Blank else StartLine) s) (no_line b token) in
    omega (arith, starts)

token_plain : (b : ℕ) → is_token_byte b ≡ true → IsPlain b
unfolding is_token_byte
token_plain b token = grind (arith, nat_tests)

uri_plain : (b : ℕ) → is_uri_byte b ≡ true → IsPlain b
uri_plain b uri = grind (arith, nat_tests)

value_plain : (b : ℕ) → is_value_byte b ≡ true → IsPlain b
value_plain b value = grind (arith, nat_tests)

digit_plain : (n : ℕ) → IsPlain (48 + n)
digit_plain n = grind (arith, nat_tests)

version_plain : (minor : ℕ) → All IsPlain (print_version minor)
version_plain minor =
    All-append IsPlain (codes "HTTP/1.") ((48 + minor) ∷ []) (All-from_recursion IsPlain (codes "HTTP/1.") (refl, (refl, (refl, (refl, (refl, (refl, (refl, tt))))))))
    (All-cons IsPlain (48 + minor) [] (digit_plain minor) (All-nil IsPlain))

-- ---- a head

method_lines : (word s : List ℕ) → 0 < length word → All (λ b. is_token_byte b ≡ true) word
    → field_lines Blank (word ++ s) ≡ field_lines StartLine s
method_lines [] s some tokens = absurd (omega (arith, some))
method_lines (b ∷ word) s some tokens =
    begins b (word ++ s) (All-head (λ b. is_token_byte b ≡ true) b word tokens)
    ∙ in_start word s (All-weaker (λ b. is_token_byte b ≡ true) IsPlain token_plain word (All-tail (λ b. is_token_byte b ≡ true) b word tokens))

field_line : (f : Field) (s : List ℕ) → IsField f → field_lines Fields (print_field f ++ s) ≡ field_lines Fields s + 1
field_line f s is =
    let name = All-weaker (λ b. is_token_byte b ≡ true) IsPlain token_plain f.name is.name.1 in
    let raw = All-weaker (λ b. is_value_byte b ≡ true) IsPlain value_plain f.raw is.raw in
    let colon : All IsPlain (58 ∷ []) = All-cons IsPlain 58 [] refl (All-nil IsPlain) in
    let behind = f.raw ++ (print_end f.end ++ s) in
    ap (field_lines Fields) (grouped f.name f.raw (print_end f.end) s)
    ∙ in_field f.name (58 ∷ behind) name ∙ in_field (58 ∷ []) behind colon
    ∙ in_field f.raw (print_end f.end ++ s) raw ∙ field_ends f.end s
  where
    grouped : (a b c d : List ℕ) → (a ++ 58 ∷ b ++ c) ++ d ≡ a ++ 58 ∷ (b ++ (c ++ d))
    grouped a b c d = simp (append_assoc, cons-append)

lines_of : (fields : List Field) (s : List ℕ) → All IsField fields
    → field_lines Fields (flat_map print_field fields ++ s) ≡ length fields + field_lines Fields s
lines_of [] s are = omega arith
lines_of (f ∷ fields) s are =
    let whole = ap (field_lines Fields) (append_assoc (print_field f) (flat_map print_field fields) s) in
    let first = field_line f (flat_map print_field fields ++ s) (All-head IsField f fields are) in
    omega (arith, whole, first, lines_of fields s (All-tail IsField f fields are))

-- a head, up to its fields and what follows
abbrev start_text : RequestHead → List ℕ → List ℕ
start_text h s = print_blank h.blank ++ (h.method ++ 32 ∷ (h.target ++ 32 ∷ (print_version h.minor ++ (print_end h.line_end ++ s))))

head_lines : (h : RequestHead) (s : List ℕ) → IsRequestHead h → field_lines Blank (start_text h s) ≡ field_lines Fields s
head_lines h s is =
    let space : All IsPlain (32 ∷ []) = All-cons IsPlain 32 [] refl (All-nil IsPlain) in
    let target = All-weaker (λ b. is_uri_byte b ≡ true) IsPlain uri_plain h.target is.target.1 in
    let version = print_version h.minor ++ (print_end h.line_end ++ s) in
    let request = h.target ++ 32 ∷ version in
    blanks h.blank (h.method ++ 32 ∷ request) ∙ method_lines h.method (32 ∷ request) is.method.0 is.method.1
    ∙ in_start (32 ∷ []) request space ∙ in_start h.target (32 ∷ version) target ∙ in_start (32 ∷ []) version space
    ∙ in_start (print_version h.minor) (print_end h.line_end ++ s) (version_plain h.minor) ∙ start_ends h.line_end s

-- ---- all but the last byte of a head

abbrev before_last : LineEnd → List ℕ
before_last crlf = 13 ∷ []
before_last lf = []

last_line : (e : LineEnd) → print_end e ≡ before_last e ++ 10 ∷ []
last_line crlf = refl
last_line lf = refl

no_line_before : (e : LineEnd) → field_lines Fields (before_last e) ≡ 0
no_line_before crlf = omega arith
no_line_before lf = refl

-- all of a head but its last byte, and as many lines as it has fields
record Shortened (h : RequestHead) : Type 0 where
  front : List ℕ
  is : print_request h ≡ front ++ 10 ∷ []
  lines : field_lines Blank front ≡ length h.fields

shortened : (h : RequestHead) → IsRequestHead h → Shortened h
shortened h valid =
    let fields = flat_map print_field h.fields in
    let behind = fields ++ before_last h.last in
    record {
      front = start_text h behind;
      is = sym (append-nil (print_request h)) ∙ print_request-append h []
          ∙ ap (start_text h) (append-nil (print_section h.fields h.last) ∙ ap (λ t. fields ++ t) (last_line h.last))
          ∙ grouped (print_blank h.blank) h.method h.target (print_version h.minor) (print_end h.line_end) fields (before_last h.last) (10 ∷ []);
      lines = omega (arith, head_lines h behind valid, lines_of h.fields (before_last h.last) valid.fields, no_line_before h.last);
    }
  where
    grouped : (a b c d e f g z : List ℕ)
        → a ++ (b ++ 32 ∷ (c ++ 32 ∷ (d ++ (e ++ (f ++ (g ++ z)))))) ≡ (a ++ (b ++ 32 ∷ (c ++ 32 ∷ (d ++ (e ++ (f ++ g)))))) ++ z
    grouped a b c d e f g z = simp append_assoc

-- ---- what the number of lines says

grows : (place : Place) (a b : List ℕ) → field_lines place a ≤ field_lines place (a ++ b)
grows place [] b = omega arith
grows place (x ∷ a) b = omega (arith, grows (place_after place x) a b)

-- more fields than there is room for are more lines than that
pub exceeding_lines : (room : ℕ) (buf : List ℕ) → RequestExceeds room buf → room < field_lines Blank buf
exceeding_lines room buf x =
    let h = x.3 in
    let f = shortened h x.4.0 in
    let front : x.0 ≡ f.front = (same_from_push x.0 f.front 10 10 (x.4.1 ∙ append-nil (print_request h) ∙ f.is)).0 in
    let lines : field_lines Blank x.0 ≡ length h.fields = ap (field_lines Blank) front ∙ f.lines in
    let all : field_lines Blank x.0 ≤ field_lines Blank buf =
    subst (λ t. field_lines Blank x.0 ≤ field_lines Blank t) (sym x.2) (grows Blank x.0 x.1) in
    omega (arith, lines, all, x.5)

-- and bytes of more lines, which have no head yet, have one of more fields
pub lines_overflow : (room : ℕ) (buf : List ℕ) → HasNoRequest buf → room < field_lines Blank buf → RequestOverflows room buf
lines_overflow room buf none over more h rest reads =
    let f = shortened h reads.0 in
    let whole : buf ++ more ≡ f.front ++ 10 ∷ rest = reads.1 ∙ ap (λ t. t ++ rest) f.is ∙ append_assoc f.front (10 ∷ []) rest in
    let size : length (print_request h) ≡ length f.front + 1 = ap (length {A = ℕ}) f.is ∙ length_push f.front 10 in
    let short : length buf ≤ length f.front = omega (arith, size, longer buf more h rest none reads) in
    let front : buf ≡ take (length buf) f.front =
    sym (take_at buf more (length buf) refl) ∙ ap (take (length buf)) whole ∙ take-append-le (length buf) f.front (10 ∷ rest) short in
    let same : f.front ≡ buf ++ drop (length buf) f.front =
    sym (take-append-drop (length buf) f.front) ∙ ap (λ t. t ++ drop (length buf) f.front) (sym front) in
    let lines : field_lines Blank buf ≤ field_lines Blank f.front =
    subst (λ t. field_lines Blank buf ≤ field_lines Blank t) (sym same) (grows Blank buf (drop (length buf) f.front)) in
    omega (arith, lines, f.lines, over)
