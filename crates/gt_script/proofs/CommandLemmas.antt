-- What the text of a command line tells: no text is one of two.
use Rattle.gt_setup.specs.Setup.{Setup}
use Rattle.gt_streams.specs.Reading.{HasNoNewline}
use Rattle.gt_values.specs.Forms.{is_moment}
use Rattle.gt_values.specs.Moment.{last_moment}
use Rattle.std.proofs.Common.{Bool, Bor, IfSome, IsAscii, IsTrue, List, None, Option, Some, [], ap, arith, codes, false, get_or, if◌then◌else◌, length, not, refl, subst, suc, sym, true, zero, ◌%◌, ◌++◌, ◌+◌, ◌<◌, ◌==◌, ◌^◌, ◌∙◌, ◌∷◌, ◌≡◌, ◌≢◌, ◌≤◌, ℕ}
use Rattle.std.proofs.lemmas.Bool.{and_parts}
use Rattle.std.proofs.lemmas.Bool.Decides.{nat_tests}
use Rattle.std.proofs.lemmas.Fmt.{IsAscii-decimal, decimal_by_steps, decimal_injective}
use Rattle.std.proofs.lemmas.Slice.Eq.{bytes_eq-Decides}
use Rattle.std.proofs.lemmas.Str.{IsAscii-append, IsUtf8-from_ascii}
use Rattle.std.proofs.lemmas.Str.Ascii.{IsAscii-cons, IsAscii-nil}
use Rattle.std.proofs.lemmas.Str.Pattern.{IsSplitOnceResult, split_after}
use Rattle.std.specs.Char.{is_ascii_graphic}
use Rattle.std.specs.Fmt.{decimal}
use Rattle.std.specs.List.{list_all}
use Rattle.std.specs.Option.{MatchOption}
use Rattle.std.specs.Prelude.{nat_le, nat_lt}
use Rattle.std.specs.Str.{IsUtf8, bytes_eq}
use Rattle.gt_script.proofs.ListLemmas.{Lacks, Lacks-append, SameFront, append_cancel, same_front}
use Rattle.gt_script.specs.CommandLine.{IsCommandText, IsSendText, is_token, is_word, most_body_bytes, no_token, token_word}
use Rattle.gt_script.specs.declared.command_line.CommandLine.{CommandLine}
use Rattle.gt_script.specs.declared.command_line.CommandLine.TheVariants.{End, Now, Restart, Send}

moment_fits : (moment : ℕ) → IsTrue (is_moment moment) → moment < 2 ^ 64
moment_fits moment is = grind (arith, nat_tests)

-- digits are no such byte
pub decimal_lacks : (byte n : ℕ) → byte < 48 → n < 2 ^ 64 → Lacks byte (decimal n)
decimal_lacks byte n low fits = decimal_by_steps (λ (k : ℕ) (ds : List ℕ). Lacks byte ds) (λ k small. ((λ e. absurd (omega (arith, e, low))), tt)) (λ k ds big so_far. Lacks-append byte ds ((48 + k % 10) ∷ []) so_far ((λ e. absurd (omega (arith, e, low))), tt)) n fits

graphic_range : (c : ℕ) → is_ascii_graphic c ≡ true → (33 ≤ c) × (c ≤ 126)
graphic_range c is = (grind (arith, nat_tests), grind (arith, nat_tests))

graphic_lacks : (byte : ℕ) (token : List ℕ) → byte < 33 → list_all is_ascii_graphic token ≡ true → Lacks byte token
graphic_lacks byte [] low is = tt
graphic_lacks byte (c ∷ token) low is =
    let parts = and_parts (is_ascii_graphic c) (list_all is_ascii_graphic token) is in
    let range = graphic_range c parts.0 in
    ((λ e. absurd (omega (arith, range.0, low, e))), graphic_lacks byte token low parts.1)

graphic_ascii : (token : List ℕ) → list_all is_ascii_graphic token ≡ true → IsAscii token
graphic_ascii [] is = IsAscii-nil
graphic_ascii (c ∷ token) is =
    let parts = and_parts (is_ascii_graphic c) (list_all is_ascii_graphic token) is in
    let range = graphic_range c parts.0 in
    IsAscii-cons c token (omega (arith, range.1)) (graphic_ascii token parts.1)

-- a text as it stands, by a test that computes
differs : (byte c : ℕ) → not (c == byte) ≡ true → c ≢ byte
differs byte c is e = absurd (grind (arith, nat_tests))

literal_lacks : (byte : ℕ) (text : List ℕ) → list_all (λ c. not (c == byte)) text ≡ true → Lacks byte text
literal_lacks byte [] is = tt
literal_lacks byte (c ∷ text) is =
    let parts = and_parts (not (c == byte)) (list_all (λ d. not (d == byte)) text) is in
    (differs byte c parts.0, literal_lacks byte text parts.1)

below_128 : (c : ℕ) → nat_lt c 128 ≡ true → c < 128
below_128 c is = grind (arith, nat_tests)

literal_ascii : (text : List ℕ) → list_all (λ c. nat_lt c 128) text ≡ true → IsAscii text
literal_ascii [] is = IsAscii-nil
literal_ascii (c ∷ text) is =
    let parts = and_parts (nat_lt c 128) (list_all (λ d. nat_lt d 128) text) is in
    IsAscii-cons c text (below_128 c parts.0) (literal_ascii text parts.1)

-- what a word, a space and more lack, and are
word_graphic : (word : List ℕ) → IsTrue (is_word word) → list_all is_ascii_graphic word ≡ true
word_graphic word is = (and_parts (not (length word == 0)) (list_all is_ascii_graphic word) is).1

lacks_newline : (word rest : List ℕ) → IsTrue (is_word word) → Lacks 10 rest → Lacks 10 (word ++ 32 ∷ rest)
lacks_newline word rest is plain = Lacks-append 10 word (32 ∷ rest) (graphic_lacks 10 word (omega arith) (word_graphic word is)) ((λ e. absurd (omega (arith, e))), plain)

all_ascii : (word rest : List ℕ) → IsTrue (is_word word) → IsAscii rest → IsAscii (word ++ 32 ∷ rest)
all_ascii word rest is ascii = IsAscii-append word (32 ∷ rest) (graphic_ascii word (word_graphic word is)) (IsAscii-cons 32 rest (omega arith) ascii)

-- the word for a token is one
pub token_is_word : (token : Option (List ℕ)) → IfSome token (λ word. IsTrue (is_token word)) → IsTrue (is_word (token_word token))
token_is_word None is = refl
token_is_word (Some token) is = (and_parts (is_word token) (not (bytes_eq token no_token)) is).0

no_hyphen : (b : Bool) → not b ≡ true → b ≡ true → ⊥
no_hyphen true is e = let no : ⊥ = cc in no
no_hyphen false is e = let no : ⊥ = cc in no

token_differs : (token : List ℕ) → IsTrue (is_token token) → token ≡ no_token → ⊥
token_differs token is e = no_hyphen (bytes_eq token no_token) (and_parts (is_word token) (not (bytes_eq token no_token)) is).1 ((bytes_eq-Decides token no_token).1 e)

-- a word stands for one token, or for none
one_token : (a b : Option (List ℕ)) → IfSome a (λ word. IsTrue (is_token word)) → IfSome b (λ word. IsTrue (is_token word)) → token_word a ≡ token_word b → a ≡ b
one_token None None p q e = refl
one_token None (Some t) p q e = absurd (token_differs t q (sym e))
one_token (Some s) None p q e = absurd (token_differs s p e)
one_token (Some s) (Some t) p q e = ap (λ z. Some z) e

size_fits : (size : ℕ) → size ≤ most_body_bytes → size < 2 ^ 64
size_fits size fits = omega arith

send_lacks_newline : (token : Option (List ℕ)) (method target : List ℕ) (size : ℕ) (text : List ℕ) → IsSendText token method target size text → Lacks 10 text
send_lacks_newline token method target size text is =
    let digits = decimal_lacks 10 size (omega arith) (size_fits size is.fits) in
    let behind_method = lacks_newline target (decimal size) is.has_target digits in
    let behind_token = lacks_newline method (target ++ 32 ∷ decimal size) is.has_method behind_method in
    subst (Lacks 10) (sym is.whole) (lacks_newline (token_word token) (method ++ 32 ∷ (target ++ 32 ∷ decimal size)) (token_is_word token is.has_token) behind_token)

send_ascii : (token : Option (List ℕ)) (method target : List ℕ) (size : ℕ) (text : List ℕ) → IsSendText token method target size text → IsAscii text
send_ascii token method target size text is =
    let digits = IsAscii-decimal size (size_fits size is.fits) in
    let behind_method = all_ascii target (decimal size) is.has_target digits in
    let behind_token = all_ascii method (target ++ 32 ∷ decimal size) is.has_method behind_method in
    subst (λ (s : List ℕ). IsAscii s) (sym is.whole) (all_ascii (token_word token) (method ++ 32 ∷ (target ++ 32 ∷ decimal size)) (token_is_word token is.has_token) behind_token)

-- a command line has no newline
pub command_plain : (setup : Setup) (line : CommandLine) (text : List ℕ) → IsCommandText setup line text → HasNoNewline text
command_plain setup End text is = subst (Lacks 10) (sym is) (literal_lacks 10 (codes "end") refl)
command_plain setup (Now moment) text is =
    subst (Lacks 10) (sym is.1) (Lacks-append 10 (codes "now ") (decimal moment) (literal_lacks 10 (codes "now ") refl) (decimal_lacks 10 moment (omega arith) (moment_fits moment is.0)))
command_plain setup Restart text is = subst (Lacks 10) (sym is) (literal_lacks 10 (codes "restart") refl)
command_plain setup (Send token method target size) text (request, is, whole) =
    subst (Lacks 10) (sym whole) (Lacks-append 10 (codes "send ") request (literal_lacks 10 (codes "send ") refl) (send_lacks_newline token method target size request is))

-- a command line is UTF-8
command_ascii : (setup : Setup) (line : CommandLine) (text : List ℕ) → IsCommandText setup line text → IsAscii text
command_ascii setup End text is = subst (λ (s : List ℕ). IsAscii s) (sym is) (literal_ascii (codes "end") refl)
command_ascii setup (Now moment) text is =
    subst (λ (s : List ℕ). IsAscii s) (sym is.1) (IsAscii-append (codes "now ") (decimal moment) (literal_ascii (codes "now ") refl) (IsAscii-decimal moment (moment_fits moment is.0)))
command_ascii setup Restart text is = subst (λ (s : List ℕ). IsAscii s) (sym is) (literal_ascii (codes "restart") refl)
command_ascii setup (Send token method target size) text (request, is, whole) =
    subst (λ (s : List ℕ). IsAscii s) (sym whole) (IsAscii-append (codes "send ") request (literal_ascii (codes "send ") refl) (send_ascii token method target size request is))

pub command_utf8 : (setup : Setup) (line : CommandLine) (text : List ℕ) → IsCommandText setup line text → IsUtf8 text
command_utf8 setup line text is = IsUtf8-from_ascii text (command_ascii setup line text is)

-- two words at the front of the same bytes, each before a space
word_lacks_space : (word : List ℕ) → IsTrue (is_word word) → Lacks 32 word
word_lacks_space word is = graphic_lacks 32 word (omega arith) (word_graphic word is)

same_word : (a b x y : List ℕ) → IsTrue (is_word a) → IsTrue (is_word b) → a ++ 32 ∷ x ≡ b ++ 32 ∷ y → SameFront a b x y
same_word a b x y p q e = same_front 32 a b x y (word_lacks_space a p) (word_lacks_space b q) e

-- what stands behind them
pub same_rest : (text a b x y : List ℕ) → IsTrue (is_word a) → IsTrue (is_word b) → text ≡ a ++ 32 ∷ x → text ≡ b ++ 32 ∷ y → x ≡ y
same_rest text a b x y p q one two = (same_word a b x y p q (sym one ∙ two)).rest

one_send : (a b : Option (List ℕ)) (m n u v : List ℕ) (s t : ℕ) (text : List ℕ) → IsSendText a m u s text → IsSendText b n v t text → Send a m u s ≡ Send b n v t
one_send a b m n u v s t text p q =
    let token = same_word (token_word a) (token_word b) (m ++ 32 ∷ (u ++ 32 ∷ decimal s)) (n ++ 32 ∷ (v ++ 32 ∷ decimal t)) (token_is_word a p.has_token) (token_is_word b q.has_token) (sym p.whole ∙ q.whole) in
    let method = same_word m n (u ++ 32 ∷ decimal s) (v ++ 32 ∷ decimal t) p.has_method q.has_method token.rest in
    let target = same_word u v (decimal s) (decimal t) p.has_target q.has_target method.rest in
    let size = decimal_injective s t (size_fits s p.fits) (size_fits t q.fits) target.rest in
    ap (λ z. Send z m u s) (one_token a b p.has_token q.has_token token.word) ∙ ap (λ z. Send b z u s) method.word ∙ ap (λ z. Send b n z s) target.word ∙ ap (λ (z : ℕ). Send b n v z) size

-- the first byte of a command line's texts
abbrev first_byte : CommandLine → ℕ
first_byte End = 101
first_byte (Now moment) = 110
first_byte Restart = 114
first_byte (Send token method target size) = 115

begins : (setup : Setup) (line : CommandLine) (text : List ℕ) → IsCommandText setup line text → get_or text 0 0 ≡ first_byte line
begins setup End text is = ap (λ (x : List ℕ). get_or x 0 0) is
begins setup (Now moment) text is = ap (λ (x : List ℕ). get_or x 0 0) is.1
begins setup Restart text is = ap (λ (x : List ℕ). get_or x 0 0) is
begins setup (Send token method target size) text (request, is, whole) = ap (λ (x : List ℕ). get_or x 0 0) whole

-- a text is that of one command line
pub one_command : (setup : Setup) (a b : CommandLine) (text : List ℕ) → IsCommandText setup a text → IsCommandText setup b text → a ≡ b
one_command setup End End text p q = refl
one_command setup (Now m) (Now n) text p q =
    let digits : decimal m ≡ decimal n = append_cancel (codes "now ") (decimal m) (decimal n) (sym p.1 ∙ q.1) in
    ap (λ (z : ℕ). Now z) (decimal_injective m n (moment_fits m p.0) (moment_fits n q.0) digits)
one_command setup Restart Restart text p q = refl
one_command setup (Send a m u s) (Send b n v t) text (request, p, whole) (other, q, all) =
    let same : request ≡ other = append_cancel (codes "send ") request other (sym whole ∙ all) in
    one_send a b m n u v s t request p (subst (IsSendText b n v t) (sym same) q)
one_command setup a b text p q = absurd (omega (arith, sym (begins setup a text p) ∙ begins setup b text q))

-- no byte of it is that one
pub lacks_at : (byte : ℕ) (bytes : List ℕ) → Lacks byte bytes → (i : ℕ) → i < length bytes → get_or bytes i 0 ≢ byte
lacks_at byte [] p i below = absurd (omega (arith, below))
lacks_at byte (x ∷ bytes) p zero below = p.0
lacks_at byte (x ∷ bytes) p (suc i) below = lacks_at byte bytes p.1 i (omega (arith, below))

-- where a text is cut at its first space
pub word_cut : (text word rest : List ℕ) (r : Option (Bor (List ℕ) × Bor (List ℕ))) → IsSplitOnceResult 32 text r → IsTrue (is_word word) → text ≡ word ++ 32 ∷ rest → MatchOption r ⊥ (λ x. (x.0.now ≡ word) × (x.1.now ≡ rest))
word_cut text word rest r cut is whole = split_after 32 text word rest r cut (omega arith) whole (lacks_at 32 word (word_lacks_space word is))

no_some : (b : Bool) (n : ℕ) (o : Option ℕ) → b ≡ true → o ≡ (if b then Some n else None) → o ≡ None → ⊥
no_some true n o there is none = let no : ⊥ = cc in no
no_some false n o there is none = let no : ⊥ = cc in no

-- a number that is a moment
pub moment_there : (n m : ℕ) (o : Option ℕ) → n < 2 ^ 64 → decimal n ≡ decimal m → IsTrue (is_moment m) → o ≡ (if nat_le n last_moment then Some n else None) → o ≡ None → ⊥
moment_there n m o fits digits is there none =
    let same : n ≡ m = decimal_injective n m fits (moment_fits m is) digits in
    no_some (nat_le n last_moment) n o (ap (λ (k : ℕ). nat_le k last_moment) same ∙ is) there none
