-- The text of a list of bodies, read again.
use Rattle.std.proofs.Common.{◌≡◌, inl, inr, ℕ, zero, suc, ◌+◌, ◌*◌, ◌≤◌, Bool, true, List, [], ◌∷◌, ◌++◌, length, take, drop, refl, sym, subst, ◌∙◌, ap, arith, length-append, length-drop}
use Rattle.std.specs.Prelude.{nat_le, if◌then◌else◌}
use Rattle.std.proofs.lemmas.Bool.{cases_lt, le-leb, lt-leb}
use Rattle.std.proofs.lemmas.List.{take_at, drop_at, append-nil}
use Rattle.std.proofs.lemmas.List.Concat.{flat_map-append}
use Rattle.std.proofs.lemmas.Nat.{from_be_bytes-to_be_bytes_8}
use Rattle.std.specs.List.{AllByRecursion}
use Rattle.std.specs.Int.{w64, to_be_bytes, from_be_bytes}
use Rattle.gt_journal.specs.JournalText.{frame, text, texts, Fits, IsFront}
use Rattle.gt_journal.specs.Journal.{read_texts, bodies_of}

pub length-frame : (body : List ℕ) → length (frame body) ≡ length body + 8
unfolding frame
length-frame body = omega (arith, length-append (to_be_bytes w64 (length body)) body)

header_of : (body rest : List ℕ) → take 8 (frame body ++ rest) ≡ to_be_bytes w64 (length body)
unfolding frame
header_of body rest = refl

pub behind_header : (body rest : List ℕ) → drop 8 (frame body ++ rest) ≡ body ++ rest
unfolding frame
behind_header body rest = refl

pub behind_size : (body : List ℕ) → drop 8 (frame body) ≡ body
unfolding frame
behind_size body = refl

pub size_of : (body rest : List ℕ) → Fits body → from_be_bytes w64 (take 8 (frame body ++ rest)) ≡ length body
size_of body rest fits = ap (from_be_bytes w64) (header_of body rest) ∙ from_be_bytes-to_be_bytes_8 (length body) (omega (arith, fits))

pub texts-push : (bodies : List (List ℕ)) (body : List ℕ) → texts (bodies ++ body ∷ []) ≡ texts bodies ++ text body
texts-push bodies body = flat_map-append text bodies (body ∷ []) ∙ ap (λ (l : List ℕ). texts bodies ++ l) (append-nil (text body))

pub all-push : (bodies : List (List ℕ)) (body : List ℕ) → AllByRecursion Fits bodies → Fits body → AllByRecursion Fits (bodies ++ body ∷ [])
all-push [] body fit fits = (fits, tt)
all-push (b ∷ bodies) body fit fits = (fit.0, all-push bodies body fit.1 fits)

read_all : (bodies : List (List ℕ)) (n : ℕ) → length (texts bodies) ≤ n → AllByRecursion Fits bodies → read_texts n (texts bodies) ≡ bodies
unfolding read_texts
read_all [] zero long fit = refl
read_all [] (suc n) long fit = refl
read_all (b ∷ bs) zero long fit = absurd (omega (arith, long, length-append (text b) (texts bs)))
read_all (b ∷ bs) (suc n) long fit =
    let rest = frame b ++ texts bs in
    let size = size_of b (texts bs) fit.0 in
    let first : take (from_be_bytes w64 (take 8 rest)) (drop 8 rest) ≡ b =
    ap (λ (k : ℕ). take k (drop 8 rest)) size ∙ ap (λ (l : List ℕ). take (length b) l) (behind_header b (texts bs)) ∙ take_at b (texts bs) (length b) refl in
    let others : drop (8 + from_be_bytes w64 (take 8 rest)) rest ≡ texts bs =
    ap (λ (k : ℕ). drop (8 + k) rest) size ∙ drop_at (frame b) (texts bs) (8 + length b) (omega (arith, length-frame b)) in
    let long_enough : nat_le 8 (length rest) ≡ true = le-leb 8 (length rest) (omega (arith, length-append (frame b) (texts bs), length-frame b)) in
    ap (λ (t : Bool). if t then take (from_be_bytes w64 (take 8 rest)) (drop 8 rest) ∷ read_texts n (drop (8 + from_be_bytes w64 (take 8 rest)) rest) else []) long_enough
    ∙ ap (λ (l : List ℕ). l ∷ read_texts n (drop (8 + from_be_bytes w64 (take 8 rest)) rest)) first
    ∙ ap (λ (l : List ℕ). b ∷ read_texts n l) others
    ∙ ap (λ (l : List (List ℕ)). b ∷ l) (read_all bs n (omega (arith, long, length-append (text b) (texts bs), length-frame b)) fit.1)

-- a front gives the bodies that it stands for
pub front_reads : (bodies : List (List ℕ)) (front : List ℕ) → IsFront bodies front → bodies_of front ≡ bodies
unfolding bodies_of
front_reads bodies front stands = ap (λ (l : List ℕ). read_texts (length l) l) stands.is ∙ read_all bodies (length (texts bodies)) (omega arith) stands.fit

-- each body takes 9 bytes at least
read_few : (n : ℕ) (bytes : List ℕ) → 9 * length (read_texts n bytes) ≤ length bytes
unfolding read_texts
read_few zero bytes = omega arith
read_few (suc n) [] = omega arith
read_few (suc n) (gate ∷ rest) =
    let size = from_be_bytes w64 (take 8 rest) in
    let others = read_few n (drop (8 + size) rest) in
    let whole = take size (drop 8 rest) ∷ read_texts n (drop (8 + size) rest) in
    elim (cases_lt (length rest) 8) [
      | inl short ↦ subst (λ (t : Bool). 9 * length (if t then whole else []) ≤ suc (length rest)) (sym (lt-leb 8 (length rest) short)) (omega arith)
      | inr enough ↦
          subst (λ (t : Bool). 9 * length (if t then whole else []) ≤ suc (length rest)) (sym (le-leb 8 (length rest) enough)) (omega (arith, others, enough, length-drop (8 + size) rest))
    ]

-- 9 bytes at least a body
pub bodies_few : (front : List ℕ) → 9 * length (bodies_of front) ≤ length front
unfolding bodies_of
bodies_few front = read_few (length front) front

-- so do the records
pub texts_long : (bodies : List (List ℕ)) → 9 * length bodies ≤ length (texts bodies)
texts_long [] = omega arith
texts_long (b ∷ bs) = omega (arith, texts_long bs, length-append (text b) (texts bs), length-frame b)
