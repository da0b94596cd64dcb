-- Readers and the texts that they read, and how they are put together.
use Rattle.std.proofs.Common.{◌≡◌, ℕ, zero, suc, ◌+◌, ◌<◌, ◌≤◌, Bool, true, false, ◌&&◌, cond, ltb, List, [], ◌∷◌, ◌++◌, length, get_or, take, drop, Option, Some, None, refl, sym, ap, subst, ◌∙◌, append_assoc, arith, inl, inr, ◌⊎◌}
use Rattle.std.specs.List.{flat_map, list_all}
use Rattle.std.proofs.lemmas.Bool.{and_from, and_parts, le-ltb, lt-ltb, ltb-false}
use Rattle.std.proofs.lemmas.List.{drop_at, get_or-drop, length-append, length-take, take-append-drop, take_at}
use Rattle.std.proofs.lemmas.List.Concat.{flat_map-cons}
use Rattle.gt_values.specs.Grammar.{Read, ◌>>=◌}
use Rattle.gt_records.specs.Fields.{byte_text}
use Rattle.gt_records.specs.Reading.{byte_at, bytes_at, checked, coded_at, led, mapped, times_at, ◌⊗◌}

-- each number of the list is a byte
abbrev pub IsBytes : List ℕ → Type 0
IsBytes bytes = (i : ℕ) → get_or bytes i 0 < 256

pub IsBytes-drop : (n : ℕ) (bytes : List ℕ) → IsBytes bytes → IsBytes (drop n bytes)
IsBytes-drop n bytes h i = rw get_or-drop (h (n + i))

pub IsBytes-rest : (b : ℕ) (bytes : List ℕ) → IsBytes (b ∷ bytes) → IsBytes bytes
IsBytes-rest b bytes h i = h (suc i)

pub all_bytes : (bytes : List ℕ) → IsBytes bytes → list_all (λ b. ltb b 256) bytes ≡ true
all_bytes [] h = refl
all_bytes (b ∷ bytes) h = and_from _ _ (lt-ltb b 256 (h 0)) (all_bytes bytes (IsBytes-rest b bytes h))

-- the text is the front of the bytes, and the rest are bytes
pub record Takes (bytes text rest : List ℕ) : Type 0 where
  pub parts : bytes ≡ text ++ rest
  pub rest_fits : IsBytes rest

pub Takes-then : (a x b y c : List ℕ) → Takes a x b → Takes b y c → Takes a (x ++ y) c
Takes-then a x b y c p q = record {
  parts = p.parts ∙ ap (λ (t : List ℕ). x ++ t) q.parts ∙ sym (append_assoc x y c);
  rest_fits = q.rest_fits;
}

-- what the reader reads is the text of a valid value, and each text of one is read
pub record Reads {A : Type 0} (reader : List ℕ → Read A) (text : A → List ℕ) (valid : A → Bool) : Type 0 where
  pub takes : (bytes : List ℕ) (x : A) (rest : List ℕ) → IsBytes bytes → reader bytes ≡ Some (x, rest)
      → Takes bytes (text x) rest × (valid x ≡ true)
  pub again : (x : A) (rest : List ℕ) → valid x ≡ true → reader (text x ++ rest) ≡ Some (x, rest)

-- the same of a reader that something before it leads to, which the value tells
pub record Follows {L A : Type 0} (reader : L → List ℕ → Read A) (lead : A → L) (text : A → List ℕ) (valid : A → Bool) : Type 0 where
  pub takes : (l : L) (bytes : List ℕ) (x : A) (rest : List ℕ) → IsBytes bytes → reader l bytes ≡ Some (x, rest)
      → Takes bytes (text x) rest × (valid x ≡ true) × (lead x ≡ l)
  pub again : (x : A) (rest : List ℕ) → valid x ≡ true → reader (lead x) (text x ++ rest) ≡ Some (x, rest)

-- ---- steps that did not fail

pub bind_some : {A B : Type 0} (r : Option A) (f : A → Option B) (y : B) → (r >>= f) ≡ Some y → (x : A) × (r ≡ Some x) × (f x ≡ Some y)
bind_some None f y e = absurd cc
bind_some (Some x) f y e = (x, refl, e)

pub guard_some : {A : Type 0} (b : Bool) (x y : A) → cond b (Some x) None ≡ Some y → (b ≡ true) × (x ≡ y)
guard_some true x y e = (refl, cc)
guard_some false x y e = absurd cc

-- which branch was taken
pub chosen : {A : Type 0} (b : Bool) (x y z : A) → cond b x y ≡ z → ((b ≡ true) × (x ≡ z)) ⊎ ((b ≡ false) × (y ≡ z))
chosen true x y z e = inl (refl, e)
chosen false x y z e = inr (refl, e)

pub some_is : {A : Type 0} (x y : A) → Some x ≡ Some y → x ≡ y
some_is x y e = cc

-- ---- put together

pub Reads-as : {A : Type 0} {reader : List ℕ → Read A} {text : A → List ℕ} {valid : A → Bool} (other : A → List ℕ) (test : A → Bool)
    → ((x : A) → text x ≡ other x) → ((x : A) → valid x ≡ test x) → Reads reader text valid → Reads reader other test
Reads-as {A} {reader} {text} {valid} other test same alike p = record {
  takes = λ bytes x rest fits e. let t = p.takes bytes x rest fits e in
      (subst (λ (w : List ℕ). Takes bytes w rest) (same x) t.0, sym (alike x) ∙ t.1);
  again = λ x rest h. ap (λ (w : List ℕ). reader (w ++ rest)) (sym (same x)) ∙ p.again x rest (alike x ∙ h);
}

pub Reads-both : {A B : Type 0} {ra : List ℕ → Read A} {ta : A → List ℕ} {va : A → Bool} {rb : List ℕ → Read B} {tb : B → List ℕ} {vb : B → Bool}
    → Reads ra ta va → Reads rb tb vb → Reads (ra ⊗ rb) (λ p. ta p.0 ++ tb p.1) (λ p. va p.0 && vb p.1)
Reads-both {A} {B} {ra} {ta} {va} {rb} {tb} {vb} p q = record {
  takes = λ bytes x rest fits e.
      let a = bind_some (ra bytes) (λ a. rb a.1 >>= (λ b. Some ((a.0, b.0), b.1))) (x, rest) e in
      let b = bind_some (rb a.0.1) (λ b. Some ((a.0.0, b.0), b.1)) (x, rest) a.2 in
      let s = p.takes bytes a.0.0 a.0.1 fits a.1 in
      let t = q.takes a.0.1 b.0.0 b.0.1 s.0.rest_fits b.1 in
      let made : (A × B) × List ℕ = ((a.0.0, b.0.0), b.0.1) in
      subst (λ (y : (A × B) × List ℕ). Takes bytes (ta y.0.0 ++ tb y.0.1) y.1 × ((va y.0.0 && vb y.0.1) ≡ true))
      (some_is made (x, rest) b.2) (Takes-then bytes (ta a.0.0) a.0.1 (tb b.0.0) b.0.1 s.0 t.0, and_from _ _ s.1 t.1);
  again = λ x rest h.
      let parts = and_parts (va x.0) (vb x.1) h in
      ap (ra ⊗ rb) (append_assoc (ta x.0) (tb x.1) rest)
      ∙ rw (p.again x.0 (tb x.1 ++ rest) parts.0) (rw (q.again x.1 rest parts.1) refl);
}

pub Reads-mapped : {A B : Type 0} {reader : List ℕ → Read A} {text : A → List ℕ} {valid : A → Bool} (make : A → B) (parts : B → A) (test : B → Bool)
    → ((a : A) → valid a ≡ true → (parts (make a) ≡ a) × (test (make a) ≡ true))
    → ((b : B) → test b ≡ true → (make (parts b) ≡ b) × (valid (parts b) ≡ true))
    → Reads reader text valid → Reads (mapped make reader) (λ b. text (parts b)) test
Reads-mapped {A} {B} {reader} {text} {valid} make parts test back forth p = record {
  takes = λ bytes x rest fits e.
      let a = bind_some (reader bytes) (λ a. Some (make a.0, a.1)) (x, rest) e in
      let s = p.takes bytes a.0.0 a.0.1 fits a.1 in
      let made : B × List ℕ = (make a.0.0, a.0.1) in
      let known = back a.0.0 s.1 in
      subst (λ (y : B × List ℕ). Takes bytes (text (parts y.0)) y.1 × (test y.0 ≡ true))
      (some_is made (x, rest) a.2)
      (subst (λ (w : A). Takes bytes (text w) a.0.1) (sym known.0) s.0, known.1);
  again = λ x rest h.
      let known = forth x h in
      rw (p.again (parts x) rest known.1) (ap (λ (b : B). Some (b, rest)) known.0);
}

-- a value that is made of what is read, of any of several forms
pub mapped_takes : {A B : Type 0} {reader : List ℕ → Read A} {text : A → List ℕ} {valid : A → Bool} (make : A → B) → Reads reader text valid
    → (bytes : List ℕ) (x : B) (rest : List ℕ) → IsBytes bytes → mapped make reader bytes ≡ Some (x, rest)
    → (a : A) × (make a ≡ x) × Takes bytes (text a) rest × (valid a ≡ true)
mapped_takes {A} {B} {reader} {text} {valid} make p bytes x rest fits e =
    let a = bind_some (reader bytes) (λ a. Some (make a.0, a.1)) (x, rest) e in
    let s = p.takes bytes a.0.0 a.0.1 fits a.1 in
    let made : B × List ℕ = (make a.0.0, a.0.1) in
    let same = some_is made (x, rest) a.2 in
    (a.0.0, ap (λ (y : B × List ℕ). y.0) same, subst (λ (w : List ℕ). Takes bytes (text a.0.0) w) (ap (λ (y : B × List ℕ). y.1) same) s.0, s.1)

pub mapped_again : {A B : Type 0} {reader : List ℕ → Read A} {text : A → List ℕ} {valid : A → Bool} (make : A → B) → Reads reader text valid
    → (a : A) (rest : List ℕ) → valid a ≡ true → mapped make reader (text a ++ rest) ≡ Some (make a, rest)
mapped_again make p a rest h = rw (p.again a rest h) refl

pub Reads-checked : {A : Type 0} {reader : List ℕ → Read A} {text : A → List ℕ} {valid : A → Bool} (test : A → Bool)
    → Reads reader text valid → Reads (checked test reader) text (λ x. valid x && test x)
Reads-checked {A} {reader} {text} {valid} test p = record {
  takes = λ bytes x rest fits e.
      let a = bind_some (reader bytes) (λ a. cond (test a.0) (Some a) None) (x, rest) e in
      let g = guard_some (test a.0.0) a.0 (x, rest) a.2 in
      let s = p.takes bytes a.0.0 a.0.1 fits a.1 in
      subst (λ (y : A × List ℕ). Takes bytes (text y.0) y.1 × ((valid y.0 && test y.0) ≡ true)) g.1 (s.0, and_from _ _ s.1 g.0);
  again = λ x rest h.
      let parts = and_parts (valid x) (test x) h in
      rw (p.again x rest parts.0) (rw parts.1 refl);
}

pub Follows-checked : {L A : Type 0} {reader : L → List ℕ → Read A} {lead : A → L} {text : A → List ℕ} {valid : A → Bool} (test : A → Bool)
    → Follows reader lead text valid → Follows (λ l. checked test (reader l)) lead text (λ x. valid x && test x)
Follows-checked {L} {A} {reader} {lead} {text} {valid} test p = record {
  takes = λ l bytes x rest fits e.
      let a = bind_some (reader l bytes) (λ a. cond (test a.0) (Some a) None) (x, rest) e in
      let g = guard_some (test a.0.0) a.0 (x, rest) a.2 in
      let s = p.takes l bytes a.0.0 a.0.1 fits a.1 in
      subst (λ (y : A × List ℕ). Takes bytes (text y.0) y.1 × ((valid y.0 && test y.0) ≡ true) × (lead y.0 ≡ l)) g.1
      (s.0, and_from _ _ s.1 g.0, s.2);
  again = λ x rest h.
      let parts = and_parts (valid x) (test x) h in
      rw (p.again x rest parts.0) (rw parts.1 refl);
}

pub Reads-led : {L A : Type 0} {first : List ℕ → Read L} {tl : L → List ℕ} {vl : L → Bool} {next : L → List ℕ → Read A} {lead : A → L} {text : A → List ℕ} {valid : A → Bool}
    → Reads first tl vl → Follows next lead text valid → Reads (led first next) (λ x. tl (lead x) ++ text x) (λ x. vl (lead x) && valid x)
Reads-led {L} {A} {first} {tl} {vl} {next} {lead} {text} {valid} p q = record {
  takes = λ bytes x rest fits e.
      let a = bind_some (first bytes) (λ a. next a.0 a.1) (x, rest) e in
      let s = p.takes bytes a.0.0 a.0.1 fits a.1 in
      let t = q.takes a.0.0 a.0.1 x rest s.0.rest_fits a.2 in
      subst (λ (l : L). Takes bytes (tl l ++ text x) rest × ((vl l && valid x) ≡ true)) (sym t.2)
      (Takes-then bytes (tl a.0.0) a.0.1 (text x) rest s.0 t.0, and_from _ _ s.1 t.1);
  again = λ x rest h.
      let parts = and_parts (vl (lead x)) (valid x) h in
      ap (led first next) (append_assoc (tl (lead x)) (text x) rest)
      ∙ rw (p.again (lead x) (text x ++ rest) parts.0) (q.again x rest parts.1);
}

-- ---- bytes

abbrev pub itself : List ℕ → List ℕ
itself bytes = bytes

pub bytes_follow : Follows bytes_at length itself (λ _. true)
unfolding bytes_at
bytes_follow = record {
  takes = λ n bytes x rest fits e.
      let long : (b : Bool) (y : List ℕ × List ℕ) → cond b None (Some y) ≡ Some (x, rest) → (b ≡ false) × (y ≡ (x, rest)) = λ b y. elim b as (λ b. cond b None (Some y) ≡ Some (x, rest) → (b ≡ false) × (y ≡ (x, rest))) [ true ↦ (λ h. absurd cc) | false ↦ (λ h. (refl, cc)) ] in
      let g = long (ltb (length bytes) n) (take n bytes, drop n bytes) e in
      let le : n ≤ length bytes = ltb-false _ _ g.0 in
      let split : Takes bytes (take n bytes) (drop n bytes) = record { parts = sym (take-append-drop n bytes); rest_fits = IsBytes-drop n bytes fits } in
      subst (λ (y : List ℕ × List ℕ). Takes bytes y.0 y.1 × (true ≡ true) × (length y.0 ≡ n)) g.1
      (split, refl, omega (arith, length-take n bytes));
  again = λ x rest h.
      let long : ltb (length (x ++ rest)) (length x) ≡ false = le-ltb _ _ (omega (arith, length-append x rest)) in
      rw (long, take_at x rest (length x) refl, drop_at x rest (length x) refl) refl;
}

byte_takes : (bytes : List ℕ) (x : ℕ) (rest : List ℕ) → IsBytes bytes → byte_at bytes ≡ Some (x, rest) → Takes bytes (byte_text x) rest × (true ≡ true)
unfolding byte_at
byte_takes [] x rest fits e = absurd cc
byte_takes (b ∷ bytes) x rest fits e =
    subst (λ (y : ℕ × List ℕ). Takes (b ∷ bytes) (byte_text y.0) y.1 × (true ≡ true)) (some_is (b, bytes) (x, rest) e)
    (record { parts = refl; rest_fits = IsBytes-rest b bytes fits }, refl)

byte_again : (n : ℕ) (rest : List ℕ) → byte_at (byte_text n ++ rest) ≡ Some (n, rest)
unfolding byte_at
byte_again n rest = refl

pub byte_reads : Reads byte_at byte_text (λ _. true)
byte_reads = record { takes = byte_takes; again = λ x rest h. byte_again x rest }

-- a value that one byte stands for
pub Reads-coded : {X : Type 0} (code : X → ℕ) (value_of : ℕ → Option X) → ((x : X) → value_of (code x) ≡ Some x)
    → ((n : ℕ) (x : X) → value_of n ≡ Some x → n ≡ code x) → Reads (coded_at value_of) (λ x. byte_text (code x)) (λ _. true)
unfolding coded_at
Reads-coded {X} code value_of back forth = record {
  takes = λ bytes x rest fits e.
      let a = bind_some (byte_at bytes) (λ b. value_of b.0 >>= (λ x. Some (x, b.1))) (x, rest) e in
      let b = bind_some (value_of a.0.0) (λ x. Some (x, a.0.1)) (x, rest) a.2 in
      let s = byte_reads.takes bytes a.0.0 a.0.1 fits a.1 in
      let is : a.0.0 ≡ code b.0 = forth a.0.0 b.0 b.1 in
      let made : X × List ℕ = (b.0, a.0.1) in
      subst (λ (y : X × List ℕ). Takes bytes (byte_text (code y.0)) y.1 × (true ≡ true)) (some_is made (x, rest) b.2)
      (subst (λ (n : ℕ). Takes bytes (byte_text n) a.0.1) is s.0, refl);
  again = λ x rest h. rw (byte_again (code x) rest) (rw (back x) refl);
}

-- so many values
times_take : {X : Type 0} {reader : List ℕ → Read X} {text : X → List ℕ} {valid : X → Bool} → Reads reader text valid
    → (n : ℕ) (bytes : List ℕ) (xs : List X) (rest : List ℕ) → IsBytes bytes → times_at reader n bytes ≡ Some (xs, rest)
    → Takes bytes (flat_map text xs) rest × (list_all valid xs ≡ true) × (length xs ≡ n)
unfolding times_at
times_take {X} {reader} {text} {valid} p zero bytes xs rest fits e =
    let made : List X × List ℕ = ([], bytes) in
    subst (λ (y : List X × List ℕ). Takes bytes (flat_map text y.0) y.1 × (list_all valid y.0 ≡ true) × (length y.0 ≡ 0))
    (some_is made (xs, rest) e) (record { parts = refl; rest_fits = fits }, refl, refl)
times_take {X} {reader} {text} {valid} p (suc n) bytes xs rest fits e =
    let a = bind_some (reader bytes) (λ first. times_at reader n first.1 >>= (λ others. Some (first.0 ∷ others.0, others.1))) (xs, rest) e in
    let b = bind_some (times_at reader n a.0.1) (λ others. Some (a.0.0 ∷ others.0, others.1)) (xs, rest) a.2 in
    let s = p.takes bytes a.0.0 a.0.1 fits a.1 in
    let t = times_take p n a.0.1 b.0.0 b.0.1 s.0.rest_fits b.1 in
    let made : List X × List ℕ = (a.0.0 ∷ b.0.0, b.0.1) in
    subst (λ (y : List X × List ℕ). Takes bytes (flat_map text y.0) y.1 × (list_all valid y.0 ≡ true) × (length y.0 ≡ suc n))
    (some_is made (xs, rest) b.2)
    (rw flat_map-cons (Takes-then bytes (text a.0.0) a.0.1 (flat_map text b.0.0) b.0.1 s.0 t.0), and_from _ _ s.1 t.1, ap suc t.2)

times_again : {X : Type 0} {reader : List ℕ → Read X} {text : X → List ℕ} {valid : X → Bool} → Reads reader text valid
    → (xs : List X) (rest : List ℕ) → list_all valid xs ≡ true → times_at reader (length xs) (flat_map text xs ++ rest) ≡ Some (xs, rest)
unfolding times_at
times_again p [] rest h = refl
times_again {X} {reader} {text} {valid} p (x ∷ xs) rest h =
    let parts = and_parts (valid x) (list_all valid xs) h in
    let regrouped : flat_map text (x ∷ xs) ++ rest ≡ text x ++ (flat_map text xs ++ rest) = ap (λ (w : List ℕ). w ++ rest) (flat_map-cons text x xs) ∙ append_assoc (text x) (flat_map text xs) rest in
    ap (times_at reader (suc (length xs))) regrouped ∙ rw (p.again x (flat_map text xs ++ rest) parts.0) (rw (times_again p xs rest parts.1) refl)

pub times_follow : {X : Type 0} {reader : List ℕ → Read X} {text : X → List ℕ} {valid : X → Bool}
    → Reads reader text valid → Follows (times_at reader) length (flat_map text) (list_all valid)
times_follow p = record { takes = times_take p; again = times_again p }
