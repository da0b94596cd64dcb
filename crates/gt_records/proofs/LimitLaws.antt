-- What the limits of values say of their forms.
use Rattle.std.proofs.Common.{◌≡◌, ℕ, ◌*◌, ◌<◌, ◌≤◌, ◌^◌, Bool, true, false, ◌&&◌, cond, leb, ltb, List, [], ◌∷◌, length, Option, Some, None, refl, sym, subst, arith}
use Rattle.std.specs.Char.{len_utf8}
use Rattle.std.specs.List.{list_all}
use Rattle.std.specs.Str.{chars, encode_utf8_all, is_utf8}
use Rattle.std.proofs.lemmas.Bool.{and_from, and_parts, leb-true, lt-ltb}
use Rattle.std.proofs.lemmas.List.{length-append}
use Rattle.std.proofs.lemmas.Str.{IsUtf8-from_is_utf8, encodes-chars, length-encode}
use Rattle.std.specs.Prelude.{encode_utf8}
use Rattle.gt_types.specs.Forms.{is_label, is_pattern}
use Rattle.gt_values.specs.Forms.{if_there}

-- ---- booleans

pub same_answer : (a b : Bool) → (a ≡ true → b ≡ true) → (b ≡ true → a ≡ true) → a ≡ b
same_answer true true f g = refl
same_answer true false f g = sym (f refl)
same_answer false true f g = g refl
same_answer false false f g = refl

pub if_there-map : {X : Type 0} (p q : X → Bool) → ((x : X) → p x ≡ true → q x ≡ true) → (o : Option X) → if_there p o ≡ true → if_there q o ≡ true
if_there-map p q f None h = refl
if_there-map p q f (Some x) h = f x h

pub list_all-map : {X : Type 0} (p q : X → Bool) → ((x : X) → p x ≡ true → q x ≡ true) → (xs : List X) → list_all p xs ≡ true → list_all q xs ≡ true
list_all-map p q f [] h = refl
list_all-map p q f (x ∷ xs) h =
    let parts = and_parts (p x) (list_all p xs) h in
    and_from _ _ (f x parts.0) (list_all-map p q f xs parts.1)

pub list_all-both : {X : Type 0} (p q r : X → Bool) → ((x : X) → p x ≡ true → q x ≡ true → r x ≡ true) → (xs : List X) → list_all p xs ≡ true → list_all q xs ≡ true → list_all r xs ≡ true
list_all-both p q r f [] h k = refl
list_all-both p q r f (x ∷ xs) h k =
    let a = and_parts (p x) (list_all p xs) h in
    let b = and_parts (q x) (list_all q xs) k in
    and_from _ _ (f x a.0 b.0) (list_all-both p q r f xs a.1 b.1)

-- ---- texts

short_choice : (b : Bool) (x y : ℕ) → x ≤ 4 → y ≤ 4 → cond b x y ≤ 4
short_choice true x y h k = h
short_choice false x y h k = k

len_utf8-le : (c : ℕ) → len_utf8 c ≤ 4
len_utf8-le c = short_choice (ltb c 0x80) _ _ (omega arith) (short_choice (ltb c 0x800) _ _ (omega arith) (short_choice (ltb c 0x1_0000) _ _ (omega arith) (omega arith)))

length-encodes-le : (cs : List ℕ) → length (encode_utf8_all cs) ≤ 4 * length cs
length-encodes-le [] = omega arith
length-encodes-le (c ∷ cs) =
    omega (arith, length-append (encode_utf8 c) (encode_utf8_all cs), length-encode c, len_utf8-le c, length-encodes-le cs)

-- a character has at most four bytes
pub length-chars : (text : List ℕ) → is_utf8 text ≡ true → length text ≤ 4 * length (chars text)
length-chars text h =
    subst (λ (t : List ℕ). length t ≤ 4 * length (chars text)) (encodes-chars text (IsUtf8-from_is_utf8 text h)) (length-encodes-le (chars text))

-- a text whose length four bytes hold
abbrev pub is_string : List ℕ → Bool
is_string text = ltb (length text) (2 ^ 32) && is_utf8 text

pub label_is_string : (label : List ℕ) → is_label label ≡ true → is_string label ≡ true
label_is_string label h =
    let parts = and_parts (is_utf8 label) (leb (length (chars label)) 128) h in
    let short = leb-true (length (chars label)) 128 parts.1 in
    let bytes = length-chars label parts.0 in
    and_from _ _ (lt-ltb (length label) (2 ^ 32) (omega arith)) parts.0

pub pattern_is_string : (pattern : List ℕ) → is_pattern pattern ≡ true → is_string pattern ≡ true
pattern_is_string pattern h =
    let a = and_parts (is_utf8 pattern && leb 1 (length pattern)) (leb (length pattern) 255) h in
    let b = and_parts (is_utf8 pattern) (leb 1 (length pattern)) a.0 in
    let short = leb-true (length pattern) 255 a.1 in
    and_from _ _ (lt-ltb (length pattern) (2 ^ 32) (omega arith)) b.0

-- ---- lists

pub all_true : {X : Type 0} (xs : List X) → list_all (λ _. true) xs ≡ true
all_true [] = refl
all_true (x ∷ xs) = all_true xs

-- a list whose number four bytes hold
abbrev pub is_list : {X : Type 0} → (X → Bool) → List X → Bool
is_list valid xs = ltb (length xs) (2 ^ 32) && list_all valid xs

pub short_list : {X : Type 0} (valid : X → Bool) (most : ℕ) (xs : List X) → most < 2 ^ 32 → length xs ≤ most → list_all valid xs ≡ true → is_list valid xs ≡ true
short_list valid most xs small le h = and_from _ _ (lt-ltb (length xs) (2 ^ 32) (omega arith)) h
