-- A text stands for an identifier exactly where it writes it in one of the four forms.
use Rattle.std.proofs.Common.{All, Bool, List, None, Option, Some, [], ap, arith, drop, false, get_or, inl, inr, is_some, length, length-append, map, nat_eq, not, refl, slice_index, subst, suc, sym, take, true, true≢false, unwrap_or, zero, ℕ, if◌then◌else◌, ◌%◌, ◌&&◌, ◌*◌, ◌+◌, ◌++◌, ◌/◌, ◌<◌, ◌==◌, ◌∙◌, ◌≡◌, ◌⊎◌, ◌∷◌}
use Rattle.std.proofs.lemmas.Bool.Decides.{Decides-eqb, nat_tests}
use Rattle.std.proofs.lemmas.Slice.Eq.{starts_is}
use Rattle.std.proofs.lemmas.Bool.{cases_lt, eqb-true}
use Rattle.std.proofs.lemmas.List.{get_or_default, get_or_push, length-map, take_at, drop_at}
use Rattle.std.specs.List.{list_all, starts_with}
use Rattle.std.specs.Str.{str_eq_ignore_ascii_case}
use Rattle.gt_values.proofs.IdLemmas.{printed_reads, read_by_uuid, refused, by_places, digits_by_place, grouped_parses, half, length_grouped, regrouped, small_by_place, unbraced, ungrouped}
use Rattle.gt_values.specs.IdText.{Writes, digit_of, digits_of, hyphenated, id_of, opens_otherwise, printed_id, small, urn}
use Rattle.uuid.proofs.TextLemmas.{all_fit, by_index_at, by_index_cong, by_index_length, simple_some}
use Rattle.uuid.specs.Text as uuid
use Rattle.uuid.specs.Text.{by_index, byte_of_digits, digit_place, has_hyphens, has_urn_prefix, hex_digit, hyphen_place, hyphenated_text, is_hex_digit, is_hyphen_place, lower, nibble, parsed, parsed_braced, parsed_hyphenated, parsed_simple, parsed_urn, value_of}

-- thirty-two digits that spell sixteen bytes
pub record Spells (digits id : List ℕ) : Type 0 where
  pub long : length digits ≡ 32
  pub sixteen : length id ≡ 16
  pub bytes : All (λ byte. byte < 256) id
  pub spelled : map small digits ≡ digits_of id

digit_small : (c : ℕ) → is_hex_digit c ≡ true → (small c ≡ digit_of (value_of c)) × (value_of c < 16)
digit_small c h = (grind (arith, nat_tests), grind (arith, nat_tests))

small_digit : (c v : ℕ) → v < 16 → small c ≡ digit_of v → (is_hex_digit c ≡ true) × (value_of c ≡ v)
small_digit c v h e = (grind (arith, nat_tests), grind (arith, nat_tests))

-- ---- from the reader to the form

some_if : (b : Bool) (x y : List ℕ) → (if b then Some x else None) ≡ Some y → (b ≡ true) × (x ≡ y)
some_if true x y e = (refl, ap (λ (o : Option (List ℕ)). unwrap_or o []) e)
some_if false x y e = absurd (true≢false (sym (ap is_some e)))

guarded : (b : Bool) (x : Option (List ℕ)) (y : List ℕ) → (if b then x else None) ≡ Some y → (b ≡ true) × (x ≡ Some y)
guarded true x y e = (refl, e)
guarded false x y e = absurd (true≢false (sym (ap is_some e)))

either : (b : Bool) (x z : Option (List ℕ)) (y : List ℕ) → (if b then x else z) ≡ Some y
    → ((b ≡ true) × (x ≡ Some y)) ⊎ ((b ≡ false) × (z ≡ Some y))
either true x z y e = inl (refl, e)
either false x z y e = inr (refl, e)

both : (a b : Bool) → (a && b) ≡ true → (a ≡ true) × (b ≡ true)
both true b e = (refl, e)
both false b e = absurd (true≢false (sym e))

all_at : (p : ℕ → Bool) (xs : List ℕ) (k : ℕ) → list_all p xs ≡ true → k < length xs → p (get_or xs k 0) ≡ true
all_at p [] k e h = absurd (omega arith)
all_at p (x ∷ xs) zero e h = (both (p x) (list_all p xs) e).0
all_at p (x ∷ xs) (suc k) e h = all_at p xs k (both (p x) (list_all p xs) e).1 (omega arith)

high : (a b : ℕ) → b < 16 → (a * 16 + b) / 16 ≡ a
high a b h = omega arith

low : (a b : ℕ) → b < 16 → (a * 16 + b) % 16 ≡ b
low a b h = omega arith

byte_fits : (a b : ℕ) → a < 16 → b < 16 → a * 16 + b < 256
byte_fits a b g h = omega arith

half_even : (f : ℕ → ℕ) (i : ℕ) → half f (2 * i) ≡ f i / 16
unfolding half
half_even f i =
    let even : (2 * i) % 2 ≡ 0 = omega arith in
    let place : 2 * i / 2 ≡ i = omega arith in
    rw (even, place) refl

half_odd : (f : ℕ → ℕ) (i : ℕ) → half f (2 * i + 1) ≡ f i % 16
unfolding half
half_odd f i =
    let odd : (2 * i + 1) % 2 ≡ 1 = omega arith in
    let place : (2 * i + 1) / 2 ≡ i = omega arith in
    rw (odd, place) refl

-- what holds at each even place and at each odd one
by_parity : (P : ℕ → Type 0) (k : ℕ) → P (2 * (k / 2)) → P (2 * (k / 2) + 1) → P k
by_parity P k even odd =
    elim (cases_lt (k % 2) 1) [
      | inl h ↦ let is : 2 * (k / 2) ≡ k = omega arith in subst P is even
      | inr h ↦ let is : 2 * (k / 2) + 1 ≡ k = omega arith in subst P is odd
    ]

-- the halves of bytes that were made of halves
halves : (v : ℕ → ℕ) → ((k : ℕ) → k < 32 → v k < 16) → (k : ℕ) → k < 32 → half (λ j. v (2 * j) * 16 + v (2 * j + 1)) k ≡ v k
halves v less k h =
    let f : ℕ → ℕ = λ j. v (2 * j) * 16 + v (2 * j + 1) in
    let P : ℕ → Type 0 = λ j. j < 32 → half f j ≡ v j in
    by_parity P k
    (λ w. half_even f (k / 2) ∙ high (v (2 * (k / 2))) (v (2 * (k / 2) + 1)) (less (2 * (k / 2) + 1) (omega arith)))
    (λ w. half_odd f (k / 2) ∙ low (v (2 * (k / 2))) (v (2 * (k / 2) + 1)) (less (2 * (k / 2) + 1) w))
    h

-- bytes that were made of halves fit
bytes_fit : (v : ℕ → ℕ) → ((k : ℕ) → k < 32 → v k < 16) → All (λ byte. byte < 256) (by_index 16 (λ j. v (2 * j) * 16 + v (2 * j + 1)))
bytes_fit v less =
    let f : ℕ → ℕ = λ j. v (2 * j) * 16 + v (2 * j + 1) in
    all_fit (by_index 16 f) (λ k h.
    let within : k < 16 = rw (by_index_length 16 f) at h in
    rw (by_index_at 16 f k 0 within)
    (byte_fits (v (2 * k)) (v (2 * k + 1)) (less (2 * k) (omega arith)) (less (2 * k + 1) (omega arith))))

value : List ℕ → ℕ → ℕ
value hex k = value_of (get_or hex k 0)

bytes_are : (hex : List ℕ) → by_index 16 (byte_of_digits hex) ≡ by_index 16 (λ j. value hex (2 * j) * 16 + value hex (2 * j + 1))
unfolding value
bytes_are hex = refl

digits_are : (hex : List ℕ) (k : ℕ) → is_hex_digit (get_or hex k 0) ≡ true
    → (small (slice_index hex k) ≡ digit_of (value hex k)) × (value hex k < 16)
unfolding value
digits_are hex k h = digit_small (get_or hex k 0) h

spells : (hex id : List ℕ) → parsed_simple hex ≡ Some id → Spells hex id
spells hex id e =
    let test = some_if ((length hex == 32) && list_all is_hex_digit hex) (by_index 16 (byte_of_digits hex)) id e in
    let parts = both (length hex == 32) (list_all is_hex_digit hex) test.0 in
    let long : length hex ≡ 32 = eqb-true (length hex) 32 parts.0 in
    let v : ℕ → ℕ = value hex in
    let f : ℕ → ℕ = λ j. v (2 * j) * 16 + v (2 * j + 1) in
    let is : by_index 16 f ≡ id = sym (bytes_are hex) ∙ test.1 in
    let at = λ (k : ℕ) (h : k < 32). digits_are hex k (all_at is_hex_digit hex k parts.1 (omega arith)) in
    let less : (k : ℕ) → k < 32 → v k < 16 = λ k h. (at k h).1 in
    let lower : (k : ℕ) → k < 32 → small (slice_index hex k) ≡ digit_of (half f k) =
    λ k h. (at k h).0 ∙ ap digit_of (sym (halves v less k h)) in
    record {
      long = long;
      sixteen = ap (length {A = ℕ}) (sym is) ∙ by_index_length 16 f;
      bytes = subst (All (λ byte. byte < 256)) is (bytes_fit v less);
      spelled =
          ap (map small) (by_places hex 32 long) ∙ small_by_place (slice_index hex)
          ∙ by_index_cong 32 (λ k. small (slice_index hex k)) (λ k. digit_of (half f k)) lower
          ∙ sym (digits_by_place f) ∙ ap digits_of is;
    }

-- a text of the hyphenated form
ungroups : (s id : List ℕ) → parsed_hyphenated s ≡ Some id → (d : List ℕ) × (s ≡ hyphenated d) × Spells d id
ungroups s id e =
    let f = slice_index s in
    let test = guarded ((length s == 36) && has_hyphens s) (parsed_simple (uuid.digits_of s)) id e in
    let parts = both (length s == 36) (has_hyphens s) test.0 in
    let three = both ((f 8 == 45) && (f 13 == 45) && (f 18 == 45)) (f 23 == 45) parts.1 in
    let two = both ((f 8 == 45) && (f 13 == 45)) (f 18 == 45) three.0 in
    let one = both (f 8 == 45) (f 13 == 45) two.0 in (
      uuid.digits_of s,
      by_places s 36 (eqb-true (length s) 36 parts.0)
          ∙ ungrouped f (eqb-true (f 8) 45 one.0) (eqb-true (f 13) 45 one.1) (eqb-true (f 18) 45 two.1) (eqb-true (f 23) 45 three.1),
      spells (uuid.digits_of s) id test.1,
    )

unbraces : (s id : List ℕ) → parsed_braced s ≡ Some id
    → (d : List ℕ) × (s ≡ 123 ∷ hyphenated d ++ 125 ∷ []) × Spells d id
unbraces s id e =
    let f = slice_index s in
    let test = guarded ((length s == 38) && (f 0 == 123) && (f 37 == 125)) (parsed_hyphenated (take 36 (drop 1 s))) id e in
    let two = both ((length s == 38) && (f 0 == 123)) (f 37 == 125) test.0 in
    let one = both (length s == 38) (f 0 == 123) two.0 in
    let inner = ungroups (take 36 (drop 1 s)) id test.1 in
    let places : s ≡ by_index 38 f = by_places s 38 (eqb-true (length s) 38 one.0) in
    let P : List ℕ → Type 0 = λ l. l ≡ 123 ∷ take 36 (drop 1 l) ++ 125 ∷ [] in
    let whole : P s = subst P (sym places) (unbraced f (eqb-true (f 0) 123 one.1) (eqb-true (f 37) 125 two.1)) in
    (inner.0, whole ∙ ap (λ (l : List ℕ). 123 ∷ l ++ 125 ∷ []) inner.1, inner.2)

-- a text of the length of a URN that begins as it does
begins : (s : List ℕ) → length s ≡ 45 → opens_otherwise s ≡ false → s ≡ urn ++ drop 9 s
begins s long e =
    (starts_is Decides-eqb s urn (starts_with nat_eq s urn) refl).0 (told (starts_with nat_eq s urn) (rw long at e))
  where
    told : (b : Bool) → not b ≡ false → b ≡ true
    told true h = refl
    told false h = absurd (true≢false h)

un_urn : (s id : List ℕ) → opens_otherwise s ≡ false → parsed_urn s ≡ Some id
    → (d : List ℕ) × (s ≡ urn ++ hyphenated d) × Spells d id
un_urn s id opens e =
    let test = guarded ((length s == 45) && has_urn_prefix s) (parsed_hyphenated (drop 9 s)) id e in
    let parts = both (length s == 45) (has_urn_prefix s) test.0 in
    let inner = ungroups (drop 9 s) id test.1 in
    (inner.0, begins s (eqb-true (length s) 45 parts.0) opens ∙ ap (λ (l : List ℕ). urn ++ l) inner.1, inner.2)

with_form : (s id d : List ℕ) → Spells d id
    → (s ≡ hyphenated d) ⊎ (s ≡ d) ⊎ (s ≡ 123 ∷ hyphenated d ++ 125 ∷ []) ⊎ (s ≡ urn ++ hyphenated d) → Writes s id
with_form s id d spelt form =
    record { sixteen = spelt.sixteen; bytes = spelt.bytes; digits = d; spelled = spelt.spelled; form = form }

parsed_writes : (s id : List ℕ) → opens_otherwise s ≡ false → parsed s ≡ Some id → Writes s id
parsed_writes s id opens e =
    elim (either (length s == 32) (parsed_simple s) _ id e) [
      | inl plain ↦ with_form s id s (spells s id plain.1) (inr (inl refl))
      | inr e2 ↦ elim (either (length s == 36) (parsed_hyphenated s) _ id e2.1) [
        | inl found ↦ let d = ungroups s id found.1 in with_form s id d.0 d.2 (inl d.1)
        | inr e3 ↦ elim (either (length s == 38) (parsed_braced s) _ id e3.1) [
          | inl found ↦ let d = unbraces s id found.1 in with_form s id d.0 d.2 (inr (inr (inl d.1)))
          | inr e4 ↦
              let test = guarded (length s == 45) (parsed_urn s) id e4.1 in
              let d = un_urn s id opens test.1 in
              with_form s id d.0 d.2 (inr (inr (inr d.1)))
        ]
      ]
    ]

pub stands_writes : (s id : List ℕ) → id_of s ≡ Some id → Writes s id
stands_writes s id e = by_test (opens_otherwise s) refl
  where
    by_test : (b : Bool) → opens_otherwise s ≡ b → Writes s id
    by_test true is = absurd (true≢false (sym (ap is_some (sym (refused s is) ∙ e))))
    by_test false is = parsed_writes s id is (sym (read_by_uuid s is) ∙ e)

-- ---- from the form to the reader

half_small : (id : List ℕ) → length id ≡ 16 → All (λ byte. byte < 256) id → (k : ℕ) → k < 32 → half (slice_index id) k < 16
half_small id len bytes k h =
    let f = slice_index id in
    let P : ℕ → Type 0 = λ j. j < 32 → half f j < 16 in
    let byte : (j : ℕ) → j < 16 → f j < 256 = λ j w. bytes j 0 (omega arith) in
    by_parity P k
    (λ w. rw (half_even f (k / 2)) (sixteenth (f (k / 2)) (byte (k / 2) (omega arith))))
    (λ w. rw (half_odd f (k / 2)) (omega arith))
    h
  where
    sixteenth : (b : ℕ) → b < 256 → b / 16 < 16
    sixteenth b h = omega arith

digits_at : (d id : List ℕ) (k : ℕ) → Spells d id → k < 32
    → (is_hex_digit (get_or d k 0) ≡ true) × (value d k ≡ half (slice_index id) k)
unfolding value
digits_at d id k s h =
    let f = slice_index d in
    let g : ℕ → ℕ = λ j. digit_of (half (slice_index id) j) in
    let lists : by_index 32 (λ j. small (f j)) ≡ by_index 32 g =
    sym (small_by_place f) ∙ ap (map small) (sym (by_places d 32 s.long)) ∙ s.spelled
    ∙ ap digits_of (by_places id 16 s.sixteen) ∙ digits_by_place (slice_index id) in
    let same : small (f k) ≡ g k =
    sym (by_index_at 32 (λ j. small (f j)) k 0 h) ∙ ap (λ (l : List ℕ). get_or l k 0) lists ∙ by_index_at 32 g k 0 h in
    small_digit (f k) (half (slice_index id) k) (half_small id s.sixteen s.bytes k h) same

two_halves : (b : ℕ) → b ≡ b / 16 * 16 + b % 16
two_halves b = omega arith

byte_from : (d : List ℕ) (i : ℕ) → byte_of_digits d i ≡ value d (2 * i) * 16 + value d (2 * i + 1)
unfolding value
byte_from d i = refl

simple_reads : (d id : List ℕ) → Spells d id → parsed_simple d ≡ Some id
simple_reads d id s =
    let f = slice_index id in
    sym (simple_some d id s.long s.sixteen (λ k h. (digits_at d id k s h).0)
    (λ i e h.
    let first = (digits_at d id (2 * i) s (omega arith)).1 ∙ half_even f i in
    let second = (digits_at d id (2 * i + 1) s (omega arith)).1 ∙ half_odd f i in
    get_or_default id i e 0 (omega (arith, s.sixteen)) ∙ two_halves (f i)
    ∙ sym (byte_from d i ∙ rw (first, second) refl)))

-- thirty-two digits in groups
in_groups : (d : List ℕ) → length d ≡ 32 → (length (hyphenated d) ≡ 36) × (parsed_hyphenated (hyphenated d) ≡ parsed_simple d)
in_groups d long =
    let P : List ℕ → Type 0 = λ l. (length (hyphenated l) ≡ 36) × (parsed_hyphenated (hyphenated l) ≡ parsed_simple l) in
    subst P (sym (by_places d 32 long)) (length_grouped (slice_index d), grouped_parses (slice_index d))

at_32 : (s : List ℕ) → length s ≡ 32 → (opens_otherwise s ≡ false) × (parsed s ≡ parsed_simple s)
at_32 s len = (rw len refl, rw len refl)

at_36 : (s : List ℕ) → length s ≡ 36 → (opens_otherwise s ≡ false) × (parsed s ≡ parsed_hyphenated s)
at_36 s len = (rw len refl, rw len refl)

at_38 : (s : List ℕ) → length s ≡ 38 → slice_index s 0 ≡ 123 → slice_index s 37 ≡ 125
    → (opens_otherwise s ≡ false) × (parsed s ≡ parsed_hyphenated (take 36 (drop 1 s)))
at_38 s len first last = (rw len refl, rw (len, first, last) refl)

at_45 : (s : List ℕ) → length s ≡ 45 → starts_with nat_eq s urn ≡ true → has_urn_prefix s ≡ true
    → (opens_otherwise s ≡ false) × (parsed s ≡ parsed_hyphenated (drop 9 s))
at_45 s len opens prefix = (rw (len, opens) refl, rw (len, prefix) refl)

read_as : (s id : List ℕ) (p : Option (List ℕ)) → (opens_otherwise s ≡ false) × (parsed s ≡ p) → p ≡ Some id → id_of s ≡ Some id
read_as s id p at e = read_by_uuid s at.0 ∙ at.1 ∙ e

grouped_reads : (d id : List ℕ) → Spells d id → parsed_hyphenated (hyphenated d) ≡ Some id
grouped_reads d id s = (in_groups d s.long).1 ∙ simple_reads d id s

braced_reads : (d id : List ℕ) → Spells d id → id_of (123 ∷ hyphenated d ++ 125 ∷ []) ≡ Some id
braced_reads d id s =
    let text = hyphenated d in
    let long : length text ≡ 36 = (in_groups d s.long).0 in
    let whole : length (123 ∷ text ++ 125 ∷ []) ≡ 38 = omega (arith, length-append text (125 ∷ [])) in
    let last : slice_index (123 ∷ text ++ 125 ∷ []) 37 ≡ 125 = get_or_push text 125 0 36 long in
    let inner : take 36 (drop 1 (123 ∷ text ++ 125 ∷ [])) ≡ text = take_at text (125 ∷ []) 36 long in
    read_as (123 ∷ text ++ 125 ∷ []) id _ (at_38 (123 ∷ text ++ 125 ∷ []) whole refl last)
    (ap parsed_hyphenated inner ∙ grouped_reads d id s)

urn_reads : (d id : List ℕ) → Spells d id → id_of (urn ++ hyphenated d) ≡ Some id
urn_reads d id s =
    let text = hyphenated d in
    let whole : length (urn ++ text) ≡ 45 = omega (arith, length-append urn text, (in_groups d s.long).0) in
    let start : take 9 (urn ++ text) ≡ urn = take_at urn text 9 refl in
    let rest : drop 9 (urn ++ text) ≡ text = drop_at urn text 9 refl in
    let opens : starts_with nat_eq (urn ++ text) urn ≡ true = (starts_is Decides-eqb (urn ++ text) urn _ refl).1 text refl in
    let prefix : has_urn_prefix (urn ++ text) ≡ true = ap (λ (l : List ℕ). str_eq_ignore_ascii_case l urn) start in
    read_as (urn ++ text) id _ (at_45 (urn ++ text) whole opens prefix) (ap parsed_hyphenated rest ∙ grouped_reads d id s)

pub writes_stands : (s id : List ℕ) → Writes s id → id_of s ≡ Some id
writes_stands s id w =
    let len : length w.digits ≡ 32 =
    sym (length-map w.digits small) ∙ ap (length {A = ℕ}) w.spelled
    ∙ ap (λ (l : List ℕ). length (digits_of l)) (by_places id 16 w.sixteen)
    ∙ ap (length {A = ℕ}) (digits_by_place (slice_index id)) ∙ by_index_length 32 (λ k. digit_of (half (slice_index id) k)) in
    let d : Spells w.digits id = record { long = len; sixteen = w.sixteen; bytes = w.bytes; spelled = w.spelled } in
    elim w.form [
      | inl e ↦ ap id_of e ∙ read_as (hyphenated w.digits) id _ (at_36 (hyphenated w.digits) (in_groups w.digits len).0) (grouped_reads w.digits id d)
      | inr e2 ↦ elim e2 [
        | inl e ↦ ap id_of e ∙ read_as w.digits id _ (at_32 w.digits len) (simple_reads w.digits id d)
        | inr e3 ↦ elim e3 [
          | inl e ↦ ap id_of e ∙ braced_reads w.digits id d
          | inr e ↦ ap id_of e ∙ urn_reads w.digits id d
        ]
      ]
    ]

-- ---- the printed text

same_half : (b : Bool) (x : ℕ) → x < 256 → (if b then x / 16 % 16 else x % 16) ≡ (if b then x / 16 else x % 16)
same_half true x h = omega arith
same_half false x h = refl

same_digit : (n : ℕ) → hex_digit lower n ≡ digit_of n
same_digit n = grind (arith, nat_tests)

under_if : (b : Bool) (x y : ℕ) → (b ≡ false → x ≡ y) → (if b then 45 else x) ≡ (if b then 45 else y)
under_if true x y e = refl
under_if false x y e = e refl

place_small : (k : ℕ) → k < 36 → digit_place k < 32
place_small k h = grind (arith, nat_tests)

same_nibble : (id : List ℕ) (j : ℕ) → slice_index id (j / 2) < 256 → nibble id j ≡ half (slice_index id) j
unfolding half
same_nibble id j h = same_half (j % 2 == 0) (slice_index id (j / 2)) h

pub printed_is : (id : List ℕ) → length id ≡ 16 → All (λ byte. byte < 256) id → hyphenated_text lower id ≡ printed_id id
unfolding printed_id
printed_is id len bytes =
    let f = slice_index id in
    let g : ℕ → ℕ = λ j. digit_of (half f j) in
    let at : (j : ℕ) → j < 32 → hex_digit lower (nibble id j) ≡ g j =
    λ j h. same_digit (nibble id j) ∙ ap digit_of (same_nibble id j (bytes (j / 2) 0 (omega arith))) in
    by_index_cong 36 (λ k. if is_hyphen_place k then 45 else hex_digit lower (nibble id (digit_place k)))
    (λ k. if is_hyphen_place k then 45 else g (digit_place k))
    (λ k h. under_if (is_hyphen_place k) (hex_digit lower (nibble id (digit_place k))) (g (digit_place k)) (λ _. at (digit_place k) (place_small k h)))
    ∙ sym (regrouped g) ∙ ap hyphenated (sym (digits_by_place f)) ∙ ap (λ (l : List ℕ). hyphenated (digits_of l)) (sym (by_places id 16 len))

-- what was written hyphenated in lower case is the printed text, and reads back
pub prints : (id t : List ℕ) → t ≡ hyphenated_text lower id → Some id ≡ parsed t → (t ≡ printed_id id) × (id_of t ≡ Some id)
prints id t is reads =
    let back = printed_reads id t (ap (length {A = ℕ}) is ∙ by_index_length 36 _) reads in
    let w = stands_writes t id back in
    (is ∙ printed_is id w.sixteen w.bytes, back)
