-- What `id_of` gives in each case, and the four forms.
use Rattle.std.proofs.Common.{Bool, List, None, Option, Some, [], ap, arith, drop, false, length, map, refl, slice_index, sym, take, true, ℕ, if◌then◌else◌, ◌%◌, ◌++◌, ◌/◌, ◌==◌, ◌∙◌, ◌≡◌, ◌∷◌}
use Rattle.std.proofs.lemmas.List.{get_or_default}
use Rattle.gt_values.specs.IdText.{digit_of, digits_of, hyphenated, id_of, opens_otherwise, small, unless}
use Rattle.uuid.proofs.TextLemmas.{by_index_same}
use Rattle.uuid.specs.Text.{by_index, digit_place, hyphen_place, is_hyphen_place, parsed, parsed_hyphenated, parsed_simple}

pub refused : (s : List ℕ) → opens_otherwise s ≡ true → id_of s ≡ None
unfolding id_of
refused s e = ap (λ (b : Bool). unless b (parsed s)) e

pub read_by_uuid : (s : List ℕ) → opens_otherwise s ≡ false → id_of s ≡ parsed s
unfolding id_of
read_by_uuid s e = ap (λ (b : Bool). unless b (parsed s)) e

shorter : (s : List ℕ) → length s ≡ 36 → opens_otherwise s ≡ false
shorter s long = rw long refl

pub printed_reads : (id t : List ℕ) → length t ≡ 36 → Some id ≡ parsed t → id_of t ≡ Some id
printed_reads id t long reads = read_by_uuid t (shorter t long) ∙ sym reads

-- an option of which no value is known
pub no_value : (o : Option (List ℕ)) → ((x : List ℕ) × (o ≡ Some x) → ⊥) → None ≡ o
no_value None h = refl
no_value (Some x) h = absurd (h (x, refl))

-- ---- digits

-- a list by its places
pub by_places : (xs : List ℕ) (n : ℕ) → length xs ≡ n → xs ≡ by_index n (slice_index xs)
by_places xs n len = by_index_same xs n (slice_index xs) len (λ k d h. get_or_default xs k d 0 (omega arith))

-- the digits of sixteen bytes, by their places
unfoldable pub half : (ℕ → ℕ) → ℕ → ℕ
half f k = if k % 2 == 0 then f (k / 2) / 16 else f (k / 2) % 16

pub digits_by_place : (f : ℕ → ℕ) → digits_of (by_index 16 f) ≡ by_index 32 (λ k. digit_of (half f k))
unfolding by_index half
digits_by_place f = refl

pub small_by_place : (f : ℕ → ℕ) → map small (by_index 32 f) ≡ by_index 32 (λ k. small (f k))
unfolding by_index
small_by_place f = refl

-- the thirty-two digits of the hyphenated form
pub ungrouped : (f : ℕ → ℕ) → f 8 ≡ 45 → f 13 ≡ 45 → f 18 ≡ 45 → f 23 ≡ 45
    → by_index 36 f ≡ hyphenated (by_index 32 (λ i. f (hyphen_place i)))
unfolding by_index
ungrouped f a b c d = rw (a, b, c, d) refl

pub grouped_parses : (f : ℕ → ℕ) → parsed_hyphenated (hyphenated (by_index 32 f)) ≡ parsed_simple (by_index 32 f)
unfolding by_index
grouped_parses f = refl

pub length_grouped : (f : ℕ → ℕ) → length (hyphenated (by_index 32 f)) ≡ 36
unfolding by_index
length_grouped f = refl

pub unbraced : (f : ℕ → ℕ) → f 0 ≡ 123 → f 37 ≡ 125 → by_index 38 f ≡ 123 ∷ take 36 (drop 1 (by_index 38 f)) ++ 125 ∷ []
unfolding by_index
unbraced f a b = rw (a, b) refl

-- digits in groups, by their places
pub regrouped : (f : ℕ → ℕ) → hyphenated (by_index 32 f) ≡ by_index 36 (λ k. if is_hyphen_place k then 45 else f (digit_place k))
unfolding by_index
regrouped f = refl
