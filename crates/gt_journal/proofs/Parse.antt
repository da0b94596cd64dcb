-- One record more is read.
use Rattle.std.proofs.Common.{◌≡◌, inl, inr, ℕ, ◌+◌, ◌≤◌, List, [], ◌∷◌, ◌++◌, length, get_or, take, drop, refl, sym, ◌∙◌, ap, subst, append-nil, arith, append_assoc, length-take, length-drop}
use Rattle.std.proofs.lemmas.List.{drop_more, take_all, places}
use Rattle.std.proofs.lemmas.Nat.{be_bytes_8}
use Rattle.std.proofs.lemmas.Bool.{cases_lt}
use Rattle.std.specs.Int.{w64, to_be_bytes}
use Rattle.gt_journal.specs.JournalText.{frame, text, texts, Fits, IsBytes}
use Rattle.gt_journal.specs.Reading.{Reads, size_in}
use Rattle.gt_journal.proofs.Texts.{texts-push, all-push}

pub bytes_drop : (n : ℕ) (bytes : List ℕ) → IsBytes bytes → IsBytes (drop n bytes)
bytes_drop n bytes are i = grind (arith, places, are (n + i))

pub bytes_take : (n : ℕ) (bytes : List ℕ) → IsBytes bytes → IsBytes (take n bytes)
bytes_take n bytes are i = elim (cases_lt i n) [ inl low ↦ grind (arith, places, are i) | inr high ↦ grind (arith, places) ]

-- a header of bytes spells the length that it tells
pub spells : (header : List ℕ) (size : ℕ) → 9 ≤ length header → IsBytes header → size ≡ size_in header → to_be_bytes w64 size ≡ take 8 (drop 1 header)
spells header size long bytes is =
    let told = take 8 (drop 1 header) in
    be_bytes_8 told size (omega (arith, length-take 8 (drop 1 header), length-drop 1 header, long)) (bytes_take 8 (drop 1 header) (bytes_drop 1 header bytes)) is

-- a header with an open gate, and the body whose length it tells
pub whole_record : (header body : List ℕ) → length header ≡ 9 → get_or header 0 0 ≡ 1 → to_be_bytes w64 (length body) ≡ take 8 (drop 1 header) → header ++ body ≡ text body
unfolding frame
whole_record header body long gate spelled =
    let told = take 8 (drop 1 header) in
    let all : told ≡ drop 1 header = take_all 8 (drop 1 header) (omega (arith, length-drop 1 header, long)) in
    ap (λ (l : List ℕ). l ++ body) (drop_more header 0 0 (omega (arith, long)) ∙ ap (λ (g : ℕ). g ∷ drop 1 header) gate ∙ ap (λ (l : List ℕ). 1 ∷ l) (sym (spelled ∙ all)))

-- one body more
pub record_more : (file header body next : List ℕ) (bodies : List (List ℕ)) → Reads file bodies (header ++ (body ++ next)) → length header ≡ 9 → get_or header 0 0 ≡ 1 → to_be_bytes w64 (length body) ≡ take 8 (drop 1 header) → Fits body
    → Reads file (bodies ++ body ∷ []) next
record_more file header body next bodies reads long gate spelled fits = record {
  fit = all-push bodies body reads.fit fits;
  whole = reads.whole
      ∙ ap (λ (l : List ℕ). texts bodies ++ l) (sym (append_assoc header body next) ∙ ap (λ (l : List ℕ). l ++ next) (whole_record header body long gate spelled))
      ∙ sym (append_assoc (texts bodies) (text body) next)
      ∙ ap (λ (l : List ℕ). l ++ next) (sym (texts-push bodies body));
}

-- bytes more
pub bytes_more : (file bytes rest : List ℕ) (bodies : List (List ℕ)) → Reads file bodies rest → Reads (file ++ bytes) bodies (rest ++ bytes)
bytes_more file bytes rest bodies reads = record { fit = reads.fit; whole = ap (λ (l : List ℕ). l ++ bytes) reads.whole ∙ append_assoc (texts bodies) rest bytes }

-- a header more, and a body more
pub header_more : (header body part header' body' : List ℕ) → body ≡ [] → header' ≡ header ++ part → body' ≡ body → (header ++ body) ++ part ≡ header' ++ body'
header_more header body part header' body' none more same =
    append_assoc header body part
    ∙ ap (λ (l : List ℕ). header ++ (l ++ part)) none
    ∙ sym (append-nil (header ++ part))
    ∙ ap (λ (l : List ℕ). l ++ []) (sym more)
    ∙ ap (λ (l : List ℕ). header' ++ l) (sym (same ∙ none))

pub body_more : (header body part header' body' : List ℕ) → header' ≡ header → body' ≡ body ++ part → (header ++ body) ++ part ≡ header' ++ body'
body_more header body part header' body' same more = append_assoc header body part ∙ ap (λ (l : List ℕ). l ++ (body ++ part)) (sym same) ∙ ap (λ (l : List ℕ). header' ++ l) (sym more)

-- in other words for the same lists
pub reads_as : (file file' : List ℕ) (bodies bodies' : List (List ℕ)) (rest rest' : List ℕ) → file ≡ file' → bodies ≡ bodies' → rest ≡ rest' → Reads file bodies rest → Reads file' bodies' rest'
reads_as file file' bodies bodies' rest rest' same_file same_bodies same_rest reads =
    subst (λ (f : List ℕ). Reads f bodies' rest') same_file (subst (λ (bs : List (List ℕ)). Reads file bs rest') same_bodies (subst (λ (r : List ℕ). Reads file bodies r) same_rest reads))

pub is_nil : (xs : List ℕ) → length xs ≡ 0 → xs ≡ []
is_nil [] none = refl
is_nil (x ∷ xs) none = absurd (omega (arith, none))
