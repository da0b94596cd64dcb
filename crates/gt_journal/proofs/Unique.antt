-- A file is records and a rest in one way.
use Rattle.std.proofs.Common.{◌≡◌, ◌⊎◌, inl, inr, ℕ, List, [], ◌∷◌, ◌++◌, length, take, drop, refl, sym, ◌∙◌, ap, arith, append_assoc, length-append, subst}
use Rattle.std.proofs.lemmas.List.{take_at, drop_at}
use Rattle.std.specs.List.{AllByRecursion}
use Rattle.std.specs.Int.{w64, from_be_bytes}
use Rattle.gt_journal.specs.JournalText.{frame, text, texts, Fits, IsTail, IsCutOff, IsJournalText, IsDamagedAfter}
use Rattle.gt_journal.proofs.Texts.{size_of, behind_header, length-frame}

-- no whole record stands at the front
abbrev pub NoRecord : List ℕ → Type 0
NoRecord rest = IsTail rest ⊎ IsCutOff rest

no_record : (body rest : List ℕ) → Fits body → NoRecord (text body ++ rest) → ⊥
no_record body rest fits (inl (inl short)) = omega (arith, short, length-append (text body) rest, length-frame body)
no_record body rest fits (inl (inr shut)) = shut refl
no_record body rest fits (inr cut) = omega (arith, cut.short, size_of body rest fits, length-append (text body) rest, length-frame body)

same_first : (a b x y : List ℕ) → Fits a → Fits b → text a ++ x ≡ text b ++ y → (a ≡ b) × (x ≡ y)
same_first a b x y fa fb same =
    let behind : frame a ++ x ≡ frame b ++ y = ap (λ (l : List ℕ). drop 1 l) same in
    let size : length a ≡ length b = sym (size_of a x fa) ∙ ap (λ (l : List ℕ). from_be_bytes w64 (take 8 l)) behind ∙ size_of b y fb in
    let rest : a ++ x ≡ b ++ y = sym (behind_header a x) ∙ ap (λ (l : List ℕ). drop 8 l) behind ∙ behind_header b y in (
      sym (take_at a x (length a) refl) ∙ ap (λ (l : List ℕ). take (length a) l) rest ∙ take_at b y (length a) (sym size),
      sym (drop_at a x (length a) refl) ∙ ap (λ (l : List ℕ). drop (length a) l) rest ∙ drop_at b y (length a) (sym size),
    )

pub unique : (xs ys : List (List ℕ)) (x y : List ℕ) → AllByRecursion Fits xs → AllByRecursion Fits ys → texts xs ++ x ≡ texts ys ++ y → NoRecord x → NoRecord y → (xs ≡ ys) × (x ≡ y)
unique [] [] x y fa fb same nx ny = (refl, same)
unique [] (b ∷ ys) x y fa fb same nx ny = absurd (no_record b (texts ys ++ y) fb.0 (subst NoRecord (same ∙ append_assoc (text b) (texts ys) y) nx))
unique (a ∷ xs) [] x y fa fb same nx ny = absurd (no_record a (texts xs ++ x) fa.0 (subst NoRecord (sym same ∙ append_assoc (text a) (texts xs) x) ny))
unique (a ∷ xs) (b ∷ ys) x y fa fb same nx ny =
    let first = same_first a b (texts xs ++ x) (texts ys ++ y) fa.0 fb.0 (sym (append_assoc (text a) (texts xs) x) ∙ same ∙ append_assoc (text b) (texts ys) y) in
    let others = unique xs ys x y fa.1 fb.1 first.1 nx ny in
    (ap (λ (c : List ℕ). c ∷ xs) first.0 ∙ ap (λ (cs : List (List ℕ)). b ∷ cs) others.0, others.1)

no_tail_cut : (rest : List ℕ) → IsTail rest → IsCutOff rest → ⊥
no_tail_cut rest (inl short) cut = omega (arith, short, cut.header)
no_tail_cut rest (inr shut) cut = shut cut.gate

pub one_list : (xs ys : List (List ℕ)) (file : List ℕ) → IsJournalText xs file → IsJournalText ys file → xs ≡ ys
one_list xs ys file a b = (unique xs ys a.tail b.tail a.fit b.fit (sym a.whole ∙ b.whole) (inl a.is_tail) (inl b.is_tail)).0

pub apart : (xs ys : List (List ℕ)) (file : List ℕ) → IsJournalText xs file → IsDamagedAfter ys file → ⊥
apart xs ys file a d =
    let same = unique xs ys a.tail d.rest a.fit d.fit (sym a.whole ∙ d.whole) (inl a.is_tail) (inr d.cut_off) in
    no_tail_cut d.rest (subst IsTail same.1 a.is_tail) d.cut_off

pub one_place : (xs ys : List (List ℕ)) (file : List ℕ) → IsDamagedAfter xs file → IsDamagedAfter ys file → xs ≡ ys
one_place xs ys file a b = (unique xs ys a.rest b.rest a.fit b.fit (sym a.whole ∙ b.whole) (inr a.cut_off) (inr b.cut_off)).0
