-- What a script's text says of its lines: no further line, and one reading.
use Rattle.gt_setup.specs.Setup.{Setup}
use Rattle.std.proofs.Common.{List, [], ap, append-nil, append_assoc, arith, inl, inr, length, length-append, refl, subst, sym, ⊎_elim, ◌++◌, ◌+◌, ◌∙◌, ◌∷◌, ◌≡◌, ◌⊎◌, ℕ}
use Rattle.gt_script.proofs.LineTextLemmas.{one_text}
use Rattle.gt_script.specs.Reading.{BeginsNoLine, EndsWithLine}
use Rattle.gt_script.specs.Script.{EndsBehind, EndsWithNext, Reads, ScriptText}
use Rattle.gt_script.specs.declared.line.Line.{Line}

-- the text of the first of these lines, and what stands behind it
pub record Split (setup : Setup) (lines more : List Line) (text : List ℕ) : Type 0 where
  pub front : List ℕ
  pub back : List ℕ
  pub is_front : ScriptText setup lines front
  pub is_back : ScriptText setup more back
  pub whole : text ≡ front ++ back

module _ (setup : Setup) where
  pub split_text : (lines more : List Line) (text : List ℕ) → ScriptText setup (lines ++ more) text → Split setup lines more text
  split_text [] more text is = record { front = []; back = text; is_front = refl; is_back = is; whole = refl }
  split_text (line ∷ rest) more text (first, others, is, so_far, whole) =
      let s = split_text rest more others so_far in
      record {
        front = first ++ s.front;
        back = s.back;
        is_front = (first, s.front, is, s.is_front, refl);
        is_back = s.is_back;
        whole = whole ∙ ap (λ x. first ++ x) s.whole ∙ sym (append_assoc first s.front s.back);
      }

  -- the same, of a reading
  pub reads_front : (lines more : List Line) (bytes after : List ℕ) → Reads setup (lines ++ more) bytes after → (behind : List ℕ) × Reads setup lines bytes behind
  reads_front lines more bytes after reads =
      let s = split_text lines more reads.text reads.is_text in (
        s.back ++ after,
        record {
          text = s.front;
          is_text = s.is_front;
          whole = reads.whole ∙ ap (λ t. t ++ after) s.whole ∙ append_assoc s.front s.back after;
          fits = omega (arith, reads.fits, ap length s.whole, length-append s.front s.back);
        },
      )

  -- two texts at the front of the same bytes, as their first lines and what stands behind them
  behind_first : (u v s t x y front back : List ℕ) → s ≡ u ++ front → t ≡ v ++ back → s ++ x ≡ t ++ y → u ++ (front ++ x) ≡ v ++ (back ++ y)
  behind_first u v s t x y front back one two e =
      sym (append_assoc u front x) ∙ ap (λ z. z ++ x) (sym one) ∙ e ∙ ap (λ z. z ++ y) two ∙ append_assoc v back y

  -- the same lines have one text at the front of the same bytes
  pub same_texts : (lines : List Line) (s t x y : List ℕ) → ScriptText setup lines s → ScriptText setup lines t → s ++ x ≡ t ++ y → (s ≡ t) × (x ≡ y)
  same_texts [] s t x y one two e = (one ∙ sym two, ap (λ z. z ++ x) (sym one) ∙ e ∙ ap (λ z. z ++ y) two)
  same_texts (line ∷ rest) s t x y (u, front, is_u, one, whole_s) (v, back, is_v, two, whole_t) e =
      let first = one_text setup line line u v (front ++ x) (back ++ y) is_u is_v (behind_first u v s t x y front back whole_s whole_t e) in
      let (same, rests) = same_texts rest front back x y one two first.rest in
      (whole_s ∙ ap (λ z. z ++ front) first.text ∙ ap (λ z. v ++ z) same ∙ sym whole_t, rests)

  -- of two lists of lines at the front of the same bytes one is a front of the other
  pub one_front : (lines others : List Line) (s t x y : List ℕ) → ScriptText setup lines s → ScriptText setup others t → s ++ x ≡ t ++ y
      → ((more : List Line) × (others ≡ lines ++ more)) ⊎ ((more : List Line) × (lines ≡ others ++ more))
  one_front [] others s t x y one two e = inl (others, refl)
  one_front (a ∷ lines) [] s t x y one two e = inr (a ∷ lines, refl)
  one_front (a ∷ lines) (b ∷ others) s t x y (u, front, is_u, one, whole_s) (v, back, is_v, two, whole_t) e =
      let first = one_text setup a b u v (front ++ x) (back ++ y) is_u is_v (behind_first u v s t x y front back whole_s whole_t e) in
      ⊎_elim
      (λ (more, same). inl (more, ap (λ z. z ∷ others) (sym first.line) ∙ ap (λ z. a ∷ z) same))
      (λ (more, same). inr (more, ap (λ z. z ∷ lines) first.line ∙ ap (λ z. b ∷ z) same))
      (one_front lines others front back x y one two first.rest)

  -- no line follows these where none stands behind their text
  pub ends_behind : (lines : List Line) (text rest : List ℕ) → ScriptText setup lines text → BeginsNoLine setup (length text) rest → EndsBehind setup lines (text ++ rest)
  ends_behind lines text rest is none line after reads =
      let s = split_text lines (line ∷ []) reads.text reads.is_text in
      let (last, others, is_last, nothing, whole) = s.is_back in
      let back : s.back ≡ last = whole ∙ ap (λ z. last ++ z) nothing ∙ append-nil last in
      let (same, behind) = same_texts lines text s.front rest (s.back ++ after) is s.is_front (reads.whole ∙ ap (λ z. z ++ after) s.whole ∙ append_assoc s.front s.back after) in
      none line after (length text + length last) (record {
        text = last;
        is_text = is_last;
        whole = behind ∙ ap (λ z. z ++ after) back;
        count = refl;
        fits = omega (arith, reads.fits, ap length s.whole, length-append s.front s.back, ap length back, ap length same);
      })

  -- a line that follows these ends with the bytes where one behind their text does
  pub ends_with_next : (lines : List Line) (text rest : List ℕ) → ScriptText setup lines text → EndsWithLine setup (length text) rest → EndsWithNext setup lines (text ++ rest)
  ends_with_next lines text rest is one line after reads =
      let s = split_text lines (line ∷ []) reads.text reads.is_text in
      let (last, others, is_last, nothing, whole) = s.is_back in
      let back : s.back ≡ last = whole ∙ ap (λ z. last ++ z) nothing ∙ append-nil last in
      let (same, behind) = same_texts lines text s.front rest (s.back ++ after) is s.is_front (reads.whole ∙ ap (λ z. z ++ after) s.whole ∙ append_assoc s.front s.back after) in
      one line after (length text + length last) (record {
        text = last;
        is_text = is_last;
        whole = behind ∙ ap (λ z. z ++ after) back;
        count = refl;
        fits = omega (arith, reads.fits, ap length s.whole, length-append s.front s.back, ap length back, ap length same);
      })

  -- of two readings of the same bytes one is a front of the other
  pub one_reading : (lines others : List Line) (bytes after behind : List ℕ) → Reads setup lines bytes after → Reads setup others bytes behind
      → ((more : List Line) × (others ≡ lines ++ more)) ⊎ ((more : List Line) × (lines ≡ others ++ more))
  one_reading lines others bytes after behind one two = one_front lines others one.text two.text after behind one.is_text two.is_text (sym one.whole ∙ two.whole)

  -- nothing follows lines that no line follows
  pub nothing_more : (lines more : List Line) (bytes after : List ℕ) → EndsBehind setup lines bytes → Reads setup (lines ++ more) bytes after → more ≡ []
  nothing_more lines [] bytes after ends reads = refl
  nothing_more lines (line ∷ more) bytes after ends reads =
      let (behind, front) = reads_front (lines ++ line ∷ []) more bytes after (subst (λ ls. Reads setup ls bytes after) (sym (append_assoc lines (line ∷ []) more)) reads) in
      absurd (ends line behind front)

  -- two readings that no line follows are one
  pub same_lines : (lines others : List Line) (bytes after behind : List ℕ) → Reads setup lines bytes after → EndsBehind setup lines bytes → Reads setup others bytes behind → EndsBehind setup others bytes → lines ≡ others
  same_lines lines others bytes after behind one ends two stops =
      ⊎_elim
      (λ (more, same).
      let none : more ≡ [] = nothing_more lines more bytes behind ends (subst (λ ls. Reads setup ls bytes behind) same two) in
      sym (same ∙ ap (λ ls. lines ++ ls) none ∙ append-nil lines))
      (λ (more, same).
      let none : more ≡ [] = nothing_more others more bytes after stops (subst (λ ls. Reads setup ls bytes after) same one) in
      same ∙ ap (λ ls. others ++ ls) none ∙ append-nil others)
      (one_reading lines others bytes after behind one two)
