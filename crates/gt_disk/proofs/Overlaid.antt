-- The bytes of a file with others over it.
use Rattle.std.proofs.Common.{◌≡◌, ◌⊎◌, inl, inr, ℕ, ◌+◌, ◌-◌, ◌<◌, ◌≤◌, max, List, ◌++◌, length, get_or, take, drop, ◌∙◌, ap, arith, append_assoc, length-append, length-take, length-drop}
use Rattle.std.proofs.lemmas.List.{get_or-take, get_or-drop, get_or_append_left, get_or-append_right}
use Rattle.gt_disk.specs.Images.{overlaid}

module _ (file : List ℕ) (at : ℕ) (bytes : List ℕ) (within : at ≤ length file) where
  front : List ℕ
  front = take at file

  back : List ℕ
  back = drop (at + length bytes) file

  length-front : length front ≡ at
  unfolding front
  length-front = omega (arith, length-take at file, within)

  split : overlaid file at bytes ≡ front ++ (bytes ++ back)
  unfolding front back
  split = append_assoc (take at file) bytes (drop (at + length bytes) file)

  pub length-overlaid : length (overlaid file at bytes) ≡ max (length file) (at + length bytes)
  unfolding back
  length-overlaid = omega (arith, ap length split, length-append front (bytes ++ back), length-append bytes back, length-front, length-drop (at + length bytes) file, within)

  pub overlaid-inside : (i : ℕ) → at ≤ i → i < at + length bytes → get_or (overlaid file at bytes) i 0 ≡ get_or bytes (i - at) 0
  overlaid-inside i low high =
      ap (λ (l : List ℕ). get_or l i 0) split
      ∙ get_or-append_right front (bytes ++ back) at i 0 length-front low
      ∙ get_or_append_left bytes back 0 (i - at) (omega (arith, low, high))

  pub overlaid-outside : (i : ℕ) → (i < at) ⊎ (at + length bytes ≤ i) → get_or (overlaid file at bytes) i 0 ≡ get_or file i 0
  unfolding front back
  overlaid-outside i (inl low) =
      ap (λ (l : List ℕ). get_or l i 0) split
      ∙ get_or_append_left front (bytes ++ back) 0 i (omega (arith, low, length-front))
      ∙ get_or-take at file i 0 low
  overlaid-outside i (inr high) =
      let j = i - at in
      let k = j - length bytes in
      let is : at + length bytes + k ≡ i = omega (arith, high) in
      ap (λ (l : List ℕ). get_or l i 0) split
      ∙ get_or-append_right front (bytes ++ back) at i 0 length-front (omega (arith, high))
      ∙ get_or-append_right bytes back (length bytes) j 0 (omega arith) (omega (arith, high))
      ∙ get_or-drop (at + length bytes) file k 0
      ∙ ap (λ (m : ℕ). get_or file m 0) is
