-- Torn steps leave what the words say, and all of it.
use Rattle.std.proofs.Common.{◌≡◌, ◌⊎◌, inl, inr, ℕ, ◌+◌, ◌-◌, ◌<◌, ◌≤◌, min, max, List, [], ◌∷◌, ◌++◌, length, get_or, take, drop, refl, sym, ◌∙◌, ap, arith, length-append, length-take, length-drop}
use Rattle.std.proofs.lemmas.List.{get_or-take, get_or-drop, get_or_append_left, get_or-append_right, ext_get_or}
use Rattle.std.proofs.lemmas.Bool.{cases_lt}
use Rattle.gt_disk.specs.Disk.{Torn}
use Rattle.gt_disk.specs.TornWrites.{Reaches, IsOutside, greatest, BeginWithin, MayBe}

same_outside : (at n : ℕ) (d c : List ℕ) → Torn at n d c → (i : ℕ) → (i < at) ⊎ (at + n ≤ i) → get_or c i 0 ≡ get_or d i 0
same_outside at n d c torn i (inl low) =
    sym (get_or-take at c i 0 low) ∙ ap (λ (l : List ℕ). get_or l i 0) torn.before ∙ get_or-take at d i 0 low
same_outside at n d c torn i (inr high) =
    let j = i - (at + n) in
    let is : at + n + j ≡ i = omega (arith, high) in
    ap (λ (k : ℕ). get_or c k 0) (sym is) ∙ sym (get_or-drop (at + n) c j 0) ∙ ap (λ (l : List ℕ). get_or l j 0) torn.after ∙ get_or-drop (at + n) d j 0 ∙ ap (λ (k : ℕ). get_or d k 0) is

pub no_more : (synced : List ℕ) (writes : List (ℕ × ℕ)) (c : List ℕ) → Reaches synced writes c → MayBe synced writes c
no_more synced [] c is = record { no_shorter = omega (arith, ap length is); no_longer = omega (arith, ap length is); outside = λ i low out. ap (λ (l : List ℕ). get_or l i 0) is }
no_more synced (write ∷ earlier) c (d, reached, torn) =
    let before = no_more synced earlier d reached in
    record {
      no_shorter = omega (arith, before.no_shorter, torn.no_shorter);
      no_longer = omega (arith, before.no_longer, torn.no_longer);
      outside = λ i low out. same_outside write.0 write.1 d c torn i out.0 ∙ before.outside i low out.1;
    }

no_less_than : (n : ℕ) (writes : List (ℕ × ℕ)) → n ≤ greatest n writes
no_less_than n [] = omega arith
no_less_than n (write ∷ earlier) = omega (arith, no_less_than n earlier)

-- a piece of one list in the place of another's
pieced : (at n : ℕ) (inner outer : List ℕ) → List ℕ
pieced at n inner outer = take at outer ++ (take n (drop at inner) ++ drop (at + n) outer)

module _ (at n : ℕ) (inner outer : List ℕ) (same : length inner ≡ length outer) where
  length-pieced : length (pieced at n inner outer) ≡ length outer
  unfolding pieced
  length-pieced = omega (arith, same, length-append (take at outer) (take n (drop at inner) ++ drop (at + n) outer), length-append (take n (drop at inner)) (drop (at + n) outer), length-take at outer, length-take n (drop at inner), length-drop at inner, length-drop (at + n) outer)

  pieced-before : (i : ℕ) → i < at → i < length outer → get_or (pieced at n inner outer) i 0 ≡ get_or outer i 0
  unfolding pieced
  pieced-before i low inside =
      get_or_append_left (take at outer) (take n (drop at inner) ++ drop (at + n) outer) 0 i (omega (arith, length-take at outer, low, inside)) ∙ get_or-take at outer i 0 low

  pieced-inside : (i : ℕ) → at ≤ i → i < at + n → i < length outer → get_or (pieced at n inner outer) i 0 ≡ get_or inner i 0
  unfolding pieced
  pieced-inside i low high inside =
      let front : length (take at outer) ≡ at = omega (arith, length-take at outer, low, inside) in
      let j = i - at in
      let is : at + j ≡ i = omega (arith, low) in
      get_or-append_right (take at outer) (take n (drop at inner) ++ drop (at + n) outer) at i 0 front low
      ∙ get_or_append_left (take n (drop at inner)) (drop (at + n) outer) 0 j (omega (arith, length-take n (drop at inner), length-drop at inner, same, inside, low, high))
      ∙ get_or-take n (drop at inner) j 0 (omega (arith, low, high))
      ∙ get_or-drop at inner j 0
      ∙ ap (λ (k : ℕ). get_or inner k 0) is

  pieced-after : (i : ℕ) → at + n ≤ i → i < length outer → get_or (pieced at n inner outer) i 0 ≡ get_or outer i 0
  unfolding pieced
  pieced-after i low inside =
      let front : length (take at outer) ≡ at = omega (arith, length-take at outer, low, inside) in
      let middle : length (take n (drop at inner)) ≡ n = omega (arith, length-take n (drop at inner), length-drop at inner, same, low, inside) in
      let j = i - at in
      let k = j - n in
      let is : at + n + k ≡ i = omega (arith, low) in
      get_or-append_right (take at outer) (take n (drop at inner) ++ drop (at + n) outer) at i 0 front (omega (arith, low))
      ∙ get_or-append_right (take n (drop at inner)) (drop (at + n) outer) n j 0 middle (omega (arith, low))
      ∙ get_or-drop (at + n) outer k 0
      ∙ ap (λ (m : ℕ). get_or outer m 0) is

-- the file before a write that left c: c, with the synced bytes in the range, as long as it may have been
module _ (synced c : List ℕ) (at n longest : ℕ) (long : length synced ≤ length c) where
  inner : List ℕ
  inner = synced ++ drop (length synced) c

  length-inner : length inner ≡ length c
  unfolding inner
  length-inner = omega (arith, long, length-append synced (drop (length synced) c), length-drop (length synced) c)

  inner-synced : (i : ℕ) → i < length synced → get_or inner i 0 ≡ get_or synced i 0
  unfolding inner
  inner-synced i low = get_or_append_left synced (drop (length synced) c) 0 i low

  earlier : List ℕ
  earlier = take longest (pieced at n inner c)

  length-earlier : length earlier ≡ min longest (length c)
  unfolding earlier
  length-earlier = length-take longest (pieced at n inner c) ∙ ap (λ (m : ℕ). min longest m) (length-pieced at n inner c length-inner)

  earlier-outside : (i : ℕ) → i < longest → i < length c → (i < at) ⊎ (at + n ≤ i) → get_or earlier i 0 ≡ get_or c i 0
  unfolding earlier
  earlier-outside i low inside (inl front) = get_or-take longest (pieced at n inner c) i 0 low ∙ pieced-before at n inner c length-inner i front inside
  earlier-outside i low inside (inr back) = get_or-take longest (pieced at n inner c) i 0 low ∙ pieced-after at n inner c length-inner i back inside

  earlier-inside : (i : ℕ) → i < longest → i < length synced → at ≤ i → i < at + n → get_or earlier i 0 ≡ get_or synced i 0
  unfolding earlier
  earlier-inside i low inside front back =
      get_or-take longest (pieced at n inner c) i 0 low ∙ pieced-inside at n inner c length-inner i front back (omega (arith, inside, long)) ∙ inner-synced i inside

  earlier_torn : at ≤ longest → length c ≤ max longest (at + n) → Torn at n earlier c
  earlier_torn within longer = record {
    before = ext_get_or 0 (take at c) (take at earlier)
        (omega (arith, length-take at c, length-take at earlier, length-earlier, within))
        (λ i low.
        let inside : i < length c = omega (arith, low, length-take at c) in
        let front : i < at = omega (arith, low, length-take at c) in
        get_or-take at c i 0 front ∙ sym (earlier-outside i (omega (arith, front, within)) inside (inl front)) ∙ sym (get_or-take at earlier i 0 front));
    after = ext_get_or 0 (drop (at + n) c) (drop (at + n) earlier)
        (omega (arith, length-drop (at + n) c, length-drop (at + n) earlier, length-earlier, longer))
        (λ j low.
        let inside : at + n + j < length c = omega (arith, low, length-drop (at + n) c) in
        get_or-drop (at + n) c j 0 ∙ sym (earlier-outside (at + n + j) (omega (arith, inside, longer)) inside (inr (omega arith))) ∙ sym (get_or-drop (at + n) earlier j 0));
    no_shorter = omega (arith, length-earlier);
    no_longer = omega (arith, length-earlier, longer);
  }

  earlier_may : (writes : List (ℕ × ℕ)) → longest ≡ greatest (length synced) writes
      → ((i : ℕ) → i < length synced → (i < at) ⊎ (at + n ≤ i) → IsOutside writes i → get_or c i 0 ≡ get_or synced i 0) → MayBe synced writes earlier
  earlier_may writes is outside =
      let more = no_less_than (length synced) writes in
      record {
        no_shorter = omega (arith, more, is, length-earlier, long);
        no_longer = omega (arith, is, length-earlier);
        outside = λ i low out.
            let below : i < longest = omega (arith, low, more, is) in
            let inside : i < length c = omega (arith, low, long) in
            elim (cases_lt i at) [
              | inl front ↦ earlier-outside i below inside (inl front) ∙ outside i low (inl front) out
              | inr past ↦ elim (cases_lt i (at + n)) [
                | inl middle ↦ earlier-inside i below low past middle
                | inr back ↦ earlier-outside i below inside (inr back) ∙ outside i low (inr back) out
              ]
            ];
      }

pub no_less : (synced : List ℕ) (writes : List (ℕ × ℕ)) (c : List ℕ) → BeginWithin (length synced) writes → MayBe synced writes c → Reaches synced writes c
no_less synced [] c begin may = ext_get_or 0 c synced (omega (arith, may.no_shorter, may.no_longer)) (λ i low. may.outside i (omega (arith, low, may.no_longer)) tt)
no_less synced (write ∷ writes) c begin may =
    let longest = greatest (length synced) writes in (
      earlier synced c write.0 write.1 longest may.no_shorter,
      no_less synced writes (earlier synced c write.0 write.1 longest may.no_shorter) begin.1
          (earlier_may synced c write.0 write.1 longest may.no_shorter writes refl (λ i low out others. may.outside i low (out, others))),
      earlier_torn synced c write.0 write.1 longest may.no_shorter begin.0 may.no_longer,
    )
