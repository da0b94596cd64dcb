-- A text stands for a moment exactly where it writes it: from the reader to the parts.
use Rattle.std.proofs.Common.{Bool, List, None, Option, Some, [], ap, arith, drop, false, inl, inr, is_some, length, min, negsuc, neg_ℤ, pos, refl, subst, suc, sym, take, true, true≢false, ℕ, ℤ, if◌then◌else◌, ◌%◌, ◌&&◌, ◌*ℤ◌, ◌*◌, ◌+ℤ◌, ◌+◌, ◌++◌, ◌-ℤ◌, ◌-◌, ◌/◌, ◌<◌, ◌==◌, ◌||◌, ◌∙◌, ◌≡◌, ◌≤◌, ◌⊎◌, ◌∷◌}
use Rattle.std.proofs.lemmas.Bool.Decides.{nat_tests}
use Rattle.std.proofs.lemmas.Bool.{eqb-true}
use Rattle.std.proofs.lemmas.List.{nil_from_length, take-append-drop}
use Rattle.std.proofs.lemmas.List.Folds.{length-prefix_len}
use Rattle.std.specs.Char.{is_ascii_digit}
use Rattle.std.specs.List.{list_all, prefix_len}
use Rattle.std.specs.Prelude.{int_le, nat_le}
use Rattle.gt_values.specs.Grammar.{after, after_fraction, after_mark, clock, date, digits, four_digits, hours_and_minutes, is_date, offset, two_digits, ◌>>=◌}
use Rattle.gt_values.specs.Moment.{in_range, last_moment, moment_of, pad2, pad4}
use Rattle.gt_values.specs.Profile.{IsFraction, IsOffset, IsZone, WritesMoment}
use Rattle.gt_values.proofs.PrintLemmas.{clock-text, date-text, in_range-at, two_digits-pad2}
use Rattle.jiff_core.proofs.CalendarLemmas.{days_in_month_bounds}
use Rattle.jiff_core.specs.Calendar.{days_from_civil, days_in_month}
use Rattle.std.proofs.Math.Seq.{drop-append_seam}

-- ---- options

guarded : {A : Type 0} (b : Bool) (x : Option A) (y : A) → (if b then x else None) ≡ Some y → (b ≡ true) × (x ≡ Some y)
guarded true x y e = (refl, e)
guarded false x y e = absurd (true≢false (sym (ap is_some e)))

chained : {A B : Type 0} (o : Option A) (f : A → Option B) (y : B) → (o >>= f) ≡ Some y → (x : A) × (o ≡ Some x) × (f x ≡ Some y)
chained None f y e = absurd (true≢false (sym (ap is_some e)))
chained (Some x) f y e = (x, refl, e)

same_some : {A : Type 0} (x y : A) → Some x ≡ Some y → x ≡ y
same_some x y e = cc

either : {A : Type 0} (b : Bool) (x z : Option A) (y : A) → (if b then x else z) ≡ Some y
    → ((b ≡ true) × (x ≡ Some y)) ⊎ ((b ≡ false) × (z ≡ Some y))
either true x z y e = inl (refl, e)
either false x z y e = inr (refl, e)

both : (a b : Bool) → (a && b) ≡ true → (a ≡ true) × (b ≡ true)
both true b e = (refl, e)
both false b e = absurd (true≢false (sym e))

-- ---- the parts

-- two digits stand at the front
record TwoDigits (text : List ℕ) (n : ℕ) (rest : List ℕ) : Type 0 where
  is : text ≡ pad2 n ++ rest
  small : n < 100

digit_value : (a b n : ℕ) → (is_ascii_digit a && is_ascii_digit b) ≡ true → (a - 48) * 10 + (b - 48) ≡ n
    → (a ≡ 48 + n / 10) × (b ≡ 48 + n % 10) × (n < 100)
digit_value a b n h e =
    let parts = both (is_ascii_digit a) (is_ascii_digit b) h in
    let x = in_digits a parts.0 in
    let y = in_digits b parts.1 in
    (omega arith, omega arith, omega arith)
  where
    in_digits : (c : ℕ) → is_ascii_digit c ≡ true → (48 ≤ c) × (c ≤ 57)
    in_digits c h = (grind (arith, nat_tests), grind (arith, nat_tests))

two_back : (text : List ℕ) (r : ℕ × List ℕ) → two_digits text ≡ Some r → TwoDigits text r.0 r.1
unfolding two_digits
two_back [] r e = absurd (true≢false (sym (ap is_some e)))
two_back (a ∷ []) r e = absurd (true≢false (sym (ap is_some e)))
two_back (a ∷ b ∷ rest) r e =
    let test = guarded (is_ascii_digit a && is_ascii_digit b) (Some ((a - 48) * 10 + (b - 48), rest)) r e in
    let same = same_some ((a - 48) * 10 + (b - 48), rest) r test.1 in
    let v = digit_value a b r.0 test.0 (ap (λ (p : ℕ × List ℕ). p.0) same) in
    let tail : rest ≡ r.1 = ap (λ (p : ℕ × List ℕ). p.1) same in
    record { is = rw (v.0, v.1, tail) refl; small = v.2 }

after_back : (b : ℕ) (text rest : List ℕ) → after b text ≡ Some rest → text ≡ b ∷ rest
after_back b [] rest e = absurd (true≢false (sym (ap is_some e)))
after_back b (c ∷ cs) rest e =
    let test = guarded (c == b) (Some cs) rest e in
    let tail = same_some cs rest test.1 in
    let front = eqb-true c b test.0 in
    rw (front, tail) refl

record FourDigits (text : List ℕ) (n : ℕ) (rest : List ℕ) : Type 0 where
  is : text ≡ pad4 n ++ rest
  small : n ≤ 9999

four_back : (text : List ℕ) (r : ℕ × List ℕ) → four_digits text ≡ Some r → FourDigits text r.0 r.1
unfolding four_digits
four_back text r e =
    let first = chained (two_digits text) _ r e in
    let second = chained (two_digits first.0.1) _ r first.2 in
    let a = two_back text first.0 first.1 in
    let b = two_back first.0.1 second.0 second.1 in
    let value : first.0.0 * 100 + second.0.0 ≡ r.0 = ap (λ (p : ℕ × List ℕ). p.0) (same_some _ r second.2) in
    let tail : second.0.1 ≡ r.1 = ap (λ (p : ℕ × List ℕ). p.1) (same_some _ r second.2) in
    let small_a : first.0.0 < 100 = a.small in
    let small_b : second.0.0 < 100 = b.small in
    let high : r.0 / 100 ≡ first.0.0 = omega arith in
    let low : r.0 % 100 ≡ second.0.0 = omega arith in
    record {
      is = a.is ∙ ap (λ (l : List ℕ). pad2 first.0.0 ++ l) (b.is ∙ ap (λ (l : List ℕ). pad2 second.0.0 ++ l) tail) ∙ rw (high, low) refl;
      small = omega arith;
    }

-- a date of the calendar stands at the front
record Dated (text : List ℕ) (number : ℤ) (rest : List ℕ) : Type 0 where
  year : ℕ
  month : ℕ
  day : ℕ
  is : text ≡ pad4 year ++ 45 ∷ pad2 month ++ 45 ∷ pad2 day ++ rest
  date_is : (year ≤ 9999) × (is_date year month day ≡ true)
  number_is : days_from_civil (pos year) month day ≡ number

date_back : (text : List ℕ) (r : ℤ × List ℕ) → date text ≡ Some r → Dated text r.0 r.1
unfolding date
date_back text r e =
    let y = chained (four_digits text) _ r e in
    let s = chained (after 45 y.0.1) _ r y.2 in
    let m = chained (two_digits s.0) _ r s.2 in
    let t = chained (after 45 m.0.1) _ r m.2 in
    let d = chained (two_digits t.0) _ r t.2 in
    let test = guarded (is_date y.0.0 m.0.0 d.0.0) (Some (days_from_civil (pos y.0.0) m.0.0 d.0.0, d.0.1)) r d.2 in
    let same = same_some _ r test.1 in
    let year = four_back text y.0 y.1 in
    let month = two_back s.0 m.0 m.1 in
    let day = two_back t.0 d.0 d.1 in
    let tail : d.0.1 ≡ r.1 = ap (λ (p : ℤ × List ℕ). p.1) same in
    record {
      year = y.0.0;
      month = m.0.0;
      day = d.0.0;
      is =
          year.is ∙ ap (λ (l : List ℕ). pad4 y.0.0 ++ l) (after_back 45 y.0.1 s.0 s.1)
          ∙ ap (λ (l : List ℕ). pad4 y.0.0 ++ 45 ∷ l) month.is
          ∙ ap (λ (l : List ℕ). pad4 y.0.0 ++ 45 ∷ (pad2 m.0.0 ++ l)) (after_back 45 m.0.1 t.0 t.1)
          ∙ ap (λ (l : List ℕ). pad4 y.0.0 ++ 45 ∷ (pad2 m.0.0 ++ 45 ∷ l)) day.is
          ∙ ap (λ (l : List ℕ). pad4 y.0.0 ++ 45 ∷ (pad2 m.0.0 ++ 45 ∷ (pad2 d.0.0 ++ l))) tail;
      date_is = (year.small, test.0);
      number_is = ap (λ (p : ℤ × List ℕ). p.0) same;
    }

-- a time of day stands at the front
record Timed (text : List ℕ) (seconds : ℕ) (rest : List ℕ) : Type 0 where
  hour : ℕ
  minute : ℕ
  second : ℕ
  is : text ≡ pad2 hour ++ 58 ∷ pad2 minute ++ 58 ∷ pad2 second ++ rest
  time_is : (hour ≤ 23) × (minute ≤ 59) × (second ≤ 60)
  seconds_are : hour * 3600 + minute * 60 + min second 59 ≡ seconds

at_most : (n most : ℕ) → nat_le n most ≡ true → n ≤ most
at_most n most h = grind (arith, nat_tests)

clock_back : (text : List ℕ) (r : ℕ × List ℕ) → clock text ≡ Some r → Timed text r.0 r.1
unfolding clock
clock_back text r e =
    let h = chained (two_digits text) _ r e in
    let s = chained (after 58 h.0.1) _ r h.2 in
    let m = chained (two_digits s.0) _ r s.2 in
    let t = chained (after 58 m.0.1) _ r m.2 in
    let x = chained (two_digits t.0) _ r t.2 in
    let test =
    guarded (nat_le h.0.0 23 && (nat_le m.0.0 59 && nat_le x.0.0 60)) (Some (h.0.0 * 3600 + m.0.0 * 60 + min x.0.0 59, x.0.1)) r x.2 in
    let one = both (nat_le h.0.0 23) (nat_le m.0.0 59 && nat_le x.0.0 60) test.0 in
    let two = both (nat_le m.0.0 59) (nat_le x.0.0 60) one.1 in
    let same = same_some _ r test.1 in
    let hour = two_back text h.0 h.1 in
    let minute = two_back s.0 m.0 m.1 in
    let second = two_back t.0 x.0 x.1 in
    let tail : x.0.1 ≡ r.1 = ap (λ (p : ℕ × List ℕ). p.1) same in
    record {
      hour = h.0.0;
      minute = m.0.0;
      second = x.0.0;
      is =
          hour.is ∙ ap (λ (l : List ℕ). pad2 h.0.0 ++ l) (after_back 58 h.0.1 s.0 s.1)
          ∙ ap (λ (l : List ℕ). pad2 h.0.0 ++ 58 ∷ l) minute.is
          ∙ ap (λ (l : List ℕ). pad2 h.0.0 ++ 58 ∷ (pad2 m.0.0 ++ l)) (after_back 58 m.0.1 t.0 t.1)
          ∙ ap (λ (l : List ℕ). pad2 h.0.0 ++ 58 ∷ (pad2 m.0.0 ++ 58 ∷ l)) second.is
          ∙ ap (λ (l : List ℕ). pad2 h.0.0 ++ 58 ∷ (pad2 m.0.0 ++ 58 ∷ (pad2 x.0.0 ++ l))) tail;
      time_is = (at_most h.0.0 23 one.0, at_most m.0.0 59 two.0, at_most x.0.0 60 two.1);
      seconds_are = ap (λ (p : ℕ × List ℕ). p.0) same;
    }

or_else : (a b : Bool) → (a || b) ≡ true → (a ≡ true) ⊎ (b ≡ true)
or_else true b h = inl refl
or_else false b h = inr h

mark_back : (text rest : List ℕ) → after_mark text ≡ Some rest
    → (mark : ℕ) × (text ≡ mark ∷ rest) × ((mark ≡ 84) ⊎ (mark ≡ 116) ⊎ (mark ≡ 32))
unfolding after_mark
mark_back [] rest e = absurd (true≢false (sym (ap is_some e)))
mark_back (c ∷ cs) rest e =
    let test = guarded ((c == 84) || ((c == 116) || (c == 32))) (Some cs) rest e in
    (c, ap (λ (l : List ℕ). c ∷ l) (same_some cs rest test.1), one_of c test.0)
  where
    one_of : (c : ℕ) → ((c == 84) || ((c == 116) || (c == 32))) ≡ true → (c ≡ 84) ⊎ (c ≡ 116) ⊎ (c ≡ 32)
    one_of c h =
        elim (or_else (c == 84) ((c == 116) || (c == 32)) h) [
          | inl a ↦ inl (eqb-true c 84 a)
          | inr b ↦ elim (or_else (c == 116) (c == 32) b) [
            | inl a ↦ inr (inl (eqb-true c 116 a))
            | inr a ↦ inr (inr (eqb-true c 32 a))
          ]
        ]

one_more : (n : ℕ) → 1 + n ≡ suc n
one_more n = omega arith

-- the elements at the front that pass
front_passes : (p : ℕ → Bool) (xs : List ℕ) → list_all p (take (prefix_len p xs) xs) ≡ true
front_passes p [] = refl
front_passes p (x ∷ xs) = by_test (front_passes p xs) (p x) refl
  where
    by_test : list_all p (take (prefix_len p xs) xs) ≡ true → (b : Bool) → p x ≡ b
        → list_all p (take (prefix_len p (x ∷ xs)) (x ∷ xs)) ≡ true
    by_test tail true h =
        let front : take (prefix_len p (x ∷ xs)) (x ∷ xs) ≡ x ∷ take (prefix_len p xs) xs = rw (h, one_more (prefix_len p xs)) refl in
        let passes : list_all p (x ∷ take (prefix_len p xs) xs) ≡ true = rw (h, tail) refl in
        ap (list_all p) front ∙ passes
    by_test tail false h = rw h refl

fraction_back : (text rest : List ℕ) → after_fraction text ≡ Some rest
    → (fraction : List ℕ) × (text ≡ fraction ++ rest) × ((fraction ≡ []) ⊎ IsFraction fraction)
unfolding after_fraction
fraction_back [] rest e = ([], same_some [] rest e, inl refl)
fraction_back (c ∷ cs) rest e =
    elim (either (c == 46) (if nat_le 1 (digits cs) && nat_le (digits cs) 9 then Some (drop (digits cs) cs) else None) (Some (c ∷ cs)) rest e) [
      | inl dot ↦
          let test = guarded (nat_le 1 (digits cs) && nat_le (digits cs) 9) (Some (drop (digits cs) cs)) rest dot.1 in
          let within = both (nat_le 1 (digits cs)) (nat_le (digits cs) 9) test.0 in
          let tail : drop (digits cs) cs ≡ rest = same_some (drop (digits cs) cs) rest test.1 in
          let front = take (digits cs) cs in
          let long : length front ≡ digits cs = length-prefix_len is_ascii_digit cs in
          let few : (1 ≤ digits cs) × (digits cs ≤ 9) = (grind (arith, nat_tests, within.0), at_most (digits cs) 9 within.1) in (
            46 ∷ front,
            ap (λ n. n ∷ cs) (eqb-true c 46 dot.0) ∙ ap (λ (l : List ℕ). 46 ∷ l) (sym (take-append-drop (digits cs) cs) ∙ ap (λ (l : List ℕ). front ++ l) tail),
            inr (record { digits = front; text_is = refl; are_digits = front_passes is_ascii_digit cs; count = rw long few }),
          )
      | inr none ↦ ([], same_some (c ∷ cs) rest none.1, inl refl)
    ]

hours_back : (text : List ℕ) (n : ℕ) → hours_and_minutes text ≡ Some n
    → (h : ℕ) × (m : ℕ) × (text ≡ pad2 h ++ 58 ∷ pad2 m) × ((h ≤ 23) × (m ≤ 59)) × (n ≡ h * 3600 + m * 60)
unfolding hours_and_minutes
hours_back text n e =
    let h = chained (two_digits text) _ n e in
    let s = chained (after 58 h.0.1) _ n h.2 in
    let m = chained (two_digits s.0) _ n s.2 in
    let test = guarded (nat_le h.0.0 23 && (nat_le m.0.0 59 && (length m.0.1 == 0))) (Some (h.0.0 * 3600 + m.0.0 * 60)) n m.2 in
    let one = both (nat_le h.0.0 23) (nat_le m.0.0 59 && (length m.0.1 == 0)) test.0 in
    let two = both (nat_le m.0.0 59) (length m.0.1 == 0) one.1 in
    let empty : m.0.1 ≡ [] = nil_from_length m.0.1 (eqb-true (length m.0.1) 0 two.1) in
    let hour = two_back text h.0 h.1 in
    let minute = two_back s.0 m.0 m.1 in (
      h.0.0,
      m.0.0,
      hour.is ∙ ap (λ (l : List ℕ). pad2 h.0.0 ++ l) (after_back 58 h.0.1 s.0 s.1)
          ∙ ap (λ (l : List ℕ). pad2 h.0.0 ++ 58 ∷ l) (minute.is ∙ ap (λ (l : List ℕ). pad2 m.0.0 ++ l) empty),
      (at_most h.0.0 23 one.0, at_most m.0.0 59 two.0),
      sym (same_some (h.0.0 * 3600 + m.0.0 * 60) n test.1),
    )

offset_is : (sign : ℕ) (cs : List ℕ) (n : ℕ) → hours_and_minutes cs ≡ Some n → IsOffset sign (sign ∷ cs) n
offset_is sign cs n e =
    let t = hours_back cs n e in
    record { hours = t.0; minutes = t.1; text_is = ap (λ (l : List ℕ). sign ∷ l) t.2; within = t.3; seconds_are = t.4 }

zone_back : (text : List ℕ) (east : ℤ) → offset text ≡ Some east → IsZone text east
unfolding offset
zone_back [] east e = inl (sym (same_some (pos 0) east e), inl refl)
zone_back (c ∷ cs) east e =
    elim (either ((c == 90) || (c == 122)) (if length cs == 0 then Some (pos 0) else None) _ east e) [
      | inl letter ↦
          let test = guarded (length cs == 0) (Some (pos 0)) east letter.1 in
          let empty : cs ≡ [] = nil_from_length cs (eqb-true (length cs) 0 test.0) in
          let text : (k : ℕ) → c ≡ k → c ∷ cs ≡ k ∷ [] = λ k is. rw (is, empty) refl in
          inl (
            sym (same_some (pos 0) east test.1),
            elim (or_else (c == 90) (c == 122) letter.0) [
              | inl z ↦ inr (inl (text 90 (eqb-true c 90 z)))
              | inr z ↦ inr (inr (text 122 (eqb-true c 122 z)))
            ],
          )
      | inr e2 ↦
          elim (either (c == 43) (hours_and_minutes cs >>= (λ n. Some (pos n))) _ east e2.1) [
            | inl plus ↦
                let n = chained (hours_and_minutes cs) (λ n. Some (pos n)) east plus.1 in
                inr (inl (n.0, sym (same_some (pos n.0) east n.2), subst (λ s. IsOffset 43 (s ∷ cs) n.0) (sym (eqb-true c 43 plus.0)) (offset_is 43 cs n.0 n.1)))
            | inr e3 ↦
                let minus = guarded (c == 45) (hours_and_minutes cs >>= (λ n. Some (neg_ℤ (pos n)))) east e3.1 in
                let n = chained (hours_and_minutes cs) (λ n. Some (neg_ℤ (pos n))) east minus.1 in
                inr (inr (n.0, sym (same_some (neg_ℤ (pos n.0)) east n.2), subst (λ s. IsOffset 45 (s ∷ cs) n.0) (sym (eqb-true c 45 minus.0)) (offset_is 45 cs n.0 n.1)))
          ]
    ]

range_back : (z : ℤ) (n : ℕ) → in_range z ≡ Some n → (pos n ≡ z) × (n ≤ last_moment)
range_back (pos k) n e =
    let test = guarded (int_le (pos 0) (pos k) && int_le (pos k) (pos last_moment)) (Some k) n e in
    let parts = both (int_le (pos 0) (pos k)) (int_le (pos k) (pos last_moment)) test.0 in
    let same : k ≡ n = same_some k n test.1 in
    (ap pos (sym same), rw (sym same) (at_most k last_moment parts.1))
range_back (negsuc k) n e = absurd (true≢false (sym (ap is_some e)))

sum_is : {number date : ℤ} {seconds time : ℕ} (east n : ℤ) → date ≡ number → time ≡ seconds
    → n ≡ number *ℤ pos 86_400 +ℤ pos seconds -ℤ east → n ≡ date *ℤ pos 86_400 +ℤ pos time -ℤ east
sum_is east n a b e = rw (a, b) e

joined : {text from_mark from_time from_fraction : List ℕ} (fraction zone : List ℕ) (y mo d mark h mi x : ℕ)
    → text ≡ pad4 y ++ 45 ∷ pad2 mo ++ 45 ∷ pad2 d ++ from_mark
    → from_mark ≡ mark ∷ from_time
    → from_time ≡ pad2 h ++ 58 ∷ pad2 mi ++ 58 ∷ pad2 x ++ from_fraction
    → from_fraction ≡ fraction ++ zone
    → text ≡ pad4 y ++ 45 ∷ pad2 mo ++ 45 ∷ pad2 d ++ mark ∷ pad2 h ++ 58 ∷ pad2 mi ++ 58 ∷ pad2 x ++ fraction ++ zone
joined fraction zone y mo d mark h mi x a b c e = rw (a, b, c, e) refl

pub stands_writes : (text : List ℕ) (moment : ℕ) → moment_of text ≡ Some moment → WritesMoment text moment
unfolding moment_of
stands_writes text moment e =
    let day = chained (date text) _ moment e in
    let s = chained (after_mark day.0.1) _ moment day.2 in
    let time = chained (clock s.0) _ moment s.2 in
    let t = chained (after_fraction time.0.1) _ moment time.2 in
    let east = chained (offset t.0) _ moment t.2 in
    let range = range_back (day.0.0 *ℤ pos 86_400 +ℤ pos time.0.0 -ℤ east.0) moment east.2 in
    let d = date_back text day.0 day.1 in
    let m = mark_back day.0.1 s.0 s.1 in
    let c = clock_back s.0 time.0 time.1 in
    let f = fraction_back time.0.1 t.0 t.1 in
    record {
      year = d.year;
      month = d.month;
      day = d.day;
      mark = m.0;
      hour = c.hour;
      minute = c.minute;
      second = c.second;
      fraction = f.0;
      zone = t.0;
      east = east.0;
      text_is = joined f.0 t.0 d.year d.month d.day m.0 c.hour c.minute c.second d.is m.1 c.is f.1;
      date_is = d.date_is;
      mark_is = m.2;
      time_is = c.time_is;
      fraction_is = f.2;
      zone_is = zone_back t.0 east.0 east.1;
      moment_is = sum_is east.0 (pos moment) d.number_is c.seconds_are range.0;
      in_range = range.1;
    }

-- ---- from the parts to the reader

digits_before : (p : ℕ → Bool) (xs ys : List ℕ) → list_all p xs ≡ true → prefix_len p ys ≡ 0 → prefix_len p (xs ++ ys) ≡ length xs
digits_before p [] ys all none = none
digits_before p (x ∷ xs) ys all none =
    let parts = both (p x) (list_all p xs) all in
    rw (parts.0, digits_before p xs ys parts.1 none) (one_more (length xs))

-- an offset begins with no digit and no dot
no_digits : (zone : List ℕ) (east : ℤ) → IsZone zone east → prefix_len is_ascii_digit zone ≡ 0
no_digits zone east z =
    elim z [
      | inl utc ↦ elim utc.1 [
        | inl e ↦ rw e refl
        | inr letter ↦ elim letter [ inl e ↦ rw e refl | inr e ↦ rw e refl ]
      ]
      | inr sign ↦ elim sign [ inl o ↦ rw o.2.text_is refl | inr o ↦ rw o.2.text_is refl ]
    ]

no_fraction_read : (zone : List ℕ) (east : ℤ) → IsZone zone east → after_fraction zone ≡ Some zone
unfolding after_fraction
no_fraction_read zone east z =
    elim z [
      | inl utc ↦ elim utc.1 [
        | inl e ↦ rw e refl
        | inr letter ↦ elim letter [ inl e ↦ rw e refl | inr e ↦ rw e refl ]
      ]
      | inr sign ↦ elim sign [ inl o ↦ rw o.2.text_is refl | inr o ↦ rw o.2.text_is refl ]
    ]

fraction_read : (fraction zone : List ℕ) (east : ℤ) → (fraction ≡ []) ⊎ IsFraction fraction → IsZone zone east
    → after_fraction (fraction ++ zone) ≡ Some zone
unfolding after_fraction
fraction_read fraction zone east f z =
    elim f [
      | inl e ↦ rw e (no_fraction_read zone east z)
      | inr r ↦
          let count : digits (r.digits ++ zone) ≡ length r.digits = digits_before is_ascii_digit r.digits zone r.are_digits (no_digits zone east z) in
          let one : nat_le 1 (length r.digits) ≡ true = test 1 (length r.digits) r.count.0 in
          let nine : nat_le (length r.digits) 9 ≡ true = test (length r.digits) 9 r.count.1 in
          rw (r.text_is, count, one, nine, drop-append_seam r.digits zone) refl
    ]
  where
    test : (a b : ℕ) → a ≤ b → nat_le a b ≡ true
    test a b h = grind (arith, nat_tests)

hours_read : (h m : ℕ) → h ≤ 23 → m ≤ 59 → hours_and_minutes (pad2 h ++ 58 ∷ pad2 m) ≡ Some (h * 3600 + m * 60)
unfolding hours_and_minutes
hours_read h m a b =
    let hour = two_digits-pad2 h (58 ∷ pad2 m) (omega arith) in
    let minute = two_digits-pad2 m [] (omega arith) in
    let fits : (nat_le h 23 && (nat_le m 59 && true)) ≡ true = grind (arith, nat_tests) in
    rw (hour, minute, fits)

zone_read : (zone : List ℕ) (east : ℤ) → IsZone zone east → offset zone ≡ Some east
unfolding offset
zone_read zone east z =
    elim z [
      | inl utc ↦ elim utc.1 [
        | inl e ↦ rw (e, utc.0) refl
        | inr letter ↦ elim letter [ inl e ↦ rw (e, utc.0) refl | inr e ↦ rw (e, utc.0) refl ]
      ]
      | inr sign ↦ elim sign [
        | inl o ↦ rw (o.2.text_is, hours_read o.2.hours o.2.minutes o.2.within.0 o.2.within.1, o.1, o.2.seconds_are) refl
        | inr o ↦ rw (o.2.text_is, hours_read o.2.hours o.2.minutes o.2.within.0 o.2.within.1, o.1, o.2.seconds_are) refl
      ]
    ]

mark_read : (mark : ℕ) (rest : List ℕ) → (mark ≡ 84) ⊎ (mark ≡ 116) ⊎ (mark ≡ 32) → after_mark (mark ∷ rest) ≡ Some rest
unfolding after_mark
mark_read mark rest m =
    elim m [
      | inl e ↦ rw e refl
      | inr m2 ↦ elim m2 [
        | inl e ↦ rw e refl
        | inr e ↦ rw e refl
      ]
    ]

date_small : (y m d : ℕ) → is_date y m d ≡ true → (m < 100) × (d < 100)
date_small y m d h =
    let month = both (nat_le 1 m) (nat_le m 12 && (nat_le 1 d && nat_le d (days_in_month (pos y) m))) h in
    let first = both (nat_le m 12) (nat_le 1 d && nat_le d (days_in_month (pos y) m)) month.1 in
    let day = both (nat_le 1 d) (nat_le d (days_in_month (pos y) m)) first.1 in
    let most = days_in_month_bounds (pos y) m in
    let last : d ≤ days_in_month (pos y) m = at_most d (days_in_month (pos y) m) day.1 in
    let twelve : m ≤ 12 = at_most m 12 first.0 in
    (omega arith, omega arith)

pub writes_stands : (text : List ℕ) (moment : ℕ) → WritesMoment text moment → moment_of text ≡ Some moment
unfolding moment_of
writes_stands text moment w =
    let small = date_small w.year w.month w.day w.date_is.1 in
    let tail = w.fraction ++ w.zone in
    let time = pad2 w.hour ++ 58 ∷ pad2 w.minute ++ 58 ∷ pad2 w.second ++ tail in
    let first = date-text w.year w.month w.day (w.mark ∷ time) (omega (arith, w.date_is.0)) small.0 small.1 w.date_is.1 in
    let next = mark_read w.mark time w.mark_is in
    let then_ = clock-text w.hour w.minute w.second tail w.time_is.0 w.time_is.1 w.time_is.2 in
    let passed = fraction_read w.fraction w.zone w.east w.fraction_is w.zone_is in
    let zone = zone_read w.zone w.east w.zone_is in
    rw (w.text_is, first, next, then_, passed, zone)
    (in_range-at
    (days_from_civil (pos w.year) w.month w.day *ℤ pos 86_400 +ℤ pos (w.hour * 3600 + w.minute * 60 + min w.second 59) -ℤ w.east)
    moment (sym w.moment_is) w.in_range)
