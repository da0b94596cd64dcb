-- What `first` finds in rows whose parameters are whole pieces: a row that fits the path, and none only where none fits.
use Rattle.std.proofs.Common.{◌≡◌, ◌⊎◌, inl, inr, ℕ, zero, suc, ◌-◌, ◌<◌, ◌≤◌, ◌==◌, ◌&&◌, not, List, [], ◌∷◌, length, drop, Bool, true, false, cond, ltb, Option, Some, None, refl, sym, ap, subst, ◌∙◌, true≢false, arith, nat_eq}
use Rattle.std.proofs.lemmas.Bool.{eqb-true, eq-eqb}
use Rattle.std.proofs.lemmas.Bool.Decides.{nat_tests}
use Rattle.std.proofs.lemmas.Grind.{common_steps}
use Rattle.std.specs.Cmp.Lexicographic.{pointwise}
use Rattle.std.specs.List.{AllByRecursion}
use Rattle.matchit.specs.Rows.{RowsOf, param_token, catch_all_token}
use Rattle.matchit.specs.Seek.{slash, segment, has_slash, same_text, cuts, own, step, or_else, longest_from, longest_suffix, with_suffix, param_step, seek, first}
use Rattle.gt_requests.specs.Resources.{is_over, fits}
use Rattle.gt_requests.proofs.Shapes.{starts_piece, is_shaped}

-- ---- tests

pub both_first : (a b : Bool) → (a && b) ≡ true → a ≡ true
both_first true b e = refl
both_first false b e = e

pub both_second : (a b : Bool) → (a && b) ≡ true → b ≡ true
both_second true b e = e
both_second false b e = absurd (true≢false (sym e))

-- ---- a path and its first slash

-- the path from its first slash on
abbrev pub rest_at : List ℕ → List ℕ
rest_at [] = []
rest_at (b ∷ path) = cond (b == slash) (b ∷ path) (rest_at path)

-- how many bytes stand before it
abbrev run : List ℕ → ℕ
run [] = 0
run (b ∷ path) = cond (b == slash) 0 (suc (run path))

drop-run : (p : List ℕ) → drop (run p) p ≡ rest_at p
drop-run [] = refl
drop-run (b ∷ p) = elim (b == slash) as (λ v. drop (cond v 0 (suc (run p))) (b ∷ p) ≡ cond v (b ∷ p) (rest_at p)) [ true ↦ refl | false ↦ drop-run p ]

segment-slash-at : (b : ℕ) (p : List ℕ) (v : Bool) → (has_slash p ≡ true → length (segment p) ≡ suc (run p)) → cond v true (has_slash p) ≡ true
    → length (cond v (b ∷ []) (b ∷ segment p)) ≡ suc (cond v 0 (suc (run p)))
segment-slash-at b p true ih e = refl
segment-slash-at b p false ih e = ap suc (ih e)

segment-slash : (p : List ℕ) → has_slash p ≡ true → length (segment p) ≡ suc (run p)
segment-slash [] h = absurd (true≢false (sym h))
segment-slash (b ∷ p) h = segment-slash-at b p (b == slash) (segment-slash p) h

rest-none-at : (b : ℕ) (p : List ℕ) (v : Bool) → (has_slash p ≡ false → rest_at p ≡ []) → cond v true (has_slash p) ≡ false → cond v (b ∷ p) (rest_at p) ≡ []
rest-none-at b p true ih e = absurd (true≢false e)
rest-none-at b p false ih e = ih e

rest-none : (p : List ℕ) → has_slash p ≡ false → rest_at p ≡ []
rest-none [] h = refl
rest-none (b ∷ p) h = rest-none-at b p (b == slash) (rest-none p) h

rest-some-at : (b : ℕ) (p : List ℕ) (v : Bool) → (b == slash) ≡ v → (has_slash p ≡ true → (q : List ℕ) × (rest_at p ≡ slash ∷ q)) → cond v true (has_slash p) ≡ true
    → (q : List ℕ) × (cond v (b ∷ p) (rest_at p) ≡ slash ∷ q)
rest-some-at b p true s ih e = (p, ap (λ x. x ∷ p) (eqb-true b slash s))
rest-some-at b p false s ih e = ih e

rest-some : (p : List ℕ) → has_slash p ≡ true → (q : List ℕ) × (rest_at p ≡ slash ∷ q)
rest-some [] h = absurd (true≢false (sym h))
rest-some (b ∷ p) h = rest-some-at b p (b == slash) refl (rest-some p) h

drop-last : (b : ℕ) (s : List ℕ) → 0 < length s → drop (length (b ∷ s) - 1) (b ∷ s) ≡ drop (length s - 1) s
drop-last b [] h = absurd (omega arith)
drop-last b (c ∷ r) h = let e : length (b ∷ c ∷ r) - 1 ≡ suc (length r) = omega arith in let d : length (c ∷ r) - 1 ≡ length r = omega arith in rw (e, d)

some-segment : (b : ℕ) (p : List ℕ) → 0 < length (segment (b ∷ p))
some-segment b p = elim (b == slash) as (λ v. 0 < length (cond v (b ∷ []) (b ∷ segment p))) [ true ↦ omega arith | false ↦ omega arith ]

-- the last byte of the segment is a slash where the path has one
last-is : List ℕ → Bool
last-is s = pointwise nat_eq (slash ∷ []) (drop (length s - 1) s)

last-one : (b : ℕ) (v : Bool) → (b == slash) ≡ v → pointwise nat_eq (slash ∷ []) (b ∷ []) ≡ v
last-one b v e = grind (arith, nat_tests, e)

last-cons : (b : ℕ) (s : List ℕ) → 0 < length s → pointwise nat_eq (slash ∷ []) (drop (length (b ∷ s) - 1) (b ∷ s)) ≡ pointwise nat_eq (slash ∷ []) (drop (length s - 1) s)
last-cons b s h = ap (pointwise nat_eq (slash ∷ [])) (drop-last b s h)

last-at : (b c : ℕ) (p : List ℕ) (v : Bool) → (b == slash) ≡ v
    → pointwise nat_eq (slash ∷ []) (drop (length (segment (c ∷ p)) - 1) (segment (c ∷ p))) ≡ has_slash (c ∷ p)
    → pointwise nat_eq (slash ∷ []) (drop (length (cond v (b ∷ []) (b ∷ segment (c ∷ p))) - 1) (cond v (b ∷ []) (b ∷ segment (c ∷ p)))) ≡ cond v true (has_slash (c ∷ p))
last-at b c p true e ih = last-one b true e
last-at b c p false e ih = last-cons b (segment (c ∷ p)) (some-segment c p) ∙ ih

last-first : (b : ℕ) (v : Bool) → (b == slash) ≡ v → pointwise nat_eq (slash ∷ []) (drop (length (cond v (b ∷ []) (b ∷ [])) - 1) (cond v (b ∷ []) (b ∷ []))) ≡ cond v true false
last-first b true e = last-one b true e
last-first b false e = last-one b false e

ends-slash : (b : ℕ) (p : List ℕ) → pointwise nat_eq (slash ∷ []) (drop (length (segment (b ∷ p)) - 1) (segment (b ∷ p))) ≡ has_slash (b ∷ p)
ends-slash b [] = last-first b (b == slash) refl
ends-slash b (c ∷ p) = last-at b c p (b == slash) refl (ends-slash c p)

-- ---- how the suffix of one slash cuts a segment

has-cons : (b : ℕ) (p : List ℕ) (v : Bool) → (b == slash) ≡ v → has_slash (b ∷ p) ≡ cond v true (has_slash p)
has-cons b p v e = rw e

and-true : (a b : Bool) → a ≡ true → b ≡ true → (a && b) ≡ true
and-true a b e f = rw (e, f)

and-false : (a b : Bool) → b ≡ false → (a && b) ≡ false
and-false true b e = e
and-false false b e = refl

cuts-slash : (b : ℕ) (p : List ℕ) → (b == slash) ≡ true → cuts (segment (b ∷ p)) (slash ∷ []) ≡ false
cuts-slash b p e = rw e

cuts-mid : (b : ℕ) (p : List ℕ) → (b == slash) ≡ false → has_slash p ≡ true → cuts (segment (b ∷ p)) (slash ∷ []) ≡ true
cuts-mid b p e h =
    let has : has_slash (b ∷ p) ≡ true = has-cons b p false e ∙ h in
    let len : length (segment (b ∷ p)) ≡ suc (run (b ∷ p)) = segment-slash (b ∷ p) has in
    let more : run (b ∷ p) ≡ suc (run p) = rw e in
    let long : ltb 1 (length (segment (b ∷ p))) ≡ true = grind (arith, nat_tests, len, more) in
    and-true _ _ long (ends-slash b p ∙ has)

cuts-end : (b : ℕ) (p : List ℕ) → (b == slash) ≡ false → has_slash p ≡ false → cuts (segment (b ∷ p)) (slash ∷ []) ≡ false
cuts-end b p e h = and-false (ltb 1 (length (segment (b ∷ p)))) _ (ends-slash b p ∙ has-cons b p false e ∙ h)

-- ---- rows

module _ {K : Type 0} where
  -- the row is one of these
  abbrev pub In : List ℕ → K → RowsOf K → Type 0
  In t k [] = ⊥
  In t k ((u, l) ∷ rest) = ((u ≡ t) × (l ≡ k)) ⊎ In t k rest

  -- each pattern has whole pieces for parameters
  abbrev pub AllShaped : RowsOf K → Type 0
  AllShaped rs = (t : List ℕ) (k : K) → In t k rs → is_shaped t ≡ true

  -- each tail begins a piece or is over
  abbrev AllTails : RowsOf K → Type 0
  AllTails rs = (t : List ℕ) (k : K) → In t k rs → starts_piece t ≡ true

  -- a row of this key that the path fits
  abbrev pub Fitting : RowsOf K → List ℕ → K → Type 0
  Fitting rs path k = (t : List ℕ) × In t k rs × (fits false t path ≡ true)

  step_in-at : (b x : ℕ) (u : List ℕ) (l : K) (rest : RowsOf K) (t : List ℕ) (k : K) (q : Bool) → (x == b) ≡ q → (In t k (step b rest) → In (b ∷ t) k rest)
      → In t k (cond q ((u, l) ∷ step b rest) (step b rest)) → In (b ∷ t) k ((x ∷ u, l) ∷ rest)
  step_in-at b x u l rest t k true e ih (inl w) = let s : x ≡ b = eqb-true x b e in inl (cc (s, w.0), w.1)
  step_in-at b x u l rest t k true e ih (inr w) = inr (ih w)
  step_in-at b x u l rest t k false e ih w = inr (ih w)

  step_in : (b : ℕ) (rs : RowsOf K) (t : List ℕ) (k : K) → In t k (step b rs) → In (b ∷ t) k rs
  step_in b [] t k h = h
  step_in b (([], l) ∷ rest) t k h = inr (step_in b rest t k h)
  step_in b ((x ∷ u, l) ∷ rest) t k h = step_in-at b x u l rest t k (x == b) refl (step_in b rest t k) h

  in_step-at : (b : ℕ) (u : List ℕ) (l : K) (rest : RowsOf K) (t : List ℕ) (k : K) (q : Bool) → In t k (step b rest) → In t k (cond q ((u, l) ∷ step b rest) (step b rest))
  in_step-at b u l rest t k true ih = inr ih
  in_step-at b u l rest t k false ih = ih

  in_step : (b : ℕ) (rs : RowsOf K) (t : List ℕ) (k : K) → In (b ∷ t) k rs → In t k (step b rs)
  in_step b [] t k h = h
  in_step b (([], l) ∷ rest) t k (inl w) = absurd (cc (w.0))
  in_step b (([], l) ∷ rest) t k (inr w) = in_step b rest t k w
  in_step b ((x ∷ u, l) ∷ rest) t k (inl w) =
      let s : x ≡ b = cc (w.0) in
      let r : u ≡ t = cc (w.0) in
      rw (eq-eqb x b s) (inl (r, w.1))
  in_step b ((x ∷ u, l) ∷ rest) t k (inr w) = in_step-at b u l rest t k (x == b) (in_step b rest t k w)

  own_in : (rs : RowsOf K) (k : K) → own rs ≡ Some k → In [] k rs
  own_in [] k e = absurd (cc e)
  own_in (([], l) ∷ rest) k e = inl (refl, cc e)
  own_in ((x ∷ u, l) ∷ rest) k e = inr (own_in rest k e)

  in_own : (rs : RowsOf K) (k : K) → In [] k rs → (l : K) × (own rs ≡ Some l)
  in_own [] k h = absurd h
  in_own (([], l) ∷ rest) k h = (l, refl)
  in_own ((x ∷ u, l) ∷ rest) k (inl w) = absurd (cc (w.0))
  in_own ((x ∷ u, l) ∷ rest) k (inr w) = in_own rest k w

  -- a row goes on with a slash
  abbrev any_tail : RowsOf K → Bool
  any_tail [] = false
  any_tail (([], l) ∷ rest) = any_tail rest
  any_tail ((x ∷ u, l) ∷ rest) = true

  in_any : (x : ℕ) (u : List ℕ) (rs : RowsOf K) (k : K) → In (x ∷ u) k rs → any_tail rs ≡ true
  in_any x u [] k h = absurd h
  in_any x u (([], l) ∷ rest) k (inl w) = absurd (cc (w.0))
  in_any x u (([], l) ∷ rest) k (inr w) = in_any x u rest k w
  in_any x u ((y ∷ v, l) ∷ rest) k h = refl

  with_in-at : (s u : List ℕ) (l : K) (rest : RowsOf K) (t : List ℕ) (k : K) (q : Bool) → (In t k (with_suffix s rest) → In t k rest)
      → In t k (cond q ((u, l) ∷ with_suffix s rest) (with_suffix s rest)) → In t k ((u, l) ∷ rest)
  with_in-at s u l rest t k true ih (inl w) = inl w
  with_in-at s u l rest t k true ih (inr w) = inr (ih w)
  with_in-at s u l rest t k false ih w = inr (ih w)

  with_in : (s : List ℕ) (rs : RowsOf K) (t : List ℕ) (k : K) → In t k (with_suffix s rs) → In t k rs
  with_in s [] t k h = h
  with_in s ((u, l) ∷ rest) t k h = with_in-at s u l rest t k (same_text (segment u) s) (with_in s rest t k) h

  in_with-at : (s u : List ℕ) (l : K) (rest : RowsOf K) (t : List ℕ) (k : K) (q : Bool) → In t k (with_suffix s rest) → In t k (cond q ((u, l) ∷ with_suffix s rest) (with_suffix s rest))
  in_with-at s u l rest t k true ih = inr ih
  in_with-at s u l rest t k false ih = ih

  -- a row that goes on with a slash has that suffix
  in_with : (rs : RowsOf K) (u : List ℕ) (k : K) → In (slash ∷ u) k rs → In (slash ∷ u) k (with_suffix (slash ∷ []) rs)
  in_with [] u k h = h
  in_with ((v, l) ∷ rest) u k (inl w) = let e : same_text (segment v) (slash ∷ []) ≡ true = rw w.0 in rw e (inl w)
  in_with ((v, l) ∷ rest) u k (inr w) = in_with-at (slash ∷ []) v l rest (slash ∷ u) k _ (in_with rest u k w)

  -- ---- the longest suffix, where each tail begins a piece

  tails_rest : (u : List ℕ) (l : K) (rest : RowsOf K) → AllTails ((u, l) ∷ rest) → AllTails rest
  tails_rest u l rest h t k w = h t k (inr w)

  longest-none : (seg : List ℕ) (rs : RowsOf K) → AllTails rs → cuts seg (slash ∷ []) ≡ false → longest_from seg [] rs ≡ []
  longest-none seg [] h e = refl
  longest-none seg (([], l) ∷ rest) h e = longest-none seg rest (tails_rest [] l rest h) e
  longest-none seg ((x ∷ u, l) ∷ rest) h e =
      let s : x ≡ slash = eqb-true x slash (h (x ∷ u) l (inl (refl, refl))) in
      rw (s, e) (longest-none seg rest (tails_rest (x ∷ u) l rest h) e)

  longest-kept : (seg : List ℕ) (rs : RowsOf K) → AllTails rs → longest_from seg (slash ∷ []) rs ≡ slash ∷ []
  longest-kept seg [] h = refl
  longest-kept seg (([], l) ∷ rest) h = longest-kept seg rest (tails_rest [] l rest h)
  longest-kept seg ((x ∷ u, l) ∷ rest) h =
      let s : x ≡ slash = eqb-true x slash (h (x ∷ u) l (inl (refl, refl))) in
      rw s (longest-kept seg rest (tails_rest (x ∷ u) l rest h))

  longest-some : (seg : List ℕ) (rs : RowsOf K) → AllTails rs → cuts seg (slash ∷ []) ≡ true → longest_from seg [] rs ≡ cond (any_tail rs) (slash ∷ []) []
  longest-some seg [] h e = refl
  longest-some seg (([], l) ∷ rest) h e = longest-some seg rest (tails_rest [] l rest h) e
  longest-some seg ((x ∷ u, l) ∷ rest) h e =
      let s : x ≡ slash = eqb-true x slash (h (x ∷ u) l (inl (refl, refl))) in
      rw (s, e) (longest-kept seg rest (tails_rest (x ∷ u) l rest h))

  -- ---- what a parameter takes

  tails-step : (rs : RowsOf K) → AllShaped rs → AllTails (step param_token rs)
  tails-step rs h t k w = both_first _ _ (h (param_token ∷ t) k (step_in param_token rs t k w))

  shaped-step : (b : ℕ) (rs : RowsOf K) → AllShaped rs → AllShaped (step b rs)
  shaped-step b rs h t k w = both_second _ _ (both_second _ _ (h (b ∷ t) k (step_in b rs t k w)))

  shaped-with : (s : List ℕ) (rs : RowsOf K) → AllShaped rs → AllShaped (with_suffix s rs)
  shaped-with s rs h t k w = h t k (with_in s rs t k w)

  step-value : (prs : RowsOf K) (p : List ℕ) (found : List ℕ) (has : Bool) → longest_suffix (segment p) prs ≡ found → has_slash p ≡ has
      → param_step prs p ≡ cond (ltb 0 (length found)) (length (segment p) - length found, with_suffix found prs) (cond has (0, []) (length p, prs))
  unfolding param_step
  step-value prs p found has e f = rw (e, f)

  seek-drop : (n : ℕ) (rs : RowsOf K) (p : List ℕ) → seek n rs p ≡ seek 0 rs (drop n p)
  unfolding seek
  seek-drop zero rs p = refl
  seek-drop (suc n) rs [] = refl
  seek-drop (suc n) rs (b ∷ p) = seek-drop n rs p

  abbrev after : RowsOf K → ℕ → List ℕ → Option K
  after prs b p = seek ((param_step prs (b ∷ p)).0 - 1) (param_step prs (b ∷ p)).1 p

  after-none : (prs : RowsOf K) (b : ℕ) (p : List ℕ) → param_step prs (b ∷ p) ≡ (0, []) → after prs b p ≡ seek 0 [] p
  after-none prs b p e = rw e

  after-slash : (prs : RowsOf K) (b : ℕ) (p : List ℕ) → AllTails prs → (b == slash) ≡ true → after prs b p ≡ seek 0 [] p
  after-slash prs b p h e =
      after-none prs b p (step-value prs (b ∷ p) [] true (longest-none (segment (b ∷ p)) prs h (cuts-slash b p e)) (has-cons b p true e))

  after-end : (prs : RowsOf K) (b : ℕ) (p : List ℕ) → AllTails prs → (b == slash) ≡ false → has_slash p ≡ false → after prs b p ≡ own prs
  unfolding seek
  after-end prs b p h e f =
      let s = step-value prs (b ∷ p) [] false (longest-none (segment (b ∷ p)) prs h (cuts-end b p e f)) (has-cons b p false e ∙ f) in
      let one : length (b ∷ p) - 1 ≡ length p = omega arith in
      let gone : drop (length p) p ≡ [] = grind (arith, common_steps) in
      rw (s, one) (seek-drop (length p) prs p ∙ ap (seek 0 prs) gone)

  after-mid-at : (prs : RowsOf K) (b : ℕ) (p : List ℕ) (any : Bool) → (b == slash) ≡ false → has_slash p ≡ true
      → param_step prs (b ∷ p) ≡ cond (ltb 0 (length (cond any (slash ∷ []) []))) (length (segment (b ∷ p)) - length (cond any (slash ∷ []) []), with_suffix (cond any (slash ∷ []) []) prs) (0, [])
      → after prs b p ≡ cond any (seek 0 (with_suffix (slash ∷ []) prs) (rest_at p)) (seek 0 [] p)
  after-mid-at prs b p true e h s =
      let has : has_slash (b ∷ p) ≡ true = has-cons b p false e ∙ h in
      let more : run (b ∷ p) ≡ suc (run p) = rw e in
      let len : length (segment (b ∷ p)) ≡ suc (suc (run p)) = segment-slash (b ∷ p) has ∙ ap suc more in
      let left : (length (segment (b ∷ p)) - 1) - 1 ≡ run p = omega arith in
      rw (s, left) (seek-drop (run p) (with_suffix (slash ∷ []) prs) p ∙ ap (seek 0 (with_suffix (slash ∷ []) prs)) (drop-run p))
  after-mid-at prs b p false e h s = after-none prs b p s

  after-mid : (prs : RowsOf K) (b : ℕ) (p : List ℕ) → AllTails prs → (b == slash) ≡ false → has_slash p ≡ true
      → after prs b p ≡ cond (any_tail prs) (seek 0 (with_suffix (slash ∷ []) prs) (rest_at p)) (seek 0 [] p)
  after-mid prs b p h e f =
      after-mid-at prs b p (any_tail prs) e f
      (step-value prs (b ∷ p) (cond (any_tail prs) (slash ∷ []) []) true (longest-some (segment (b ∷ p)) prs h (cuts-mid b p e f)) (has-cons b p false e ∙ f))

-- ---- fitting past a parameter

inside-at : (t : ℕ) (u : List ℕ) (b : ℕ) (p : List ℕ) (v : Bool) → (b == slash) ≡ v → t ≡ slash → fits true (t ∷ u) p ≡ fits false (t ∷ u) (rest_at p)
    → cond v (t == slash && fits false u p) (fits true (t ∷ u) p) ≡ fits false (t ∷ u) (cond v (b ∷ p) (rest_at p))
inside-at t u b p true e s ih = let r : b ≡ slash = eqb-true b slash e in rw (s, r)
inside-at t u b p false e s ih = ih

inside-over : (b : ℕ) (p : List ℕ) (v : Bool) → fits true [] p ≡ fits false [] (rest_at p) → cond v false (fits true [] p) ≡ fits false [] (cond v (b ∷ p) (rest_at p))
inside-over b p true ih = refl
inside-over b p false ih = ih

pub fits-inside : (t p : List ℕ) → starts_piece t ≡ true → fits true t p ≡ fits false t (rest_at p)
fits-inside t [] h = refl
fits-inside [] (b ∷ p) h = inside-over b p (b == slash) (fits-inside [] p h)
fits-inside (t ∷ u) (b ∷ p) h = inside-at t u b p (b == slash) refl (eqb-true t slash h) (fits-inside (t ∷ u) p h)

bytes-rest-at : (b : ℕ) (p : List ℕ) (v : Bool) → AllByRecursion (λ x. x < 256) (b ∷ p) → AllByRecursion (λ x. x < 256) (rest_at p) → AllByRecursion (λ x. x < 256) (cond v (b ∷ p) (rest_at p))
bytes-rest-at b p true h ih = h
bytes-rest-at b p false h ih = ih

pub bytes-rest : (p : List ℕ) → AllByRecursion (λ x. x < 256) p → AllByRecursion (λ x. x < 256) (rest_at p)
bytes-rest [] h = h
bytes-rest (b ∷ p) h = bytes-rest-at b p (b == slash) h (bytes-rest p h.1)

short-rest-at : (b : ℕ) (p : List ℕ) (v : Bool) → length (rest_at p) ≤ length p → length (cond v (b ∷ p) (rest_at p)) ≤ length (b ∷ p)
short-rest-at b p true h = omega arith
short-rest-at b p false h = omega arith

pub short-rest : (p : List ℕ) → length (rest_at p) ≤ length p
short-rest [] = omega arith
short-rest (b ∷ p) = short-rest-at b p (b == slash) (short-rest p)

eq-self : (b : ℕ) → (b == b) ≡ true
eq-self b = eq-eqb b b refl

pub over-nil : (t : List ℕ) → is_over t ≡ true → t ≡ []
over-nil [] h = refl
over-nil (x ∷ t) h = absurd (true≢false (sym h))

pub not-true : (v : Bool) → not v ≡ true → v ≡ false
not-true true h = absurd (true≢false (sym h))
not-true false h = refl

-- ---- the two directions

-- what fits a shorter path is found, or another that fits in its place
abbrev CompleteBelow : Type 0 → ℕ → Type 0
CompleteBelow K m = (rs : RowsOf K) (p : List ℕ) → length p ≤ m → AllShaped rs → (t : List ℕ) (k : K) → In t k rs → fits false t p ≡ true → (l : K) × (seek 0 rs p ≡ Some l)

module _ {K : Type 0} where
  or-split : (x y : Option K) (k : K) → or_else x y ≡ Some k → (x ≡ Some k) ⊎ (y ≡ Some k)
  or-split None y k e = inr e
  or-split (Some l) y k e = inl e

  or-left : (x y : Option K) → ((l : K) × (x ≡ Some l)) → (l : K) × (or_else x y ≡ Some l)
  or-left x y h = (h.0, rw h.1)

  or-right : (x y : Option K) → ((l : K) × (y ≡ Some l)) → (l : K) × (or_else x y ≡ Some l)
  or-right None y h = h
  or-right (Some k) y h = (k, refl)

  -- what a shorter path finds, fits
  abbrev SoundBelow : ℕ → K → Type 0
  SoundBelow m k = (rs : RowsOf K) (p : List ℕ) → length p ≤ m → AllByRecursion (λ x. x < 256) p → AllShaped rs → seek 0 rs p ≡ Some k → Fitting rs p k

  none-fits : (m : ℕ) (k : K) → SoundBelow m k → (p : List ℕ) → length p ≤ m → AllByRecursion (λ x. x < 256) p → seek 0 [] p ≡ Some k → ⊥
  none-fits m k ih p l a e = (ih [] p l a (λ t j w. absurd w) e).1

  -- a row that goes on with a parameter fits where its rest does
  param-fits : (rs : RowsOf K) (b : ℕ) (p : List ℕ) (k : K) → AllShaped rs → (b == slash) ≡ false → (t : List ℕ) → In t k (step param_token rs) → fits false t (rest_at p) ≡ true → Fitting rs (b ∷ p) k
  param-fits rs b p k s e t w f =
      let inside : fits true t p ≡ true = fits-inside t p (tails-step rs s t k w) ∙ f in
      let whole : fits false (param_token ∷ t) (b ∷ p) ≡ true = rw e inside in
      (param_token ∷ t, step_in param_token rs t k w, whole)

  mid-sound : (m : ℕ) (rs : RowsOf K) (b : ℕ) (p : List ℕ) (k : K) (any : Bool) → SoundBelow m k → length p ≤ m → AllByRecursion (λ x. x < 256) p → AllShaped rs → (b == slash) ≡ false
      → cond any (seek 0 (with_suffix (slash ∷ []) (step param_token rs)) (rest_at p)) (seek 0 [] p) ≡ Some k → Fitting rs (b ∷ p) k
  mid-sound m rs b p k true ih l a s e found =
      let prs = step param_token rs in
      let short : length (rest_at p) ≤ m = omega (arith, short-rest p) in
      let got = ih (with_suffix (slash ∷ []) prs) (rest_at p) short (bytes-rest p a) (shaped-with (slash ∷ []) prs (shaped-step param_token rs s)) found in
      param-fits rs b p k s e got.0 (with_in (slash ∷ []) prs got.0 k got.1) got.2
  mid-sound m rs b p k false ih l a s e found = absurd (none-fits m k ih p l a found)

  end-sound : (rs : RowsOf K) (b : ℕ) (p : List ℕ) (k : K) → AllShaped rs → (b == slash) ≡ false → has_slash p ≡ false → own (step param_token rs) ≡ Some k → Fitting rs (b ∷ p) k
  end-sound rs b p k s e f found = param-fits rs b p k s e [] (own_in (step param_token rs) k found) (rw (rest-none p f))

  param-sound : (m : ℕ) (rs : RowsOf K) (b : ℕ) (p : List ℕ) (k : K) (is has : Bool) → (b == slash) ≡ is → has_slash p ≡ has → SoundBelow m k → length p ≤ m → AllByRecursion (λ x. x < 256) p → AllShaped rs
      → after (step param_token rs) b p ≡ Some k → Fitting rs (b ∷ p) k
  param-sound m rs b p k true has e f ih l a s found =
      absurd (none-fits m k ih p l a (sym (after-slash (step param_token rs) b p (tails-step rs s) e) ∙ found))
  param-sound m rs b p k false true e f ih l a s found =
      mid-sound m rs b p k (any_tail (step param_token rs)) ih l a s e (sym (after-mid (step param_token rs) b p (tails-step rs s) e f) ∙ found)
  param-sound m rs b p k false false e f ih l a s found =
      end-sound rs b p k s e f (sym (after-end (step param_token rs) b p (tails-step rs s) e f) ∙ found)

  catch-none : (rs : RowsOf K) (k : K) → AllShaped rs → own (step catch_all_token rs) ≡ Some k → ⊥
  catch-none rs k s e =
      let shaped = s (catch_all_token ∷ []) k (step_in catch_all_token rs [] k (own_in (step catch_all_token rs) k e)) in
      absurd (true≢false (sym shaped))

  byte-sound : (rs : RowsOf K) (b : ℕ) (p : List ℕ) (k : K) → b < 256 → Fitting (step b rs) p k → Fitting rs (b ∷ p) k
  byte-sound rs b p k l got =
      let other : (b == param_token) ≡ false = grind (arith, nat_tests) in
      let whole : fits false (b ∷ got.0) (b ∷ p) ≡ true = rw (other, eq-self b) got.2 in
      (b ∷ got.0, step_in b rs got.0 k got.1, whole)

  -- what is found fits
  sound : (m : ℕ) (k : K) → SoundBelow m k
  unfolding seek
  sound m k rs [] l a s e = ([], own_in rs k e, refl)
  sound zero k rs (b ∷ p) l a s e = absurd (omega arith)
  sound (suc m) k rs (b ∷ p) l a s e =
      let short : length p ≤ m = omega arith in
      elim (or-split _ _ k e) [
        | inl x ↦ byte-sound rs b p k a.0 (sound m k (step b rs) p short a.1 (shaped-step b rs s) x)
        | inr y ↦ elim (or-split _ _ k y) [
          | inl z ↦ param-sound m rs b p k _ _ refl refl (sound m k) short a.1 s z
          | inr z ↦ absurd (catch-none rs k s z)
        ]
      ]

  -- what fits is found, or another that fits in its place
  abbrev Finds : RowsOf K → List ℕ → Type 0
  Finds rs p = (l : K) × (seek 0 rs p ≡ Some l)

  mid-finds : (m : ℕ) (prs : RowsOf K) (p q : List ℕ) (t : List ℕ) (k : K) → CompleteBelow K m → length p ≤ m → AllTails prs → AllShaped prs → In t k prs
      → rest_at p ≡ slash ∷ q → fits false t (rest_at p) ≡ true → (l : K) × (cond (any_tail prs) (seek 0 (with_suffix (slash ∷ []) prs) (rest_at p)) (seek 0 [] p) ≡ Some l)
  mid-finds m prs p q [] k ih l h s w r f = absurd (true≢false (sym (sym (ap (fits false []) r) ∙ f)))
  mid-finds m prs p q (x ∷ u) k ih l h s w r f =
      let is : x ≡ slash = eqb-true x slash (h (x ∷ u) k w) in
      let any : any_tail prs ≡ true = in_any x u prs k w in
      let short : length (rest_at p) ≤ m = omega (arith, short-rest p) in
      let there : In (slash ∷ u) k prs = subst (λ y. In (y ∷ u) k prs) is w in
      let fit : fits false (slash ∷ u) (rest_at p) ≡ true = subst (λ y. fits false (y ∷ u) (rest_at p) ≡ true) is f in
      rw any (ih (with_suffix (slash ∷ []) prs) (rest_at p) short (shaped-with (slash ∷ []) prs s) (slash ∷ u) k (in_with prs u k there) fit)

  param-finds : (m : ℕ) (prs : RowsOf K) (b : ℕ) (p : List ℕ) (t : List ℕ) (k : K) (has : Bool) → has_slash p ≡ has → (b == slash) ≡ false → CompleteBelow K m → length p ≤ m → AllTails prs → AllShaped prs
      → In t k prs → fits false t (rest_at p) ≡ true → (l : K) × (after prs b p ≡ Some l)
  param-finds m prs b p t k true f e ih l h s w fit =
      let cut = rest-some p f in
      rw (after-mid prs b p h e f) (mid-finds m prs p cut.0 t k ih l h s w cut.1 fit)
  param-finds m prs b p t k false f e ih l h s w fit =
      let over : t ≡ [] = over-nil t (sym (ap (fits false t) (rest-none p f)) ∙ fit) in
      rw (after-end prs b p h e f) (in_own prs k (subst (λ y. In y k prs) over w))

  row-finds : (m : ℕ) (rs : RowsOf K) (b : ℕ) (p : List ℕ) (x : ℕ) (u : List ℕ) (k : K) (is : Bool) → (x == param_token) ≡ is → CompleteBelow K m → length p ≤ m → AllShaped rs → In (x ∷ u) k rs
      → cond is (not (b == slash) && fits true u p) (x == b && fits false u p) ≡ true
      → (l : K) × (or_else (seek 0 (step b rs) p) (or_else (after (step param_token rs) b p) (own (step catch_all_token rs))) ≡ Some l)
  row-finds m rs b p x u k true e ih l s w f =
      let param : x ≡ param_token = eqb-true x param_token e in
      let prs = step param_token rs in
      let there : In u k prs = in_step param_token rs u k (subst (λ y. In (y ∷ u) k rs) param w) in
      let tails = tails-step rs s in
      let other : (b == slash) ≡ false = not-true _ (both_first _ _ f) in
      let fit : fits false u (rest_at p) ≡ true = sym (fits-inside u p (tails u k there)) ∙ both_second _ _ f in
      or-right _ _ (or-left _ _ (param-finds m prs b p u k _ refl other ih l tails (shaped-step param_token rs s) there fit))
  row-finds m rs b p x u k false e ih l s w f =
      let same : x ≡ b = eqb-true x b (both_first _ _ f) in
      let there : In u k (step b rs) = in_step b rs u k (subst (λ y. In (y ∷ u) k rs) same w) in
      or-left _ _ (ih (step b rs) p l (shaped-step b rs s) u k there (both_second _ _ f))

  complete : (m : ℕ) → CompleteBelow K m
  unfolding seek
  complete m rs [] l s t k w f = in_own rs k (subst (λ y. In y k rs) (over-nil t f) w)
  complete zero rs (b ∷ p) l s t k w f = absurd (omega arith)
  complete (suc m) rs (b ∷ p) l s [] k w f = absurd (true≢false (sym f))
  complete (suc m) rs (b ∷ p) l s (x ∷ u) k w f =
      let short : length p ≤ m = omega arith in
      row-finds m rs b p x u k (x == param_token) refl (complete m) short s w f

  -- ---- what `first` finds

  pub first-fits : (rs : RowsOf K) (p : List ℕ) (k : K) → AllShaped rs → AllByRecursion (λ x. x < 256) p → first rs p ≡ Some k → Fitting rs p k
  first-fits rs p k s a e = sound (length p) k rs p (omega arith) a s e

  pub first-none : (rs : RowsOf K) (p : List ℕ) → AllShaped rs → first rs p ≡ None → (t : List ℕ) (k : K) → In t k rs → fits false t p ≡ false
  first-none rs p s e t k w = at (fits false t p) refl
    where
      at : (v : Bool) → fits false t p ≡ v → v ≡ false
      at true f = absurd (cc (e, (complete (length p) rs p (omega arith) s t k w f).1))
      at false f = refl
