-- What is hard: a text that isn't read is no number's text. It would be parsed as that number, and printed as it.
use Rattle.std.proofs.Common.{ap, arith, false, refl, sym, true, ℕ, ◌^◌, ◌∙◌, ◌<◌, ◌≡◌, ◌≤◌}
use Rattle.std.proofs.lemmas.Fmt.{parse-decimal}
use Rattle.std.proofs.lemmas.Slice.Eq.{bytes_eq-Decides}
use Rattle.std.specs.Fmt.{decimal}
use Rattle.std.specs.Str.{bytes_eq}
use Rattle.gt_values.proofs.DecimalLemmas.{absent, present}
use Rattle.gt_values.proofs.decimal.read_decimal.Goals as goal

within_u64 : (n most : ℕ) → n ≤ most → most < 2 ^ 64 → n < 2 ^ 64
within_u64 n most low fits = omega (arith, low, fits)

above : (n most number : ℕ) → n ≤ most → most < number → number ≡ n → ⊥
above n most number low high is = absurd (omega (arith, low, high, is))

pub returns-in_default-clause-none : goal.returns-in_default-clause-none
returns-in_default-clause-none c none n low is =
    let fits = within_u64 n c.args.most low c.ranges.most.fits in
    let ok = parse-decimal 64 n c.args.text.now c.parse.result fits fits is c.parse.ensures.value.0 in
    let never : ⊥ = cc (ok, c.in_default.is) in never

pub returns-in_default-clause-value : goal.returns-in_default-clause-value
returns-in_default-clause-value c = absent c.args.most c.args.text.now (returns-in_default-clause-none c refl)

pub returns-then-number-most-clause-none : goal.returns-then-number-most-clause-none
returns-then-number-most-clause-none c none n low is =
    let fits = within_u64 n c.args.most low c.ranges.most.fits in
    let ok = parse-decimal 64 n c.args.text.now c.parse.result fits fits is c.parse.ensures.value.0 in
    let same : c.in-Ok.number ≡ n = cc (ok, c.in-Ok.is) in
    above n c.args.most c.in-Ok.number low c.if-number-most.true same

pub returns-then-number-most-clause-value : goal.returns-then-number-most-clause-value
returns-then-number-most-clause-value c = absent c.args.most c.args.text.now (returns-then-number-most-clause-none c refl)

pub returns-then-is_printed-clause-value : goal.returns-then-is_printed-clause-value
returns-then-is_printed-clause-value c =
    let low : c.in-Ok.number ≤ c.args.most = c.if-number-most.false in
    let printed : bytes_eq (decimal c.in-Ok.number) c.args.text.now ≡ true = sym c.is_printed.ensures ∙ c.if-is_printed.true in
    sym (present c.args.most c.in-Ok.number c.args.text.now low (within_u64 c.in-Ok.number c.args.most low c.ranges.most.fits)
    (sym ((bytes_eq-Decides (decimal c.in-Ok.number) c.args.text.now).0 printed)))

pub returns-else-is_printed-clause-none : goal.returns-else-is_printed-clause-none
returns-else-is_printed-clause-none c none n low is =
    let fits = within_u64 n c.args.most low c.ranges.most.fits in
    let ok = parse-decimal 64 n c.args.text.now c.parse.result fits fits is c.parse.ensures.value.0 in
    let same : c.in-Ok.number ≡ n = cc (ok, c.in-Ok.is) in
    let yes : bytes_eq (decimal c.in-Ok.number) c.args.text.now ≡ true = (bytes_eq-Decides (decimal c.in-Ok.number) c.args.text.now).1 (ap decimal same ∙ sym is) in
    let both : false ≡ true = sym c.if-is_printed.false ∙ c.is_printed.ensures ∙ yes in
    let never : ⊥ = cc in never

pub returns-else-is_printed-clause-value : goal.returns-else-is_printed-clause-value
returns-else-is_printed-clause-value c = absent c.args.most c.args.text.now (returns-else-is_printed-clause-none c refl)
