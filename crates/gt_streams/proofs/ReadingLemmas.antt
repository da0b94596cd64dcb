-- How reading a line ends, by where the first newline is.
use Rattle.gt_streams.specs.Reading.{HasNoNewline, line_end_of, line_length}
use Rattle.gt_streams.specs.declared.line.LineEnd.TheVariants.{EndOfInput, Line}
use Rattle.gt_streams.specs.declared.line.StreamFault.TheVariants.{TooLong}
use Rattle.std.proofs.Common.{Err, List, Ok, [], add-zero, ap, append-nil, arith, false, length, length-append, nat_eq, nat_le, nat_lt, refl, subst, sym, true, zero-add, ◌++◌, ◌+◌, ◌<◌, ◌∙◌, ◌∷◌, ◌≡◌, ℕ}
use Rattle.std.proofs.lemmas.Bool.{le-leb, le-ltb, lt-leb, ne_eqb}

-- bytes without a newline stand before the first one
pub line_length-plain : (bytes rest : List ℕ) → HasNoNewline bytes → line_length (bytes ++ rest) ≡ length bytes + line_length rest
line_length-plain [] rest plain = sym (zero-add (line_length rest))
line_length-plain (byte ∷ bytes) rest plain =
    let other : nat_eq byte 10 ≡ false = ne_eqb byte 10 plain.0 in
    let more = line_length-plain bytes rest plain.1 in
    rw other (omega (arith, more))

-- a newline behind fewer than `max` bytes ends a line
pub line_end_of-newline : (max : ℕ) (bytes rest : List ℕ) → HasNoNewline bytes → length bytes < max → line_end_of max (bytes ++ 10 ∷ rest) ≡ Ok Line
line_end_of-newline max bytes rest plain short =
    let here : line_length (bytes ++ 10 ∷ rest) ≡ length bytes = line_length-plain bytes (10 ∷ rest) plain ∙ add-zero (length bytes) in
    let fits : nat_le max (line_length (bytes ++ 10 ∷ rest)) ≡ false = lt-leb _ _ (omega (arith, here)) in
    let more : nat_lt (line_length (bytes ++ 10 ∷ rest)) (length (bytes ++ 10 ∷ rest)) ≡ true = le-leb _ _ (omega (arith, here, length-append bytes (10 ∷ rest))) in
    rw (fits, more) refl

-- so does the end of input
pub line_end_of-end : (max : ℕ) (bytes : List ℕ) → HasNoNewline bytes → length bytes < max → line_end_of max bytes ≡ Ok (EndOfInput (length bytes))
line_end_of-end max bytes plain short =
    let here : line_length bytes ≡ length bytes = subst (λ s. line_length s ≡ length bytes) (append-nil bytes) (line_length-plain bytes [] plain ∙ add-zero (length bytes)) in
    let fits : nat_le max (line_length bytes) ≡ false = lt-leb _ _ (omega (arith, here)) in
    let none : nat_lt (line_length bytes) (length bytes) ≡ false = le-ltb _ _ (omega (arith, here)) in
    rw (fits, none) (ap (λ n. Ok (EndOfInput n)) here)

-- `max` bytes without a newline are too long for a line
pub line_end_of-long : (max : ℕ) (bytes rest : List ℕ) → HasNoNewline bytes → length bytes ≡ max → line_end_of max (bytes ++ rest) ≡ Err (TooLong max)
line_end_of-long max bytes rest plain long =
    let past : nat_le max (line_length (bytes ++ rest)) ≡ true = le-leb _ _ (omega (arith, line_length-plain bytes rest plain)) in
    rw past refl
