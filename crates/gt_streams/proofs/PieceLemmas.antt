-- Pieces of a list of bytes.
use Rattle.std.proofs.Common.{List, ap, arith, drop, drop-drop, length, length-drop, length-take-le, sym, take, ◌++◌, ◌+◌, ◌-◌, ◌∙◌, ◌≡◌, ◌≤◌, ℕ}
use Rattle.std.proofs.Math.Seq.{take-append_seam}
use Rattle.std.proofs.lemmas.List.{take-append-drop, take_all}

-- a piece that was copied to the front of another list, and what stands behind it
pub take-copied : (bytes over : List ℕ) (at n : ℕ) → at + n ≤ length bytes → take n (take (at + n - at) (drop at bytes) ++ over) ++ drop (at + n) bytes ≡ drop at bytes
take-copied bytes over at n inside =
    let size : at + n - at ≡ n = omega arith in
    let long : n ≤ length (drop at bytes) = omega (arith, length-drop at bytes) in
    let piece = take n (drop at bytes) in
    let same : length piece ≡ n = length-take-le n (drop at bytes) long in
    let front : take n (piece ++ over) ≡ piece = ap (λ k. take k (piece ++ over)) (sym same) ∙ take-append_seam piece over in
    rw size (ap (λ s. s ++ drop (at + n) bytes) front ∙ ap (λ s. piece ++ s) (sym (drop-drop n at bytes)) ∙ take-append-drop n (drop at bytes))

-- as many bytes from the front as a list has are the list
pub front_is : (given rest bytes : List ℕ) → bytes ≡ given ++ rest → length given ≡ length bytes → given ≡ bytes
front_is given rest bytes whole same =
    sym (take-append_seam given rest) ∙ ap (take (length given)) (sym whole) ∙ ap (λ n. take n bytes) same ∙ take_all (length bytes) bytes (omega arith)
