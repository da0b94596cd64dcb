-- One more link handed out.
use native.Mathlib.Numerals.{unary_clauses}
use Rattle.std.proofs.Common.{ap, inl, inr, ◌∙◌}
use Rattle.std.proofs.Math.Seq.{take-suc}
use Rattle.std.proofs.lemmas.Option.{get_or_from_slice_get, slice_get_cases, slice_get_within}
use Rattle.std.specs.List.{slice_get}
use Rattle.std.specs.Prelude.{List, None, Some, [], length, take, ◌≤◌, ◌+◌, ◌++◌, ◌∷◌, ◌≡◌, ℕ}

-- the next element stands behind those taken
pub take_next : {L : Type 0} (links : List L) (next : ℕ) (link : L) → slice_get links next ≡ Some link → take (next + 1) links ≡ take next links ++ link ∷ []
take_next links next link at = simp unary_clauses (take-suc links next link (slice_get_within links next link at) ∙ ap (λ x. take next links ++ x ∷ []) (get_or_from_slice_get links next link link at))

-- where there is no element, all stand before
pub slice_get_none : {L : Type 0} (links : List L) (next : ℕ) → slice_get links next ≡ None → length links ≤ next
slice_get_none links next none = elim (slice_get_cases links next).1 [ inl found ↦ cc | inr past ↦ past.0 ]
