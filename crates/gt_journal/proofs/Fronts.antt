-- What the bytes of a front stand for in a whole file.
use Rattle.std.proofs.Common.{◌⊎◌, inl, inr, ℕ, List, [], ◌∷◌, ◌++◌, sym, ◌∙◌, ap, subst}
use Rattle.std.proofs.lemmas.Bool.{cases_eq}
use Rattle.gt_journal.specs.JournalText.{text, Fits, IsJournalText, IsFront}
use Rattle.gt_journal.specs.Gates.{Closed, Doubtful, InDoubt}
use Rattle.gt_journal.proofs.Steps.{kept, dropped}
use Rattle.gt_journal.proofs.Texts.{texts-push, all-push}

-- one record more
pub front_more : (bodies : List (List ℕ)) (front body : List ℕ) → IsFront bodies front → Fits body → IsFront (bodies ++ body ∷ []) (front ++ text body)
front_more bodies front body stands fits = record { fit = all-push bodies body stands.fit fits; is = ap (λ (l : List ℕ). l ++ text body) stands.is ∙ sym (texts-push bodies body) }

pub closed_text : (bodies : List (List ℕ)) (front c : List ℕ) → IsFront bodies front → Closed front c → IsJournalText bodies c
closed_text bodies front c stands closed = record {
  fit = stands.fit;
  tail = closed.gate ∷ closed.rest;
  whole = closed.whole ∙ ap (λ (l : List ℕ). l ++ closed.gate ∷ closed.rest) stands.is;
  is_tail = inr closed.shut;
}

pub doubt_text : (bodies : List (List ℕ)) (front body c : List ℕ) → IsFront bodies front → Fits body → InDoubt front body c → IsJournalText bodies c ⊎ IsJournalText (bodies ++ body ∷ []) c
doubt_text bodies front body c stands fits (gate, doubtful) = elim (cases_eq gate 1) [
  | inl open_gate ↦
      inr (closed_text (bodies ++ body ∷ []) (front ++ text body) c (front_more bodies front body stands fits) (kept front body c (subst (λ g. Doubtful front body g c) open_gate doubtful)))
  | inr shut ↦ inl (closed_text bodies front c stands (dropped front body gate c shut doubtful))
]
