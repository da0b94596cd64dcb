-- What a crash leaves while the end of a file is closed.
use Rattle.std.proofs.Common.{◌≡◌, inl, ℕ, ◌<◌, List, ◌++◌, length, take, drop, sym, ◌∙◌, ap, subst, arith, length-drop, take-append-drop}
use Rattle.std.proofs.lemmas.List.{take_at}
use Rattle.gt_causes.specs.Outcomes.{Follows, Only}
use Rattle.gt_disk.specs.Disk.{Torn}
use Rattle.gt_journal.specs.JournalText.{texts, IsJournalText}

torn_end : (bodies : List (List ℕ)) (place : ℕ) (s c : List ℕ) → IsJournalText bodies s → place ≡ length (texts bodies) → length (drop place s) < 9 → Torn place 1 s c → IsJournalText bodies c
torn_end bodies place s c stands is short torn =
    let front : take place c ≡ texts bodies = torn.before ∙ ap (λ (l : List ℕ). take place l) stands.whole ∙ take_at (texts bodies) stands.tail place (sym is) in
    record {
      fit = stands.fit;
      tail = drop place c;
      whole = sym (take-append-drop place c) ∙ ap (λ (l : List ℕ). l ++ drop place c) front;
      is_tail = inl (omega (arith, length-drop place c, length-drop place s, short, torn.no_longer));
    }

pub end_follows : (bodies : List (List ℕ)) (place : ℕ) (s : List ℕ) (old new : List ℕ → Type 0) → IsJournalText bodies s → Only s old → place ≡ length (texts bodies) → length (drop place s) < 9
    → Follows (Torn place 1) old new → (c : List ℕ) → new c → IsJournalText bodies c
end_follows bodies place s old new stands only is short follows c left =
    let from = follows c left in torn_end bodies place s c stands is short (subst (λ f. Torn place 1 f c) (only from.0 from.1) from.2)
