-- What a script finds on the disk of an earlier one.
use Rattle.gt_desk.specs.DeskCall.{IsKept}
use Rattle.gt_desk.specs.History.{Ledger, StandsFor, StandsWith}
use Rattle.gt_desk.specs.Opening.{Finds}
use Rattle.gt_disk.specs.Disk.{DiskWords}
use Rattle.gt_setup.specs.Setup.{Setup}
use Rattle.gt_types.specs.declared.event.Event.{Event}
use Rattle.std.proofs.Common.{List, None, Option, Some, [], append-nil, inl, inr, refl, subst, sym, ⊎_elim, ◌++◌, ◌∙◌, ◌∷◌, ◌≡◌, ℕ}
use Rattle.transferd.specs.Chain.{ServedOn, found_by, left_by}

module _ (setup : Setup) (one : (a b : List Event) (file : List ℕ) → StandsFor setup a file → StandsFor setup b file → a ≡ b) where
  finds_with : (old found : Ledger) (doubt : Option Event) → old.doubt ≡ doubt → (file : List ℕ) → StandsWith setup old.history doubt file → StandsFor setup found.history file → Finds old found
  finds_with old found None is file left stands = record {
    kept = [];
    settles = subst (λ o. IsKept o []) (sym is) refl;
    history = one found.history old.history file stands left ∙ sym (append-nil old.history);
  }
  finds_with old found (Some event) is file left stands =
      ⊎_elim
      (λ without. record {
        kept = [];
        settles = subst (λ o. IsKept o []) (sym is) (inl refl);
        history = one found.history old.history file stands without ∙ sym (append-nil old.history);
      })
      (λ with. record {
        kept = event ∷ [];
        settles = subst (λ o. IsKept o (event ∷ [])) (sym is) (inr refl);
        history = one found.history (old.history ++ event ∷ []) file stands with;
      }) left

  pub finds_left : {D : Type 0} (words : DiskWords D) (old mid again new : D) → words.may_leave mid (words.seen again) → (first : ServedOn words setup old mid) (second : ServedOn words setup again new)
      → Finds (left_by words setup old mid first) (found_by words setup again new second)
  finds_left words old mid again new left first second =
      finds_with (left_by words setup old mid first) second.served.found (left_by words setup old mid first).doubt refl (words.seen again)
      (first.served.ran.kept refl (words.seen again) left) (second.served.file refl)
