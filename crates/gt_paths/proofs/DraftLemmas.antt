-- A draft with one name more.
use Rattle.std.proofs.Common.{◌≡◌, ℕ, ◌≤◌, ◌+◌, List, [], ◌∷◌, ◌++◌, length, true, refl, sym, ◌∙◌, ap, arith, length-append}
use Rattle.std.specs.List.{list_all}
use Rattle.std.proofs.lemmas.Bool.{and_from}
use Rattle.std.proofs.lemmas.List.Folds.{list_all-append}
use Rattle.gt_paths.proofs.PathLemmas.{length-slashed-push}
use Rattle.gt_paths.specs.declared.draft.Draft.{Draft}
use Rattle.gt_paths.specs.Draft.{IsDraftOf}
use Rattle.gt_paths.specs.Name.{is_name}
use Rattle.gt_paths.specs.Path.{PathValue}

all_pushed : (names : PathValue) (name : List ℕ) → list_all is_name names ≡ true → is_name name ≡ true → list_all is_name (names ++ name ∷ []) ≡ true
all_pushed names name all one = list_all-append is_name names (name ∷ []) ∙ and_from _ _ all (and_from _ _ one refl)

length_pushed : (names : PathValue) (name : List ℕ) → length (names ++ name ∷ []) ≡ length names + 1
length_pushed names name = length-append names (name ∷ [])

pub pushed : (old new : Draft) (names : PathValue) (name : List ℕ) → IsDraftOf old names → is_name name ≡ true
    → new.depth ≡ old.depth + 1 → new.bytes ≡ old.bytes + length name + 1
    → (old.depth + 1 ≤ 64 → old.bytes + length name + 1 ≤ 4096 → new.names.items ≡ old.names.items ++ name ∷ [])
    → IsDraftOf new (names ++ name ∷ [])
pushed old new names name draft one depth bytes held =
    let more = length_pushed names name in
    let longer = length-slashed-push names name in
    record {
      named = all_pushed names name draft.named one;
      depth = depth ∙ ap (λ n. n + 1) draft.depth ∙ sym more;
      bytes = bytes ∙ ap (λ n. n + length name + 1) draft.bytes ∙ sym longer;
      held = λ short small.
          let few : old.depth + 1 ≤ 64 = omega (arith, draft.depth) in
          let slight : old.bytes + length name + 1 ≤ 4096 = omega (arith, draft.bytes) in
          held few slight ∙ ap (λ l. l ++ name ∷ []) (draft.held (omega arith) (omega arith));
    }
