use Rattle.std.proofs.Common.{◌∙◌, refl, sym}
use Rattle.std.proofs.lemmas.Bool.{true≢false}
use Rattle.gt_paths.proofs.NameLemmas.{is_name-from_IsName}
use Rattle.gt_paths.proofs.name.Name.read.Goals as goal

pub returns-then-not-is_name-clause-refused : goal.returns-then-not-is_name-clause-refused
returns-then-not-is_name-clause-refused c =
    (λ _ name. true≢false (sym (is_name-from_IsName _ name) ∙ sym c.is_name.ensures ∙ c.if-not-is_name.true), λ _. refl)
