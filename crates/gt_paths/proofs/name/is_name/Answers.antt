use Rattle.std.proofs.Common.{◌≡◌, ◌∙◌, sym, ap, not, false}
use Rattle.std.proofs.lemmas.Bool.{not-true, true≢false}
use Rattle.std.specs.List.{list_any}
use Rattle.gt_paths.proofs.NameLemmas.{is_name-text}
use Rattle.gt_paths.specs.Name.{is_separator}
use Rattle.gt_paths.proofs.name.is_name.Goals as goal
use Rattle.gt_paths.proofs.name.is_name.Goals.{then-is_sized, else-is_sized}

pub returns-then-not-has_separator : goal.returns-then-not-has_separator
returns-then-not-has_separator c =
    elim c.if-is_sized.branch [
      | then-is_sized w ↦
          let plain : list_any is_separator c.args.text.now ≡ false =
          sym w.has_separator.ensures ∙ not-true _ (sym w.value-is ∙ c.if-not-has_separator.true) in
          ap not c.is_reserved.ensures ∙ is_name-text c.args.text.now c.utf8.text (sym c.is_sized.ensures ∙ w.if-is_sized.true) plain
      | else-is_sized w ↦ absurd (true≢false (sym c.if-not-has_separator.true ∙ w.value-is ∙ w.if-is_sized.false))
    ]
