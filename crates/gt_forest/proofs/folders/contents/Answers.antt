use Rattle.gt_forest.proofs.MapLemmas.{ContentsMap, contents_of-map}
use Rattle.gt_forest.proofs.folders.contents.Goals as goal
use Rattle.std.proofs.Common.{Bor, None, Option, Some, ap, option_copied, option_map, refl, sym, ◌∙◌, ◌≡◌}

-- the entries of what a reference points to
entries_copied : (r : Option (Bor ContentsMap)) → option_map (λ c. c.now.entries) r ≡ option_map (λ c. c.entries) (option_copied r)
entries_copied None = refl
entries_copied (Some c) = refl

pub returns : goal.returns
returns c =
    entries_copied c.get.result ∙ ap (option_map (λ c. c.entries)) c.get.ensures.value ∙ sym (contents_of-map c.args.folders.now c.args.path.now)
