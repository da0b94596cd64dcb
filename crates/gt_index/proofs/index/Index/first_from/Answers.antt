use Rattle.std.proofs.Common.{ap, arith, slice_get, ◌∙◌, ◌≡◌}
use Rattle.std.proofs.lemmas.Grind.{common_steps}
use Rattle.std.proofs.lemmas.Option.{gets}
use Rattle.gt_index.proofs.RunLemmas.{first_is}
use Rattle.gt_index.proofs.index.Index.first_from.Goals as goal

pub returns : goal.returns
returns g c = λ keeps index.
    let places : c.deref.result.now ≡ c.args.self.now.places = c.deref.ensures.value ∙ ap (λ v. v.places) c.self.view_is in
    let found : slice_get c.deref.result.now c.first_at.result ≡ c.copied.result = grind (arith, common_steps, gets) in
    first_is g.R.Key.Ord.cmp g.R.Keyed.key (g.Q.Asked.asked c.args.key.now) c.args.rows.now c.args.self.now.places c.first_at.result
    c.copied.result keeps index (c.first_at.ensures.split index.rising) (rw places at found)
