use Rattle.std.proofs.Common.{Some, ap, slice_get, ◌+◌, ◌∙◌}
use Rattle.std.specs.Option.{option_map}
use Rattle.gt_index.specs.Index.{places_where}
use Rattle.gt_pauses.specs.Indexed.{is_row_for, lesser}
use Rattle.gt_pauses.proofs.FirstLemmas.{paused_is}
use Rattle.gt_pauses.proofs.live.LiveRows.paused.Goals as goal

pub returns : goal.returns
returns c =
    let own = slice_get (places_where (is_row_for c.args.act c.args.collection (Some c.args.identity.now)) c.args.rows.now) 0 in
    c.number_at.ensures
    ∙ ap (option_map (λ place. place + 1))
    (c.earlier.ensures ∙ ap (λ found. lesser found c.first_of-all.result) c.first_of-own.ensures ∙ ap (lesser own) c.first_of-all.ensures)
    ∙ paused_is c.args.seq c.requires.coming.0 c.args.identity.now c.args.collection c.args.act c.args.rows.now c.requires.coming.2 c.requires.coming.1
    c.requires.numbers
