-- A body and its newline make the line that its command line began.
use Rattle.std.proofs.Common.{[], append_assoc, arith, length-append, refl, sym, ◌++◌, ◌∙◌, ◌∷◌}
use Rattle.gt_script.proofs.reader.read_rest.Goals as goal

pub returns-in_ok-body-in-Send-clause-line : goal.returns-in_ok-body-in-Send-clause-line
returns-in_ok-body-in-Send-clause-line g c told =
    let body = c.in_ok-body-in-Send.body.items in
    let after = g.S.Source.words.left c.read_body.new.script in
    let (sized, count, fits) = c.in_ok-body-in-Send.ensures.counted in
    rw (c.in-Send.is, c.from_vec.ensures) (record {
      rest = body ++ 10 ∷ [];
      follows = record { body = body; sized = sized; asks = refl; whole = refl };
      whole = c.in_ok-body-in-Send.ensures.body told ∙ sym (append_assoc body (10 ∷ []) after);
      count = omega (arith, length-append body (10 ∷ []), sized, count);
      fits = fits;
    })
