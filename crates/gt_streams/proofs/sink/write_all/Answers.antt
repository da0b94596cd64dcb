use Rattle.gt_streams.proofs.sink.write_all.Goals as goal
use Rattle.std.proofs.Common.{ap, append_assoc, arith, drop, length, length-drop, rules, subst, sym, take, IsTrue, ◌++◌, ◌-◌, ◌∙◌, ◌≡◌}
use Rattle.std.proofs.Math.Seq.{take-add}
use Rattle.std.proofs.lemmas.List.{take_all}

pub loop-wrote-preserved : goal.loop-wrote-preserved
loop-wrote-preserved g c =
    let bytes = c.args.bytes.now in
    let wrote = c.loop-wrote.wrote in
    let more = c.in-Ok.more in
    record {
      size = omega (arith, c.in-Ok.ensures.room, length-drop wrote bytes);
      same = search rules;
      bytes = λ told.
          let now = subst IsTrue (sym c.loop-wrote.invariant.same.told) told in
          let whole : take (length bytes - wrote) (drop wrote bytes) ≡ drop wrote bytes = take_all _ _ (omega (arith, length-drop wrote bytes)) in
          (c.in-Ok.ensures.told now).ok
          ∙ ap (λ b. g.K.Sink.words.taken c.loop-wrote.sink ++ take more b) whole
          ∙ ap (λ b. b ++ take more (drop wrote bytes)) (c.loop-wrote.invariant.bytes told)
          ∙ append_assoc (g.K.Sink.words.taken c.args.sink.now) (take wrote bytes) (take more (drop wrote bytes))
          ∙ ap (λ b. g.K.Sink.words.taken c.args.sink.now ++ b) (sym (take-add wrote more bytes));
      untouched = λ empty. absurd (omega (arith, empty, c.loop-wrote-test.true));
    }
