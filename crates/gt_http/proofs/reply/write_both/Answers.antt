use Rattle.gt_http.proofs.ReplyLemmas.{first_failed, second_failed, whole_took}
use Rattle.gt_http.proofs.reply.write_both.Goals as goal
use Rattle.std.proofs.Common.{IsTrue, false, is_err, rules, subst, sym, true, ◌≡◌}

pub returns-then-is_err-clause-told : goal.returns-then-is_err-clause-told
returns-then-is_err-clause-told g c told =
    let failed : is_err c.write_all.result ≡ true = search rules in
    first_failed _ _ _ _ c.write_all.result failed c.write_all.ensures.room (c.write_all.ensures.told told).err

pub returns-then-is_err-2-clause-told : goal.returns-then-is_err-2-clause-told
returns-then-is_err-2-clause-told g c told =
    let good : is_err c.write_all.result ≡ false = search rules in
    let failed : is_err c.write_all-2.result ≡ true = search rules in
    let still = subst IsTrue (sym c.write_all.ensures.same.told) told in
    let before = g.K.Sink.words.taken c.args.sink.now in
    let between = g.K.Sink.words.taken c.write_all.new.sink in
    let after = g.K.Sink.words.taken c.write_all-2.new.sink in
    let whole = whole_took before c.args.first.now between c.write_all.result good (c.write_all.ensures.told told).ok in
    second_failed before between c.args.first.now c.args.second.now after c.write_all-2.result failed c.write_all-2.ensures.room whole (c.write_all-2.ensures.told still).err
