use Rattle.std.proofs.Common.{rules, subst, ◌++◌, ◌≡◌}
use Rattle.transferd.proofs.LineLemmas.{half_printed}
use Rattle.transferd.proofs.line.run_line.Goals as goal
use Rattle.transferd.specs.Endings.{Stream, written_to}
use Rattle.transferd.specs.Output.{IsPart}

pub returns-in-Ok-clause-carried : goal.returns-in-Ok-clause-carried
returns-in-Ok-clause-carried g c start leads =
    let k = g.K.Sink.words in
    let text = c.in_ok-session.field-0.text.items in
    let same : c.deref.result.now ≡ text = search rules in
    (text, c.in_ok-session.ensures.made start leads, λ t. subst (λ b. k.taken c.write_all.new.sink ≡ k.taken c.args.out.now ++ b) same (c.in-Ok.ensures.told t).ok)

pub returns-clause-carried : goal.returns-clause-carried
returns-clause-carried g c start leads =
    let d = g.D.Disk in
    let old = c.args.session in
    let next = c.in_ok-session.field-0 in
    let made = c.in_ok-session.ensures.made start leads in
    let out : Stream = written_to g.K.Sink.words c.args.out.now c.write_all.new.sink in
    let same : c.deref.result.now ≡ next.text.items = search rules in
    half_printed d.words (d.words.honest old.desk.disk) old.desk.setup c.args.line start old.desk.disk next.session next.text.items made c.stop.result.exit c.stop.ensures.exit c.stop.result.disk c.stop.ensures.disk out
    (λ t. subst (λ b. IsPart b out.before out.after) same (record { number = c.in-Err.field-0.wrote; not_all = c.in-Err.ensures.room; written = (c.in-Err.ensures.told t).err }))
