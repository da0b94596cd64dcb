use Rattle.std.proofs.Common.{None, Some, refl, rules, subst, sym, ◌≡◌}
use Rattle.std.specs.Option.{option_map}
use Rattle.std.specs.Prelude.{IfSome}
use Rattle.std.specs.Result.{result_ok}
use Rattle.gt_causes.specs.Causes.{Rose}
use Rattle.gt_service.specs.Service.{Response}
use Rattle.gt_script.specs.declared.line.Line.TheVariants.{Send}
use Rattle.transferd.proofs.LineLemmas.{not_printed, request_made, request_stopped}
use Rattle.transferd.proofs.line.make_request.Goals as goal
use Rattle.transferd.specs.Output.{response_text}
use Rattle.transferd.specs.Progress.{MadeLine}
use Rattle.transferd.specs.Run.{incoming_of}

pub returns-in_default-clause-made : goal.returns-in_default-clause-made
returns-in_default-clause-made g c start leads out wrote =
    let d = g.D.Disk in
    let old = c.args.session in
    let new = record old { desk = c.serve_with.new.desk } in
    let call = c.serve_with.ensures in
    let incoming = incoming_of c.args.token c.args.method c.args.target c.args.body in
    let none : option_map (λ w. (w.0, w.1.items)) (result_ok c.serve_with.result) ≡ None = search rules in
    request_stopped d.words g.met.D.Disk.laws old new incoming _ call.call call.same.disk call.same.setup refl call.any_moment call.images
    (subst (λ o. IfSome o (λ (r : Response). r.0 ≡ 503 → Rose (d.words.faults old.desk.disk) (d.words.faults new.desk.disk))) (sym none) tt) c.runs_go_on.ensures.run start leads
    c.args.token c.args.method c.args.target c.args.body refl none c.stop.result.exit c.stop.ensures.exit c.stop.result.disk c.stop.ensures.disk out wrote

pub returns-in-Ok-reply_line-clause-made : goal.returns-in-Ok-reply_line-clause-made
returns-in-Ok-reply_line-clause-made g c start leads =
    let d = g.D.Disk in
    let old = c.args.session in
    let new = record old { desk = c.serve_with.new.desk } in
    let call = c.in-Ok.ensures in
    let incoming = incoming_of c.args.token c.args.method c.args.target c.args.body in
    let response : Response = (c.in-Ok.status, c.in-Ok.document.items) in
    let text = c.in-Ok-reply_line.text.items in
    let made = request_made d.words g.met.D.Disk.laws old new incoming (Some response) call.call call.same.disk call.same.setup refl call.any_moment call.images call.cause c.runs_go_on.ensures.run start leads
    c.args.token c.args.method c.args.target c.args.body refl response refl in
    let printed : response_text response ≡ text = search rules in
    subst (λ t. MadeLine d.words (d.words.honest old.desk.disk) old.desk.setup (Send c.args.token c.args.method c.args.target c.args.body) start old.desk.disk new t) printed made

pub returns-clause-made : goal.returns-clause-made
returns-clause-made g c start leads out wrote =
    let d = g.D.Disk in
    let old = c.args.session in
    let new = record old { desk = c.serve_with.new.desk } in
    let call = c.in-Ok.ensures in
    let incoming = incoming_of c.args.token c.args.method c.args.target c.args.body in
    let response : Response = (c.in-Ok.status, c.in-Ok.document.items) in
    let made = request_made d.words g.met.D.Disk.laws old new incoming (Some response) call.call call.same.disk call.same.setup refl call.any_moment call.images call.cause c.runs_go_on.ensures.run start leads
    c.args.token c.args.method c.args.target c.args.body refl response refl in
    not_printed d.words (d.words.honest old.desk.disk) old.desk.setup (Send c.args.token c.args.method c.args.target c.args.body) start old.desk.disk new (response_text response) made
    c.stop-in-Err.result.exit c.stop-in-Err.ensures.exit c.stop-in-Err.result.disk c.stop-in-Err.ensures.disk out wrote
