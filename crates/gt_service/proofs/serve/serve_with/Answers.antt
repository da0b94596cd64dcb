use Rattle.std.proofs.Common.{Err, rules, ◌≡◌, true}
use Rattle.std.specs.Prelude.{◌⊎◌}
use Rattle.gt_requests.specs.declared.fault.RequestFault.TheVariants.{OutOfMemory}
use Rattle.gt_service.proofs.CallLemmas.{from_read, not_503, of_response, refused_status, weaker}
use Rattle.gt_service.proofs.serve.serve_with.Goals as goal
use Rattle.gt_service.specs.Service.{Response, is_read_status, reading_of}

-- refusals without the desk have no status of a failed journal
pub returns-in-Err-clause-cause : goal.returns-in-Err-clause-cause
returns-in-Err-clause-cause g c =
    let read : (c.in-Err.fault ≡ OutOfMemory) ⊎ (reading_of c.args.desk.now.setup c.args.incoming.now ≡ Err c.in-Err.fault) = search rules in
    let status = refused_status c.first_cause_refuses.ensures c.args.desk.now.setup c.args.incoming.now c.in-Err.fault _ read c.refuse.ensures in
    weaker _ _ c.refuse.result (λ w is same. absurd (not_503 w.0 same is)) (of_response _ (λ (r : Response). is_read_status r.0 ≡ true) c.refuse.result status)

pub returns-in-Err-clause-status : goal.returns-in-Err-clause-status
returns-in-Err-clause-status g c =
    let read : (c.in-Err.fault ≡ OutOfMemory) ⊎ (reading_of c.args.desk.now.setup c.args.incoming.now ≡ Err c.in-Err.fault) = search rules in
    let status = refused_status c.first_cause_refuses.ensures c.args.desk.now.setup c.args.incoming.now c.in-Err.fault _ read c.refuse.ensures in
    weaker _ _ c.refuse.result (λ w is. from_read w.0 is) (of_response _ (λ (r : Response). is_read_status r.0 ≡ true) c.refuse.result status)
