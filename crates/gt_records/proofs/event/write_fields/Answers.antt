use Rattle.gt_records.proofs.KeepLemmas.{keeps_grown, on_err_by}
use Rattle.gt_records.proofs.event.write_fields.Goals as goal

pub returns-in_ok-write_to-in-SubmitTransfer-2-clause-err : goal.returns-in_ok-write_to-in-SubmitTransfer-2-clause-err
returns-in_ok-write_to-in-SubmitTransfer-2-clause-err c =
    on_err_by c.write_to-in-SubmitTransfer-3.result
    (λ keeps. keeps_grown _ _ _ _ c.in_ok-write_to-in-SubmitTransfer.ensures.ok (keeps_grown _ _ _ _ c.in_ok-write_to-in-SubmitTransfer-2.ensures.ok keeps))
    c.write_to-in-SubmitTransfer-3.ensures.err
