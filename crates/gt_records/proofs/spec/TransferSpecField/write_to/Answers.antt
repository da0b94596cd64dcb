use Rattle.gt_records.proofs.KeepLemmas.{keeps_grown, on_err, on_err_by}
use Rattle.gt_records.proofs.SpecParts.{spec_fits}
use Rattle.gt_records.proofs.spec.TransferSpecField.write_to.Goals as goal

pub write_to-requires-3 : goal.write_to-requires-3
write_to-requires-3 c = (spec_fits c.args.self.now c.requires).label

pub write_to-requires-8 : goal.write_to-requires-8
write_to-requires-8 c = (spec_fits c.args.self.now c.requires).rules

pub write_to-requires-9 : goal.write_to-requires-9
write_to-requires-9 c = (spec_fits c.args.self.now c.requires).entries

pub returns-in_err-write_to-5-clause-err : goal.returns-in_err-write_to-5-clause-err
returns-in_err-write_to-5-clause-err c = on_err c.from_residual-in_err-write_to-5.result (keeps_grown _ _ _ _ c.in_ok-write_to.ensures.ok (keeps_grown _ _ _ _ c.in_ok-write_to-2.ensures.ok (keeps_grown _ _ _ _ c.in_ok-write_to-3.ensures.ok (keeps_grown _ _ _ _ c.in_ok-write_to-4.ensures.ok c.in_err-write_to-5.ensures.err))))

pub returns-in_err-write_to-6-clause-err : goal.returns-in_err-write_to-6-clause-err
returns-in_err-write_to-6-clause-err c = on_err c.from_residual-in_err-write_to-6.result (keeps_grown _ _ _ _ c.in_ok-write_to.ensures.ok (keeps_grown _ _ _ _ c.in_ok-write_to-2.ensures.ok (keeps_grown _ _ _ _ c.in_ok-write_to-3.ensures.ok (keeps_grown _ _ _ _ c.in_ok-write_to-4.ensures.ok (keeps_grown _ _ _ _ c.in_ok-write_to-5.ensures.ok c.in_err-write_to-6.ensures.err)))))

pub returns-in_err-write_to-7-clause-err : goal.returns-in_err-write_to-7-clause-err
returns-in_err-write_to-7-clause-err c = on_err c.from_residual-in_err-write_to-7.result (keeps_grown _ _ _ _ c.in_ok-write_to.ensures.ok (keeps_grown _ _ _ _ c.in_ok-write_to-2.ensures.ok (keeps_grown _ _ _ _ c.in_ok-write_to-3.ensures.ok (keeps_grown _ _ _ _ c.in_ok-write_to-4.ensures.ok (keeps_grown _ _ _ _ c.in_ok-write_to-5.ensures.ok (keeps_grown _ _ _ _ c.in_ok-write_to-6.ensures.ok c.in_err-write_to-7.ensures.err))))))

pub returns-in_err-write_to-8-clause-err : goal.returns-in_err-write_to-8-clause-err
returns-in_err-write_to-8-clause-err c = on_err c.from_residual-in_err-write_to-8.result (keeps_grown _ _ _ _ c.in_ok-write_to.ensures.ok (keeps_grown _ _ _ _ c.in_ok-write_to-2.ensures.ok (keeps_grown _ _ _ _ c.in_ok-write_to-3.ensures.ok (keeps_grown _ _ _ _ c.in_ok-write_to-4.ensures.ok (keeps_grown _ _ _ _ c.in_ok-write_to-5.ensures.ok (keeps_grown _ _ _ _ c.in_ok-write_to-6.ensures.ok (keeps_grown _ _ _ _ c.in_ok-write_to-7.ensures.ok c.in_err-write_to-8.ensures.err)))))))

pub returns-clause-err : goal.returns-clause-err
returns-clause-err c = on_err_by c.write_to-9.result (λ keeps. keeps_grown _ _ _ _ c.in_ok-write_to.ensures.ok (keeps_grown _ _ _ _ c.in_ok-write_to-2.ensures.ok (keeps_grown _ _ _ _ c.in_ok-write_to-3.ensures.ok (keeps_grown _ _ _ _ c.in_ok-write_to-4.ensures.ok (keeps_grown _ _ _ _ c.in_ok-write_to-5.ensures.ok (keeps_grown _ _ _ _ c.in_ok-write_to-6.ensures.ok (keeps_grown _ _ _ _ c.in_ok-write_to-7.ensures.ok (keeps_grown _ _ _ _ c.in_ok-write_to-8.ensures.ok keeps)))))))) c.write_to-9.ensures.err
