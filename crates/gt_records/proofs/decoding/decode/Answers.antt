use Rattle.std.proofs.Common.{arith, sym, ◌∙◌}
use Rattle.gt_records.proofs.Decoded.{given, has_limits, has_text, is_given}
use Rattle.gt_records.proofs.decoding.decode.Goals as goal

pub returns-clause-text : goal.returns-clause-text
returns-clause-text c = has_text c.args.bytes.now c.decoded.result (λ i. omega (arith, c.type_inv.bytes i)) c.decoded.ensures.found

pub returns-clause-recordable : goal.returns-clause-recordable
returns-clause-recordable c = has_limits c.args.bytes.now c.decoded.result (λ i. omega (arith, c.type_inv.bytes i)) c.decoded.ensures.found

pub returns-clause-refused : goal.returns-clause-refused
returns-clause-refused c = λ is_refused x h same. let both = sym (c.decoded.ensures.fault is_refused) ∙ given c.args.bytes.now x h same in cc

pub returns-clause-given : goal.returns-clause-given
returns-clause-given c = λ x h same.
    is_given c.args.bytes.now c.decoded.result x (given c.args.bytes.now x h same) c.decoded.ensures.found c.decoded.ensures.fault
