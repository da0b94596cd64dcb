use Rattle.transferd.proofs.OpeningLemmas.{read_full, read_short}
use Rattle.transferd.proofs.setup.read_bytes.Goals as goal
use Rattle.transferd.specs.Endings.{read_from}

pub returns-in-Ok-clause-read : goal.returns-in-Ok-clause-read
returns-in-Ok-clause-read g c =
    read_full (read_from g.S.Source.words c.args.source.now c.read_exactly.new.source)
    c.read_exactly.new.into.items (λ t. (c.in-Ok.ensures.told t).taken) c.in-Ok.ensures.value

pub returns-in-Err-Cut-clause-read : goal.returns-in-Err-Cut-clause-read
returns-in-Err-Cut-clause-read g c =
    let told = rw c.in-Err-Cut.field-0-is at c.in-Err-Cut.ensures.told in
    let numbers = rw c.in-Err-Cut.field-0-is at c.in-Err-Cut.ensures.value in
    read_short (read_from g.S.Source.words c.args.source.now c.read_exactly.new.source)
    c.read_exactly.new.into.items (λ t. (told t).taken) numbers.2
