use Rattle.std.proofs.Common.{sym, ◌∙◌, true≢false}
use Rattle.toml.specs.Errors.{IsMemory}
use Rattle.gt_setup.proofs.TableLemmas.{table_of-read, table_of-refused}
use Rattle.gt_setup.proofs.setup.table_of.Goals as goal

pub returns-in-Ok : goal.returns-in-Ok
returns-in-Ok c = sym (table_of-read _ _ c.in-Ok.ensures.ok.0 c.in-Ok.ensures.ok.1)

pub returns-else-is_memory : goal.returns-else-is_memory
returns-else-is_memory c =
    let no_memory : IsMemory c.in-Err.error → ⊥ = λ m. absurd (true≢false (sym (c.is_memory.ensures.1 m) ∙ c.if-is_memory.false)) in
    sym (table_of-refused c.args.bytes.now (c.in-Err.ensures.refused no_memory))
