use Rattle.std.proofs.Common.{sym, ◌∙◌, true≢false}
use Rattle.serde_json.specs.Errors.{IsMemory}
use Rattle.gt_documents.proofs.BodyLemmas.{value_of-read, value_of-refused}
use Rattle.gt_documents.proofs.body.parse.Goals as goal

pub returns-in-Ok : goal.returns-in-Ok
returns-in-Ok c = sym (value_of-read _ _ c.in-Ok.ensures.ok.0 c.in-Ok.ensures.ok.1)

pub returns-else-is_memory : goal.returns-else-is_memory
returns-else-is_memory c =
    let no_memory : IsMemory c.in-Err.error → ⊥ = λ m. absurd (true≢false (sym (c.is_memory.ensures.1 m) ∙ c.if-is_memory.false)) in
    sym (value_of-refused c.args.body.now (c.in-Err.ensures.err no_memory))
