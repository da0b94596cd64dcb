use Rattle.std.proofs.Common.{IfOk, List, ap, subst, ℕ, ◌∙◌, ◌≡◌}
use Rattle.gt_values.specs.Ident.{made_id}
use Rattle.gt_replies.specs.Members.{id_value}
use Rattle.serde_json.specs.View.{view}
use Rattle.gt_replies.proofs.member.made_value.Goals as goal

pub returns : goal.returns
returns c =
    subst (λ (id : List ℕ). IfOk c.id_value.result (λ value. view value ≡ id_value id))
    (c.made.ensures.value ∙ ap (λ (namespace : ℕ). made_id namespace c.args.kind c.args.number) c.namespace.ensures) c.id_value.ensures
