use Rattle.gt_http.proofs.FieldLemmas.{bearer_none, bearer_text}
use Rattle.gt_http.proofs.framing.bearer.Goals as goal
use Rattle.std.proofs.Common.{IsUtf8, Some, ap, codes, nat_eq, rules, subst, sym, true, ◌∙◌, ◌≡◌}
use Rattle.std.proofs.lemmas.List.{take_rest}
use Rattle.std.specs.List.{starts_with}

pub returns-in-Ok : goal.returns-in-Ok
returns-in-Ok c =
    let v = c.args.value.now in
    let word : starts_with nat_eq v (codes "Bearer ") ≡ true = search rules in
    ap Some (c.in-Ok.ensures.cases.0 ∙ take_rest v 7) ∙ sym (bearer_text v word (subst IsUtf8 (take_rest v 7) c.in-Ok.ensures.cases.1))

pub returns-in-Err : goal.returns-in-Err
returns-in-Err c =
    let v = c.args.value.now in
    sym (bearer_none v (λ text. c.in-Err.ensures.cases.0 (subst IsUtf8 (sym (take_rest v 7)) text)))
