use Rattle.std.specs.Prelude.{OnOk}
use Rattle.std.specs.Result.{is_ok}
use Rattle.std.proofs.Common.{Err, None, Ok, Result, Some, ap, arith, cond, length, refl, sym, true, ◌+◌, ◌∙◌, ◌≡◌}
use Rattle.std.proofs.lemmas.List.{length_push}
use Rattle.gt_tasks.specs.Tasks.{is_of, number_of}
use Rattle.gt_tasks.specs.declared.row.TaskRow.{TaskRow}
use Rattle.gt_tasks.proofs.FoundLemmas.{number_of-push}
use Rattle.gt_tasks.proofs.tasks.Tasks.add.Goals as goal

on_ok : {X E : Type 0} (r : Result X E) (P : Type 0) → is_ok r ≡ true → OnOk r P → P
on_ok (Ok x) P is told = told
on_ok (Err e) P is told = cc

pub invariant_of-self : goal.invariant_of-self
invariant_of-self c =
    let old = c.self.inside in
    let row : TaskRow = record c.args.row { number = c.len.result + 1 } in
    let room : c.self.inside.room ≡ c.args.self.now.spare = ap (λ v. v.spare) c.self.view_is in
    let new : number_of row.owner row.submission old.rows.rows ≡ None = rw (ap (λ v. number_of row.owner row.submission v.rows) c.self.view_is) c.requires.new in
    let ok : is_ok c.insert.result ≡ true = sym c.is_ok-found.ensures.value ∙ c.if-prove.false in
    let updates = on_ok c.insert.result _ ok c.insert.ensures.updates in
    record {
      numbers = λ owner submission.
          updates.0 (owner, submission) ∙ ap (cond (is_of owner submission row) (Some row.number)) (c.self.invariant.numbers owner submission)
          ∙ number_of-push owner submission old.rows.rows row row.number refl new ∙ ap (number_of owner submission) (sym c.add.ensures.rows);
      reserved = omega (arith, c.self.invariant.reserved, c.add.ensures.spare, room, c.requires.room);
      free = omega (arith, c.self.invariant.free, c.insert.ensures.spare, room, c.requires.room);
      few = omega (arith, c.self.invariant.few, ap (length {A = TaskRow}) c.add.ensures.rows, length_push old.rows.rows row, room, c.requires.room);
    }
