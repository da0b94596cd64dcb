use Rattle.std.proofs.Common.{rules, ◌≡◌, [], ◌∷◌, ◌++◌, length, take, drop, append-nil, sym, ◌∙◌, ap, subst}
use Rattle.std.proofs.lemmas.List.{map-append}
use Rattle.std.specs.Int.{w64, to_be_bytes}
use Rattle.gt_journal.specs.JournalText.{Fits}
use Rattle.gt_journal.specs.Reading.{lists, rest_of, Reads}
use Rattle.gt_journal.proofs.Parse.{record_more, reads_as}
use Rattle.gt_journal.proofs.reading.Reading.end_record.Goals as goal

pub returns-in_ok-push-clause-ok : goal.returns-in_ok-push-clause-ok
returns-in_ok-push-clause-ok c file reads =
    let old = c.args.self.now in
    let body = c.replace-body.result.items in
    let was : old.body.items ≡ body ++ [] = search rules in
    let pushed : lists c.push.new.self.items ≡ lists old.bodies.items ++ body ∷ [] = ap lists c.in_ok-push.ensures.items ∙ map-append (λ v. v.items) old.bodies.items (c.replace-body.result ∷ []) in
    let empty : rest_of record { bodies = c.push.new.self; header = c.clear.new.self; body = c.replace-body.new.dest } ≡ [] = search rules in
    let size : c.told_size.result ≡ length body = search rules in
    let spelled : to_be_bytes w64 (length body) ≡ take 8 (drop 1 old.header.items) = subst (λ n. to_be_bytes w64 n ≡ take 8 (drop 1 old.header.items)) size (search (rules, c.told_size.ensures.spelled)) in
    let fits : Fits body = search rules in
    let more = record_more file old.header.items body [] (lists old.bodies.items) (subst (λ l. Reads file (lists old.bodies.items) (old.header.items ++ l)) was reads) (search rules) (search rules) spelled fits in
    reads_as file (file ++ []) _ _ [] _ (sym (append-nil file)) (sym pushed) (sym empty) more
