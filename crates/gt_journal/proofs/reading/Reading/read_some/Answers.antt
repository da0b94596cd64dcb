use Rattle.std.proofs.Common.{rules, ◌≡◌, [], ◌++◌, take, append-nil, refl}
use Rattle.gt_journal.specs.Reading.{lists, rest_of, Reads}
use Rattle.gt_journal.proofs.Parse.{bytes_more, header_more, body_more, reads_as}
use Rattle.gt_journal.proofs.reading.Reading.read_some.Goals as goal
use Rattle.gt_journal.proofs.reading.Reading.read_some.Goals.{then-len-lt-HEADER+in_ok-extend_from_slice, else-len-lt-HEADER+in_ok-extend_from_slice-2}

pub returns-clause-ok : goal.returns-clause-ok
returns-clause-ok c file reads =
    let old = c.args.self.now in
    let mid = c.if-len-lt-HEADER.self in
    let part = take c.min-n.result c.args.bytes.now in
    let base : Reads (file ++ part) (lists old.bodies.items) (rest_of old ++ part) = bytes_more file part (rest_of old) (lists old.bodies.items) reads in
    let same : lists old.bodies.items ≡ lists mid.bodies.items = elim c.if-len-lt-HEADER.branch [
      | then-len-lt-HEADER+in_ok-extend_from_slice w ↦ search (rules, w.self-is)
      | else-len-lt-HEADER+in_ok-extend_from_slice-2 w ↦ search (rules, w.self-is)
    ] in
    let rest : rest_of old ++ part ≡ rest_of mid = elim c.if-len-lt-HEADER.branch [
      | then-len-lt-HEADER+in_ok-extend_from_slice w ↦ header_more old.header.items old.body.items part mid.header.items mid.body.items (search rules) (search (rules, w.self-is)) (search (rules, w.self-is))
      | else-len-lt-HEADER+in_ok-extend_from_slice-2 w ↦ body_more old.header.items old.body.items part mid.header.items mid.body.items (search (rules, w.self-is)) (search (rules, w.self-is))
    ] in
    let ended = c.in_ok-end_record.ensures.ok (file ++ part) (reads_as (file ++ part) (file ++ part) (lists old.bodies.items) (lists mid.bodies.items) (rest_of old ++ part) (rest_of mid) refl same rest base) in
    reads_as (file ++ part ++ []) (file ++ part) (lists c.end_record.new.self.bodies.items) (lists c.end_record.new.self.bodies.items) (rest_of c.end_record.new.self) (rest_of c.end_record.new.self) (append-nil (file ++ part)) refl refl ended
