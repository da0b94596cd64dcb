-- Hard here: where the rest ends. What was read is whole records and a rest, and the rest is cut off, short or behind a closed gate.
use Rattle.std.proofs.Common.{arith, ◌≡◌, ◌-◌, length, sym, subst, ◌∙◌, ap}
use Rattle.std.specs.Prelude.{IsTrue}
use Rattle.gt_journal.specs.Reading.{lists, rest_of, IsRest}
use Rattle.gt_journal.specs.JournalText.{IsTail}
use Rattle.gt_journal.specs.Finding.{IsFound}
use Rattle.gt_journal.specs.Opening.{IsNotOpened}
use Rattle.gt_journal.specs.declared.open_fault.OpenFault.TheVariants.{JournalFault}
use Rattle.gt_journal.proofs.Openings.{bodies_within, short_end, closed_end, open_end, end_failed, refused_as}
use Rattle.gt_journal.proofs.opening.open_disk.Goals as goal
use Rattle.gt_journal.proofs.opening.open_disk.Goals.{then-rest-lt9+in_ok-close_end, else-rest-lt9}

pub returns-in_err-close_end-clause-err : goal.returns-in_err-close_end-clause-err
returns-in_err-close_end-clause-err g c =
    let words = g.D.Disk.words in
    let old = c.args.disk.now in
    let mid = c.read_file.new.disk in
    let reading = c.in_ok-reading.reading in
    let size = c.in_ok-reading.size in
    let rest = c.rest_len-rest.result in
    let at : size - rest ≡ size - length (rest_of reading) = ap (λ n. size - n) c.rest_len-rest.ensures in
    let read = c.in_ok-reading.ensures.ok in
    let tail : IsTail (rest_of reading) = subst (λ b. IsRest b (rest_of reading)) c.if-damaged.false c.is_cut_off-damaged.ensures in
    refused_as c.from_residual-in_err-close_end.result JournalFault (λ fault. IsTrue (words.honest old) → IsNotOpened words old fault c.close_end.new.disk) (c.from_residual-in_err-close_end.ensures.1)
    (λ honest.
    let end = short_end words old mid reading size (size - rest) read at honest (c.read_file.ensures.same.honest ∙ honest) tail (omega (arith, c.rest_len-rest.ensures, c.if-rest-lt9.true)) in
    end_failed words old mid reading size (size - rest) read at c.close_end.new.disk honest tail (c.close_end.ensures.any_moment (lists reading.bodies.items) end))

pub returns-clause-ok : goal.returns-clause-ok
returns-clause-ok g c honest =
    let words = g.D.Disk.words in
    let old = c.args.disk.now in
    let mid = c.read_file.new.disk in
    let reading = c.in_ok-reading.reading in
    let size = c.in_ok-reading.size in
    let rest = c.rest_len-rest.result in
    let at : size - rest ≡ size - length (rest_of reading) = ap (λ n. size - n) c.rest_len-rest.ensures in
    let read = c.in_ok-reading.ensures.ok in
    let tail : IsTail (rest_of reading) = subst (λ b. IsRest b (rest_of reading)) c.if-damaged.false c.is_cut_off-damaged.ensures in
    elim c.if-rest-lt9.branch [
      | then-rest-lt9+in_ok-close_end w ↦
          let end = short_end words old mid reading size (size - rest) read at honest (c.read_file.ensures.same.honest ∙ honest) tail (omega (arith, c.rest_len-rest.ensures, w.if-rest-lt9.true)) in
          subst (λ new. IsFound words old (lists reading.bodies.items) (size - rest) new) (sym w.disk-is)
          (closed_end words old mid reading size (size - rest) read at w.close_end.new.disk honest tail (w.in_ok-close_end.ensures.ok (lists reading.bodies.items) end) (w.in_ok-close_end.ensures.any_moment (lists reading.bodies.items) end))
      | else-rest-lt9 w ↦
          subst (λ new. IsFound words old (lists reading.bodies.items) (size - rest) new) (sym w.disk-is)
          (open_end words old mid reading size (size - rest) read at honest tail (omega (arith, c.rest_len-rest.ensures, w.if-rest-lt9.false)))
    ]

pub returns-clause-room : goal.returns-clause-room
returns-clause-room g c =
    let words = g.D.Disk.words in
    let old = c.args.disk.now in
    let mid = c.read_file.new.disk in
    let reading = c.in_ok-reading.reading in
    let size = c.in_ok-reading.size in
    let rest = c.rest_len-rest.result in
    let at : size - rest ≡ size - length (rest_of reading) = ap (λ n. size - n) c.rest_len-rest.ensures in
    let read = c.in_ok-reading.ensures.ok in (
      bodies_within words old mid reading size (size - rest) read at,
      elim c.if-rest-lt9.branch [
        | then-rest-lt9+in_ok-close_end w ↦ w.in_ok-close_end.ensures.room
        | else-rest-lt9 w ↦ omega (arith, read.small, w.if-rest-lt9.false)
      ],
    )
