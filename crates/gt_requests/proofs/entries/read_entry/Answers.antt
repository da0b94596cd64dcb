use Rattle.gt_requests.specs.Entries.{entry_of}
use Rattle.gt_requests.proofs.entries.read_entry.Goals as goal

pub returns-in-Ok-clause-value : goal.returns-in-Ok-clause-value
unfolding entry_of
returns-in-Ok-clause-value c =
    rw (
      ← c.in_ok-is_object.ensures,
      ← c.in_ok-constant.ensures,
      c.in_ok-source.ensures.value,
      c.in_ok-destination.ensures.value,
      ← c.in-Ok.ensures.value,
    )

pub returns-in-Err-clause-value : goal.returns-in-Err-clause-value
unfolding entry_of
returns-in-Err-clause-value c =
    rw (
      ← c.in_ok-is_object.ensures,
      ← c.in_ok-constant.ensures,
      c.in_ok-source.ensures.value,
      c.in_ok-destination.ensures.value,
      ← c.in-Err.ensures.value,
    )
