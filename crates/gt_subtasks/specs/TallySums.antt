-- The running numbers of a task after a change, and as they are told.
use Rattle.std.specs.Prelude.{◌+◌, ◌-◌}
use Rattle.gt_subtasks.specs.declared.tally.Tally.{Tally}
use Rattle.gt_types.specs.declared.reply.Counters.{Counters}
use Rattle.gt_values.specs.Capped.{capped}

-- the numbers of the two together
abbrev pub with_share : Tally → Tally → Tally
with_share all one =
    record {
      total = all.total + one.total;
      pending = all.pending + one.pending;
      retrying = all.retrying + one.retrying;
      succeeded = all.succeeded + one.succeeded;
      expired = all.expired + one.expired;
      canceled = all.canceled + one.canceled;
      failed = all.failed + one.failed;
      skipped_errors = all.skipped_errors + one.skipped_errors;
      files = all.files + one.files;
      directories = all.directories + one.directories;
      files_skipped = all.files_skipped + one.files_skipped;
      files_transferred = all.files_transferred + one.files_transferred;
      bytes_transferred = all.bytes_transferred + one.bytes_transferred;
      bytes_checksummed = all.bytes_checksummed + one.bytes_checksummed;
      faults = all.faults + one.faults;
    }

-- the numbers without those of the other
abbrev pub without_share : Tally → Tally → Tally
without_share all one =
    record {
      total = all.total - one.total;
      pending = all.pending - one.pending;
      retrying = all.retrying - one.retrying;
      succeeded = all.succeeded - one.succeeded;
      expired = all.expired - one.expired;
      canceled = all.canceled - one.canceled;
      failed = all.failed - one.failed;
      skipped_errors = all.skipped_errors - one.skipped_errors;
      files = all.files - one.files;
      directories = all.directories - one.directories;
      files_skipped = all.files_skipped - one.files_skipped;
      files_transferred = all.files_transferred - one.files_transferred;
      bytes_transferred = all.bytes_transferred - one.bytes_transferred;
      bytes_checksummed = all.bytes_checksummed - one.bytes_checksummed;
      faults = all.faults - one.faults;
    }

-- the numbers as they are told: a sum that would pass 2^64 - 1 stays there
abbrev pub told : Tally → Counters
told tally =
    record {
      total = tally.total;
      pending = tally.pending;
      retrying = tally.retrying;
      succeeded = tally.succeeded;
      expired = tally.expired;
      canceled = tally.canceled;
      failed = tally.failed;
      skipped_errors = tally.skipped_errors;
      files = tally.files;
      directories = tally.directories;
      files_skipped = tally.files_skipped;
      files_transferred = tally.files_transferred;
      bytes_transferred = capped tally.bytes_transferred;
      bytes_checksummed = capped tally.bytes_checksummed;
      faults = capped tally.faults;
    }
