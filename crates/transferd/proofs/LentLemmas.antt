-- What holds of a lent disk holds of the disk.
use Rattle.gt_desk.specs.History.{Keeps, Stands, StandsDuring}
use Rattle.gt_disk.specs.Disk.{DiskWords, LeavesOnly, lent as lent_words}
use Rattle.gt_journal.specs.Opening.{HasSameBodies, OnceSynced}
use Rattle.gt_setup.specs.Setup.{Setup}
use Rattle.std.proofs.Common.{Bool, List, [], ap, inl, inr, ⊎_elim, ◌++◌, ◌∷◌, ℕ}
use Rattle.gt_world.specs.Crashes.{CrashesKeep, CrashesUpTo}
use Rattle.transferd.specs.Endings.{Stream}
use Rattle.transferd.specs.MainTheorem.{DeskTheorem, NotServed, Ran, Served}
use Rattle.transferd.specs.Run.{steps_of}
use Rattle.gt_world.specs.World.{Taken, World, world_after, world_on}
use Rattle.transferd.specs.declared.exit.Exit.{Exit}

module _ {A B : Type 0} (at : A → B) (loan : A → ℕ) (words : DiskWords B) where
  leaves : (old new : A) (P : List ℕ → Type 0) → LeavesOnly (lent_words at loan words) old new P → LeavesOnly words (at old) (at new) P
  leaves old new P run = record { later = run.later; each = run.each; before = run.before }

  once : (old new : A) (P : List ℕ → Type 0) → OnceSynced (lent_words at loan words) old new P → OnceSynced words (at old) (at new) P
  once old new P run = record {
    synced = at run.synced;
    before = leaves old run.synced (words.may_leave (at old)) run.before;
    only = run.only;
    after = leaves run.synced new P run.after;
  }

  keeps : (setup : Setup) (old : A) (world : World) (steps : List Taken) (new : A) → CrashesKeep (lent_words at loan words) setup old world steps new → CrashesKeep words setup (at old) world steps (at new)
  keeps setup old world [] new run = leaves old new (Stands setup world.ledger) run
  keeps setup old world (taken ∷ rest) new (next, during, run) =
      (at next, leaves old next (StandsDuring setup world.ledger taken.world.ledger) during, keeps setup next taken.world rest new run)

  keeps_up_to : (setup : Setup) (old : A) (world : World) (steps : List Taken) (last : A) → CrashesUpTo (lent_words at loan words) setup old world steps last → CrashesUpTo words setup (at old) world steps (at last)
  keeps_up_to setup old world [] last same = ap at same
  keeps_up_to setup old world (taken ∷ rest) last (next, during, run) =
      (at next, leaves old next (StandsDuring setup world.ledger taken.world.ledger) during, keeps_up_to setup next taken.world rest last run)

  module _ (honest : Bool) (exit : Exit) (setup : Setup) where
    ran : (start : World) (old new : A) (script out : Stream) → Ran (lent_words at loan words) honest exit setup start old new script out → Ran words honest exit setup start (at old) (at new) script out
    ran start old new script out is = record {
      run = is.run;
      last = is.last;
      lines = is.lines;
      rest = is.rest;
      ending = is.ending;
      crashes = λ t. keeps setup old start (steps_of is.run ++ is.last) new (is.crashes t);
      kept = is.kept;
      count = is.count;
    }

    served : (old new : A) (script out : Stream) → Served (lent_words at loan words) honest exit setup old new script out → Served words honest exit setup (at old) (at new) script out
    unfolding ran
    served old new script out is = record {
      found = is.found;
      opened = is.opened;
      file = is.file;
      opens = is.opens;
      history = is.history;
      disk = at is.disk;
      later = is.later;
      opening = λ t. once old is.disk (StandsDuring setup is.found is.opened) (is.opening t);
      ran = ran _ is.disk new script out is.ran;
      sound = is.sound;
      one_task_per_submission = is.one_task_per_submission;
      acknowledged = λ t before rest split.
          let (mid, up, stay) = is.acknowledged t before rest split in
          (at mid, keeps_up_to setup is.disk (world_on is.opened (words.faults (at is.disk))) before mid up, leaves mid new (Keeps setup (world_after (world_on is.opened (words.faults (at is.disk))) before).ledger.history) stay);
    }

    not_served : (old new : A) (script out : Stream) → NotServed (lent_words at loan words) honest exit setup old new script out → NotServed words honest exit setup (at old) (at new) script out
    not_served old new script out is = record {
      fault = is.fault;
      told = is.told;
      damaged = is.damaged;
      crashes = λ t. ⊎_elim (λ run. inl (leaves old new (words.may_leave (at old)) run)) (λ run. inr (once old new (HasSameBodies (words.seen (at old))) run)) (is.crashes t);
      untouched = is.untouched;
    }

    pub lent : (old new : A) (script out : Stream) → DeskTheorem (lent_words at loan words) honest exit setup old new script out → DeskTheorem words honest exit setup (at old) (at new) script out
    lent old new script out is = ⊎_elim (λ did. inl (served old new script out did)) (λ not. inr (not_served old new script out not)) is
