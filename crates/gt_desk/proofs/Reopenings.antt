-- A desk's disk, opened again.
use Rattle.std.proofs.Common.{◌≡◌, ℕ, inl, inr, ⊎_elim, List, [], ◌∷◌, ◌++◌, Option, None, Some, Result, Ok, Err, Bool, IfErr, IfOk, IsTrue, append-nil, false, map, refl, subst, sym, true, ◌∙◌}
use Rattle.gt_causes.specs.Outcomes.{NoMore}
use Rattle.gt_desk.specs.Damage.{IsDamagedAs, IsDamagedAt}
use Rattle.gt_desk.specs.DeskCall.{IsKept}
use Rattle.gt_desk.specs.History.{Ledger, Stands, StandsDuring, StandsFor, StandsWith}
use Rattle.gt_desk.specs.Opening.{FailsToReopen, Finds, IsNotOpened, IsNotReopened, IsOpened, IsReopened, disk_in}
use Rattle.gt_desk.specs.Desk.{Desk, Stays, StaysDuring}
use Rattle.gt_desk.specs.declared.fault.OpenFault.{OpenFault}
use Rattle.gt_desk.specs.declared.fault.OpenFault.TheVariants.{Damaged, JournalFault, OutOfMemory}
use Rattle.gt_desk.specs.declared.fault.OpenRefused.{OpenRefused}
use Rattle.gt_desk.proofs.Standing.{stands_before}
use Rattle.gt_disk.specs.Disk.{DiskLaws, DiskWords, IsSameDisk, LeavesOnly}
use Rattle.gt_disk.specs.Moments.{joined, weaker}
use Rattle.gt_journal.specs.Opening.{HasSameBodies, IfSynced, OnceSynced}
use Rattle.gt_records.specs.RecordText.{record_text}
use Rattle.gt_setup.specs.Setup.{Setup}
use Rattle.gt_types.specs.declared.event.Event.{Event}

-- a file that stands for a history with a doubt stands for one on which the doubt is settled
stood : (setup : Setup) (history : List Event) (doubt : Option Event) (file : List ℕ) → StandsWith setup history doubt file
    → (kept : List Event) × IsKept doubt kept × StandsFor setup (history ++ kept) file
stood setup history None file stands = ([], refl, subst (λ h. StandsFor setup h file) (sym (append-nil history)) stands)
stood setup history (Some event) file stands =
    ⊎_elim (λ short. ([], inl refl, subst (λ h. StandsFor setup h file) (sym (append-nil history)) short)) (λ long. (event ∷ [], inr refl, long)) stands

module _ (setup : Setup) (ledger : Ledger) (file : List ℕ) (stands : Stands setup ledger file) where
  -- the history that the file stands for settles the doubt
  pub finds : ((a b : List Event) → StandsFor setup a file → StandsFor setup b file → a ≡ b) → (found : Ledger) → StandsFor setup found.history file → Finds ledger found
  finds one found now =
      let (kept, settles, was) = stood setup ledger.history ledger.doubt file stands in
      record { kept = kept; settles = settles; history = one found.history (ledger.history ++ kept) now was }

  pub never_damaged : ((history : List Event) (number : ℕ) → StandsFor setup history file → IsDamagedAt setup number file → ⊥)
      → (number : ℕ) → IsDamagedAt setup number file → ⊥
  never_damaged apart number damaged =
      let (kept, settles, was) = stood setup ledger.history ledger.doubt file stands in
      apart (ledger.history ++ kept) number was damaged

  -- a file of the same bodies stands for the ledger
  same_stands : (c : List ℕ) → HasSameBodies file c → Stands setup ledger c
  same_stands c same =
      let (kept, settles, was) = stood setup ledger.history ledger.doubt file stands in
      stands_before setup ledger.doubt ledger.history kept settles c (record { texts = same.text (map record_text (ledger.history ++ kept)) was.texts; runs = was.runs })

  -- what a refused opening leaves to a crash stands for the ledger
  pub left_stands : {D : Type 0} (words : DiskWords D) (old new : D) → words.seen old ≡ file → NoMore (Stands setup ledger) (words.may_leave old) → IfSynced words old new (HasSameBodies (words.seen old)) → LeavesOnly words old new (Stands setup ledger)
  left_stands words old new is images left =
      ⊎_elim (λ before. weaker words old new (words.may_leave old) (Stands setup ledger) images before)
      (λ once.
      joined words old once.synced new (Stands setup ledger)
      (weaker words old once.synced (words.may_leave old) (Stands setup ledger) images once.before)
      (weaker words once.synced new (HasSameBodies (words.seen old)) (Stands setup ledger) (λ c same. same_stands c (subst (λ f. HasSameBodies f c) is same)) once.after)) left

-- what stands for what was found stood for the ledger before
pub during_found : (setup : Setup) (old found new : Ledger) → Finds old found → found.doubt ≡ None → (c : List ℕ) → StandsDuring setup found new c → StandsDuring setup old new c
during_found setup old found new finds clear c during =
    ⊎_elim
    (λ stands.
    inl (stands_before setup old.doubt old.history finds.kept finds.settles c
    (subst (λ h. StandsFor setup h c) finds.history (subst (λ d. StandsWith setup found.history d c) clear stands))))
    (λ after. inr after) during

-- until the file was synced a crash leaves what stands for the old ledger, and then what stands during the opening
pub reopened_moments : {D : Type 0} (words : DiskWords D) (setup : Setup) (old found new : Ledger) (disk after : D) → NoMore (Stands setup old) (words.may_leave disk)
    → Finds old found → found.doubt ≡ None → OnceSynced words disk after (StandsDuring setup found new) → LeavesOnly words disk after (StandsDuring setup old new)
reopened_moments words setup old found new disk after images found_so clear run =
    joined words disk run.synced after (StandsDuring setup old new)
    (weaker words disk run.synced (words.may_leave disk) (StandsDuring setup old new) (λ c left. inl (images c left)) run.before)
    (weaker words run.synced after (StandsDuring setup found new) (StandsDuring setup old new) (during_found setup old found new found_so clear) run.after)

not_true : (b : Bool) → (IsTrue b → ⊥) → b ≡ false
not_true true never = absurd (never refl)
not_true false never = refl

-- a desk that was closed, from what an opening on its disk says
module _ {D : Type 0} (words : DiskWords D) (laws : DiskLaws words) (old : Desk D) (images : Stays words old)
    (one : (a b : List Event) → StandsFor old.setup a (words.seen old.disk) → StandsFor old.setup b (words.seen old.disk) → a ≡ b)
    (apart : (history : List Event) (number : ℕ) → StandsFor old.setup history (words.seen old.disk) → IsDamagedAt old.setup number (words.seen old.disk) → ⊥) where
  seen_stands : IsTrue (words.honest old.disk) → Stands old.setup old.ledger (words.seen old.disk)
  seen_stands t = images t (words.seen old.disk) (laws.reads_now old.disk t)

  pub reopened : (desk : Desk D) → IsOpened words old.setup old.disk desk → IsReopened words old desk
  reopened desk is = record {
    found = is.found;
    finds = λ t. finds old.setup old.ledger (words.seen old.disk) (seen_stands t) one is.found (is.file t);
    opens = is.opens;
    history = is.history;
  }

  pub reopened_during : (desk : Desk D) → IsOpened words old.setup old.disk desk → StaysDuring words old desk
  reopened_during desk is t =
      reopened_moments words old.setup old.ledger is.found desk.ledger old.disk desk.disk (images t)
      (finds old.setup old.ledger (words.seen old.disk) (seen_stands t) one is.found (is.file t)) is.opens.found_clear (is.crashes t)

  fails : (fault : OpenFault) → (IsTrue (words.honest old.disk) → IsDamagedAs old.setup (words.seen old.disk) fault) → FailsToReopen old.setup (words.honest old.disk) old.ledger fault old.ledger
  fails JournalFault damaged = inl refl
  fails (Damaged number) damaged = (not_true (words.honest old.disk) (λ t. never_damaged old.setup old.ledger (words.seen old.disk) (seen_stands t) apart number (damaged t)), refl)
  fails OutOfMemory damaged = refl

  left : (refused : OpenRefused D) → IsNotOpened words old.setup old.disk refused → IsTrue (words.honest old.disk) → LeavesOnly words old.disk refused.disk (Stands old.setup old.ledger)
  left refused is t = left_stands old.setup old.ledger (words.seen old.disk) (seen_stands t) words old.disk refused.disk refl (images t) (is.crashes t)

  pub not_reopened : (refused : OpenRefused D) → IsNotOpened words old.setup old.disk refused → IsSameDisk words old.disk refused.disk → IsNotReopened words old refused
  not_reopened refused is same = record {
    left = old.ledger;
    fails = fails refused.fault is.damaged;
    any_moment = λ t. weaker words old.disk refused.disk (Stands old.setup old.ledger) (StandsDuring old.setup old.ledger old.ledger) (λ c stands. inl stands) (left refused is t);
    images = λ t c now.
        let run = left refused is t in
        run.each c (laws.counts_now refused.disk (words.moment old.disk) c (same.honest ∙ t) run.later now);
  }

-- what holds of an answer by two facts of it
pub both_ok : {T E : Type 0} (r : Result T E) (P Q R : T → Type 0) → ((x : T) → P x → Q x → R x) → IfOk r P → IfOk r Q → IfOk r R
both_ok (Ok x) P Q R so p q = so x p q
both_ok (Err y) P Q R so p q = tt

-- the disk of a refusal
pub same_err : {D : Type 0} (words : DiskWords D) (old : D) (r : Result (Desk D) (OpenRefused D)) → IsSameDisk words old (disk_in r) → IfErr r (λ refused. IsSameDisk words old refused.disk)
same_err words old (Ok desk) same = tt
same_err words old (Err refused) same = same

pub both_err : {T E : Type 0} (r : Result T E) (P Q R : E → Type 0) → ((y : E) → P y → Q y → R y) → IfErr r P → IfErr r Q → IfErr r R
both_err (Ok x) P Q R so p q = tt
both_err (Err y) P Q R so p q = so y p q
