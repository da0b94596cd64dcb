-- When a call answers what, of those that it may answer, and what it leaves.
use Rattle.std.specs.Prelude.{Bool, Err, Ok, Option, Result, Some, false, true, ℕ, ◌<◌, ◌^◌, ◌≡◌, ◌⊎◌}
use Rattle.gt_paths.specs.Path.{PathValue}
use Rattle.gt_types.specs.declared.listing.Stat.{Stat}
use Rattle.gt_forest.specs.Tree.{Trees, node_at, stage_at}
use Rattle.gt_forest.specs.declared.fault.TreeFault.{TreeFault}
use Rattle.gt_forest.specs.declared.fault.TreeFault.TheVariants.{Denied, Fault, NotEmpty, NotFound, OutOfMemory, WrongKind}

-- what a call without `alloc` may answer, but to remove a folder
abbrev pub may_answer : TreeFault → Bool
may_answer NotFound = true
may_answer Denied = true
may_answer WrongKind = true
may_answer NotEmpty = false
may_answer Fault = true
may_answer OutOfMemory = false

-- what a call with `alloc` may answer
abbrev pub may_answer_taking : TreeFault → Bool
may_answer_taking NotFound = true
may_answer_taking Denied = true
may_answer_taking WrongKind = true
may_answer_taking NotEmpty = false
may_answer_taking Fault = true
may_answer_taking OutOfMemory = true

-- what `stat` may answer
abbrev pub may_answer_stat : TreeFault → Bool
may_answer_stat NotFound = true
may_answer_stat Denied = true
may_answer_stat WrongKind = false
may_answer_stat NotEmpty = false
may_answer_stat Fault = true
may_answer_stat OutOfMemory = false

-- what `stage_open` may answer
abbrev pub may_answer_opening : TreeFault → Bool
may_answer_opening NotFound = false
may_answer_opening Denied = false
may_answer_opening WrongKind = false
may_answer_opening NotEmpty = false
may_answer_opening Fault = true
may_answer_opening OutOfMemory = true

-- what `remove_dir` may answer
abbrev pub may_answer_emptying : TreeFault → Bool
may_answer_emptying NotFound = true
may_answer_emptying Denied = true
may_answer_emptying WrongKind = true
may_answer_emptying NotEmpty = true
may_answer_emptying Fault = true
may_answer_emptying OutOfMemory = false

-- size and time are numbers of 64 bits
pub record IsBounded (stat : Stat) : Type 0 where
  pub size : stat.size < 2 ^ 64
  pub mtime : stat.mtime < 2 ^ 64

-- whether a fault is a failure of the forest
abbrev pub is_failure : TreeFault → Bool
is_failure NotFound = false
is_failure Denied = false
is_failure WrongKind = false
is_failure NotEmpty = false
is_failure Fault = true
is_failure OutOfMemory = false

-- whether the forest failed
abbrev pub has_failed : {T : Type 0} → Result T TreeFault → Bool
has_failed (Ok value) = false
has_failed (Err fault) = is_failure fault

-- the grounds of a refusal: denied, not there, of the wrong kind, not empty
pub record Grounds : Type 1 where
  pub denied : Bool
  pub absent : Bool
  pub wrong : Bool
  pub Full : Type 0

-- no ground holds
pub record IsAllowed (g : Grounds) : Type 0 where
  pub denied : g.denied ≡ false
  pub absent : g.absent ≡ false
  pub kind : g.wrong ≡ false
  pub empty : ¬ g.Full

-- A refusal's ground holds, and none that is looked at before. A fault and want of memory may come in its place.
abbrev pub Refuses : Grounds → TreeFault → Type 0
Refuses g Denied = g.denied ≡ true
Refuses g NotFound = (g.denied ≡ false) × (g.absent ≡ true)
Refuses g WrongKind = (g.denied ≡ false) × (g.absent ≡ false) × (g.wrong ≡ true)
Refuses g NotEmpty = (g.denied ≡ false) × (g.absent ≡ false) × (g.wrong ≡ false) × g.Full
Refuses g Fault = Unit {0}
Refuses g OutOfMemory = Unit {0}

-- a call that reads: refused by these grounds, or an answer that is right
abbrev pub Reads : {T : Type 0} → Grounds → (T → Type 0) → Result T TreeFault → Type 0
Reads g IsRight (Ok value) = IsAllowed g × IsRight value
Reads g IsRight (Err fault) = Refuses g fault

-- what a refused call makes of the trees: all is as it was, but that a fault may do what it may
abbrev pub Stays : Grounds → (Same MayBe : Type 0) → TreeFault → Type 0
Stays g Same MayBe NotFound = Same
Stays g Same MayBe Denied = Same
Stays g Same MayBe WrongKind = Same
Stays g Same MayBe NotEmpty = Same
Stays g Same MayBe Fault = Same ⊎ (IsAllowed g × MayBe)
Stays g Same MayBe OutOfMemory = Same

-- a call that writes: it is refused by these grounds, or it is done
abbrev pub Writes : Grounds → (Same Done MayBe : Type 0) → Result Unit TreeFault → Type 0
Writes g Same Done MayBe (Ok done) = IsAllowed g × Done
Writes g Same Done MayBe (Err fault) = Refuses g fault × Stays g Same MayBe fault

-- all else than this path and this key of the collection is as it was
pub record ChangesOnly (collection : ℕ) (path : Option PathValue) (key : Option ℕ)
    (before after : Trees) : Type 0 where
  pub paths : (c : ℕ) (p : PathValue) → (c ≡ collection → path ≡ Some p → ⊥) → node_at after c p ≡ node_at before c p
  pub stages : (c k : ℕ) → (c ≡ collection → key ≡ Some k → ⊥) → stage_at after c k ≡ stage_at before c k
  pub denied : after.denies ≡ before.denies
  pub faithful : after.is_faithful ≡ before.is_faithful
