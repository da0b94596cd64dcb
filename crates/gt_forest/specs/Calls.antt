-- Each call as a relation between what was there before, its answer, and what is there after: on the tree that it is made
-- on, and on all trees. `Same` says that nothing changed.
use Rattle.std.specs.Option.{option_map}
use Rattle.std.specs.Prelude.{Bool, Err, IsTrue, List, None, Ok, Option, Result, Some, [], drop, false, is_none, is_some, length, not, take, true, ℕ, ◌++◌, ◌<◌, ◌==◌, ◌||◌, ◌≡◌}
use Rattle.gt_paths.specs.Path.{PathValue}
use Rattle.gt_types.specs.declared.listing.Entry.{Entry}
use Rattle.gt_types.specs.declared.listing.Stat.{Stat}
use Rattle.gt_forest.specs.Answers.{ChangesOnly, Grounds, Reads, Writes}
use Rattle.gt_forest.specs.Listing.{IsListing, kind_of}
use Rattle.gt_forest.specs.Tree.{HasEntries, Tree, Trees, has_parent, is_file, is_folder}
use Rattle.gt_forest.specs.declared.fault.TreeFault.{TreeFault}
use Rattle.gt_forest.specs.declared.node.Node.{Node}
use Rattle.gt_forest.specs.declared.node.Node.TheVariants.{File, Folder}
use Rattle.gt_forest.specs.declared.fault.TreeFault.TheVariants.{Denied, Fault, NotEmpty, NotFound, OutOfMemory, WrongKind}

-- no call but the removal of a folder is refused for what is in one
abbrev pub grounds : Bool → Bool → Bool → Grounds
grounds denied absent wrong = record { denied = denied; absent = absent; wrong = wrong; Full = ⊥ }

-- the size of a file, and 0 for a folder
abbrev pub size_of : Node → ℕ
size_of (File bytes mtime) = length bytes
size_of (Folder mtime) = 0

-- when it was written
abbrev pub mtime_of : Node → ℕ
mtime_of (File bytes mtime) = mtime
mtime_of (Folder mtime) = mtime

-- kind, size and time
abbrev pub stat_of : Node → Stat
stat_of node = record { kind = kind_of node; size = size_of node; mtime = mtime_of node }

-- the bytes of a file
abbrev pub bytes_of : Node → List ℕ
bytes_of (File bytes mtime) = bytes
bytes_of (Folder mtime) = []

-- what stands at the path
abbrev pub Stats : Bool → Tree → PathValue → Result Stat TreeFault → Type 0
Stats denied tree path =
    Reads (grounds denied (is_none (tree.nodes path)) false) (λ stat. option_map stat_of (tree.nodes path) ≡ Some stat)

-- the first entries of the folder after a name
abbrev pub Lists : Bool → Tree → PathValue → Option (List ℕ) → ℕ → Result (List Entry) TreeFault → Type 0
Lists denied tree path from limit =
    Reads (grounds denied (is_none (tree.nodes path)) (is_file (tree.nodes path))) (IsListing tree.nodes path from limit)

-- as many bytes of the file from a place on as there are, and no more than there is room for
abbrev pub Gives : Bool → Tree → PathValue → ℕ → ℕ → Result (List ℕ) TreeFault → Type 0
Gives denied tree path at room =
    Reads (grounds denied (is_none (tree.nodes path)) (is_folder (tree.nodes path)))
    (λ bytes. option_map (λ node. take room (drop at (bytes_of node))) (tree.nodes path) ≡ Some bytes)

-- the staging file is there and empty, in place of an older one
abbrev pub Opens : Tree → ℕ → (Same : Type 0) → Result Unit TreeFault → Type 0
Opens after key Same = Writes (grounds false false false) Same (after.stages key ≡ Some []) (after.stages key ≡ Some [])

-- the staging file is longer by as many bytes, which are these where the forest is faithful
pub record IsAppended (before : Tree) (key : ℕ) (is_faithful : Bool) (bytes : List ℕ) (after : Tree) : Type 0 where
  pub old : List ℕ
  pub added : List ℕ
  pub was : before.stages key ≡ Some old
  pub is : after.stages key ≡ Some (old ++ added)
  pub many : length added ≡ length bytes
  pub faithful : IsTrue is_faithful → added ≡ bytes

-- the bytes are added; a fault may leave any bytes in the staging file
abbrev pub Appends : Tree → ℕ → Bool → List ℕ → Tree → (Same : Type 0) → Result Unit TreeFault → Type 0
Appends before key is_faithful bytes after Same =
    Writes (grounds false (is_none (before.stages key)) false) Same (IsAppended before key is_faithful bytes after)
    ((any : List ℕ) × (after.stages key ≡ Some any))

-- the path is a file with the bytes of the staging file and this time, and the staging file is gone
pub record IsPlaced (before : Tree) (key : ℕ) (path : PathValue) (mtime : ℕ) (after : Tree) : Type 0 where
  pub bytes : List ℕ
  pub was : before.stages key ≡ Some bytes
  pub is : after.nodes path ≡ Some (File bytes mtime)
  pub gone : after.stages key ≡ None

-- the staging file is placed, over an older file; the folder that the path is in must be there
abbrev pub Places : Bool → Tree → ℕ → PathValue → ℕ → Tree → (Same : Type 0) → Result Unit TreeFault → Type 0
Places denied before key path mtime after Same =
    Writes (grounds denied (not (has_parent before path) || is_none (before.stages key)) (is_folder (before.nodes path)))
    Same (IsPlaced before key path mtime after) (IsPlaced before key path mtime after)

-- the staging file is gone
abbrev pub Drops : Tree → ℕ → Tree → (Same : Type 0) → Result Unit TreeFault → Type 0
Drops before key after Same =
    Writes (grounds false (is_none (before.stages key)) false) Same (after.stages key ≡ None) (after.stages key ≡ None)

-- a folder of the time 0 is made where nothing was; the folder that the path is in must be there
abbrev pub Makes : Bool → Tree → PathValue → Tree → (Same : Type 0) → Result Unit TreeFault → Type 0
Makes denied before path after Same =
    Writes (grounds denied (not (has_parent before path)) (is_some (before.nodes path)))
    Same (after.nodes path ≡ Some (Folder 0)) (after.nodes path ≡ Some (Folder 0))

-- the file is gone
abbrev pub RemovesFile : Bool → Tree → PathValue → Tree → (Same : Type 0) → Result Unit TreeFault → Type 0
RemovesFile denied before path after Same =
    Writes (grounds denied (is_none (before.nodes path)) (is_folder (before.nodes path))) Same (after.nodes path ≡ None) (after.nodes path ≡ None)

-- the grounds that keep a folder: the root is denied as what is under a denied path
abbrev pub folder_grounds : Bool → Tree → PathValue → Grounds
folder_grounds denied tree path = record {
  denied = denied || (length path == 0);
  absent = is_none (tree.nodes path);
  wrong = is_file (tree.nodes path);
  Full = HasEntries tree path;
}

-- the empty folder is gone
abbrev pub RemovesDir : Bool → Tree → PathValue → Tree → (Same : Type 0) → Result Unit TreeFault → Type 0
RemovesDir denied before path after Same = Writes (folder_grounds denied before path) Same (after.nodes path ≡ None) (after.nodes path ≡ None)

-- `stat` of a forest
pub record StatAnswer (collection : ℕ) (path : PathValue) (answer : Result Stat TreeFault) (before after : Trees) : Type 0 where
  pub answers : Stats (before.denies collection path) (before.tree collection) path answer
  pub same : after ≡ before

-- `list`
pub record ListAnswer (collection : ℕ) (path : PathValue) (from : Option (List ℕ)) (limit : ℕ)
    (answer : Result (List Entry) TreeFault) (before after : Trees) : Type 0 where
  pub answers : Lists (before.denies collection path) (before.tree collection) path from limit answer
  pub same : after ≡ before

-- `read`
pub record ReadAnswer (collection : ℕ) (path : PathValue) (at room : ℕ) (answer : Result (List ℕ) TreeFault)
    (before after : Trees) : Type 0 where
  pub answers : Gives (before.denies collection path) (before.tree collection) path at room answer
  pub same : after ≡ before

-- `stage_open`
pub record StageOpenAnswer (collection key : ℕ) (answer : Result Unit TreeFault) (before after : Trees) : Type 0 where
  pub answers : Opens (after.tree collection) key (after ≡ before) answer
  pub others : ChangesOnly collection None (Some key) before after

-- `stage_append`
pub record StageAppendAnswer (collection key : ℕ) (bytes : List ℕ) (answer : Result Unit TreeFault)
    (before after : Trees) : Type 0 where
  pub answers : Appends (before.tree collection) key before.is_faithful bytes (after.tree collection) (after ≡ before) answer
  pub others : ChangesOnly collection None (Some key) before after

-- `stage_place`
pub record StagePlaceAnswer (collection key : ℕ) (path : PathValue) (mtime : ℕ) (answer : Result Unit TreeFault)
    (before after : Trees) : Type 0 where
  pub answers : Places (before.denies collection path) (before.tree collection) key path mtime (after.tree collection) (after ≡ before) answer
  pub others : ChangesOnly collection (Some path) (Some key) before after

-- `stage_drop`
pub record StageDropAnswer (collection key : ℕ) (answer : Result Unit TreeFault) (before after : Trees) : Type 0 where
  pub answers : Drops (before.tree collection) key (after.tree collection) (after ≡ before) answer
  pub others : ChangesOnly collection None (Some key) before after

-- `make_dir`
pub record MakeDirAnswer (collection : ℕ) (path : PathValue) (answer : Result Unit TreeFault) (before after : Trees) : Type 0 where
  pub answers : Makes (before.denies collection path) (before.tree collection) path (after.tree collection) (after ≡ before) answer
  pub others : ChangesOnly collection (Some path) None before after

-- `remove_file`
pub record RemoveFileAnswer (collection : ℕ) (path : PathValue) (answer : Result Unit TreeFault) (before after : Trees) : Type 0 where
  pub answers : RemovesFile (before.denies collection path) (before.tree collection) path (after.tree collection) (after ≡ before) answer
  pub others : ChangesOnly collection (Some path) None before after

-- `remove_dir`
pub record RemoveDirAnswer (collection : ℕ) (path : PathValue) (answer : Result Unit TreeFault) (before after : Trees) : Type 0 where
  pub answers : RemovesDir (before.denies collection path) (before.tree collection) path (after.tree collection) (after ≡ before) answer
  pub others : ChangesOnly collection (Some path) None before after

-- a call, with what it is about
pub data Call : Type 0 where
  StatCall : ℕ → PathValue → Call
  ListCall : ℕ → PathValue → Option (List ℕ) → ℕ → Call
  ReadCall : ℕ → PathValue → ℕ → ℕ → Call
  StageOpenCall : ℕ → ℕ → Call
  StageAppendCall : ℕ → ℕ → List ℕ → Call
  StagePlaceCall : ℕ → ℕ → PathValue → ℕ → Call
  StageDropCall : ℕ → ℕ → Call
  MakeDirCall : ℕ → PathValue → Call
  RemoveFileCall : ℕ → PathValue → Call
  RemoveDirCall : ℕ → PathValue → Call

-- the collection that it is made on
abbrev pub collection_of : Call → ℕ
collection_of (StatCall collection path) = collection
collection_of (ListCall collection path from limit) = collection
collection_of (ReadCall collection path at room) = collection
collection_of (StageOpenCall collection key) = collection
collection_of (StageAppendCall collection key bytes) = collection
collection_of (StagePlaceCall collection key path mtime) = collection
collection_of (StageDropCall collection key) = collection
collection_of (MakeDirCall collection path) = collection
collection_of (RemoveFileCall collection path) = collection
collection_of (RemoveDirCall collection path) = collection

-- what an answer that is no refusal gives
abbrev pub Given : Call → Type 0
Given (StatCall collection path) = Stat
Given (ListCall collection path from limit) = List Entry
Given (ReadCall collection path at room) = List ℕ
Given (StageOpenCall collection key) = Unit {0}
Given (StageAppendCall collection key bytes) = Unit {0}
Given (StagePlaceCall collection key path mtime) = Unit {0}
Given (StageDropCall collection key) = Unit {0}
Given (MakeDirCall collection path) = Unit {0}
Given (RemoveFileCall collection path) = Unit {0}
Given (RemoveDirCall collection path) = Unit {0}

-- the call is answered so, and leads from the first trees to the second
abbrev pub IsAnswered : (call : Call) → Result (Given call) TreeFault → Trees → Trees → Type 0
IsAnswered (StatCall collection path) answer = StatAnswer collection path answer
IsAnswered (ListCall collection path from limit) answer = ListAnswer collection path from limit answer
IsAnswered (ReadCall collection path at room) answer = ReadAnswer collection path at room answer
IsAnswered (StageOpenCall collection key) answer = StageOpenAnswer collection key answer
IsAnswered (StageAppendCall collection key bytes) answer = StageAppendAnswer collection key bytes answer
IsAnswered (StagePlaceCall collection key path mtime) answer = StagePlaceAnswer collection key path mtime answer
IsAnswered (StageDropCall collection key) answer = StageDropAnswer collection key answer
IsAnswered (MakeDirCall collection path) answer = MakeDirAnswer collection path answer
IsAnswered (RemoveFileCall collection path) answer = RemoveFileAnswer collection path answer
IsAnswered (RemoveDirCall collection path) answer = RemoveDirAnswer collection path answer

-- whether the trees alone give the ground of it
abbrev pub is_refusal : TreeFault → Bool
is_refusal NotFound = true
is_refusal Denied = true
is_refusal WrongKind = true
is_refusal NotEmpty = true
is_refusal Fault = false
is_refusal OutOfMemory = false

-- whether the trees alone decide the answer: the forest didn't fail, and there was memory
abbrev pub is_decided : {T : Type 0} → Result T TreeFault → Bool
is_decided (Ok value) = true
is_decided (Err fault) = is_refusal fault

-- both forests store what they are given, and of the first so many collections both hold the same and deny the same
pub record AreAlike (count : ℕ) (a b : Trees) : Type 0 where
  pub tree : (collection : ℕ) → collection < count → b.tree collection ≡ a.tree collection
  pub denies : (collection : ℕ) (path : PathValue) → collection < count → b.denies collection path ≡ a.denies collection path
  pub first : IsTrue a.is_faithful
  pub second : IsTrue b.is_faithful
