-- Maps of folders and of staging files, read as rows.
use Rattle.gt_forest.specs.Rows.{PutsEntry, PutsFolder, PutsStage, SameFolders, SameStages, contents_of, entry_at, entry_of, folder_rows, stage_rows, staged_at}
use Rattle.gt_forest.specs.declared.node.Node.{Node}
use Rattle.gt_paths.specs.Path.{PathValue, path_cmp}
use Rattle.std.proofs.Common.{BTreeMap, Bool, Equal, Err, Global, Greater, IsSome, Less, List, None, Option, Ok, OnErr, Ordering, Result, Some, Vec, [], ap, cond, false, inl, inr, is_eq, is_some, map, nat_cmp, option_and_then, option_map, refl, subst, sym, true, true≢false, ◌∙◌, ◌∷◌, ◌≡◌, ◌≢◌, ◌⊎◌, ℕ}
use Rattle.std.specs.BTreeMap.{UpdatesBy}
use Rattle.std.specs.Cmp.Lexicographic.{lists_total, nat_list_cmp_total, slice_cmp}
use Rattle.std.specs.Cmp.{IsTotalOrder, nat_cmp_total, tied_itself}
use Rattle.std.specs.FinMap.{nat_cmp-IsAntisymmetric, slice_cmp-IsAntisymmetric}
use Rattle.std.specs.Map.{AreApart, IsKeyTest, KeepsOthers, lookup}
use Rattle.std.specs.Ordering.{eq_by_cmp}

-- the types of the maps
abbrev pub ContentsMap : Type 0
ContentsMap = BTreeMap (List ℕ) Node

abbrev pub FolderMap : Type 0
FolderMap = BTreeMap (Vec (List ℕ) Global) ContentsMap

abbrev pub StageMap : Type 0
StageMap = BTreeMap ℕ (Vec ℕ Global)

-- the orders of their keys
abbrev pub name_cmp : List ℕ → List ℕ → Ordering
name_cmp = slice_cmp nat_cmp

abbrev pub key_cmp : Vec (List ℕ) Global → Vec (List ℕ) Global → Ordering
key_cmp x y = path_cmp x.items y.items

-- whether a key is this path
abbrev pub path_test : PathValue → Vec (List ℕ) Global → Bool
path_test path key = is_eq (path_cmp path key.items)

cond_map : {X Y : Type 0} (g : X → Y) (b : Bool) (x : X) (l : Option Y) (m : Option X) → l ≡ option_map g m → cond b (Some (g x)) l ≡ option_map g (cond b (Some x) m)
cond_map g true x l m is = refl
cond_map g false x l m is = is

-- a look-up among rows that were made of entries
pub lookup-rows : {K L X Y : Type 0} (f : K → L) (g : X → Y) (test : L → Bool) (es : List (K × X))
    → lookup test (map {B = L × Y} (λ (e : K × X). (f e.0, g e.1)) es) ≡ option_map g (lookup (λ k. test (f k)) es)
lookup-rows f g test [] = refl
lookup-rows f g test (e ∷ es) = cond_map g (test (f e.0)) e.1 _ _ (lookup-rows f g test es)

is_equal : (r : Ordering) → is_eq r ≡ true → r ≡ Equal
is_equal Less is = absurd (subst (λ b. cond b ⊥ (Unit {0})) is tt)
is_equal Equal is = refl
is_equal Greater is = absurd (subst (λ b. cond b ⊥ (Unit {0})) is tt)

pub same_name_from : (a b : List ℕ) → name_cmp a b ≡ Equal → a ≡ b
same_name_from = slice_cmp-IsAntisymmetric nat_cmp-IsAntisymmetric

pub same_path_from : (p q : PathValue) → path_cmp p q ≡ Equal → p ≡ q
same_path_from = slice_cmp-IsAntisymmetric same_name_from

path_total : IsTotalOrder path_cmp
path_total = lists_total nat_list_cmp_total

-- values that differ don't tie
apart_by : {K : Type 0} (cmp : K → K → Ordering) → ((x y : K) → cmp x y ≡ Equal → x ≡ y) → (x y : K) → x ≢ y → is_eq (cmp x y) ≡ false
apart_by cmp exact x y other = elim (cmp x y) as (λ r. cmp x y ≡ r → is_eq r ≡ false) [
  | Less ↦ λ is. refl
  | Equal ↦ λ is. absurd (other (exact x y is))
  | Greater ↦ λ is. refl
] refl

-- either they are the same or they differ
either_by : {K : Type 0} {cmp : K → K → Ordering} → IsTotalOrder cmp → ((x y : K) → cmp x y ≡ Equal → x ≡ y) → (x y : K) → (x ≡ y) ⊎ (x ≢ y)
either_by {cmp = cmp} total exact x y = elim (cmp x y) as (λ r. cmp x y ≡ r → (x ≡ y) ⊎ (x ≢ y)) [
  | Less ↦ λ is. inr (λ same. absurd (subst (λ r. cond (is_eq r) (Unit {0}) ⊥) (sym (subst (λ z. cmp x z ≡ Equal) same (tied_itself total x)) ∙ is) tt))
  | Equal ↦ λ is. inl (exact x y is)
  | Greater ↦ λ is. inr (λ same. absurd (subst (λ r. cond (is_eq r) (Unit {0}) ⊥) (sym (subst (λ z. cmp x z ≡ Equal) same (tied_itself total x)) ∙ is) tt))
] refl

pub either_path : (p q : PathValue) → (p ≡ q) ⊎ (p ≢ q)
either_path = either_by path_total same_path_from

pub either_name : (a b : List ℕ) → (a ≡ b) ⊎ (a ≢ b)
either_name = either_by nat_list_cmp_total same_name_from

key_test : (path : PathValue) → IsKeyTest (eq_by_cmp key_cmp) (path_test path)
key_test path x y is = ap (λ p. is_eq (path_cmp p y.items)) (same_path_from path x.items (is_equal (path_cmp path x.items) is))

apart : (path other : PathValue) → other ≢ path → AreApart (path_test path) (path_test other)
apart path other ne key is =
    subst (λ p. is_eq (path_cmp other p) ≡ false) (same_path_from path key.items (is_equal (path_cmp path key.items) is)) (apart_by path_cmp same_path_from other path ne)

-- the contents of a folder, found in the map
pub contents_of-map : (m : FolderMap) (path : PathValue) → contents_of (folder_rows m) path ≡ option_map (λ c. c.entries) (lookup (path_test path) m.entries)
contents_of-map m path = lookup-rows (λ k. k.items) (λ c. c.entries) (λ p. is_eq (path_cmp path p)) m.entries

pub puts_folder : (m n : FolderMap) (path : PathValue) (w : Option ContentsMap) → UpdatesBy key_cmp (λ k. path_cmp path k.items) m n w
    → PutsFolder path (option_map (λ c. c.entries) w) (folder_rows m) (folder_rows n)
unfolding KeepsOthers
puts_folder m n path w updates = record {
  at = contents_of-map n path ∙ ap (option_map (λ c. c.entries)) updates.1;
  folders = λ other ne.
      contents_of-map n other
      ∙ ap (option_map (λ c. c.entries)) (updates.3 (path_test other) (key_test other) (apart path other ne))
      ∙ sym (contents_of-map m other);
}

pub on_err : {T E : Type 0} {P : Type 0} (r : Result T E) → P → OnErr r P
on_err (Ok x) p = tt
on_err (Err e) p = p

-- what is none isn't there
pub not_there : {X : Type 0} (o : Option X) → o ≡ None → IsSome o → ⊥
not_there o none there = true≢false (sym (subst IsSome none there))

-- a folder that is found is there
pub found : (m : FolderMap) (path : PathValue) (old : ContentsMap) → Some old ≡ lookup (path_test path) m.entries → contents_of (folder_rows m) path ≡ Some old.entries
found m path old is = contents_of-map m path ∙ ap (option_map (λ c. c.entries)) (sym is)

-- one that isn't found isn't
pub missing : (m : FolderMap) (path : PathValue) → None ≡ lookup (path_test path) m.entries → contents_of (folder_rows m) path ≡ None
missing m path is = contents_of-map m path ∙ ap (option_map (λ c. c.entries)) (sym is)

module _ (m n : FolderMap) (path : PathValue) (old new : ContentsMap) (was : Some old ≡ lookup (path_test path) m.entries)
    (outer : UpdatesBy key_cmp (λ k. path_cmp path k.items) m n (Some new)) where
  puts : PutsFolder path (Some new.entries) (folder_rows m) (folder_rows n)
  puts = puts_folder m n path (Some new) outer

  there : (p : PathValue) → is_some (contents_of (folder_rows n) p) ≡ is_some (contents_of (folder_rows m) p)
  there p = elim (either_path p path) [
    | inl same ↦ subst (λ q. is_some (contents_of (folder_rows n) q) ≡ is_some (contents_of (folder_rows m) q)) (sym same) (ap is_some puts.at ∙ sym (ap is_some (found m path old was)))
    | inr ne ↦ ap is_some (puts.folders p ne)
  ]

  at_folder : (name : List ℕ) → entry_at (folder_rows n) path name ≡ entry_of new.entries name
  at_folder name = ap (option_and_then (λ contents. entry_of contents name)) puts.at

  was_at_folder : (name : List ℕ) → entry_at (folder_rows m) path name ≡ entry_of old.entries name
  was_at_folder name = ap (option_and_then (λ contents. entry_of contents name)) (found m path old was)

  -- a change of an entry in a folder
  pub puts_entry : (name : List ℕ) (w : Option Node) → UpdatesBy name_cmp (name_cmp name) old new w → PutsEntry path name w (folder_rows m) (folder_rows n)
  puts_entry name w inner = record {
    there = there;
    at = at_folder name ∙ inner.1;
    names = λ other ne. at_folder other ∙ inner.2 other (apart_by name_cmp same_name_from name other (λ same. ne (sym same))) ∙ sym (was_at_folder other);
    folders = puts.folders;
  }

  -- no change of it
  pub same_folders : new.entries ≡ old.entries → SameFolders (folder_rows m) (folder_rows n)
  same_folders same p = elim (either_path p path) [
    | inl here ↦ subst (λ q. contents_of (folder_rows n) q ≡ contents_of (folder_rows m) q) (sym here) (puts.at ∙ ap Some same ∙ sym (found m path old was))
    | inr ne ↦ puts.folders p ne
  ]

staged-map : (m : StageMap) (key : ℕ) → staged_at (stage_rows m) key ≡ option_map (λ v. v.items) (lookup (λ k. is_eq (nat_cmp key k)) m.entries)
staged-map m key = lookup-rows (λ k. k) (λ v. v.items) (λ k. is_eq (nat_cmp key k)) m.entries

pub puts_stage : (m n : StageMap) (key : ℕ) (w : Option (Vec ℕ Global)) → UpdatesBy nat_cmp (nat_cmp key) m n w
    → PutsStage key (option_map (λ v. v.items) w) (stage_rows m) (stage_rows n)
puts_stage m n key w updates = record {
  at = staged-map n key ∙ ap (option_map (λ v. v.items)) updates.1;
  keys = λ other ne.
      staged-map n other
      ∙ ap (option_map (λ v. v.items)) (updates.2 other (apart_by nat_cmp nat_cmp-IsAntisymmetric key other (λ same. ne (sym same))))
      ∙ sym (staged-map m other);
}

-- a staging file that is found
pub staged : (m : StageMap) (key : ℕ) (found : Option (Vec ℕ Global)) → found ≡ lookup (λ k. is_eq (nat_cmp key k)) m.entries → staged_at (stage_rows m) key ≡ option_map (λ v. v.items) found
staged m key found is = staged-map m key ∙ ap (option_map (λ v. v.items)) (sym is)

-- no change of a staging file
pub same_stages : (m n : StageMap) (key : ℕ) (old new : Vec ℕ Global) → Some old ≡ lookup (λ k. is_eq (nat_cmp key k)) m.entries → UpdatesBy nat_cmp (nat_cmp key) m n (Some new)
    → new.items ≡ old.items → SameStages (stage_rows m) (stage_rows n)
same_stages m n key old new was outer same k =
    let puts = puts_stage m n key (Some new) outer in
    elim (either_by nat_cmp_total nat_cmp-IsAntisymmetric k key) [
      | inl here ↦ subst (λ q. staged_at (stage_rows n) q ≡ staged_at (stage_rows m) q) (sym here) (puts.at ∙ ap Some same ∙ sym (staged m key (Some old) was))
      | inr ne ↦ puts.keys k ne
    ]

pub is_some-option_map : {X Y : Type 0} (f : X → Y) (o : Option X) → is_some (option_map f o) ≡ is_some o
is_some-option_map f None = refl
is_some-option_map f (Some x) = refl

pub either_number : (a b : ℕ) → (a ≡ b) ⊎ (a ≢ b)
either_number = either_by nat_cmp_total nat_cmp-IsAntisymmetric
