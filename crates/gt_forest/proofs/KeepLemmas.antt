-- A call that is answered leaves trees where trees were.
use Rattle.gt_forest.proofs.MapLemmas.{either_number, either_path}
use Rattle.gt_forest.proofs.TreeLemmas.{child_apart, place_of-child, same_tree}
use Rattle.gt_forest.specs.Answers.{ChangesOnly, Grounds, IsAllowed, Writes}
use Rattle.gt_forest.specs.Calls.{Call, Given, IsAnswered, ListCall, MakeDirAnswer, MakeDirCall, ReadCall, RemoveDirAnswer, RemoveDirCall, RemoveFileAnswer, RemoveFileCall, StageAppendCall, StageDropCall, StageOpenCall, StagePlaceAnswer, StagePlaceCall, StatCall}
use Rattle.gt_forest.specs.Tree.{AreTrees, HasEntries, IsTree, Tree, Trees, empty_tree, has_parent, is_folder, node_at, place_of, stage_at}
use Rattle.gt_forest.specs.declared.fault.TreeFault.{TreeFault}
use Rattle.gt_forest.specs.declared.fault.TreeFault.TheVariants.{Denied, Fault, NotEmpty, NotFound, OutOfMemory, WrongKind}
use Rattle.gt_forest.specs.declared.node.Node.{Node}
use Rattle.gt_forest.specs.declared.node.Node.TheVariants.{Folder}
use Rattle.gt_paths.specs.Path.{PathValue, child_path}
use Rattle.std.proofs.Common.{Bool, Contains, Err, IsSome, List, None, Ok, Option, Result, Some, [], ap, arith, false, if◌then◌else◌, inl, inr, is_some, length, length-append, ne_eqb, not, refl, subst, sym, true, true≢false, ◌==◌, ◌||◌, ◌∙◌, ◌∷◌, ◌≡◌, ◌≢◌, ◌⊎◌, ℕ}
use Rattle.std.proofs.lemmas.List.Elements.{Contains-append_right}
use Rattle.std.specs.Option.{option_map_or}

-- nothing was done, or it was allowed and this was
pub split : (g : Grounds) {Same Done MayBe More : Type 0} (r : Result Unit TreeFault) → (Done → More) → (MayBe → More) → Writes g Same Done MayBe r → Same ⊎ (IsAllowed g × More)
split g (Ok u) d m w = inr (w.0, d w.1)
split g (Err NotFound) d m w = inl w.1
split g (Err Denied) d m w = inl w.1
split g (Err WrongKind) d m w = inl w.1
split g (Err NotEmpty) d m w = inl w.1
split g (Err Fault) d m w = elim w.1 [ inl same ↦ inl same | inr more ↦ inr (more.0, m more.1) ]
split g (Err OutOfMemory) d m w = inl w.1

pub some_same : {X : Type 0} (x y : X) → Some x ≡ Some y → x ≡ y
some_same x y is = ap (λ o. option_map_or (λ z. z) o x) is

no_some : {X : Type 0} (x : X) → None ≡ Some x → ⊥
no_some x is = true≢false (sym (ap (λ o. is_some o) is))

later : {X : Type 0} (y : X) (xs : List X) (x : X) → Contains xs x → Contains (y ∷ xs) x
later y xs x there = Contains-append_right (y ∷ []) xs x there

or_left : (a b : Bool) → not a || b ≡ false → a ≡ true
or_left true b is = refl
or_left false b is = absurd (true≢false is)

or_right : (a b : Bool) → a || b ≡ false → b ≡ false
or_right true b is = absurd (true≢false is)
or_right false b is = is

not_false : (a : Bool) → not a ≡ false → a ≡ true
not_false true is = refl
not_false false is = absurd (true≢false is)

nothing_no_folder : (o : Option Node) → is_some o ≡ false → is_folder o ≡ false
nothing_no_folder None is = refl
nothing_no_folder (Some node) is = absurd (true≢false is)

-- ---- one tree

abbrev HasKeys : Tree → Type 0
HasKeys tree = (all : List ℕ) × ((key : ℕ) → IsSome (tree.stages key) → Contains all key)

-- all but one path is as it was
module _ (before after : Tree) (path : PathValue) (tree : IsTree before) (others : (p : PathValue) → p ≢ path → after.nodes p ≡ before.nodes p) where
  pub no_folder_bare : is_folder (before.nodes path) ≡ false → HasEntries before path → ⊥
  no_folder_bare is has = true≢false (sym (tree.parents path has.0 has.1) ∙ is)

  pub no_folder_below : is_folder (before.nodes path) ≡ false → path ≢ []
  no_folder_below is root = true≢false (sym tree.root ∙ ap (λ p. is_folder (before.nodes p)) (sym root) ∙ is)

  module _ (below : path ≢ []) (parent : IsSome (after.nodes path) → has_parent before path ≡ true) (bare : HasEntries before path → ⊥) where
    parent_of : (folder : PathValue) (name : List ℕ) → IsSome (after.nodes (child_path folder name)) → is_folder (after.nodes folder) ≡ true
    parent_of folder name there = elim (either_path (child_path folder name) path) [
      | inl here ↦
          let held : has_parent before path ≡ true = parent (subst (λ p. IsSome (after.nodes p)) here there) in
          let is : is_folder (before.nodes folder) ≡ true = subst (λ place. option_map_or (λ p. is_folder (before.nodes p.0)) place true ≡ true) (ap place_of (sym here) ∙ place_of-child folder name) held in
          ap is_folder (others folder (λ same. child_apart folder name (same ∙ sym here))) ∙ is
      | inr apart ↦
          let was = subst IsSome (others (child_path folder name) apart) there in
          elim (either_path folder path) [
            | inl on ↦ absurd (bare (name, subst (λ f. IsSome (before.nodes (child_path f name))) on was))
            | inr off ↦ ap is_folder (others folder off) ∙ tree.parents folder name was
          ]
    ]

    pub changed_tree : HasKeys after → IsTree after
    changed_tree keys = record {
      root = ap is_folder (others [] (λ same. below (sym same))) ∙ tree.root;
      parents = parent_of;
      paths = (
        path ∷ tree.paths.0,
        λ p there. elim (either_path p path) [
          | inl here ↦ (0, omega arith, sym here)
          | inr apart ↦ later path tree.paths.0 p (tree.paths.1 p (subst IsSome (others p apart) there))
        ],
      );
      keys = keys;
    }

-- paths are as they were
same_paths : (before after : Tree) → IsTree before → ((p : PathValue) → after.nodes p ≡ before.nodes p) → HasKeys after → IsTree after
same_paths before after tree same keys = record {
  root = ap is_folder (same []) ∙ tree.root;
  parents = λ folder name there. ap is_folder (same folder) ∙ tree.parents folder name (subst IsSome (same (child_path folder name)) there);
  paths = (tree.paths.0, λ p there. tree.paths.1 p (subst IsSome (same p) there));
  keys = keys;
}

-- where an empty tree has nothing
not_empty : (path : PathValue) → (length path ≡ 0 → ⊥) → empty_tree.nodes path ≡ None
not_empty path long = ap (λ b. if b then Some (Folder 0) else None) (ne_eqb (length path) 0 long)

pub empty_is_tree : IsTree empty_tree
empty_is_tree = record {
  root = refl;
  parents = λ folder name there. absurd (true≢false (sym (subst IsSome (not_empty (child_path folder name) (λ none. omega (arith, none, length-append folder (name ∷ [])))) there)));
  paths = ([] ∷ [], root_alone);
  keys = ([], λ key there. absurd (true≢false (sym there)));
}
  where
    root_alone : (path : PathValue) → IsSome (empty_tree.nodes path) → Contains ([] ∷ []) path
    root_alone [] there = (0, omega arith, refl)
    root_alone (n ∷ ns) there = absurd (true≢false (sym (subst IsSome (not_empty (n ∷ ns) (λ none. omega (arith, none))) there)))

-- ---- all trees

module _ (collection : ℕ) (before after : Trees) (trees : AreTrees before) where
  -- what is left where the tree of this collection is one
  module _ (path : Option PathValue) (key : Option ℕ) (only : ChangesOnly collection path key before after) where
    pub all_trees : IsTree (after.tree collection) → AreTrees after
    all_trees is k = elim (either_number k collection) [
      | inl here ↦ subst (λ j. IsTree (after.tree j)) (sym here) is
      | inr apart ↦ subst IsTree (sym (same_tree (after.tree k) (before.tree k) (λ p. only.paths k p (λ on named. apart on)) (λ s. only.stages k s (λ on named. apart on)))) (trees k)
    ]

    pub keys_left : HasKeys (after.tree collection)
    keys_left = by_key key (only.stages collection)
      where
        by_key : (named : Option ℕ) → ((s : ℕ) → (collection ≡ collection → named ≡ Some s → ⊥) → stage_at after collection s ≡ stage_at before collection s) → HasKeys (after.tree collection)
        by_key None same = ((trees collection).keys.0, λ s there. (trees collection).keys.1 s (subst IsSome (same s (λ on named. no_some s named)) there))
        by_key (Some k) same = (
          k ∷ (trees collection).keys.0,
          λ s there. elim (either_number s k) [
            | inl here ↦ (0, omega arith, sym here)
            | inr apart ↦ later k (trees collection).keys.0 s ((trees collection).keys.1 s (subst IsSome (same s (λ on named. apart (sym (some_same k s named)))) there))
          ],
        )

  stage_kept : (key : Option ℕ) → ChangesOnly collection None key before after → AreTrees after
  stage_kept key only = all_trees None key only
      (same_paths (before.tree collection) (after.tree collection) (trees collection) (λ p. only.paths collection p (λ on named. no_some p named)) (keys_left None key only))

  path_kept : (path : PathValue) (key : Option ℕ) → ChangesOnly collection (Some path) key before after → path ≢ []
      → (IsSome (node_at after collection path) → has_parent (before.tree collection) path ≡ true) → (HasEntries (before.tree collection) path → ⊥) → AreTrees after
  path_kept path key only below parent bare = all_trees (Some path) key only
      (changed_tree (before.tree collection) (after.tree collection) path (trees collection) (λ p ne. only.paths collection p (λ on named. ne (sym (some_same path p named)))) below parent bare (keys_left (Some path) key only))

  others_of : (path : PathValue) (key : Option ℕ) → ChangesOnly collection (Some path) key before after → (p : PathValue) → p ≢ path → node_at after collection p ≡ node_at before collection p
  others_of path key only p ne = only.paths collection p (λ on named. ne (sym (some_same path p named)))

  pub place_keeps : (key : ℕ) (path : PathValue) (mtime : ℕ) (answer : Result Unit TreeFault) → StagePlaceAnswer collection key path mtime answer before after → AreTrees after
  place_keeps key path mtime answer did = elim (split _ answer (λ d. d) (λ m. m) did.answers) [
    | inl same ↦ subst AreTrees (sym same) trees
    | inr done ↦ path_kept path (Some key) did.others
        (no_folder_below (before.tree collection) (after.tree collection) path (trees collection) (others_of path (Some key) did.others) done.0.kind)
        (λ there. or_left (has_parent (before.tree collection) path) _ done.0.absent)
        (no_folder_bare (before.tree collection) (after.tree collection) path (trees collection) (others_of path (Some key) did.others) done.0.kind)
  ]

  pub make_keeps : (path : PathValue) (answer : Result Unit TreeFault) → MakeDirAnswer collection path answer before after → AreTrees after
  make_keeps path answer did = elim (split _ answer (λ d. d) (λ m. m) did.answers) [
    | inl same ↦ subst AreTrees (sym same) trees
    | inr done ↦
        let none = nothing_no_folder ((before.tree collection).nodes path) done.0.kind in
        path_kept path None did.others
        (no_folder_below (before.tree collection) (after.tree collection) path (trees collection) (others_of path None did.others) none)
        (λ there. not_false (has_parent (before.tree collection) path) done.0.absent)
        (no_folder_bare (before.tree collection) (after.tree collection) path (trees collection) (others_of path None did.others) none)
  ]

  gone : (path : PathValue) → (after.tree collection).nodes path ≡ None → IsSome (node_at after collection path) → has_parent (before.tree collection) path ≡ true
  gone path none there = absurd (true≢false (sym (subst IsSome none there)))

  pub file_keeps : (path : PathValue) (answer : Result Unit TreeFault) → RemoveFileAnswer collection path answer before after → AreTrees after
  file_keeps path answer did = elim (split _ answer (λ d. d) (λ m. m) did.answers) [
    | inl same ↦ subst AreTrees (sym same) trees
    | inr done ↦ path_kept path None did.others
        (no_folder_below (before.tree collection) (after.tree collection) path (trees collection) (others_of path None did.others) done.0.kind)
        (gone path done.1)
        (no_folder_bare (before.tree collection) (after.tree collection) path (trees collection) (others_of path None did.others) done.0.kind)
  ]

  pub dir_keeps : (path : PathValue) (answer : Result Unit TreeFault) → RemoveDirAnswer collection path answer before after → AreTrees after
  dir_keeps path answer did = elim (split _ answer (λ d. d) (λ m. m) did.answers) [
    | inl same ↦ subst AreTrees (sym same) trees
    | inr done ↦ path_kept path None did.others
        (λ root. true≢false (sym (ap (λ (p : PathValue). length p == 0) root) ∙ or_right (before.denies collection path) (length path == 0) done.0.denied))
        (gone path done.1)
        done.0.empty
  ]

pub calls_keep : (call : Call) (answer : Result (Given call) TreeFault) (before after : Trees) → IsAnswered call answer before after → AreTrees before → AreTrees after
calls_keep (StatCall collection path) answer before after did trees = subst AreTrees (sym did.same) trees
calls_keep (ListCall collection path from limit) answer before after did trees = subst AreTrees (sym did.same) trees
calls_keep (ReadCall collection path at room) answer before after did trees = subst AreTrees (sym did.same) trees
calls_keep (StageOpenCall collection key) answer before after did trees = stage_kept collection before after trees (Some key) did.others
calls_keep (StageAppendCall collection key bytes) answer before after did trees = stage_kept collection before after trees (Some key) did.others
calls_keep (StagePlaceCall collection key path mtime) answer before after did trees = place_keeps collection before after trees key path mtime answer did
calls_keep (StageDropCall collection key) answer before after did trees = stage_kept collection before after trees (Some key) did.others
calls_keep (MakeDirCall collection path) answer before after did trees = make_keeps collection before after trees path answer did
calls_keep (RemoveFileCall collection path) answer before after did trees = file_keeps collection before after trees path answer did
calls_keep (RemoveDirCall collection path) answer before after did trees = dir_keeps collection before after trees path answer did
