-- Calls on one tree as calls on the forest.
use Rattle.gt_forest.proofs.MapLemmas.{either_number}
use Rattle.gt_forest.proofs.TreeLemmas.{same_tree}
use Rattle.gt_forest.specs.Answers.{ChangesOnly, Grounds, Writes}
use Rattle.gt_forest.specs.Calls.{Appends, Drops, IsAppended, Makes, Opens, Places, RemovesDir, RemovesFile, MakeDirAnswer, RemoveDirAnswer, RemoveFileAnswer, StageAppendAnswer, StageDropAnswer, StageOpenAnswer, StagePlaceAnswer}
use Rattle.gt_forest.specs.Rows.{KeepsOthers, TreeRows, entry_of, fresh_rows, inverted, stored, tree_of}
use Rattle.gt_forest.specs.MemState.{is_denied}
use Rattle.gt_forest.specs.Tree.{Tree, Trees, empty_tree, no_tree, node_at, stage_at}
use Rattle.gt_forest.specs.declared.fault.TreeFault.{TreeFault}
use Rattle.gt_forest.specs.declared.fault.TreeFault.TheVariants.{Denied, Fault, NotEmpty, NotFound, OutOfMemory, WrongKind}
use Rattle.gt_forest.specs.declared.node.Node.TheVariants.{Folder}
use Rattle.gt_paths.specs.Path.{PathValue, path_cmp}
use Rattle.std.proofs.Common.{Bool, Contains, Err, IsTrue, List, None, Ok, OnOk, Option, Result, Some, [], ap, arith, cond, eqb-true, false, if◌then◌else◌, inl, inr, is_eq, length, ne_eqb, not, option_and_then, option_map, refl, replicate, slice_get, slice_index_or, slice_set, suc, subst, sym, take, true, true≢false, zero, ◌++◌, ◌<◌, ◌==◌, ◌∙◌, ◌↔◌, ◌∷◌, ◌≡◌, ◌≢◌, ℕ}
use Rattle.std.specs.Option.{option_map_or}

-- what a forest in memory tells by its rows
abbrev pub told_by : List TreeRows → List (ℕ × PathValue) → List ℕ → Trees
told_by trees denied corrupt = record { tree = λ collection. option_map_or tree_of (slice_get trees collection) no_tree; denies = is_denied denied; is_faithful = length corrupt == 0 }

slice_get-at : {X : Type 0} (xs : List X) (i : ℕ) (d : X) → i < length xs → slice_get xs i ≡ Some (slice_index_or xs i d)
slice_get-at [] i d inside = absurd (omega (arith, inside))
slice_get-at (x ∷ xs) zero d inside = refl
slice_get-at (x ∷ xs) (suc i) d inside = slice_get-at xs i d (omega (arith, inside))

slice_get-set_here : {X : Type 0} (xs : List X) (i : ℕ) (y : X) → i < length xs → slice_get (slice_set xs i y) i ≡ Some y
slice_get-set_here [] i y inside = absurd (omega (arith, inside))
slice_get-set_here (x ∷ xs) zero y inside = refl
slice_get-set_here (x ∷ xs) (suc i) y inside = slice_get-set_here xs i y (omega (arith, inside))

slice_get-set_other : {X : Type 0} (xs : List X) (i j : ℕ) (y : X) → j ≢ i → slice_get (slice_set xs i y) j ≡ slice_get xs j
slice_get-set_other [] i j y ne = refl
slice_get-set_other (x ∷ xs) zero zero y ne = absurd (ne refl)
slice_get-set_other (x ∷ xs) zero (suc j) y ne = refl
slice_get-set_other (x ∷ xs) (suc i) zero y ne = refl
slice_get-set_other (x ∷ xs) (suc i) (suc j) y ne = slice_get-set_other xs i j y (λ same. ne (ap suc same))

-- the tree of a collection
pub tree_at : (trees : List TreeRows) (c : ℕ) (t : TreeRows) → c < length trees → t ≡ slice_index_or trees c t → option_map_or tree_of (slice_get trees c) no_tree ≡ tree_of t
tree_at trees c t inside at = ap (λ o. option_map_or tree_of o no_tree) (slice_get-at trees c t inside) ∙ ap tree_of (sym at)

-- a call that writes, of other facts
writes_map : (g : Grounds) {S S' D D' M M' : Type 0} → (S → S') → (D → D') → (M → M') → (r : Result Unit TreeFault) → Writes g S D M r → Writes g S' D' M' r
writes_map g s d m (Ok done) w = (w.0, d w.1)
writes_map g s d m (Err NotFound) w = (w.0, s w.1)
writes_map g s d m (Err Denied) w = (w.0, s w.1)
writes_map g s d m (Err WrongKind) w = (w.0, s w.1)
writes_map g s d m (Err NotEmpty) w = (w.0, s w.1)
writes_map g s d m (Err Fault) w = (w.0, elim w.1 [ inl same ↦ inl (s same) | inr more ↦ inr (more.0, m more.1) ])
writes_map g s d m (Err OutOfMemory) w = (w.0, s w.1)

-- an append of a faithful forest is not to store a wrong byte
pub not_corrupt : (corrupt : List ℕ) (n : ℕ) (b : Bool) → (IsTrue b → Contains corrupt n) → IsTrue (length corrupt == 0) → IsTrue (not b)
not_corrupt [] n false has none = refl
not_corrupt [] n true has none = absurd (omega (arith, (has refl).1))
not_corrupt (x ∷ xs) n b has none = absurd (omega (arith, eqb-true (length (x ∷ xs)) 0 none))

-- lists that have the same elements are both empty or neither
pub both_empty : (xs ys : List ℕ) → ((n : ℕ) → Contains xs n ↔ Contains ys n) → (length xs == 0) ≡ (length ys == 0)
both_empty [] [] same = refl
both_empty [] (y ∷ ys) same = absurd (omega (arith, ((same y).1 (0, omega arith, refl)).1))
both_empty (x ∷ xs) [] same = absurd (omega (arith, ((same x).0 (0, omega arith, refl)).1))
both_empty (x ∷ xs) (y ∷ ys) same = ne_eqb (length (x ∷ xs)) 0 (λ none. absurd (omega (arith, none))) ∙ sym (ne_eqb (length (y ∷ ys)) 0 (λ none. absurd (omega (arith, none))))

nothing_in : (b : Bool) (name : List ℕ) → option_and_then (λ contents. entry_of contents name) (cond b (Some []) None) ≡ None
nothing_in true name = refl
nothing_in false name = refl

-- what an empty root holds
empty_held : (path : PathValue) → (tree_of fresh_rows).nodes path ≡ empty_tree.nodes path
empty_held [] = refl
empty_held (n ∷ ns) =
    nothing_in (is_eq (path_cmp (take (length ns) (n ∷ ns)) [])) (slice_index_or (n ∷ ns) (length ns) n)
    ∙ sym (ap (λ b. if b then Some (Folder 0) else None) (ne_eqb (length (n ∷ ns)) 0 (λ none. absurd (omega (arith, none)))))

fresh_at : (count k : ℕ) → k < count → slice_get (replicate count fresh_rows) k ≡ Some fresh_rows
fresh_at zero k inside = absurd (omega (arith, inside))
fresh_at (suc count) zero inside = refl
fresh_at (suc count) (suc k) inside = fresh_at count k (omega (arith, inside))

-- each tree of a new forest is empty
pub fresh_tree : (trees : List TreeRows) (count k : ℕ) → trees ≡ replicate count fresh_rows → k < count → option_map_or tree_of (slice_get trees k) no_tree ≡ empty_tree
fresh_tree trees count k is inside =
    ap (λ ts. option_map_or tree_of (slice_get ts k) no_tree) is
    ∙ ap (λ o. option_map_or tree_of o no_tree) (fresh_at count k inside)
    ∙ same_tree (tree_of fresh_rows) empty_tree empty_held (λ key. refl)

-- what an append stores, by whether it is listed
pub stored_is : (Listed : Type 0) (bytes : List ℕ) (old new : Option (List ℕ)) (b : Bool) → (IsTrue b → Listed) → (Listed → IsTrue b)
    → new ≡ option_map (λ stage. stage ++ stored b bytes) old
    → (Listed → new ≡ option_map (λ stage. stage ++ inverted bytes) old) × (¬ Listed → new ≡ option_map (λ stage. stage ++ bytes) old)
stored_is Listed bytes old new true is has same = (λ listed. same, λ none. absurd (none (is refl)))
stored_is Listed bytes old new false is has same = (λ listed. absurd (true≢false (sym (has listed))), λ none. same)

-- whether the path is denied, tested on this list
pub denied_is : (c : ℕ) (path : PathValue) (listed same : List (ℕ × PathValue)) (d : Bool) → d ≡ is_denied listed c path → listed ≡ same → d ≡ is_denied same c path
denied_is c path listed same d is list = is ∙ ap (λ l. is_denied l c path) list

pub on_ok_map : {T E : Type 0} {P Q : Type 0} (r : Result T E) → (P → Q) → OnOk r P → OnOk r Q
on_ok_map (Ok x) f p = f p
on_ok_map (Err e) f p = tt

module _ (trees : List TreeRows) (denied : List (ℕ × PathValue)) (corrupt : List ℕ) (c : ℕ) (t t' : TreeRows) (inside : c < length trees) (at : t ≡ slice_index_or trees c t) where
  abbrev before : Trees
  before = told_by trees denied corrupt

  abbrev after : Trees
  after = told_by (slice_set trees c t') denied corrupt

  pub was : before.tree c ≡ tree_of t
  was = tree_at trees c t inside at

  pub is : after.tree c ≡ tree_of t'
  is = ap (λ o. option_map_or tree_of o no_tree) (slice_get-set_here trees c t' inside)

  other_tree : (k : ℕ) → k ≢ c → after.tree k ≡ before.tree k
  other_tree k ne = ap (λ o. option_map_or tree_of o no_tree) (slice_get-set_other trees c k t' ne)

  same_trees : tree_of t' ≡ tree_of t → (k : ℕ) → after.tree k ≡ before.tree k
  same_trees same k = elim (either_number k c) [
    | inl here ↦ subst (λ j. after.tree j ≡ before.tree j) (sym here) (is ∙ same ∙ sym was)
    | inr ne ↦ other_tree k ne
  ]

  same_forest : tree_of t' ≡ tree_of t → after ≡ before
  same_forest same = λ i. record { tree = λ k. same_trees same k i; denies = is_denied denied; is_faithful = length corrupt == 0 }

  others : (path : Option PathValue) (key : Option ℕ) → KeepsOthers path key (tree_of t) (tree_of t') → ChangesOnly c path key before after
  others path key keeps = record {
    paths = λ k p ne. elim (either_number k c) [
      | inl here ↦ subst (λ j. node_at after j p ≡ node_at before j p) (sym here)
          (ap (λ (tree : Tree). tree.nodes p) is ∙ keeps.paths p (λ same. ne here same) ∙ sym (ap (λ (tree : Tree). tree.nodes p) was))
      | inr differ ↦ ap (λ (tree : Tree). tree.nodes p) (other_tree k differ)
    ];
    stages = λ k s ne. elim (either_number k c) [
      | inl here ↦ subst (λ j. stage_at after j s ≡ stage_at before j s) (sym here)
          (ap (λ (tree : Tree). tree.stages s) is ∙ keeps.stages s (λ same. ne here same) ∙ sym (ap (λ (tree : Tree). tree.stages s) was))
      | inr differ ↦ ap (λ (tree : Tree). tree.stages s) (other_tree k differ)
    ];
    denied = refl;
    faithful = refl;
  }

  abbrev Same : Type 0
  Same = tree_of t' ≡ tree_of t

  pub opened : (key : ℕ) (answer : Result Unit TreeFault) → Opens (tree_of t') key Same answer → KeepsOthers None (Some key) (tree_of t) (tree_of t') → StageOpenAnswer c key answer before after
  opened key answer done keeps = record {
    answers = writes_map _ same_forest (λ d. d) (λ m. m) answer (subst (λ tree. Opens tree key Same answer) (sym is) done);
    others = others None (Some key) keeps;
  }

  -- an append stores these bytes unless it is to store a wrong one
  pub appended : (key : ℕ) (bytes : List ℕ) (stored : Bool) (answer : Result Unit TreeFault) → (IsTrue (length corrupt == 0) → IsTrue stored)
      → Appends (tree_of t) key stored bytes (tree_of t') Same answer → KeepsOthers None (Some key) (tree_of t) (tree_of t') → StageAppendAnswer c key bytes answer before after
  appended key bytes stored answer faithful done keeps = record {
    answers =
        subst (λ tree. Appends tree key before.is_faithful bytes (after.tree c) (after ≡ before) answer) (sym was)
        (subst (λ tree. Appends (tree_of t) key before.is_faithful bytes tree (after ≡ before) answer) (sym is)
        (writes_map _ same_forest (λ (d : IsAppended (tree_of t) key stored bytes (tree_of t')). record { old = d.old; added = d.added; was = d.was; is = d.is; many = d.many; faithful = λ f. d.faithful (faithful f) }) (λ m. m) answer done));
    others = others None (Some key) keeps;
  }

  pub dropped : (key : ℕ) (answer : Result Unit TreeFault) → Drops (tree_of t) key (tree_of t') Same answer → KeepsOthers None (Some key) (tree_of t) (tree_of t') → StageDropAnswer c key answer before after
  dropped key answer done keeps = record {
    answers =
        subst (λ tree. Drops tree key (after.tree c) (after ≡ before) answer) (sym was)
        (subst (λ tree. Drops (tree_of t) key tree (after ≡ before) answer) (sym is) (writes_map _ same_forest (λ d. d) (λ m. m) answer done));
    others = others None (Some key) keeps;
  }

  module _ (path : PathValue) (d : Bool) (answer : Result Unit TreeFault) (is_denied_here : d ≡ before.denies c path) where
    pub placed_in : (key mtime : ℕ) → Places d (tree_of t) key path mtime (tree_of t') Same answer → KeepsOthers (Some path) (Some key) (tree_of t) (tree_of t') → StagePlaceAnswer c key path mtime answer before after
    placed_in key mtime done keeps = record {
      answers =
          subst (λ b. Places b (before.tree c) key path mtime (after.tree c) (after ≡ before) answer) is_denied_here
          (subst (λ tree. Places d tree key path mtime (after.tree c) (after ≡ before) answer) (sym was)
          (subst (λ tree. Places d (tree_of t) key path mtime tree (after ≡ before) answer) (sym is) (writes_map _ same_forest (λ x. x) (λ m. m) answer done)));
      others = others (Some path) (Some key) keeps;
    }

    pub made_in : Makes d (tree_of t) path (tree_of t') Same answer → KeepsOthers (Some path) None (tree_of t) (tree_of t') → MakeDirAnswer c path answer before after
    made_in done keeps = record {
      answers =
          subst (λ b. Makes b (before.tree c) path (after.tree c) (after ≡ before) answer) is_denied_here
          (subst (λ tree. Makes d tree path (after.tree c) (after ≡ before) answer) (sym was)
          (subst (λ tree. Makes d (tree_of t) path tree (after ≡ before) answer) (sym is) (writes_map _ same_forest (λ x. x) (λ m. m) answer done)));
      others = others (Some path) None keeps;
    }

    pub file_removed_in : RemovesFile d (tree_of t) path (tree_of t') Same answer → KeepsOthers (Some path) None (tree_of t) (tree_of t') → RemoveFileAnswer c path answer before after
    file_removed_in done keeps = record {
      answers =
          subst (λ b. RemovesFile b (before.tree c) path (after.tree c) (after ≡ before) answer) is_denied_here
          (subst (λ tree. RemovesFile d tree path (after.tree c) (after ≡ before) answer) (sym was)
          (subst (λ tree. RemovesFile d (tree_of t) path tree (after ≡ before) answer) (sym is) (writes_map _ same_forest (λ x. x) (λ m. m) answer done)));
      others = others (Some path) None keeps;
    }

    pub dir_removed_in : RemovesDir d (tree_of t) path (tree_of t') Same answer → KeepsOthers (Some path) None (tree_of t) (tree_of t') → RemoveDirAnswer c path answer before after
    dir_removed_in done keeps = record {
      answers =
          subst (λ b. RemovesDir b (before.tree c) path (after.tree c) (after ≡ before) answer) is_denied_here
          (subst (λ tree. RemovesDir d tree path (after.tree c) (after ≡ before) answer) (sym was)
          (subst (λ tree. RemovesDir d (tree_of t) path tree (after ≡ before) answer) (sym is) (writes_map _ same_forest (λ x. x) (λ m. m) answer done)));
      others = others (Some path) None keeps;
    }
