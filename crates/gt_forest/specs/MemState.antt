-- A forest in memory as its callers see it, and when its calls fail.
use Rattle.std.specs.Option.{option_map, option_map_or}
use Rattle.std.specs.List.{list_any}
use Rattle.std.specs.Prelude.{Bool, Contains, IsTrue, List, Option, Result, if◌then◌else◌, length, replicate, slice_get, ℕ, ◌&&◌, ◌++◌, ◌==◌, ◌↔◌, ◌≡◌, ◌≤◌}
use Rattle.gt_causes.specs.Counts.{Counts, after_answer, after_fault, counted}
use Rattle.gt_paths.specs.Path.{PathValue, is_under}
use Rattle.gt_forest.specs.Answers.{has_failed}
use Rattle.gt_forest.specs.Rows.{TreeRows, fresh_rows, inverted, tree_of}
use Rattle.gt_forest.specs.Tree.{Trees, no_tree, node_at}
use Rattle.gt_forest.specs.declared.fault.TreeFault.{TreeFault}

-- The trees of the collections, the folders below which all is denied, the appends that are to store a wrong byte, the
-- calls that are to fail with what was counted, and how many calls were appends.
pub record MemState : Type 0 where
  pub trees : List TreeRows
  pub denied : List (ℕ × PathValue)
  pub corrupt : List ℕ
  pub counts : Counts
  pub appends : ℕ

-- whether the path is under one of these
abbrev pub is_denied : List (ℕ × PathValue) → ℕ → PathValue → Bool
is_denied denied collection path = list_any (λ d. (d.0 == collection) && is_under path d.1) denied

-- what it tells: it is faithful where no append is to store a wrong byte
abbrev pub forest_trees : MemState → Trees
forest_trees forest = record {
  tree = λ collection. option_map_or tree_of (slice_get forest.trees collection) no_tree;
  denies = is_denied forest.denied;
  is_faithful = length forest.corrupt == 0;
}

-- at each path the same stands
abbrev pub SameNodes : Trees → Trees → Type 0
SameNodes trees c = (collection : ℕ) (path : PathValue) → node_at c collection path ≡ node_at trees collection path

-- A call fails exactly where its number is listed, and then it changes the counts alone. `appends` is their number now.
pub record IsCall {T : Type 0} (old new : MemState) (appends : ℕ) (answer : Result T TreeFault) : Type 0 where
  pub counts : new ≡ record old {
    trees = new.trees;
    counts = if has_failed answer then after_fault old.counts else after_answer old.counts;
    appends = appends;
  }
  pub later : old.counts.faults ≤ new.counts.faults
  pub calls : old.counts.calls ≤ new.counts.calls
  pub many : length new.trees ≡ length old.trees
  pub listed : IsTrue (has_failed answer) ↔ Contains old.counts.fails (counted old.counts.calls)
  pub idle : IsTrue (has_failed answer) → new.trees ≡ old.trees

-- what an append makes of a staging file: these bytes are added, of an append that is listed with the first one inverted
pub record IsStored (forest : MemState) (bytes : List ℕ) (old new : Option (List ℕ)) : Type 0 where
  pub listed : Contains forest.corrupt (counted forest.appends) → new ≡ option_map (λ stage. stage ++ inverted bytes) old
  pub others : ¬ Contains forest.corrupt (counted forest.appends) → new ≡ option_map (λ stage. stage ++ bytes) old

-- So many collections with an empty root of the time 0, where nothing was counted. Lists are kept in another order.
pub record IsMade (count : ℕ) (no_access : List (ℕ × PathValue)) (failing wrong : List ℕ) (forest : MemState) : Type 0 where
  pub trees : forest.trees ≡ replicate count fresh_rows
  pub denied : forest.denied ≡ no_access
  pub appends : forest.appends ≡ 0
  pub counts : forest.counts ≡ record { fails = forest.counts.fails; calls = 0; faults = 0; starved = 0 }
  pub fails : (n : ℕ) → Contains forest.counts.fails n ↔ Contains failing n
  pub corrupt : (n : ℕ) → Contains forest.corrupt n ↔ Contains wrong n
