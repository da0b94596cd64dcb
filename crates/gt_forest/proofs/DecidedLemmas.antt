-- A call on trees that are alike has one answer, and leaves trees that are alike.
use Rattle.gt_forest.proofs.KeepLemmas.{some_same}
use Rattle.gt_forest.proofs.MapLemmas.{either_number, either_path, name_cmp, same_name_from}
use Rattle.gt_forest.proofs.TreeLemmas.{same_tree}
use Rattle.gt_forest.specs.Answers.{ChangesOnly, Grounds, IsAllowed, Reads, Refuses, Stays, Writes}
use Rattle.gt_forest.specs.Calls.{Appends, AreAlike, Call, Given, Gives, IsAnswered, IsAppended, IsPlaced, ListAnswer, ListCall, Lists, MakeDirAnswer, MakeDirCall, Makes, Places, ReadAnswer, ReadCall, RemoveDirAnswer, RemoveDirCall, RemoveFileAnswer, RemoveFileCall, RemovesDir, RemovesFile, Drops, StageAppendAnswer, StageAppendCall, StageDropAnswer, StageDropCall, StageOpenAnswer, StageOpenCall, StagePlaceAnswer, StagePlaceCall, StatAnswer, StatCall, Stats, collection_of, is_decided, is_refusal}
use Rattle.gt_forest.specs.Listing.{IsAfter, IsBefore, IsListing, kind_of, names_of}
use Rattle.gt_forest.specs.Tree.{Tree, Trees, node_at, stage_at}
use Rattle.gt_forest.specs.declared.fault.TreeFault.{TreeFault}
use Rattle.gt_forest.specs.declared.fault.TreeFault.TheVariants.{Denied, Fault, NotEmpty, NotFound, OutOfMemory, WrongKind}
use Rattle.gt_forest.specs.declared.node.Node.{Node}
use Rattle.gt_forest.specs.declared.node.Node.TheVariants.{File}
use Rattle.gt_paths.specs.Path.{PathValue, child_path}
use Rattle.gt_types.specs.declared.listing.Entry.{Entry}
use Rattle.gt_types.specs.declared.listing.Stat.{Stat}
use Rattle.std.proofs.Common.{Bool, Contains, Equal, Err, Greater, IsSome, IsTrue, Less, List, None, Ok, Option, Result, Some, [], ap, arith, false, inl, inr, is_lt, is_some, option_map, refl, subst, suc, sym, true, true≢false, zero, ◌++◌, ◌-◌, ◌<◌, ◌∙◌, ◌∷◌, ◌≡◌, ◌⊎◌, ℕ}
use Rattle.std.proofs.lemmas.List.Elements.{All-contains, All-from_recursion, All-tail, Contains-append_cases}
use Rattle.std.specs.Cmp.Lexicographic.{nat_list_cmp_total}
use Rattle.std.specs.List.{AllByRecursion}
use Rattle.std.specs.List.Sorted.{IsStrictlySortedBy}
use Rattle.std.specs.Ordering.{ordering_reverse}

-- ---- grounds give one answer

-- the refusal that the grounds give
abbrev refusal : Bool → Bool → Bool → TreeFault
refusal true absent wrong = Denied
refusal false true wrong = NotFound
refusal false false true = WrongKind
refusal false false false = NotEmpty

refused : (g : Grounds) (f : TreeFault) → IsTrue (is_refusal f) → Refuses g f → f ≡ refusal g.denied g.absent g.wrong
refused g Denied is r = λ i. refusal (sym r i) g.absent g.wrong
refused g NotFound is r = λ i. refusal (sym r.0 i) (sym r.1 i) g.wrong
refused g WrongKind is r = λ i. refusal (sym r.0 i) (sym r.1 i) (sym r.2 i)
refused g NotEmpty is r = λ i. refusal (sym r.0 i) (sym r.1 i) (sym r.2 i)
refused g Fault is r = absurd (true≢false (sym is))
refused g OutOfMemory is r = absurd (true≢false (sym is))

allowed_not : (g : Grounds) (f : TreeFault) → IsTrue (is_refusal f) → IsAllowed g → Refuses g f → ⊥
allowed_not g Denied is a r = true≢false (sym r ∙ a.denied)
allowed_not g NotFound is a r = true≢false (sym r.1 ∙ a.absent)
allowed_not g WrongKind is a r = true≢false (sym r.2 ∙ a.kind)
allowed_not g NotEmpty is a r = a.empty r.3
allowed_not g Fault is a r = true≢false (sym is)
allowed_not g OutOfMemory is a r = true≢false (sym is)

reads_one : {T : Type 0} (g : Grounds) (IsRight : T → Type 0) → ((v w : T) → IsRight v → IsRight w → w ≡ v) → (a b : Result T TreeFault) → IsTrue (is_decided a) → IsTrue (is_decided b)
    → Reads g IsRight a → Reads g IsRight b → b ≡ a
reads_one g IsRight one (Ok v) (Ok w) da db ra rb = ap (λ x. Ok x) (one v w ra.1 rb.1)
reads_one g IsRight one (Ok v) (Err f) da db ra rb = absurd (allowed_not g f db ra.0 rb)
reads_one g IsRight one (Err f) (Ok w) da db ra rb = absurd (allowed_not g f da rb.0 ra)
reads_one g IsRight one (Err f) (Err h) da db ra rb = ap (λ x. Err x) (refused g h db rb ∙ sym (refused g f da ra))

stayed : (g : Grounds) {Same : Type 0} (MayBe : Type 0) (f : TreeFault) → IsTrue (is_refusal f) → Stays g Same MayBe f → Same
stayed g MayBe Denied is s = s
stayed g MayBe NotFound is s = s
stayed g MayBe WrongKind is s = s
stayed g MayBe NotEmpty is s = s
stayed g MayBe Fault is s = absurd (true≢false (sym is))
stayed g MayBe OutOfMemory is s = absurd (true≢false (sym is))

writes_one : (g : Grounds) {S D S' D' : Type 0} (M M' : Type 0) (a b : Result Unit TreeFault) → IsTrue (is_decided a) → IsTrue (is_decided b) → Writes g S D M a → Writes g S' D' M' b
    → (b ≡ a) × ((S × S') ⊎ (D × D'))
writes_one g M M' (Ok u) (Ok v) da db wa wb = (refl, inr (wa.1, wb.1))
writes_one g M M' (Ok u) (Err f) da db wa wb = absurd (allowed_not g f db wa.0 wb.0)
writes_one g M M' (Err f) (Ok v) da db wa wb = absurd (allowed_not g f da wb.0 wa.0)
writes_one g M M' (Err f) (Err h) da db wa wb = (ap (λ x. Err x) (refused g h db wb.0 ∙ sym (refused g f da wa.0)), inl (stayed g M f da wa.1, stayed g M' h db wb.1))

-- ---- a folder has one listing

-- before itself no name comes, and of two names one at most comes before the other
not_both : (a b : List ℕ) → IsBefore a b → IsBefore b a → ⊥
not_both a b ab ba = true≢false (ap is_lt (sym ba ∙ nat_list_cmp_total.antisymm b a ∙ ap ordering_reverse ab))

not_itself : (a b : List ℕ) → a ≡ b → IsBefore a b → ⊥
not_itself a b same ab = not_both a b ab (subst (λ x. IsBefore x a) same (subst (λ x. IsBefore a x) (sym same) ab))

after_more : (after : Option (List ℕ)) (a b : List ℕ) → IsAfter after a → IsBefore a b → IsAfter after b
after_more None a b is ab = tt
after_more (Some first) a b is ab = nat_list_cmp_total.trans first a b is ab

here : {X : Type 0} (x : X) (xs : List X) → Contains (x ∷ xs) x
here x xs = (0, omega arith, refl)

single : (n name : List ℕ) → Contains (n ∷ []) name → n ≡ name
single n name (zero, inside, is) = is
single n name (suc k, inside, is) = absurd (omega (arith, inside))

-- in names that rise, one that is there is the first or comes after it
first_or_later : (n : List ℕ) (ns : List (List ℕ)) (name : List ℕ) → AllByRecursion (λ y. name_cmp n y ≡ Less) ns → Contains (n ∷ ns) name → (n ≡ name) ⊎ IsBefore n name
first_or_later n ns name rises there = elim (Contains-append_cases (n ∷ []) ns name there) [
  | inl first ↦ inl (single n name first)
  | inr more ↦ inr (All-contains (λ y. name_cmp n y ≡ Less) ns name (All-from_recursion (λ y. name_cmp n y ≡ Less) ns rises) more)
]

rises_first : (n : List ℕ) (ns : List (List ℕ)) → IsStrictlySortedBy name_cmp (n ∷ ns) → AllByRecursion (λ y. name_cmp n y ≡ Less) ns
unfolding IsStrictlySortedBy
rises_first n ns is = is.0

rises_rest : (n : List ℕ) (ns : List (List ℕ)) → IsStrictlySortedBy name_cmp (n ∷ ns) → IsStrictlySortedBy name_cmp ns
unfolding IsStrictlySortedBy
rises_rest n ns is = is.1

found_by : (o : Option Node) → IsSome (option_map kind_of o) → IsSome o
found_by None there = there
found_by (Some node) there = refl

module _ (nodes : PathValue → Option Node) (folder : PathValue) where
  abbrev IsThere : Entry → Type 0
  IsThere entry = option_map kind_of (nodes (child_path folder entry.name)) ≡ Some entry.kind

  module _ (after : Option (List ℕ)) (limit : ℕ) (e : Entry) (es : List Entry) (l : IsListing nodes folder after limit (e ∷ es)) where
    first_there : IsThere e
    first_there = All-contains IsThere (e ∷ es) e l.there (here e es)

    first_found : IsSome (nodes (child_path folder e.name))
    first_found = found_by (nodes (child_path folder e.name)) (subst IsSome (sym first_there) refl)

    first_after : IsAfter after e.name
    first_after = All-contains (IsAfter after) (e.name ∷ names_of es) e.name l.order.later (here e.name (names_of es))

    first_rises : AllByRecursion (λ y. name_cmp e.name y ≡ Less) (names_of es)
    first_rises = rises_first e.name (names_of es) l.order.rises

    -- the rest is a listing behind the first name
    rest_listing : IsListing nodes folder (Some e.name) (limit - 1) es
    rest_listing = record {
      order = record {
        rises = rises_rest e.name (names_of es) l.order.rises;
        later = All-from_recursion (λ y. name_cmp e.name y ≡ Less) (names_of es) first_rises;
        few = omega (arith, l.order.few);
      };
      there = All-tail IsThere e es l.there;
      whole = λ name found comes. elim (l.whole name found (after_more after e.name name first_after comes)) [
        | inl among ↦ elim (Contains-append_cases (e.name ∷ []) (names_of es) name among) [
          | inl first ↦ absurd (not_itself e.name name (single e.name name first) comes)
          | inr more ↦ inl more
        ]
        | inr full ↦ inr (omega (arith, full.0), All-tail (λ listed. IsBefore listed name) e.name (names_of es) full.1)
      ];
    }

    -- no name of the folder comes before the first
    none_before : (name : List ℕ) → IsSome (nodes (child_path folder name)) → IsAfter after name → IsBefore name e.name → ⊥
    none_before name found comes before = elim (l.whole name found comes) [
      | inl among ↦ elim (first_or_later e.name (names_of es) name first_rises among) [
        | inl same ↦ not_itself name e.name (sym same) before
        | inr later ↦ not_both name e.name before later
      ]
      | inr full ↦ not_both name e.name before (All-contains (λ listed. IsBefore listed name) (e.name ∷ names_of es) e.name full.1 (here e.name (names_of es)))
    ]

  -- a listing that has none leaves none out
  none_more : (after : Option (List ℕ)) (limit : ℕ) (e : Entry) (es : List Entry) → IsListing nodes folder after limit [] → IsListing nodes folder after limit (e ∷ es) → ⊥
  none_more after limit e es none l = elim (none.whole e.name (first_found after limit e es l) (first_after after limit e es l)) [
    | inl among ↦ omega (arith, among.1)
    | inr full ↦ omega (arith, full.0, l.order.few)
  ]

  pub listing_one : (after : Option (List ℕ)) (limit : ℕ) (es fs : List Entry) → IsListing nodes folder after limit es → IsListing nodes folder after limit fs → fs ≡ es
  listing_one after limit [] [] l m = refl
  listing_one after limit [] (f ∷ fs) l m = absurd (none_more after limit f fs l m)
  listing_one after limit (e ∷ es) [] l m = absurd (none_more after limit e es m l)
  listing_one after limit (e ∷ es) (f ∷ fs) l m = elim (name_cmp e.name f.name) as (λ r. name_cmp e.name f.name ≡ r → f ∷ fs ≡ e ∷ es) [
    | Less ↦ λ is. absurd (none_before after limit f fs m e.name (first_found after limit e es l) (first_after after limit e es l) is)
    | Equal ↦ λ is.
        let same : e.name ≡ f.name = same_name_from e.name f.name is in
        let kinds : e.kind ≡ f.kind = some_same e.kind f.kind (sym (first_there after limit e es l) ∙ ap (λ n. option_map kind_of (nodes (child_path folder n))) same ∙ first_there after limit f fs m) in
        let first : f ≡ e = λ i. record { name = sym same i; kind = sym kinds i } in
        let rest = listing_one (Some e.name) (limit - 1) es fs (rest_listing after limit e es l) (subst (λ n. IsListing nodes folder (Some n) (limit - 1) fs) (sym same) (rest_listing after limit f fs m)) in
        λ i. first i ∷ rest i
    | Greater ↦ λ is. absurd (none_before after limit e es l f.name (first_found after limit f fs m) (first_after after limit f fs m) (nat_list_cmp_total.antisymm f.name e.name ∙ ap ordering_reverse is))
  ] refl

-- ---- what is left

module _ (count collection : ℕ) (before after other later : Trees) (small : collection < count) (alike : AreAlike count before other) where
  module _ (path : Option PathValue) (key : Option ℕ) (only : ChangesOnly collection path key before after) (then : ChangesOnly collection path key other later) where
    same_node : (named : Option PathValue) (p : PathValue) → path ≡ named → (named ≡ Some p → node_at later collection p ≡ node_at after collection p) → ((named ≡ Some p → ⊥) → node_at later collection p ≡ node_at after collection p)
        → node_at later collection p ≡ node_at after collection p
    same_node None p is at off = off (λ none. true≢false (sym (ap is_some none)))
    same_node (Some q) p is at off = elim (either_path q p) [
      | inl same ↦ at (ap Some same)
      | inr apart ↦ off (λ on. apart (some_same q p on))
    ]

    same_stage : (named : Option ℕ) (k : ℕ) → key ≡ named → (named ≡ Some k → stage_at later collection k ≡ stage_at after collection k) → ((named ≡ Some k → ⊥) → stage_at later collection k ≡ stage_at after collection k)
        → stage_at later collection k ≡ stage_at after collection k
    same_stage None k is at off = off (λ none. true≢false (sym (ap is_some none)))
    same_stage (Some j) k is at off = elim (either_number j k) [
      | inl same ↦ at (ap Some same)
      | inr apart ↦ off (λ on. apart (some_same j k on))
    ]

    -- the named path and key hold the same, so all does
    pub alike_after : ((p : PathValue) → path ≡ Some p → node_at later collection p ≡ node_at after collection p) → ((k : ℕ) → key ≡ Some k → stage_at later collection k ≡ stage_at after collection k) → AreAlike count after later
    alike_after nodes stages = record {
      tree = λ c inside. elim (either_number c collection) [
        | inl on ↦ subst (λ j. later.tree j ≡ after.tree j) (sym on)
            (same_tree (later.tree collection) (after.tree collection)
            (λ p. same_node path p refl (nodes p) (λ off. then.paths collection p (λ _ named. off named) ∙ ap (λ (t : Tree). t.nodes p) (alike.tree collection small) ∙ sym (only.paths collection p (λ _ named. off named))))
            (λ k. same_stage key k refl (stages k) (λ off. then.stages collection k (λ _ named. off named) ∙ ap (λ (t : Tree). t.stages k) (alike.tree collection small) ∙ sym (only.stages collection k (λ _ named. off named)))))
        | inr apart ↦
            same_tree (later.tree c) (other.tree c) (λ p. then.paths c p (λ on _. apart on)) (λ k. then.stages c k (λ on _. apart on))
            ∙ alike.tree c inside
            ∙ sym (same_tree (after.tree c) (before.tree c) (λ p. only.paths c p (λ on _. apart on)) (λ k. only.stages c k (λ on _. apart on)))
      ];
      denies = λ c p inside. ap (λ (d : ℕ → PathValue → Bool). d c p) then.denied ∙ alike.denies c p inside ∙ sym (ap (λ (d : ℕ → PathValue → Bool). d c p) only.denied);
      first = subst IsTrue (sym only.faithful) alike.first;
      second = subst IsTrue (sym then.faithful) alike.second;
    }

    -- nothing was done on either side, or the same on both
    pub both_after : {D D' : Type 0} → ((after ≡ before) × (later ≡ other)) ⊎ (D × D')
        → (D → D' → (p : PathValue) → path ≡ Some p → node_at later collection p ≡ node_at after collection p) → (D → D' → (k : ℕ) → key ≡ Some k → stage_at later collection k ≡ stage_at after collection k) → AreAlike count after later
    both_after did nodes stages = elim did [
      | inl none ↦ subst (λ t. AreAlike count t later) (sym none.0) (subst (λ t. AreAlike count before t) (sym none.1) alike)
      | inr done ↦ alike_after (nodes done.0 done.1) (stages done.0 done.1)
    ]

  read_after : after ≡ before → later ≡ other → AreAlike count after later
  read_after same same' = subst (λ t. AreAlike count t later) (sym same) (subst (λ t. AreAlike count before t) (sym same') alike)

  tree_is : other.tree collection ≡ before.tree collection
  tree_is = alike.tree collection small

  denies_is : (path : PathValue) → other.denies collection path ≡ before.denies collection path
  denies_is path = alike.denies collection path small

  -- what is named is the key
  at_key : (key : ℕ) (one two : Option (List ℕ)) → stage_at after collection key ≡ one → stage_at later collection key ≡ two → two ≡ one → (k : ℕ) → Some key ≡ Some k → stage_at later collection k ≡ stage_at after collection k
  at_key key one two is then same k named = subst (λ j. stage_at later collection j ≡ stage_at after collection j) (some_same key k named) (then ∙ same ∙ sym is)

  at_path : (path : PathValue) (one two : Option Node) → node_at after collection path ≡ one → node_at later collection path ≡ two → two ≡ one → (p : PathValue) → Some path ≡ Some p → node_at later collection p ≡ node_at after collection p
  at_path path one two is then same p named = subst (λ q. node_at later collection q ≡ node_at after collection q) (some_same path p named) (then ∙ same ∙ sym is)

  no_key : (P : ℕ → Type 0) (k : ℕ) → None ≡ Some k → P k
  no_key P k none = absurd (true≢false (sym (ap is_some none)))

  no_path : (P : PathValue → Type 0) (p : PathValue) → None ≡ Some p → P p
  no_path P p none = absurd (true≢false (sym (ap is_some none)))

  pub stat_one : (path : PathValue) (a b : Result Stat TreeFault) → IsTrue (is_decided a) → IsTrue (is_decided b) → StatAnswer collection path a before after → StatAnswer collection path b other later → (b ≡ a) × AreAlike count after later
  stat_one path a b da db x y = (
    reads_one _ _ (λ v w is then. some_same w v (sym then ∙ is)) a b da db x.answers
        (subst (λ d. Stats d (before.tree collection) path b) (denies_is path) (subst (λ t. Stats (other.denies collection path) t path b) tree_is y.answers)),
    read_after x.same y.same,
  )

  pub list_one : (path : PathValue) (from : Option (List ℕ)) (limit : ℕ) (a b : Result (List Entry) TreeFault) → IsTrue (is_decided a) → IsTrue (is_decided b) → ListAnswer collection path from limit a before after → ListAnswer collection path from limit b other later → (b ≡ a) × AreAlike count after later
  list_one path from limit a b da db x y = (
    reads_one _ _ (listing_one (before.tree collection).nodes path from limit) a b da db x.answers
        (subst (λ d. Lists d (before.tree collection) path from limit b) (denies_is path) (subst (λ t. Lists (other.denies collection path) t path from limit b) tree_is y.answers)),
    read_after x.same y.same,
  )

  pub read_one : (path : PathValue) (at room : ℕ) (a b : Result (List ℕ) TreeFault) → IsTrue (is_decided a) → IsTrue (is_decided b) → ReadAnswer collection path at room a before after → ReadAnswer collection path at room b other later → (b ≡ a) × AreAlike count after later
  read_one path at room a b da db x y = (
    reads_one _ _ (λ v w is then. some_same w v (sym then ∙ is)) a b da db x.answers
        (subst (λ d. Gives d (before.tree collection) path at room b) (denies_is path) (subst (λ t. Gives (other.denies collection path) t path at room b) tree_is y.answers)),
    read_after x.same y.same,
  )

  pub open_one : (key : ℕ) (a b : Result Unit TreeFault) → IsTrue (is_decided a) → IsTrue (is_decided b) → StageOpenAnswer collection key a before after → StageOpenAnswer collection key b other later → (b ≡ a) × AreAlike count after later
  open_one key a b da db x y =
      let one = writes_one _ _ _ a b da db x.answers y.answers in
      (one.0, both_after None (Some key) x.others y.others one.1 (λ d e. no_path _) (λ d e. at_key key _ _ d e refl))

  pub append_one : (key : ℕ) (bytes : List ℕ) (a b : Result Unit TreeFault) → IsTrue (is_decided a) → IsTrue (is_decided b) → StageAppendAnswer collection key bytes a before after → StageAppendAnswer collection key bytes b other later → (b ≡ a) × AreAlike count after later
  append_one key bytes a b da db x y =
      let one = writes_one _ _ _ a b da db x.answers (subst (λ t. Appends t key other.is_faithful bytes (later.tree collection) (later ≡ other) b) tree_is y.answers) in
      (one.0, both_after None (Some key) x.others y.others one.1 (λ d e. no_path _) stored)
    where
      stored : IsAppended (before.tree collection) key before.is_faithful bytes (after.tree collection) → IsAppended (before.tree collection) key other.is_faithful bytes (later.tree collection)
          → (k : ℕ) → Some key ≡ Some k → stage_at later collection k ≡ stage_at after collection k
      stored d e = at_key key _ _ d.is e.is
          (λ i. Some (some_same e.old d.old (sym e.was ∙ d.was) i ++ (e.faithful alike.second ∙ sym (d.faithful alike.first)) i))

  pub drop_one : (key : ℕ) (a b : Result Unit TreeFault) → IsTrue (is_decided a) → IsTrue (is_decided b) → StageDropAnswer collection key a before after → StageDropAnswer collection key b other later → (b ≡ a) × AreAlike count after later
  drop_one key a b da db x y =
      let one = writes_one _ _ _ a b da db x.answers (subst (λ t. Drops t key (later.tree collection) (later ≡ other) b) tree_is y.answers) in
      (one.0, both_after None (Some key) x.others y.others one.1 (λ d e. no_path _) (λ d e. at_key key _ _ d e refl))

  pub place_one : (key : ℕ) (path : PathValue) (mtime : ℕ) (a b : Result Unit TreeFault) → IsTrue (is_decided a) → IsTrue (is_decided b) → StagePlaceAnswer collection key path mtime a before after → StagePlaceAnswer collection key path mtime b other later
      → (b ≡ a) × AreAlike count after later
  place_one key path mtime a b da db x y =
      let one = writes_one _ _ _ a b da db x.answers
      (subst (λ d. Places d (before.tree collection) key path mtime (later.tree collection) (later ≡ other) b) (denies_is path)
      (subst (λ t. Places (other.denies collection path) t key path mtime (later.tree collection) (later ≡ other) b) tree_is y.answers)) in
      (one.0, both_after (Some path) (Some key) x.others y.others one.1 placed (λ d e. at_key key _ _ d.gone e.gone refl))
    where
      placed : IsPlaced (before.tree collection) key path mtime (after.tree collection) → IsPlaced (before.tree collection) key path mtime (later.tree collection)
          → (p : PathValue) → Some path ≡ Some p → node_at later collection p ≡ node_at after collection p
      placed d e = at_path path _ _ d.is e.is (ap (λ bytes. Some (File bytes mtime)) (some_same e.bytes d.bytes (sym e.was ∙ d.was)))

  pub make_one : (path : PathValue) (a b : Result Unit TreeFault) → IsTrue (is_decided a) → IsTrue (is_decided b) → MakeDirAnswer collection path a before after → MakeDirAnswer collection path b other later → (b ≡ a) × AreAlike count after later
  make_one path a b da db x y =
      let one = writes_one _ _ _ a b da db x.answers
      (subst (λ d. Makes d (before.tree collection) path (later.tree collection) (later ≡ other) b) (denies_is path)
      (subst (λ t. Makes (other.denies collection path) t path (later.tree collection) (later ≡ other) b) tree_is y.answers)) in
      (one.0, both_after (Some path) None x.others y.others one.1 (λ d e. at_path path _ _ d e refl) (λ d e. no_key _))

  pub remove_file_one : (path : PathValue) (a b : Result Unit TreeFault) → IsTrue (is_decided a) → IsTrue (is_decided b) → RemoveFileAnswer collection path a before after → RemoveFileAnswer collection path b other later
      → (b ≡ a) × AreAlike count after later
  remove_file_one path a b da db x y =
      let one = writes_one _ _ _ a b da db x.answers
      (subst (λ d. RemovesFile d (before.tree collection) path (later.tree collection) (later ≡ other) b) (denies_is path)
      (subst (λ t. RemovesFile (other.denies collection path) t path (later.tree collection) (later ≡ other) b) tree_is y.answers)) in
      (one.0, both_after (Some path) None x.others y.others one.1 (λ d e. at_path path _ _ d e refl) (λ d e. no_key _))

  pub remove_dir_one : (path : PathValue) (a b : Result Unit TreeFault) → IsTrue (is_decided a) → IsTrue (is_decided b) → RemoveDirAnswer collection path a before after → RemoveDirAnswer collection path b other later
      → (b ≡ a) × AreAlike count after later
  remove_dir_one path a b da db x y =
      let one = writes_one _ _ _ a b da db x.answers
      (subst (λ d. RemovesDir d (before.tree collection) path (later.tree collection) (later ≡ other) b) (denies_is path)
      (subst (λ t. RemovesDir (other.denies collection path) t path (later.tree collection) (later ≡ other) b) tree_is y.answers)) in
      (one.0, both_after (Some path) None x.others y.others one.1 (λ d e. at_path path _ _ d e refl) (λ d e. no_key _))

pub calls_one : (count : ℕ) (call : Call) (a b : Result (Given call) TreeFault) (before after other later : Trees) → collection_of call < count → AreAlike count before other
    → IsTrue (is_decided a) → IsTrue (is_decided b) → IsAnswered call a before after → IsAnswered call b other later → (b ≡ a) × AreAlike count after later
calls_one count (StatCall c path) a b before after other later small alike = stat_one count c before after other later small alike path a b
calls_one count (ListCall c path from limit) a b before after other later small alike = list_one count c before after other later small alike path from limit a b
calls_one count (ReadCall c path at room) a b before after other later small alike = read_one count c before after other later small alike path at room a b
calls_one count (StageOpenCall c key) a b before after other later small alike = open_one count c before after other later small alike key a b
calls_one count (StageAppendCall c key bytes) a b before after other later small alike = append_one count c before after other later small alike key bytes a b
calls_one count (StagePlaceCall c key path mtime) a b before after other later small alike = place_one count c before after other later small alike key path mtime a b
calls_one count (StageDropCall c key) a b before after other later small alike = drop_one count c before after other later small alike key a b
calls_one count (MakeDirCall c path) a b before after other later small alike = make_one count c before after other later small alike path a b
calls_one count (RemoveFileCall c path) a b before after other later small alike = remove_file_one count c before after other later small alike path a b
calls_one count (RemoveDirCall c path) a b before after other later small alike = remove_dir_one count c before after other later small alike path a b
