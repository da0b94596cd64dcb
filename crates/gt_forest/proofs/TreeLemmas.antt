-- Paths by their folder and name, and the trees that rows hold.
use Rattle.gt_forest.proofs.MapLemmas.{either_path}
use Rattle.gt_forest.specs.Rows.{ChangesFolder, Contents, Folders, IsWhole, KeepsOthers, PutsEntry, SameFolders, contents_of, entry_at, entry_of, held_at}
use Rattle.gt_forest.specs.Tree.{Tree, is_folder, place_of}
use Rattle.gt_forest.specs.declared.node.Node.{Node}
use Rattle.gt_paths.specs.Path.{PathValue, child_path}
use Rattle.std.proofs.Common.{Bool, List, None, Option, Some, [], ap, arith, eqb-true, false, get_or, inl, inr, is_some, length, length-append, ne_eqb, option_and_then, option_map, refl, subst, sym, take, true, ◌++◌, ◌+◌, ◌==◌, ◌∙◌, ◌∷◌, ◌||◌, ◌≡◌, ◌≢◌, ◌⊎◌, ℕ}
use Rattle.std.proofs.Math.Seq.{take-append_seam}
use Rattle.std.specs.Option.{option_map_or}

-- ---- paths

get_or-last : (f : List (List ℕ)) (n d : List ℕ) → get_or (f ++ n ∷ []) (length f) d ≡ n
get_or-last [] n d = refl
get_or-last (m ∷ f) n d = get_or-last f n d

length-last : (f : PathValue) (n : List ℕ) → length (f ++ n ∷ []) ≡ length f + 1
length-last f n = length-append f (n ∷ [])

abbrev pair : PathValue → List ℕ → Option (PathValue × List ℕ)
pair folder name = Some (folder, name)

pub place_of-child : (folder : PathValue) (name : List ℕ) → place_of (child_path folder name) ≡ pair folder name
place_of-child [] name = refl
place_of-child (m ∷ f) name =
    let long : length (f ++ name ∷ []) ≡ length (m ∷ f) = omega (arith, length-last f name) in
    subst (λ k. pair (take k (m ∷ f ++ name ∷ [])) (get_or (m ∷ f ++ name ∷ []) k m) ≡ pair (m ∷ f) name) (sym long)
    (λ i. pair (take-append_seam (m ∷ f) (name ∷ []) i) (get_or-last (m ∷ f) name m i))

-- a path is the root or a name in a folder
pub either_place : (path : PathValue) → (path ≡ []) ⊎ ((folder : PathValue) × (name : List ℕ) × (path ≡ child_path folder name))
either_place [] = inl refl
either_place (m ∷ ms) = elim (either_place ms) [
  | inl none ↦ inr ([], m, ap (λ rest. m ∷ rest) none)
  | inr more ↦ inr (m ∷ more.0, more.1, ap (λ rest. m ∷ rest) more.2)
]

pub child_apart : (folder : PathValue) (name : List ℕ) → folder ≢ child_path folder name
child_apart folder name same = absurd (omega (arith, ap length same, length-last folder name))

-- a name in a folder isn't the root
pub not_root : (path folder : PathValue) (name : List ℕ) (d : Bool) → path ≡ child_path folder name → d ≡ false → d || (length path == 0) ≡ false
not_root path folder name d is none =
    subst (λ b. b || (length path == 0) ≡ false) (sym none) (ne_eqb (length path) 0 (λ zero. absurd (omega (arith, zero, ap length is, length-last folder name))))

-- ---- what is held

module _ (root : Node) where
  pub held-child : (folders : Folders) (folder : PathValue) (name : List ℕ) → held_at root folders (child_path folder name) ≡ entry_at folders folder name
  held-child folders folder name = ap (λ place. option_map_or (λ p. entry_at folders p.0 p.1) place (Some root)) (place_of-child folder name)

  -- two states hold the same at a path, where their folders have the same entries
  held_by_entries : (before after : Folders) → ((folder : PathValue) (name : List ℕ) → entry_at after folder name ≡ entry_at before folder name)
      → (path : PathValue) → held_at root after path ≡ held_at root before path
  held_by_entries before after same path = elim (either_place path) [
    | inl none ↦ subst (λ p. held_at root after p ≡ held_at root before p) (sym none) refl
    | inr place ↦ subst (λ p. held_at root after p ≡ held_at root before p) (sym place.2)
        (held-child after place.0 place.1 ∙ same place.0 place.1 ∙ sym (held-child before place.0 place.1))
  ]

  pub same_held : (before after : Folders) → SameFolders before after → (path : PathValue) → held_at root after path ≡ held_at root before path
  same_held before after same = held_by_entries before after (λ folder name. ap (option_and_then (λ contents. entry_of contents name)) (same folder))

  pub same_whole : (before after : Folders) → SameFolders before after → IsWhole root before → IsWhole root after
  same_whole before after same whole = record {
    root_folder = whole.root_folder;
    folders_held = λ path. ap is_folder (same_held before after same path) ∙ whole.folders_held path ∙ sym (ap is_some (same path));
  }

  -- an entry is put or taken
  module _ (folder : PathValue) (name : List ℕ) (node : Option Node) (before after : Folders) (puts : PutsEntry folder name node before after) where
    pub put_at : held_at root after (child_path folder name) ≡ node
    put_at = held-child after folder name ∙ puts.at

    other_entry : (f : PathValue) (n : List ℕ) → child_path f n ≢ child_path folder name → entry_at after f n ≡ entry_at before f n
    other_entry f n ne = elim (either_path f folder) [
      | inl same ↦ subst (λ g. entry_at after g n ≡ entry_at before g n) (sym same) (puts.names n (λ m. ne (λ i. child_path (same i) (m i))))
      | inr differ ↦ ap (option_and_then (λ contents. entry_of contents n)) (puts.folders f differ)
    ]

    pub put_others : (path : PathValue) → path ≢ child_path folder name → held_at root after path ≡ held_at root before path
    put_others path ne = elim (either_place path) [
      | inl none ↦ subst (λ p. held_at root after p ≡ held_at root before p) (sym none) refl
      | inr place ↦ subst (λ p. held_at root after p ≡ held_at root before p) (sym place.2)
          (held-child after place.0 place.1 ∙ other_entry place.0 place.1 (λ same. ne (place.2 ∙ same)) ∙ sym (held-child before place.0 place.1))
    ]

    -- it is no folder, and none was there
    pub put_whole : is_folder node ≡ false → is_folder (held_at root before (child_path folder name)) ≡ false → IsWhole root before → IsWhole root after
    put_whole file was whole = record {
      root_folder = whole.root_folder;
      folders_held = λ path. elim (either_path path (child_path folder name)) [
        | inl here ↦ subst (λ p. is_folder (held_at root after p) ≡ is_some (contents_of after p)) (sym here)
            (ap is_folder put_at ∙ file ∙ sym was ∙ whole.folders_held (child_path folder name) ∙ sym (puts.there (child_path folder name)))
        | inr ne ↦ ap is_folder (put_others path ne) ∙ whole.folders_held path ∙ sym (puts.there path)
      ];
    }

  -- a folder without entries is made or removed
  module _ (path : PathValue) (contents : Option Contents) (parent : PathValue) (name : List ℕ) (node : Option Node) (before after : Folders)
      (changes : ChangesFolder path contents parent name node before after) (is : path ≡ child_path parent name)
      (was_empty : (n : List ℕ) → entry_at before path n ≡ None) (now_empty : (n : List ℕ) → option_and_then (λ c. entry_of c n) contents ≡ None) where
    mid_entry : (f : PathValue) (n : List ℕ) → entry_at changes.mid f n ≡ entry_at before f n
    mid_entry f n = elim (either_path f path) [
      | inl same ↦ subst (λ g. entry_at changes.mid g n ≡ entry_at before g n) (sym same)
          (ap (option_and_then (λ c. entry_of c n)) changes.first.at ∙ now_empty n ∙ sym (was_empty n))
      | inr differ ↦ ap (option_and_then (λ c. entry_of c n)) (changes.first.folders f differ)
    ]

    pub changed_at : held_at root after path ≡ node
    changed_at = subst (λ p. held_at root after p ≡ node) (sym is) (put_at parent name node changes.mid after changes.second)

    pub changed_others : (p : PathValue) → p ≢ path → held_at root after p ≡ held_at root before p
    changed_others p ne =
        put_others parent name node changes.mid after changes.second p (λ same. ne (same ∙ sym is)) ∙ held_by_entries before changes.mid mid_entry p

    pub changed_whole : is_folder node ≡ is_some contents → IsWhole root before → IsWhole root after
    changed_whole kind whole = record {
      root_folder = whole.root_folder;
      folders_held = λ p. elim (either_path p path) [
        | inl here ↦ subst (λ q. is_folder (held_at root after q) ≡ is_some (contents_of after q)) (sym here)
            (ap is_folder changed_at ∙ kind ∙ sym (ap is_some changes.first.at) ∙ sym (changes.second.there path))
        | inr ne ↦ ap is_folder (changed_others p ne) ∙ whole.folders_held p ∙ sym (ap is_some (changes.first.folders p ne)) ∙ sym (changes.second.there p)
      ];
    }

-- ---- trees

-- trees that hold the same are the same
pub same_tree : (a b : Tree) → ((path : PathValue) → a.nodes path ≡ b.nodes path) → ((key : ℕ) → a.stages key ≡ b.stages key) → a ≡ b
same_tree a b nodes stages = λ i. record { nodes = λ path. nodes path i; stages = λ key. stages key i }

-- all but a path is as it was
pub keeps_path : (path : PathValue) (before after : Tree) → ((p : PathValue) → p ≢ path → after.nodes p ≡ before.nodes p) → ((key : ℕ) → after.stages key ≡ before.stages key)
    → KeepsOthers (Some path) None before after
keeps_path path before after others stages = record {
  paths = λ p ne. others p (λ same. ne (ap Some (sym same)));
  stages = λ key ne. stages key;
}

-- all but a path and a key is as it was
pub keeps_both : (path : PathValue) (key : ℕ) (before after : Tree) → ((p : PathValue) → p ≢ path → after.nodes p ≡ before.nodes p)
    → ((k : ℕ) → k ≢ key → after.stages k ≡ before.stages k) → KeepsOthers (Some path) (Some key) before after
keeps_both path key before after others stages = record {
  paths = λ p ne. others p (λ same. ne (ap Some (sym same)));
  stages = λ k ne. stages k (λ same. ne (ap Some (sym same)));
}

-- nothing is changed at all
pub keeps_all : (path : Option PathValue) (key : Option ℕ) (before after : Tree) → after ≡ before → KeepsOthers path key before after
keeps_all path key before after same = record { paths = λ p ne. ap (λ (t : Tree). t.nodes p) same; stages = λ k ne. ap (λ (t : Tree). t.stages k) same }

-- a folder without entries has none by any name
pub no_entry : (folders : Folders) (path : PathValue) → option_map (λ entries. length entries == 0) (contents_of folders path) ≡ Some true → (name : List ℕ) → entry_at folders path name ≡ None
no_entry folders path is name = no_entry_in (contents_of folders path) is
  where
    nothing : (entries : Contents) → length entries == 0 ≡ true → entry_of entries name ≡ None
    nothing [] is = refl
    nothing (e ∷ es) is = absurd (omega (arith, eqb-true (length (e ∷ es)) 0 is))

    no_entry_in : (o : Option Contents) → option_map (λ entries. length entries == 0) o ≡ Some true → option_and_then (λ c. entry_of c name) o ≡ None
    no_entry_in None is = refl
    no_entry_in (Some entries) is = nothing entries (ap (λ (o : Option Bool). option_map_or (λ b. b) o false) is)
