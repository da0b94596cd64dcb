-- The pieces of a text, and what is read of them.
use Rattle.std.proofs.Common.{◌≡◌, ◌≢◌, ℕ, ◌<◌, ◌+◌, List, [], ◌∷◌, ◌++◌, length, get_or, drop, inl, inr, cond, suc, Bool, true, false, refl, sym, ◌∙◌, ap, arith, Option, Some, None, option_map, Result, Ok, Err, All, IfOk, IsTrue}
use Rattle.std.specs.Prelude.{◌==◌, nat_le}
use Rattle.std.specs.List.{list_all, slice_split}
use Rattle.std.specs.Option.{option_map_or}
use Rattle.std.specs.Str.{bytes_eq}
use Rattle.std.specs.Cmp.Lexicographic.{bytes_decides}
use Rattle.std.proofs.lemmas.Bool.{and_parts, ne_eqb, eqb-true, le-ltb, leb-true, cases_Bool}
use Rattle.std.proofs.lemmas.List.{append-nil, get_or_default}
use Rattle.std.proofs.lemmas.List.Elements.{All-from_get_or}
use Rattle.std.proofs.lemmas.List.Splits.{slice_split_none, slice_split_at, length-slice_split}
use Rattle.gt_paths.proofs.NameLemmas.{IsName-from_test}
use Rattle.gt_paths.specs.Name.{is_name}
use Rattle.gt_paths.specs.Path.{PathValue, slashed, printed_path, printed_len, is_path, is_short_path}
use Rattle.gt_paths.specs.PathText.{without_empty_end, pieces_of, begins_at_home, names_of, first_bad, bad_place, bad_name, limited, path_of_pieces, read_path, IsBadPiece}
use Rattle.gt_paths.specs.declared.fault.PathFault.{PathFault}
use Rattle.gt_paths.specs.declared.fault.PathFault.TheVariants.{NotAbsolute}

abbrev is_slash : ℕ → Bool
is_slash byte = byte == 47

pub pieces_of-nil : pieces_of [] ≡ []
unfolding pieces_of
pieces_of-nil = refl

-- a piece before others is kept, also an empty one
kept : (piece : List ℕ) (parts : List (List ℕ)) → 0 < length parts → without_empty_end (piece ∷ parts) ≡ piece ∷ without_empty_end parts
kept piece [] h = absurd (omega arith)
kept piece (q ∷ qs) h = refl

kept_split : (piece rest : List ℕ) → without_empty_end (piece ∷ slice_split is_slash rest) ≡ piece ∷ without_empty_end (slice_split is_slash rest)
kept_split piece rest =
    let e = length-slice_split is_slash rest in
    kept piece (slice_split is_slash rest) (omega (arith, e))

-- no byte of the piece is a slash
abbrev pub HasNoSlash : List ℕ → Type 0
HasNoSlash piece = All (λ byte. (byte == 47) ≡ false) piece

pub no_slash-from_reads : (piece : List ℕ) → ((i : ℕ) → i < length piece → get_or piece i 0 ≢ 47) → HasNoSlash piece
no_slash-from_reads piece h = All-from_get_or (λ byte. (byte == 47) ≡ false) piece 0 (λ i l. ne_eqb (get_or piece i 0) 47 (h i l))

no_slash-name : (name : List ℕ) → is_name name ≡ true → HasNoSlash name
no_slash-name name h =
    let is = IsName-from_test name h in
    no_slash-from_reads name (λ i l e. is.no_slash (i, l, get_or_default name i 47 0 l ∙ e))

-- the first piece ends at the first slash
pub pieces_of-first : (piece rest : List ℕ) → HasNoSlash piece → pieces_of (piece ++ 47 ∷ rest) ≡ piece ∷ pieces_of rest
unfolding pieces_of
pieces_of-first piece rest plain =
    ap without_empty_end (slice_split_at is_slash piece 47 rest plain refl) ∙ kept_split piece rest

-- a text without a slash is one piece
pub pieces_of-last : (piece : List ℕ) → HasNoSlash piece → 0 < length piece → pieces_of piece ≡ piece ∷ pieces_of []
unfolding pieces_of
pieces_of-last [] plain h = absurd (omega arith)
pieces_of-last (b ∷ bs) plain h =
    let some : (suc (length bs) == 0) ≡ false = ne_eqb (suc (length bs)) 0 (omega arith) in
    ap without_empty_end (slice_split_none is_slash (b ∷ bs) plain) ∙ ap (λ t. cond t [] ((b ∷ bs) ∷ [])) some

-- ---- what is read

-- a text with no slash at its front is no path
pub read_path-other : (home : PathValue) (text : List ℕ) → ((rest : List ℕ) → text ≢ 47 ∷ rest) → read_path home text ≡ Err NotAbsolute
unfolding read_path
read_path-other home [] h = refl
read_path-other home (b ∷ bs) h = elim (cases_Bool (b == 47)) [
  | inl e ↦ absurd (h bs (ap (λ x. x ∷ bs) (eqb-true b 47 e)))
  | inr e ↦ rw e refl
]

pub read_path-slash : (home : PathValue) (rest : List ℕ) → read_path home (47 ∷ rest) ≡ path_of_pieces home (pieces_of rest)
unfolding read_path
read_path-slash home rest = refl

same_option : (o : Option ℕ) → o ≡ option_map (λ at. at + 0) o
same_option None = refl
same_option (Some at) = ap Some (omega arith)

none_before : (o : Option ℕ) → option_map (λ at. at + 1) o ≡ None → o ≡ None
none_before None h = refl
none_before (Some at) h = cc

counted_on : (o : Option ℕ) (n : ℕ) → option_map (λ at. at + 1) (option_map (λ at. at + n) o) ≡ option_map (λ at. at + suc n) o
counted_on None n = refl
counted_on (Some at) n = ap Some (omega arith)

-- one name more before the others
one_more : (is : Bool) (before whole last : Option ℕ) (n : ℕ) → cond is (option_map (λ at. at + 1) before) (Some 0) ≡ None
    → (before ≡ None → whole ≡ option_map (λ at. at + n) last)
    → cond is (option_map (λ at. at + 1) whole) (Some 0) ≡ option_map (λ at. at + suc n) last
one_more false before whole last n h further = cc
one_more true before whole last n h further =
    ap (option_map (λ at. at + 1)) (further (none_before before h)) ∙ counted_on last n

-- where the pieces before are names, a bad one is counted from behind them
pub first_bad-append : (seen rest : List (List ℕ)) → first_bad seen ≡ None → first_bad (seen ++ rest) ≡ option_map (λ at. at + length seen) (first_bad rest)
first_bad-append [] rest h = same_option (first_bad rest)
first_bad-append (n ∷ ns) rest h =
    one_more (is_name n) (first_bad ns) (first_bad (ns ++ rest)) (first_bad rest) (length ns) h (first_bad-append ns rest)

-- the first piece behind names that is no name
pub first_bad-here : (seen : List (List ℕ)) (piece : List ℕ) (rest : List (List ℕ)) → first_bad seen ≡ None → is_name piece ≡ false
    → first_bad (seen ++ piece ∷ rest) ≡ Some (length seen)
first_bad-here seen piece rest good bad =
    first_bad-append seen (piece ∷ rest) good
    ∙ ap (λ b. option_map (λ at. at + length seen) (cond b (option_map (λ at. at + 1) (first_bad rest)) (Some 0))) bad
    ∙ ap Some (omega arith)

-- one name more
pub first_bad-push : (seen : List (List ℕ)) (piece : List ℕ) → first_bad seen ≡ None → is_name piece ≡ true → first_bad (seen ++ piece ∷ []) ≡ None
first_bad-push seen piece good is =
    first_bad-append seen (piece ∷ []) good
    ∙ ap (λ b. option_map (λ at. at + length seen) (cond b None (Some 0))) is

pub first_bad-names : (names : PathValue) → list_all is_name names ≡ true → first_bad names ≡ None
first_bad-names [] h = refl
first_bad-names (n ∷ ns) h =
    let both = and_parts (is_name n) (list_all is_name ns) h in
    rw (both.0, first_bad-names ns both.1) refl

-- ---- what is printed

pieces_of-slashed : (name : List ℕ) (names : PathValue) → list_all is_name (name ∷ names) ≡ true → pieces_of (name ++ slashed names) ≡ name ∷ names
pieces_of-slashed name [] h =
    let both = and_parts (is_name name) true h in
    let is = IsName-from_test name both.0 in
    ap pieces_of (append-nil name) ∙ pieces_of-last name (no_slash-name name both.0) (omega arith) ∙ ap (λ l. name ∷ l) pieces_of-nil
pieces_of-slashed name (next ∷ names) h =
    let both = and_parts (is_name name) (list_all is_name (next ∷ names)) h in
    pieces_of-first name (next ++ slashed names) (no_slash-name name both.0) ∙ ap (λ l. name ∷ l) (pieces_of-slashed next names both.1)

-- a name is not `~`
not_home : (name : List ℕ) (rest : List (List ℕ)) → is_name name ≡ true → begins_at_home (name ∷ rest) ≡ false
not_home name rest h = elim (cases_Bool (bytes_eq name (126 ∷ []))) [
  | inl e ↦ absurd ((IsName-from_test name h).home ((bytes_decides name (126 ∷ [])).0 e))
  | inr e ↦ e
]

pub limited-path : (path : PathValue) → is_short_path path ≡ true → limited path ≡ Ok path
limited-path path h =
    let both = and_parts (nat_le (length path) 64) (nat_le (printed_len path) 4096) h in
    rw (le-ltb 64 (length path) (leb-true (length path) 64 both.0), le-ltb 4096 (printed_len path) (leb-true (printed_len path) 4096 both.1)) refl

-- where no piece is bad, the answer is that of the names' limits
pub path_of_pieces-good : (home : PathValue) (pieces : List (List ℕ)) → bad_place pieces ≡ None → path_of_pieces home pieces ≡ limited (names_of home pieces)
unfolding path_of_pieces
path_of_pieces-good home pieces good = ap (λ o. option_map_or (λ at. Err (bad_name at)) o (limited (names_of home pieces))) good

pub path_of_pieces-bad : (home : PathValue) (pieces : List (List ℕ)) (at : ℕ) → bad_place pieces ≡ Some at → path_of_pieces home pieces ≡ Err (bad_name at)
unfolding path_of_pieces
path_of_pieces-bad home pieces at bad = ap (λ o. option_map_or (λ at. Err (bad_name at)) o (limited (names_of home pieces))) bad

-- the same of pieces that don't begin with `~`, and of those that do
pub bad_place-plain : (pieces : List (List ℕ)) → begins_at_home pieces ≡ false → bad_place pieces ≡ first_bad pieces
bad_place-plain pieces plain = ap (λ b. cond b (option_map (λ at. at + 1) (first_bad (drop 1 pieces))) (first_bad pieces)) plain

pub names_of-plain : (home : PathValue) (pieces : List (List ℕ)) → begins_at_home pieces ≡ false → names_of home pieces ≡ pieces
names_of-plain home pieces plain = ap (λ b. cond b (home ++ drop 1 pieces) pieces) plain

pub path_of_pieces-names : (home path : PathValue) → is_path path ≡ true → path_of_pieces home path ≡ Ok path
path_of_pieces-names home [] h = path_of_pieces-good home [] refl
path_of_pieces-names home (n ∷ ns) h =
    let both = and_parts (list_all is_name (n ∷ ns)) (is_short_path (n ∷ ns)) h in
    let plain = not_home n ns (and_parts (is_name n) (list_all is_name ns) both.0).0 in
    path_of_pieces-good home (n ∷ ns) (bad_place-plain (n ∷ ns) plain ∙ first_bad-names (n ∷ ns) both.0)
    ∙ ap limited (names_of-plain home (n ∷ ns) plain) ∙ limited-path (n ∷ ns) both.1

pub read_path-printed_path : (home path : PathValue) → is_path path ≡ true → read_path home (printed_path path) ≡ Ok path
read_path-printed_path home [] h = read_path-slash home [] ∙ ap (path_of_pieces home) pieces_of-nil ∙ path_of_pieces-names home [] h
read_path-printed_path home (n ∷ ns) h =
    let both = and_parts (list_all is_name (n ∷ ns)) (is_short_path (n ∷ ns)) h in
    read_path-slash home (n ++ slashed ns) ∙ ap (path_of_pieces home) (pieces_of-slashed n ns both.0) ∙ path_of_pieces-names home (n ∷ ns) h

-- ---- what a reader of the pieces knows of the text

-- where no piece is bad, the answer is that of the names' limits
pub read_path-good : (home : PathValue) (text rest : List ℕ) → text ≡ 47 ∷ rest → bad_place (pieces_of rest) ≡ None
    → read_path home text ≡ limited (names_of home (pieces_of rest))
read_path-good home text rest e good = ap (read_path home) e ∙ read_path-slash home rest ∙ path_of_pieces-good home (pieces_of rest) good

-- and a bad piece is the fault
pub read_path-bad : (home : PathValue) (text rest : List ℕ) (fault : PathFault) → text ≡ 47 ∷ rest → IsBadPiece (pieces_of rest) fault → read_path home text ≡ Err fault
read_path-bad home text rest fault e bad =
    ap (read_path home) e ∙ read_path-slash home rest ∙ path_of_pieces-bad home (pieces_of rest) bad.0 bad.1 ∙ ap Err (sym bad.2)

-- a path within its limits that is the names is the answer
pub read_path-path : (home : PathValue) (text : List ℕ) (names : PathValue) (r : Result PathValue PathFault) → read_path home text ≡ limited names
    → IfOk r (λ path. path ≡ names) → IfOk r (λ path. IsTrue (is_path path)) → IfOk r (λ path. read_path home text ≡ Ok path)
read_path-path home text names (Ok path) e same is =
    e ∙ ap limited (sym same) ∙ limited-path path (and_parts (list_all is_name path) (is_short_path path) is).1
read_path-path home text names (Err fault) e same is = tt
