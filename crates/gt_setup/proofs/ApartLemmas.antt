-- What no reader finds twice stands once.
use Rattle.std.proofs.Common.{◌≡◌, ◌+◌, ◌++◌, ◌∙◌, ◌||◌, ℕ, zero, suc, List, [], ◌∷◌, Bool, true, false, true≢false, cond, Option, Some, None, Result, Ok, Err, ap, length, map, nat_lt, option_map, refl, subst, sym, append_assoc}
use Rattle.std.proofs.lemmas.List.{append-nil}
use Rattle.std.proofs.lemmas.List.Folds.{list_any-append}
use Rattle.std.specs.Cmp.Lexicographic.{bytes_decides}
use Rattle.std.specs.List.{list_any, slice_get}
use Rattle.std.specs.Option.{ok_or, option_and_then}
use Rattle.std.specs.Prelude.{codes}
use Rattle.std.specs.Str.{bytes_eq}
use Rattle.toml.specs.Data.{Data, Items, Members, array, boolean, datetime, float, get, get_member, integer, item, no_items, string, table}
use Rattle.gt_values.specs.Results.{◌>>=◌}
use Rattle.gt_setup.specs.Apart.{AreApart, StandsOnce, tokens_of}
use Rattle.gt_setup.specs.Grammar.{collections_of, identities_from, identities_of, identity_at, none_or, owned, parts_of, repeated_among, required, setup_of, table_of, told_apart, unknown_owner}
use Rattle.gt_setup.specs.Setup.{Setup}
use Rattle.gt_setup.specs.Value.{digest_in, digests_in, groups_in, id_in, name_in, namespace_in, new_digest_in, rows_in, tokens_in}
use Rattle.gt_setup.specs.declared.fault.SetupFault.{SetupFault}
use Rattle.gt_setup.specs.declared.fault.SetupFault.TheVariants.{NotToml, TooLong, Twice, UnknownIdentity}
use Rattle.gt_setup.specs.declared.parts.Identity.{Identity}

-- whether the list has it
abbrev stands : List ℕ → List (List ℕ) → Bool
stands x xs = list_any (λ other. bytes_eq other x) xs

or_left : (a b : Bool) → (a || b) ≡ false → a ≡ false
or_left true b e = absurd (true≢false e)
or_left false b e = refl

or_right : (a b : Bool) → (a || b) ≡ false → b ≡ false
or_right true b e = absurd (true≢false e)
or_right false b e = e

itself : (x : List ℕ) → bytes_eq x x ≡ true
itself x = (bytes_decides x x).1 refl

absent_at : (earlier : List (List ℕ)) (y : List ℕ) (ys : List (List ℕ)) (b : Bool) → stands y earlier ≡ b
    → ((j : ℕ) (x : List ℕ) → repeated_among (earlier ++ y ∷ []) ys ≡ None → slice_get ys j ≡ Some x → stands x (earlier ++ y ∷ []) ≡ false)
    → cond b (Some y) (repeated_among (earlier ++ y ∷ []) ys) ≡ None
    → (j : ℕ) (x : List ℕ) → slice_get (y ∷ ys) j ≡ Some x → stands x earlier ≡ false
absent_at earlier y ys true e rest none j x at = absurd (cc none)
absent_at earlier y ys false e rest none zero x at = let same : y ≡ x = cc at in subst (λ z. stands z earlier ≡ false) same e
absent_at earlier y ys false e rest none (suc j) x at =
    or_left (stands x earlier) (stands x (y ∷ [])) (sym (list_any-append (λ other. bytes_eq other x) earlier (y ∷ [])) ∙ rest j x none at)

-- what follows without a repetition stands nowhere before
absent : (xs earlier : List (List ℕ)) (j : ℕ) (x : List ℕ) → repeated_among earlier xs ≡ None → slice_get xs j ≡ Some x → stands x earlier ≡ false
absent [] earlier j x none at = absurd (cc at)
absent (y ∷ ys) earlier j x none at =
    absent_at earlier y ys (stands y earlier) refl (λ k z n a. absent ys (earlier ++ y ∷ []) k z n a) none j x at

tail_none : (b : Bool) (y : List ℕ) (o : Option (List ℕ)) → cond b (Some y) o ≡ None → o ≡ None
tail_none true y o e = absurd (cc e)
tail_none false y o e = e

not_later : (earlier : List (List ℕ)) (y : List ℕ) (ys : List (List ℕ)) (j : ℕ) → repeated_among (earlier ++ y ∷ []) ys ≡ None → slice_get ys j ≡ Some y → ⊥
not_later earlier y ys j none at =
    let gone = sym (list_any-append (λ other. bytes_eq other y) earlier (y ∷ [])) ∙ absent ys (earlier ++ y ∷ []) j y none at in
    let last = or_right (stands y earlier) (stands y (y ∷ [])) gone in
    true≢false (sym (itself y) ∙ or_left (bytes_eq y y) false last)

-- a list without a repetition
apart : (xs earlier : List (List ℕ)) → repeated_among earlier xs ≡ None → AreApart xs
apart [] earlier none i j x a b = absurd (cc a)
apart (y ∷ ys) earlier none zero zero x a b = refl
apart (y ∷ ys) earlier none zero (suc j) x a b =
    let same : y ≡ x = cc a in
    absurd (not_later earlier y ys j (tail_none (stands y earlier) y _ none) (subst (λ z. slice_get ys j ≡ Some z) (sym same) b))
apart (y ∷ ys) earlier none (suc i) zero x a b =
    let same : y ≡ x = cc b in
    absurd (not_later earlier y ys i (tail_none (stands y earlier) y _ none) (subst (λ z. slice_get ys i ≡ Some z) (sym same) a))
apart (y ∷ ys) earlier none (suc i) (suc j) x a b = ap suc (apart ys (earlier ++ y ∷ []) (tail_none (stands y earlier) y _ none) i j x a b)

joined_at : (earlier : List (List ℕ)) (x : List ℕ) (xs ys : List (List ℕ)) (b : Bool)
    → (repeated_among (earlier ++ x ∷ []) xs ≡ None → repeated_among (earlier ++ x ∷ []) (xs ++ ys) ≡ None)
    → cond b (Some x) (repeated_among (earlier ++ x ∷ []) xs) ≡ None → cond b (Some x) (repeated_among (earlier ++ x ∷ []) (xs ++ ys)) ≡ None
joined_at earlier x xs ys true rest e = absurd (cc e)
joined_at earlier x xs ys false rest e = rest e

-- two lists without a repetition, where the first stands before the second
joined : (xs ys earlier : List (List ℕ)) → repeated_among earlier xs ≡ None → repeated_among (earlier ++ xs) ys ≡ None → repeated_among earlier (xs ++ ys) ≡ None
joined [] ys earlier e f = subst (λ before. repeated_among before ys ≡ None) (append-nil earlier) f
joined (x ∷ xs) ys earlier e f =
    joined_at earlier x xs ys (stands x earlier)
    (λ g. joined xs ys (earlier ++ x ∷ []) g (subst (λ before. repeated_among before ys ≡ None) (sym (append_assoc earlier (x ∷ []) xs)) f)) e

new_at : (earlier : List (List ℕ)) (y x : List ℕ) (b : Bool) → stands y earlier ≡ b → cond b None (Some y) ≡ Some x → stands x earlier ≡ false
new_at earlier y x true e is = absurd (cc is)
new_at earlier y x false e is = let same : y ≡ x = cc is in subst (λ z. stands z earlier ≡ false) same e

-- a digest that is new stands nowhere before
new_digest : (earlier : List (List ℕ)) (o : Option (List ℕ)) (x : List ℕ)
    → option_and_then (λ digest. cond (stands digest earlier) None (Some digest)) o ≡ Some x → stands x earlier ≡ false
new_digest earlier None x e = absurd (cc e)
new_digest earlier (Some y) x e = new_at earlier y x (stands y earlier) refl e

more_digests : (earlier : List (List ℕ)) (x : List ℕ) (xs : List (List ℕ)) (o : Option (List (List ℕ))) → stands x earlier ≡ false
    → ((rest : List (List ℕ)) → o ≡ Some rest → repeated_among (earlier ++ x ∷ []) rest ≡ None)
    → option_map (λ rest. x ∷ rest) o ≡ Some xs → repeated_among earlier xs ≡ None
more_digests earlier x xs None new later e = absurd (cc e)
more_digests earlier x xs (Some rest) new later e =
    let same : x ∷ rest ≡ xs = cc e in
    subst (λ all. repeated_among earlier all ≡ None) same
    (ap (λ b. cond b (Some x) (repeated_among (earlier ++ x ∷ []) rest)) new ∙ later rest refl)

digests_behind : (earlier : List (List ℕ)) (ds : Items) (xs : List (List ℕ)) (o : Option (List ℕ)) → ((x : List ℕ) → o ≡ Some x → stands x earlier ≡ false)
    → ((before rest : List (List ℕ)) → digests_in before ds ≡ Some rest → repeated_among before rest ≡ None)
    → option_and_then (λ digest. option_map (λ rest. digest ∷ rest) (digests_in (earlier ++ digest ∷ []) ds)) o ≡ Some xs → repeated_among earlier xs ≡ None
digests_behind earlier ds xs None new later e = absurd (cc e)
digests_behind earlier ds xs (Some x) new later e =
    more_digests earlier x xs (digests_in (earlier ++ x ∷ []) ds) (new x refl) (λ rest is. later (earlier ++ x ∷ []) rest is) e

-- the digests that are read have no repetition
digests_apart : (ds : Items) (earlier xs : List (List ℕ)) → digests_in earlier ds ≡ Some xs → repeated_among earlier xs ≡ None
digests_apart no_items earlier xs e = let same : [] ≡ xs = cc e in subst (λ all. repeated_among earlier all ≡ None) same refl
digests_apart (item d ds) earlier xs e =
    digests_behind earlier ds xs (new_digest_in earlier d) (λ x is. new_digest earlier (digest_in d) x is) (λ before rest is. digests_apart ds before rest is) e

tokens_apart : (d : Data) (earlier xs : List (List ℕ)) → tokens_in earlier d ≡ Some xs → repeated_among earlier xs ≡ None
tokens_apart (array ds) earlier xs e = digests_apart ds earlier xs e
tokens_apart (string s) earlier xs e = absurd (cc e)
tokens_apart (integer z) earlier xs e = absurd (cc e)
tokens_apart (float x) earlier xs e = absurd (cc e)
tokens_apart (boolean x) earlier xs e = absurd (cc e)
tokens_apart (datetime x) earlier xs e = absurd (cc e)
tokens_apart (table ms) earlier xs e = absurd (cc e)

some_from : {A : Type 0} (o : Option A) (fault : SetupFault) (a : A) → ok_or o fault ≡ Ok a → o ≡ Some a
some_from None fault a e = absurd (cc e)
some_from (Some x) fault a e = cc e

required_apart : (key : List ℕ) (row : ℕ) (earlier : List (List ℕ)) (o : Option Data) (xs : List (List ℕ)) → required key row (tokens_in earlier) o ≡ Ok xs
    → repeated_among earlier xs ≡ None
required_apart key row earlier None xs e = absurd (cc e)
required_apart key row earlier (Some d) xs e = tokens_apart d earlier xs (some_from (tokens_in earlier d) _ xs e)

-- the two parts of an answer that came
parts : {A B : Type 0} (r : Result A SetupFault) (next : A → Result B SetupFault) (b : B) → (r >>= next) ≡ Ok b → (a : A) × (r ≡ Ok a) × (next a ≡ Ok b)
parts (Ok a) next b e = (a, refl, e)
parts (Err fault) next b e = absurd (cc e)

identity_apart : (row : ℕ) (earlier : List (List ℕ)) (d : Data) (identity : Identity) → identity_at row earlier d ≡ Ok identity
    → repeated_among earlier identity.tokens ≡ None
unfolding identity_at
identity_apart row earlier d identity e =
    let first = parts (required (codes "identity.id") row id_in (get (codes "id") d)) _ identity e in
    let second = parts (required (codes "identity.name") row name_in (get (codes "name") d)) _ identity first.2 in
    let third = parts (required (codes "identity.tokens") row (tokens_in earlier) (get (codes "tokens") d)) _ identity second.2 in
    let fourth = parts (required (codes "identity.groups") row groups_in (get (codes "groups") d)) _ identity third.2 in
    let same : third.0 ≡ identity.tokens = cc fourth.2 in
    subst (λ tokens. repeated_among earlier tokens ≡ None) same (required_apart (codes "identity.tokens") row earlier (get (codes "tokens") d) third.0 third.1)

identities_apart : (ds : Items) (row : ℕ) (earlier : List (List ℕ)) (identities : List Identity) → identities_from row earlier ds ≡ Ok identities
    → repeated_among earlier (tokens_of identities) ≡ None
identities_apart no_items row earlier identities e =
    let same : [] ≡ identities = cc e in
    subst (λ all. repeated_among earlier (tokens_of all) ≡ None) same refl
identities_apart (item d ds) row earlier identities e =
    let first = parts (identity_at row earlier d) _ identities e in
    let rest = parts (identities_from (row + 1) (earlier ++ first.0.tokens) ds) _ identities first.2 in
    let same : first.0 ∷ rest.0 ≡ identities = cc rest.2 in
    let here = identity_apart row earlier d first.0 first.1 in
    let later = identities_apart ds (row + 1) (earlier ++ first.0.tokens) rest.0 rest.1 in
    subst (λ all. repeated_among earlier (tokens_of all) ≡ None) same (joined first.0.tokens (tokens_of rest.0) earlier here later)

file_apart : (ms : Members) (setup : Setup) → parts_of ms ≡ Ok setup → repeated_among [] (tokens_of setup.identities) ≡ None
unfolding parts_of identities_of
file_apart ms setup e =
    let first = parts (required (codes "namespace") 0 namespace_in (get_member (codes "namespace") ms)) _ setup e in
    let second = parts (identities_of ms) _ setup first.2 in
    let third = parts (collections_of ms) _ setup second.2 in
    let rows = parts (required (codes "identity") 0 rows_in (get_member (codes "identity") ms)) _ second.0 second.1 in
    let same : second.0 ≡ setup.identities = cc third.2 in
    subst (λ all. repeated_among [] (tokens_of all) ≡ None) same (identities_apart rows.0 0 [] second.0 rows.2)

none_from : (o : Option (List ℕ)) (fault : List ℕ → SetupFault) (x : List ℕ) → none_or o fault ≡ Ok x → o ≡ None
none_from None fault x e = refl
none_from (Some id) fault x e = absurd (cc e)

-- what identifiers are told apart
record ToldApart (setup : Setup) : Type 0 where
  identities : repeated_among [] (map (λ i. i.who.identity) setup.identities) ≡ None
  collections : repeated_among [] (map (λ c. c.id) setup.collections) ≡ None

ids_apart : (setup told : Setup) → told_apart setup ≡ Ok told → ToldApart setup × (setup ≡ told)
unfolding told_apart
ids_apart setup told e =
    let first = parts (none_or (repeated_among [] (map (λ i. i.who.identity) setup.identities)) Twice) _ told e in
    let second = parts (none_or (repeated_among [] (map (λ c. c.id) setup.collections)) Twice) _ told first.2 in
    (record { identities = none_from _ Twice _ first.1; collections = none_from _ Twice _ second.1 }, cc second.2)

owned_same : (setup told : Setup) → owned setup ≡ Ok told → setup ≡ told
unfolding owned
owned_same setup told e = let first = parts (none_or (unknown_owner setup) UnknownIdentity) _ told e in cc first.2

not_long : (b : Bool) (fault : SetupFault) (r : Result Setup SetupFault) (setup : Setup) → cond b (Err fault) r ≡ Ok setup → r ≡ Ok setup
not_long true fault r setup e = absurd (cc e)
not_long false fault r setup e = e

apart_from : (setup : Setup) → repeated_among [] (tokens_of setup.identities) ≡ None → ToldApart setup → StandsOnce setup
apart_from setup tokens ids = record {
  tokens = apart _ [] tokens;
  identities = apart _ [] ids.identities;
  collections = apart _ [] ids.collections;
}

-- in a setup that was read nothing that names a thing stands twice
pub read_stands_once : (bytes : List ℕ) (setup : Setup) → setup_of bytes ≡ Ok setup → StandsOnce setup
unfolding setup_of
read_stands_once bytes setup e =
    let whole = not_long (nat_lt 1048576 (length bytes)) (TooLong (length bytes)) _ setup e in
    let last = parts (ok_or (table_of bytes) NotToml >>= parts_of >>= told_apart) owned setup whole in
    let third = parts (ok_or (table_of bytes) NotToml >>= parts_of) told_apart last.0 last.1 in
    let second = parts (ok_or (table_of bytes) NotToml) parts_of third.0 third.1 in
    let ids = ids_apart third.0 last.0 third.2 in
    subst StandsOnce (ids.1 ∙ owned_same last.0 setup last.2)
    (apart_from third.0 (file_apart second.0 third.0 second.2) ids.0)
