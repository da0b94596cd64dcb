-- What the indexes have after one more row or digest.
use Rattle.std.proofs.Common.{Bool, List, None, Option, Some, [], ap, cond, false, length, map, nat_cmp, refl, sym, true, ℕ, ◌++◌, ◌∙◌, ◌∷◌, ◌≡◌, ◌||◌}
use Rattle.std.proofs.lemmas.Cmp.{nat_list_eq_equiv}
use Rattle.std.proofs.lemmas.List.Folds.{list_any-append}
use Rattle.std.proofs.lemmas.Map.Text.{is_eq-slice_cmp}
use Rattle.std.proofs.lemmas.Slice.Eq.{bytes_eq-Decides}
use Rattle.std.specs.BTreeMap.{BTreeMap, Updates, is_at, keys}
use Rattle.std.specs.Cmp.Lexicographic.{slice_cmp}
use Rattle.std.specs.List.{list_any}
use Rattle.std.specs.Map.{keys_of, lookup}
use Rattle.std.specs.Option.{is_some, option_and_then, option_or}
use Rattle.std.specs.Ordering.{is_eq}
use Rattle.std.specs.Str.{bytes_eq}
use Rattle.gt_setup.specs.Indexed.{IsIndexOf, Takes, first_place, is_collection, place_at}
use Rattle.gt_setup.specs.Setup.{is_identity, lists}
use Rattle.gt_setup.specs.Value.{digest_in, new_digest_in}
use Rattle.toml.specs.Data.{Data}
use Rattle.gt_setup.specs.declared.parts.Collection.{Collection}
use Rattle.gt_setup.specs.declared.parts.Identity.{Identity}
use Rattle.gt_setup.proofs.KeyLemmas.{SameKeys}
use Rattle.gt_setup.proofs.PlaceLemmas.{first_place_map, first_place_push}

-- the order of keys tells the same keys apart as the test of bytes
key_test : (key other : List ℕ) → is_eq (slice_cmp nat_cmp key other) ≡ bytes_eq other key
key_test key other = is_eq-slice_cmp key other ∙ nat_list_eq_equiv.symm key other

found_step : (b : Bool) (x : ℕ) (o : Option ℕ) (r : Bool) → r ≡ is_some o → (b || r) ≡ is_some (cond b (Some x) o)
found_step true x o r e = refl
found_step false x o r e = e

any_key : (es : List (List ℕ × ℕ)) (key : List ℕ) → list_any (λ other. bytes_eq other key) (keys_of es) ≡ is_some (lookup (is_at (slice_cmp nat_cmp key)) es)
any_key [] key = refl
any_key (e ∷ es) key =
    found_step (bytes_eq e.0 key) e.1 (lookup (is_at (slice_cmp nat_cmp key)) es) (list_any (λ other. bytes_eq other key) (keys_of es)) (any_key es key)
    ∙ ap (λ b. is_some (cond b (Some e.1) (lookup (is_at (slice_cmp nat_cmp key)) es))) (sym (key_test key e.0))

-- a key is among the keys where the index has something for it
pub keys_any : (places : BTreeMap (List ℕ) ℕ) (key : List ℕ) → list_any (λ other. bytes_eq other key) (keys places) ≡ is_some (place_at places key)
keys_any places key = any_key places.entries key

-- a digest that has been taken, and one that hasn't
abbrev untaken : BTreeMap (List ℕ) ℕ → List ℕ → Option (List ℕ)
untaken taken digest = cond (list_any (λ other. bytes_eq other digest) (keys taken)) None (Some digest)

pub digest_taken : (taken : BTreeMap (List ℕ) ℕ) (d : Data) (digest : List ℕ) → Some digest ≡ digest_in d → is_some (place_at taken digest) ≡ true
    → None ≡ new_digest_in (keys taken) d
digest_taken taken d digest read has =
    sym (ap (λ o. option_and_then (untaken taken) o) (sym read) ∙ ap (λ b. cond b None (Some digest)) (keys_any taken digest ∙ has))

pub digest_untaken : (taken : BTreeMap (List ℕ) ℕ) (d : Data) (digest : List ℕ) → Some digest ≡ digest_in d → is_some (place_at taken digest) ≡ false
    → Some digest ≡ new_digest_in (keys taken) d
digest_untaken taken d digest read has =
    sym (ap (λ o. option_and_then (untaken taken) o) (sym read) ∙ ap (λ b. cond b None (Some digest)) (keys_any taken digest ∙ has))

-- what the index has where a key got a value
put_at : (old new : BTreeMap (List ℕ) ℕ) (key : List ℕ) (value : ℕ) → Updates (slice_cmp nat_cmp) old new key (Some value) → (other : List ℕ)
    → place_at new other ≡ cond (bytes_eq key other) (Some value) (place_at old other)
put_at old new key value put other = put.0 other ∙ ap (λ b. cond b (Some value) (place_at old other)) (is_eq-slice_cmp key other)

or_absent : (b : Bool) (value : ℕ) (o : Option ℕ) → (b ≡ true → o ≡ None) → cond b (Some value) o ≡ option_or o (cond b (Some value) None)
or_absent true value None h = refl
or_absent true value (Some x) h = cc (h refl)
or_absent false value None h = refl
or_absent false value (Some x) h = refl

-- the same, where the index had nothing for the key
put_absent : (old new : BTreeMap (List ℕ) ℕ) (key : List ℕ) (value : ℕ) → Updates (slice_cmp nat_cmp) old new key (Some value) → place_at old key ≡ None
    → (other : List ℕ) → place_at new other ≡ option_or (place_at old other) (cond (bytes_eq key other) (Some value) None)
put_absent old new key value put none other =
    put_at old new key value put other
    ∙ or_absent (bytes_eq key other) value (place_at old other)
    (λ same. ap (λ k. place_at old k) (sym ((bytes_eq-Decides key other).0 same)) ∙ none)

-- an empty index
pub index_none : {X : Type 0} (test : List ℕ → X → Bool) (places : BTreeMap (List ℕ) ℕ) → places.entries ≡ [] → IsIndexOf test [] places
index_none test places empty = record { first = λ key. ap (λ es. lookup (is_at (slice_cmp nat_cmp key)) es) empty }

-- one more identifier
pub index_push : (ids : List (List ℕ)) (id : List ℕ) (at : ℕ) (old new : BTreeMap (List ℕ) ℕ) → IsIndexOf (λ key x. bytes_eq x key) ids old
    → place_at old id ≡ None → Updates (slice_cmp nat_cmp) old new id (Some at) → at ≡ length ids
    → IsIndexOf (λ key x. bytes_eq x key) (ids ++ id ∷ []) new
index_push ids id at old new index none put is =
    record {
      first = λ key.
          put_absent old new id at put none key
          ∙ ap (λ o. option_or o (cond (bytes_eq id key) (Some at) None)) (index.first key)
          ∙ ap (λ n. option_or (first_place (λ x. bytes_eq x key) ids) (cond (bytes_eq id key) (Some n) None)) is
          ∙ sym (first_place_push (λ x. bytes_eq x key) ids id);
    }

pub none_from_test : (o : Option ℕ) → is_some o ≡ false → o ≡ None
none_from_test None e = refl
none_from_test (Some x) e = cc

-- identities and collections by their identifiers
pub identities_by_id : (identities : List Identity) (ids : List (List ℕ)) (places : BTreeMap (List ℕ) ℕ) → ids ≡ map (λ i. i.who.identity) identities
    → IsIndexOf (λ key x. bytes_eq x key) ids places → IsIndexOf is_identity identities places
identities_by_id identities ids places are index =
    record {
      first = λ key.
          index.first key
          ∙ ap (λ xs. first_place (λ x. bytes_eq x key) xs) are
          ∙ first_place_map (λ x. bytes_eq x key) (λ i. i.who.identity) identities;
    }

pub collections_by_id : (collections : List Collection) (ids : List (List ℕ)) (places : BTreeMap (List ℕ) ℕ) → ids ≡ map (λ c. c.id) collections
    → IsIndexOf (λ key x. bytes_eq x key) ids places → IsIndexOf is_collection collections places
collections_by_id collections ids places are index =
    record {
      first = λ key.
          index.first key
          ∙ ap (λ xs. first_place (λ x. bytes_eq x key) xs) are
          ∙ first_place_map (λ x. bytes_eq x key) (λ c. c.id) collections;
    }

or_false : (b : Bool) → (b || false) ≡ b
or_false true = refl
or_false false = refl

-- a digest is taken
pub takes_one : (row : ℕ) (digest : List ℕ) (old new : BTreeMap (List ℕ) ℕ) → place_at old digest ≡ None
    → Updates (slice_cmp nat_cmp) old new digest (Some row) → Takes row (digest ∷ []) old new
takes_one row digest old new none put =
    record {
      place = λ key.
          put_absent old new digest row put none key
          ∙ ap (λ b. option_or (place_at old key) (cond b (Some row) None)) (sym (or_false (bytes_eq digest key)));
    }

or_twice : (a b : Bool) (row : ℕ) (o : Option ℕ)
    → option_or (option_or o (cond a (Some row) None)) (cond b (Some row) None) ≡ option_or o (cond (a || b) (Some row) None)
or_twice true b row None = refl
or_twice false b row None = refl
or_twice a b row (Some x) = refl

-- more digests are taken
pub takes_append : (row : ℕ) (digests more : List (List ℕ)) (old then new : BTreeMap (List ℕ) ℕ) → Takes row digests old then → Takes row more then new
    → Takes row (digests ++ more) old new
takes_append row digests more old then new first second =
    record {
      place = λ key.
          second.place key
          ∙ ap (λ o. option_or o (cond (list_any (λ k. bytes_eq k key) more) (Some row) None)) (first.place key)
          ∙ or_twice (list_any (λ k. bytes_eq k key) digests) (list_any (λ k. bytes_eq k key) more) row (place_at old key)
          ∙ ap (λ b. option_or (place_at old key) (cond b (Some row) None)) (sym (list_any-append (λ k. bytes_eq k key) digests more));
    }

or_none : (o : Option ℕ) → o ≡ option_or o None
or_none None = refl
or_none (Some x) = refl

-- no digest is taken
pub takes_none : (row : ℕ) (old : BTreeMap (List ℕ) ℕ) → Takes row [] old old
takes_none row old = record { place = λ key. or_none (place_at old key) }

some_or : (a : Bool) (row : ℕ) (o : Option ℕ) → (is_some o || a) ≡ is_some (option_or o (cond a (Some row) None))
some_or true row None = refl
some_or false row None = refl
some_or a row (Some x) = refl

-- the keys after digests were taken
pub takes_keys : (row : ℕ) (digests : List (List ℕ)) (old new : BTreeMap (List ℕ) ℕ) → Takes row digests old new → SameKeys (keys old ++ digests) (keys new)
takes_keys row digests old new takes =
    record {
      same = λ key.
          list_any-append (λ k. bytes_eq k key) (keys old) digests
          ∙ ap (λ b. b || list_any (λ k. bytes_eq k key) digests) (keys_any old key)
          ∙ some_or (list_any (λ k. bytes_eq k key) digests) row (place_at old key)
          ∙ ap (λ o. is_some o) (sym (takes.place key))
          ∙ sym (keys_any new key);
    }

-- one more identity, whose tokens were taken
pub index_takes : (identities : List Identity) (identity : Identity) (row : ℕ) (old new : BTreeMap (List ℕ) ℕ) → IsIndexOf lists identities old
    → Takes row identity.tokens old new → row ≡ length identities → IsIndexOf lists (identities ++ identity ∷ []) new
index_takes identities identity row old new index takes is =
    record {
      first = λ key.
          takes.place key
          ∙ ap (λ o. option_or o (cond (lists key identity) (Some row) None)) (index.first key)
          ∙ ap (λ n. option_or (first_place (lists key) identities) (cond (lists key identity) (Some n) None)) is
          ∙ sym (first_place_push (lists key) identities identity);
    }
