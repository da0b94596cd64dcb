-- Lists with the same keys serve the readers of tokens alike.
use Rattle.std.proofs.Common.{Err, List, None, Ok, Option, Result, Some, [], ap, cond, refl, sym, ℕ, ◌+◌, ◌++◌, ◌∙◌, ◌∷◌, ◌≡◌, ◌||◌, option_map, codes}
use Rattle.std.proofs.lemmas.List.Folds.{list_any-append}
use Rattle.std.specs.List.{list_any}
use Rattle.std.specs.Option.{ok_or, option_and_then}
use Rattle.std.specs.Str.{bytes_eq}
use Rattle.toml.specs.Data.{Data, Items, array, boolean, datetime, float, get, integer, item, no_items, string, table}
use Rattle.gt_setup.specs.Grammar.{identities_from, identity_at, required}
use Rattle.gt_values.specs.Results.{◌>>=◌}
use Rattle.gt_setup.specs.Value.{digest_in, digests_in, groups_in, id_in, name_in, new_digest_in, tokens_in}
use Rattle.gt_setup.specs.declared.fault.SetupFault.{SetupFault}
use Rattle.gt_setup.specs.declared.fault.SetupFault.TheVariants.{BadValue}
use Rattle.gt_setup.specs.declared.parts.Identity.{Identity}

-- a key stands in both lists or in neither
pub record SameKeys (a b : List (List ℕ)) : Type 0 where
  pub same : (key : List ℕ) → list_any (λ other. bytes_eq other key) a ≡ list_any (λ other. bytes_eq other key) b

same_append : (a b more : List (List ℕ)) → SameKeys a b → SameKeys (a ++ more) (b ++ more)
same_append a b more keys =
    record {
      same = λ key.
          list_any-append (λ other. bytes_eq other key) a more
          ∙ ap (λ found. found || list_any (λ other. bytes_eq other key) more) (keys.same key)
          ∙ sym (list_any-append (λ other. bytes_eq other key) b more);
    }

same_next : {A B : Type 0} (o : Option A) (f g : A → Option B) → ((x : A) → f x ≡ g x) → option_and_then f o ≡ option_and_then g o
same_next None f g e = refl
same_next (Some x) f g e = e x

same_test : (a b : List (List ℕ)) → SameKeys a b → (digest : List ℕ)
    → cond (list_any (λ other. bytes_eq other digest) a) None (Some digest) ≡ cond (list_any (λ other. bytes_eq other digest) b) None (Some digest)
same_test a b keys digest = ap (λ taken. cond taken None (Some digest)) (keys.same digest)

same_new_digest : (a b : List (List ℕ)) → SameKeys a b → (d : Data) → new_digest_in a d ≡ new_digest_in b d
same_new_digest a b keys d =
    same_next (digest_in d) (λ digest. cond (list_any (λ other. bytes_eq other digest) a) None (Some digest))
    (λ digest. cond (list_any (λ other. bytes_eq other digest) b) None (Some digest)) (same_test a b keys)

-- the digests behind one, where these keys stand before
abbrev pub behind : List (List ℕ) → Items → List ℕ → Option (List (List ℕ))
behind earlier ds digest = option_map (λ digests. digest ∷ digests) (digests_in (earlier ++ digest ∷ []) ds)

pub same_digests : (a b : List (List ℕ)) → SameKeys a b → (ds : Items) → digests_in a ds ≡ digests_in b ds
same_digests a b keys no_items = refl
same_digests a b keys (item d ds) =
    ap (λ o. option_and_then (behind a ds) o) (same_new_digest a b keys d)
    ∙ same_next (new_digest_in b d) (behind a ds) (behind b ds)
    (λ digest. ap (λ o. option_map (λ digests. digest ∷ digests) o) (same_digests (a ++ digest ∷ []) (b ++ digest ∷ []) (same_append a b (digest ∷ []) keys) ds))

same_tokens : (a b : List (List ℕ)) → SameKeys a b → (d : Data) → tokens_in a d ≡ tokens_in b d
same_tokens a b keys (array ds) = same_digests a b keys ds
same_tokens a b keys (string s) = refl
same_tokens a b keys (integer z) = refl
same_tokens a b keys (float x) = refl
same_tokens a b keys (boolean x) = refl
same_tokens a b keys (datetime x) = refl
same_tokens a b keys (table ms) = refl

same_required : (a b : List (List ℕ)) → SameKeys a b → (key : List ℕ) (row : ℕ) (o : Option Data)
    → required key row (tokens_in a) o ≡ required key row (tokens_in b) o
same_required a b keys key row None = refl
same_required a b keys key row (Some d) = ap (λ t. ok_or t (BadValue key row)) (same_tokens a b keys d)

-- the identity of a row, with what its tokens are read as
abbrev with_tokens : ℕ → Data → Result (List (List ℕ)) SetupFault → Result Identity SetupFault
with_tokens row d digests = do
  id ← required (codes "identity.id") row id_in (get (codes "id") d)
  name ← required (codes "identity.name") row name_in (get (codes "name") d)
  tokens ← digests
  groups ← required (codes "identity.groups") row groups_in (get (codes "groups") d)
  Ok (record { who = record { identity = id; groups = groups }; name = name; tokens = tokens })

same_identity : (a b : List (List ℕ)) → SameKeys a b → (row : ℕ) (d : Data) → identity_at row a d ≡ identity_at row b d
unfolding identity_at
same_identity a b keys row d =
    ap (λ digests. with_tokens row d digests) (same_required a b keys (codes "identity.tokens") row (get (codes "tokens") d))

same_part : {A B : Type 0} (r : Result A SetupFault) (f g : A → Result B SetupFault) → ((x : A) → f x ≡ g x) → (r >>= f) ≡ (r >>= g)
same_part (Ok x) f g e = e x
same_part (Err fault) f g e = refl

-- the identities behind one, where these tokens stand before
abbrev pub after_one : ℕ → List (List ℕ) → Items → Identity → Result (List Identity) SetupFault
after_one row earlier ds identity = identities_from (row + 1) (earlier ++ identity.tokens) ds >>= (λ rest. Ok (identity ∷ rest))

pub same_identities : (a b : List (List ℕ)) → SameKeys a b → (row : ℕ) (ds : Items) → identities_from row a ds ≡ identities_from row b ds
same_identities a b keys row no_items = refl
same_identities a b keys row (item d ds) =
    ap (λ r. r >>= after_one row a ds) (same_identity a b keys row d)
    ∙ same_part (identity_at row b d) (after_one row a ds) (after_one row b ds)
    (λ identity. ap (λ r. r >>= (λ rest. Ok (identity ∷ rest)))
    (same_identities (a ++ identity.tokens) (b ++ identity.tokens) (same_append a b identity.tokens keys) (row + 1) ds))
