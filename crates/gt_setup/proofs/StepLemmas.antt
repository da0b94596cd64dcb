-- A step of the loops over items and rows.
use Rattle.std.proofs.Common.{Err, List, None, Ok, Option, Result, Some, [], ap, append_assoc, drop, get_or, length, option_map, refl, sym, ℕ, ◌+◌, ◌++◌, ◌<◌, ◌∙◌, ◌∷◌, ◌≡◌}
use Rattle.std.proofs.lemmas.List.{drop_more}
use Rattle.std.specs.Option.{option_and_then}
use Rattle.toml.specs.Data.{Data, Items, item}
use Rattle.toml.specs.View.{items_view, view}
use Rattle.toml.specs.declared.value.Value.{Value}
use Rattle.gt_setup.specs.Grammar.{identities_from, identity_at}
use Rattle.gt_values.specs.Results.{◌>>=◌}
use Rattle.gt_setup.specs.Value.{digests_in, new_digest_in}
use Rattle.gt_setup.specs.declared.fault.SetupFault.{SetupFault}
use Rattle.gt_setup.specs.declared.parts.Identity.{Identity}
use Rattle.gt_setup.proofs.KeyLemmas.{SameKeys, after_one, behind, same_digests, same_identities}

-- the items from a place on
pub items_drop : (vs : List Value) (at : ℕ) (v : Value) → at < length vs → v ≡ get_or vs at v → items_view (drop at vs) ≡ item (view v) (items_view (drop (at + 1) vs))
items_drop vs at v h is = ap items_view (drop_more vs at v h) ∙ ap (λ x. item (view x) (items_view (drop (at + 1) vs))) (sym is)

moved : {A : Type 0} (found : List A) (x : A) (o : Option (List A))
    → option_map (λ rest. found ++ rest) (option_map (λ rest. x ∷ rest) o) ≡ option_map (λ rest. (found ++ x ∷ []) ++ rest) o
moved found x None = refl
moved found x (Some rest) = ap (λ xs. Some xs) (sym (append_assoc found (x ∷ []) rest))

pub digests_step : (all : Option (List (List ℕ))) (a b found : List (List ℕ)) (d : Data) (rest ds : Items) (digest : List ℕ)
    → all ≡ option_map (λ xs. found ++ xs) (digests_in a rest) → rest ≡ item d ds → new_digest_in a d ≡ Some digest → SameKeys (a ++ digest ∷ []) b
    → all ≡ option_map (λ xs. (found ++ digest ∷ []) ++ xs) (digests_in b ds)
digests_step all a b found d rest ds digest all_is rest_is new keys =
    all_is
    ∙ ap (λ r. option_map (λ xs. found ++ xs) (digests_in a r)) rest_is
    ∙ ap (λ o. option_map (λ xs. found ++ xs) (option_and_then (behind a ds) o)) new
    ∙ ap (λ o. option_map (λ xs. found ++ xs) (option_map (λ xs. digest ∷ xs) o)) (same_digests (a ++ digest ∷ []) b keys ds)
    ∙ moved found digest (digests_in b ds)

pub digests_stop : (all : Option (List (List ℕ))) (a found : List (List ℕ)) (d : Data) (rest ds : Items)
    → all ≡ option_map (λ xs. found ++ xs) (digests_in a rest) → rest ≡ item d ds → new_digest_in a d ≡ None → all ≡ None
digests_stop all a found d rest ds all_is rest_is none =
    all_is
    ∙ ap (λ r. option_map (λ xs. found ++ xs) (digests_in a r)) rest_is
    ∙ ap (λ o. option_map (λ xs. found ++ xs) (option_and_then (behind a ds) o)) none

moved_part : (found : List Identity) (x : Identity) (r : Result (List Identity) SetupFault)
    → ((r >>= (λ rest. Ok (x ∷ rest))) >>= (λ xs. Ok (found ++ xs))) ≡ (r >>= (λ xs. Ok ((found ++ x ∷ []) ++ xs)))
moved_part found x (Ok rest) = ap (λ xs. Ok xs) (sym (append_assoc found (x ∷ []) rest))
moved_part found x (Err fault) = refl

pub identities_step : (all : Result (List Identity) SetupFault) (row : ℕ) (a b : List (List ℕ)) (found : List Identity) (d : Data) (rest ds : Items) (identity : Identity)
    → all ≡ (identities_from row a rest >>= (λ xs. Ok (found ++ xs))) → rest ≡ item d ds → identity_at row a d ≡ Ok identity
    → SameKeys (a ++ identity.tokens) b → all ≡ (identities_from (row + 1) b ds >>= (λ xs. Ok ((found ++ identity ∷ []) ++ xs)))
identities_step all row a b found d rest ds identity all_is rest_is read keys =
    all_is
    ∙ ap (λ r. identities_from row a r >>= (λ xs. Ok (found ++ xs))) rest_is
    ∙ ap (λ r. (r >>= after_one row a ds) >>= (λ xs. Ok (found ++ xs))) read
    ∙ ap (λ r. (r >>= (λ xs. Ok (identity ∷ xs))) >>= (λ xs. Ok (found ++ xs))) (same_identities (a ++ identity.tokens) b keys (row + 1) ds)
    ∙ moved_part found identity (identities_from (row + 1) b ds)

pub identities_stop : (all : Result (List Identity) SetupFault) (row : ℕ) (a : List (List ℕ)) (found : List Identity) (d : Data) (rest ds : Items) (fault : SetupFault)
    → all ≡ (identities_from row a rest >>= (λ xs. Ok (found ++ xs))) → rest ≡ item d ds → identity_at row a d ≡ Err fault → all ≡ Err fault
identities_stop all row a found d rest ds fault all_is rest_is refused =
    all_is
    ∙ ap (λ r. identities_from row a r >>= (λ xs. Ok (found ++ xs))) rest_is
    ∙ ap (λ r. (r >>= after_one row a ds) >>= (λ xs. Ok (found ++ xs))) refused
