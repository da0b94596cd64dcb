-- What is found in a setup.
use Rattle.std.proofs.Common.{◌≡◌, ℕ, Bool, true, false, cond, List, [], ◌∷◌, Option, Some, refl, sym, ◌∙◌, subst, is_some}
use Rattle.std.specs.Cmp.Lexicographic.{bytes_decides}
use Rattle.std.specs.List.{find, position}
use Rattle.std.specs.Prelude.{option_map}
use Rattle.std.specs.Str.{bytes_eq}
use Rattle.std.proofs.lemmas.List.Quantifiers.{position-Some}
use Rattle.gt_setup.specs.Setup.{Setup, collection_of, has_identity, identity_of, is_identity}
use Rattle.gt_setup.specs.declared.parts.Collection.{Collection}
use Rattle.gt_setup.specs.declared.parts.Identity.{Identity}
use Rattle.gt_types.specs.declared.rule.Who.{Who}

same_bytes : (a : List ℕ) → bytes_eq a a ≡ true
same_bytes a = (bytes_decides a a).1 refl

some_at : (x : Identity) (xs : List Identity) (b : Bool) (q : Identity → Bool) → is_some (option_map (λ (i : Identity). i.who) (find q xs)) ≡ true
    → is_some (option_map (λ (i : Identity). i.who) (cond b (Some x) (find q xs))) ≡ true
some_at x xs true q h = refl
some_at x xs false q h = h

-- the identity that carries this caller is found again by its identifier
abbrev IsKnown : List Identity → Who → Type 0
IsKnown xs who = is_some (option_map (λ (i : Identity). i.who) (find (is_identity who.identity) xs)) ≡ true

known_at : (x : Identity) (xs : List Identity) (who : Who) (b : Bool) (found : Option Identity) → (option_map (λ (i : Identity). i.who) found ≡ Some who → IsKnown xs who)
    → option_map (λ (i : Identity). i.who) (cond b (Some x) found) ≡ Some who → IsKnown (x ∷ xs) who
known_at x xs who true found rest e =
    let same : x.who ≡ who = cc e in
    let here : is_identity who.identity x ≡ true = subst (λ (w : Who). bytes_eq x.who.identity w.identity ≡ true) same (same_bytes x.who.identity) in
    rw here
known_at x xs who false found rest e = some_at x xs (is_identity who.identity x) (is_identity who.identity) (rest e)

known_from : (p : Identity → Bool) (xs : List Identity) (who : Who) → option_map (λ (i : Identity). i.who) (find p xs) ≡ Some who → IsKnown xs who
known_from p [] who e = absurd (cc e)
known_from p (x ∷ xs) who e = known_at x xs who (p x) (find p xs) (known_from p xs who) e

-- a token's identity is one of the setup
pub caller_is_known : (setup : Setup) (token : List ℕ) (who : Who) → identity_of setup token ≡ Some who → has_identity setup who.identity ≡ true
caller_is_known setup token who e = known_from _ setup.identities who e

same_id : (xs : List Collection) (a b : List ℕ) (n : ℕ) → position (λ c. bytes_eq c.id a) xs ≡ Some n → position (λ c. bytes_eq c.id b) xs ≡ Some n → bytes_eq a b ≡ true
same_id [] a b n e f = absurd (cc e)
same_id (c ∷ cs) a b n e f =
    let first = position-Some (λ (x : Collection). bytes_eq x.id a) (c ∷ cs) n c e in
    let second = position-Some (λ (x : Collection). bytes_eq x.id b) (c ∷ cs) n c f in
    let left = (bytes_decides _ a).0 first.1 in
    let right = (bytes_decides _ b).0 second.1 in
    (bytes_decides a b).1 (sym left ∙ right)

-- collections of one number have one identifier
pub one_collection : (setup : Setup) (a b : List ℕ) (n : ℕ) → collection_of setup a ≡ Some n → collection_of setup b ≡ Some n → bytes_eq a b ≡ true
one_collection setup a b n e f = same_id setup.collections a b n e f
