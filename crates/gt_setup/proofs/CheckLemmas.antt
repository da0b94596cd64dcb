-- A step of the search for an identifier that stands twice.
use Rattle.std.proofs.Common.{◌≡◌, ◌<◌, ◌+◌, ℕ, List, Some, true, false, drop, get_or, length, refl, take}
use Rattle.std.proofs.lemmas.List.{drop_more, take_more}
use Rattle.std.specs.List.{list_any}
use Rattle.std.specs.Str.{bytes_eq}
use Rattle.gt_setup.specs.Grammar.{repeated_among}

pub repeated_more : (ids : List (List ℕ)) (at : ℕ) (id : List ℕ) → at < length ids → id ≡ get_or ids at id
    → list_any (λ other. bytes_eq other id) (take at ids) ≡ false
    → repeated_among (take at ids) (drop at ids) ≡ repeated_among (take (at + 1) ids) (drop (at + 1) ids)
repeated_more ids at id h is none = rw (drop_more ids at id h, take_more ids at id h, ← is, none) refl

pub repeated_here : (ids : List (List ℕ)) (at : ℕ) (id : List ℕ) → at < length ids → id ≡ get_or ids at id
    → list_any (λ other. bytes_eq other id) (take at ids) ≡ true
    → repeated_among (take at ids) (drop at ids) ≡ Some id
repeated_here ids at id h is found = rw (drop_more ids at id h, ← is, found) refl
