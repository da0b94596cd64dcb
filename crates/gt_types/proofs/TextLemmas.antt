-- A text is in UTF-8, so a limit of texts is a limit of its length.
use Rattle.std.proofs.Common.{Bool, List, refl, true, ℕ, ◌&&◌, ◌≡◌}
use Rattle.std.proofs.lemmas.Str.{is_utf8-from_IsUtf8}
use Rattle.std.specs.Str.{IsUtf8, is_utf8}

after_true : (text rest : Bool) → text ≡ true → rest ≡ (text && rest)
after_true text rest is = rw is refl

pub in_utf8 : (text : List ℕ) (rest : Bool) → IsUtf8 text → rest ≡ (is_utf8 text && rest)
in_utf8 text rest is = after_true (is_utf8 text) rest (is_utf8-from_IsUtf8 text is)

after_both : (text first rest : Bool) → text ≡ true → first ≡ true → rest ≡ (text && first && rest)
after_both text first rest is holds = rw (is, holds) refl

pub in_utf8_and : (text : List ℕ) (first rest : Bool) → IsUtf8 text → first ≡ true → rest ≡ (is_utf8 text && first && rest)
in_utf8_and text first rest is holds = after_both (is_utf8 text) first rest (is_utf8-from_IsUtf8 text is) holds
