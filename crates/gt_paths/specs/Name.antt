-- What a name is.
use Rattle.gt_values.specs.Ascii.{full_stop, slash, tilde}
use Rattle.std.specs.List.{list_any}
use Rattle.std.specs.Prelude.{Bool, Contains, List, [], length, nat_le, not, ℕ, ◌&&◌, ◌==◌, ◌||◌, ◌∷◌, ◌≢◌, ◌≤◌, ◌≡◌, true}
use Rattle.std.specs.Str.{bytes_eq, is_utf8}

-- 1 to 255 bytes of text without a slash and the byte 0, and not `.`, `..` or `~`
pub record IsName (name : List ℕ) : Type 0 where
  pub some : 1 ≤ length name
  pub bounded : length name ≤ 255
  pub text : is_utf8 name ≡ true
  pub no_slash : ¬ Contains name slash
  pub no_zero : ¬ Contains name 0
  pub dot : name ≢ full_stop ∷ []
  pub dots : name ≢ full_stop ∷ full_stop ∷ []
  pub home : name ≢ tilde ∷ []

-- whether the name is one of the three that stand for other folders
abbrev pub is_reserved : List ℕ → Bool
is_reserved name =
    bytes_eq name (full_stop ∷ []) || bytes_eq name (full_stop ∷ full_stop ∷ []) || bytes_eq name (tilde ∷ [])

-- whether the byte ends a name
abbrev pub is_separator : ℕ → Bool
is_separator byte = (byte == slash) || (byte == 0)

-- the same as `IsName`, as a test
abbrev pub is_name : List ℕ → Bool
is_name name =
    nat_le 1 (length name) && nat_le (length name) 255 && is_utf8 name
    && not (list_any is_separator name) && not (is_reserved name)
