-- Bytes that are UTF-8, and the table that they are; arrays of tables.
use Rattle.std.proofs.Common.{◌≡◌, ℕ, List, [], ◌∷◌, Bool, true, false, cond, Some, None, ap, length, refl, suc}
use Rattle.std.specs.Str.{is_utf8, IsUtf8}
use Rattle.std.proofs.lemmas.Str.{IsUtf8-from_is_utf8, is_utf8-from_IsUtf8}
use Rattle.std.specs.Prelude.{Option, option_map}
use Rattle.std.specs.Result.{result_map_both}
use Rattle.toml.specs.Data.{Data, Members}
use Rattle.toml.specs.Parse.{parse_document}
use Rattle.toml.specs.View.{items_view}
use Rattle.toml.specs.declared.value.Value.{Value}
use Rattle.gt_setup.specs.Grammar.{judged, table_of}
use Rattle.gt_setup.specs.Value.{count}

pub table_of-read : (bytes : List ℕ) (t : Members) → IsUtf8 bytes → parse_document bytes ≡ Some t → table_of bytes ≡ Some t
table_of-read bytes t u e = rw (is_utf8-from_IsUtf8 bytes u) e

refused_at : (bytes : List ℕ) (b : Bool) → is_utf8 bytes ≡ b → (IsUtf8 bytes → parse_document bytes ≡ None) → cond b (parse_document bytes) None ≡ None
refused_at bytes true e h = h (IsUtf8-from_is_utf8 bytes e)
refused_at bytes false e h = refl

pub table_of-refused : (bytes : List ℕ) → (IsUtf8 bytes → parse_document bytes ≡ None) → table_of bytes ≡ None
table_of-refused bytes h = refused_at bytes _ refl h

-- how many items a list of values has
pub count_view : (vs : List Value) → count (items_view vs) ≡ length vs
count_view [] = refl
count_view (v ∷ vs) = ap suc (count_view vs)

-- a key's list of values, and its list of items
pub judged_view : (key : List ℕ) (row : ℕ) (o : Option Data) (meant : Option (List Value))
    → judged key row o (option_map items_view meant) ≡ result_map_both items_view (λ f. f) (judged key row o meant)
judged_view key row None meant = refl
judged_view key row (Some d) None = refl
judged_view key row (Some d) (Some vs) = refl
