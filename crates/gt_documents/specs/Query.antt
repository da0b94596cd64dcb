-- The pairs of a query, and the page that it asks for.
use Rattle.std.specs.Prelude.{Bool, List, None, Option, Result, Some, [], codes, if◌then◌else◌, nat_le, ok_or, option_and_then, option_map, ℕ, ◌&&◌, ◌-◌, ◌^◌, ◌∷◌}
use Rattle.std.specs.Str.{bytes_eq}
use Rattle.std.specs.Str.Lossy.{utf8_lossy}
use Rattle.form_urlencoded.specs.Form.{decode, raw_pairs}
use Rattle.gt_values.specs.Decimal.{number_in}
use Rattle.gt_documents.specs.Place.{Place, query_place}
use Rattle.gt_documents.specs.declared.query.Page.{Page}

-- the text that a name or a value of a query stands for
abbrev pub decoded : List ℕ → List ℕ
decoded raw = utf8_lossy (decode raw)

-- whether the pair has this name
abbrev pub is_named : List ℕ → List ℕ × List ℕ → Bool
is_named name pair = bytes_eq (decoded pair.0) name

-- the value of the first pair of this name
abbrev pub find_value : List ℕ → List (List ℕ × List ℕ) → Option (List ℕ)
find_value name [] = None
find_value name (pair ∷ pairs) = if is_named name pair then Some (decoded pair.1) else find_value name pairs

abbrev pub value_at : List ℕ → List ℕ → Option (List ℕ)
value_at name query = find_value name (raw_pairs query)

-- a number of 8 bytes
abbrev pub number_of : List ℕ → Option ℕ
number_of text = number_in (2 ^ 64 - 1) text

abbrev pub as_limit : ℕ → Option ℕ
as_limit n = if nat_le 1 n && nat_le n 1000 then Some n else None

-- 1 to 1,000, and 100 where it is absent
abbrev pub limit_of : Option (List ℕ) → Option ℕ
limit_of None = Some 100
limit_of (Some text) = option_and_then as_limit (number_of text)

-- any number, and 0 where it is absent
abbrev pub offset_of : Option (List ℕ) → Option ℕ
offset_of None = Some 0
offset_of (Some text) = number_of text

-- the page, if both its numbers are good
abbrev pub page_of : Option (List ℕ) → Option (List ℕ) → Option Page
page_of limit offset = option_and_then (λ l. option_map (λ o. record { limit = l; offset = o }) (offset_of offset)) (limit_of limit)

-- the page that a query asks for
unfoldable pub page_at : List ℕ → Result Page Place
page_at query = ok_or (page_of (value_at (codes "limit") query) (value_at (codes "offset") query)) query_place
