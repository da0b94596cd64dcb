-- Where in a head the bytes read so far end, and when they are worth a parse.
use Rattle.gt_http.specs.declared.place.Place.{Place}
use Rattle.gt_http.specs.declared.place.Place.TheVariants.{Blank, Fields, StartLine}
use Rattle.std.specs.List.{ends_with}
use Rattle.std.specs.Prelude.{Bool, List, [], false, if◌then◌else◌, nat_eq, not, ℕ, ◌&&◌, ◌+◌, ◌==◌, ◌||◌, ◌∷◌}

-- CR or LF
abbrev pub is_line_byte : ℕ → Bool
is_line_byte b = (b == 13) || (b == 10)

-- the last line is empty
abbrev pub ends_in_empty_line : List ℕ → Bool
ends_in_empty_line bytes = ends_with nat_eq bytes (10 ∷ 10 ∷ []) || ends_with nat_eq bytes (10 ∷ 13 ∷ 10 ∷ [])

-- where the bytes end after one more
abbrev pub place_after : Place → ℕ → Place
place_after Blank b = if is_line_byte b then Blank else StartLine
place_after StartLine b = if b == 10 then Fields else StartLine
place_after Fields b = Fields

-- the bytes, of which the last is `b`, may be a head, or show that they never become one
abbrev pub is_due : Place → ℕ → List ℕ → Bool
is_due Blank b bytes = not (is_line_byte b)
is_due StartLine b bytes = b == 10
is_due Fields b bytes = (b == 10) && ends_in_empty_line bytes

-- the byte ends a line of a field, or the empty line behind them
abbrev pub ends_field : Place → ℕ → Bool
ends_field Blank b = false
ends_field StartLine b = false
ends_field Fields b = b == 10

-- how many lines end behind the start line, where the bytes before end at this place
abbrev pub field_lines : Place → List ℕ → ℕ
field_lines place [] = 0
field_lines place (b ∷ bytes) =
    (if ends_field place b then 1 else 0) + field_lines (place_after place b) bytes
