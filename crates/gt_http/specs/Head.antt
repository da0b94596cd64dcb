-- What the head of a request says (RFC 9112): its limits, and its fields by their names.
use Rattle.httparse.specs.Grammar.{RequestHead}
use Rattle.httparse.specs.Spans.{name_and_value}
use Rattle.std.specs.List.{list_any, starts_with}
use Rattle.std.specs.Option.{option_map_or}
use Rattle.std.specs.Prelude.{Bool, List, None, Option, Some, codes, count_by, drop, if◌then◌else◌, length, map, nat_eq, nat_le, option_and_then, ℕ, ◌&&◌, ◌==◌, ◌||◌, [], ◌∷◌}
use Rattle.std.specs.Str.{all_ascii_digits, is_utf8, str_eq_ignore_ascii_case}
use Rattle.std.specs.Str.Parse.{digits_value}

-- the bytes of a head, at most
abbrev pub most_head_bytes : ℕ
most_head_bytes = 16_384

-- the fields of a head, at most
abbrev pub most_fields : ℕ
most_fields = 64

-- the bytes of a body, at most
abbrev pub most_body_bytes : ℕ
most_body_bytes = 4_194_304

-- names and values of fields, in order
abbrev pub Fields : Type 0
Fields = List (List ℕ × List ℕ)

-- those of a head; a value is without the blanks round it
abbrev pub fields_of : RequestHead → Fields
fields_of h = map name_and_value h.fields

-- the field has the name, in any case
abbrev pub is_named : List ℕ → List ℕ × List ℕ → Bool
is_named name field = str_eq_ignore_ascii_case field.0 name

-- how many fields have the name
abbrev pub count_named : List ℕ → Fields → ℕ
count_named name fields = count_by (is_named name) fields

-- the value of the first field that has the name
abbrev pub value_of : List ℕ → Fields → Option (List ℕ)
value_of name [] = None
value_of name (field ∷ fields) = if is_named name field then Some field.1 else value_of name fields

-- a length is 1 to 19 decimal digits
unfoldable pub number_of : List ℕ → Option ℕ
number_of value =
    if nat_le 1 (length value) && (nat_le (length value) 19 && all_ascii_digits value)
    then Some (digits_value 10 value) else None

-- the length of the body: 0 where no field names it, and none where the field's value is no length
abbrev pub body_length : Fields → Option ℕ
body_length fields = option_map_or number_of (value_of (codes "Content-Length") fields) (Some 0)

-- no coding of the body, and no second length or authorization
abbrev pub is_plain : Fields → Bool
is_plain fields =
    (count_named (codes "Transfer-Encoding") fields == 0)
    && (nat_le (count_named (codes "Content-Length") fields) 1
    && nat_le (count_named (codes "Authorization") fields) 1)

-- Where the body of a request ends: its length, or none where the framing is bad.
unfoldable pub framing_of : Fields → Option ℕ
framing_of fields = if is_plain fields then body_length fields else None

-- what follows `Bearer `, where that is a text
unfoldable pub bearer_of : List ℕ → Option (List ℕ)
bearer_of value =
    if starts_with nat_eq value (codes "Bearer ") && is_utf8 (drop 7 value) then Some (drop 7 value) else None

-- the token of the caller
abbrev pub token_of : Fields → Option (List ℕ)
token_of fields = option_and_then bearer_of (value_of (codes "Authorization") fields)

-- a `Connection` field whose value is `close`, in any case
abbrev pub says_close : List ℕ × List ℕ → Bool
says_close field = is_named (codes "Connection") field && str_eq_ignore_ascii_case field.1 (codes "close")

-- the connection is to be closed after the reply: in version 1.0, and where a field says so
unfoldable pub close_of : ℕ → Fields → Bool
close_of minor fields = (minor == 0) || list_any says_close fields
