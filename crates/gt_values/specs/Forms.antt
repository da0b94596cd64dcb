-- Which lists and numbers are values of these types.
use Rattle.std.specs.List.{list_all}
use Rattle.std.specs.Option.{option_map_or}
use Rattle.std.specs.Prelude.{Bool, List, Option, length, nat_le, nat_lt, true, ℕ, ◌&&◌, ◌==◌, ◌^◌}
use Rattle.gt_values.specs.Moment.{last_moment}

-- so many numbers below 256
abbrev pub is_bytes : ℕ → List ℕ → Bool
is_bytes count bytes = (length bytes == count) && list_all (λ byte. nat_lt byte 256) bytes

-- an identifier has 16 bytes
abbrev pub is_id : List ℕ → Bool
is_id = is_bytes 16

-- a digest has 32 bytes
abbrev pub is_digest : List ℕ → Bool
is_digest = is_bytes 32

-- a number of 8 bytes
abbrev pub is_u64 : ℕ → Bool
is_u64 n = nat_lt n (2 ^ 64)

-- a moment lies between 1970 and the end of the year 9999
abbrev pub is_moment : ℕ → Bool
is_moment moment = nat_le moment last_moment

-- the value, if there is one, passes the test
abbrev pub if_there : {X : Type 0} → (X → Bool) → Option X → Bool
if_there test o = option_map_or test o true
