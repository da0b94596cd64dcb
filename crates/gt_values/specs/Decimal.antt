-- Numbers in decimal digits.
use Rattle.std.specs.Fmt.{decimal}
use Rattle.std.specs.Prelude.{List, None, Option, Some, if◌then◌else◌, nat_le, ℕ, ◌&&◌}
use Rattle.std.specs.Str.{bytes_eq}
use Rattle.std.specs.Str.Parse.{digits_value}

-- the number that is printed as this text, without a sign or a needless zero, if it is at most this one
unfoldable pub number_in : ℕ → List ℕ → Option ℕ
number_in most text =
    let number = digits_value 10 text in
    if nat_le number most && bytes_eq (decimal number) text then Some number else None
