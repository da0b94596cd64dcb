-- What one value of a document stands for.
use Rattle.std.specs.Option.{option_and_then}
use Rattle.std.specs.Prelude.{Bool, List, None, Option, Some, if◌then◌else◌, length, nat_le, ℕ, ◌&&◌}
use Rattle.std.specs.Result.{result_ok}
use Rattle.std.specs.Str.{chars}
use Rattle.serde_json.specs.Data.{Data}
use Rattle.serde_json.specs.Find.{as_number, as_str, as_u64}
use Rattle.gt_paths.specs.Path.{PathValue}
use Rattle.gt_paths.specs.PathText.{read_path}
use Rattle.gt_values.specs.IdText as ids
use Rattle.gt_values.specs.Moment as moments
use Rattle.gt_documents.specs.declared.values.TextLimit.{TextLimit}
use Rattle.gt_documents.specs.declared.values.TextLimit.TheVariants.{Bytes, Characters}

-- whether the text is as long as the limit says
abbrev pub fits : TextLimit → List ℕ → Bool
fits (Characters most) text = nat_le (length (chars text)) most
fits (Bytes least most) text = nat_le least (length text) && nat_le (length text) most

abbrev pub text_within : TextLimit → List ℕ → Option (List ℕ)
text_within limit text = if fits limit text then Some text else None

-- a text within its limit
unfoldable pub text_of : TextLimit → Data → Option (List ℕ)
text_of limit d = option_and_then (text_within limit) (as_str d)

-- an identifier, by its text
unfoldable pub id_of : Data → Option (List ℕ)
id_of d = option_and_then ids.id_of (as_str d)

-- a moment, by its text
unfoldable pub moment_of : Data → Option ℕ
moment_of d = option_and_then moments.moment_of (as_str d)

-- a path, by its text, where `~` is the home folder
unfoldable pub path_of : PathValue → Data → Option PathValue
path_of home d = option_and_then (λ text. result_ok (read_path home text)) (as_str d)

abbrev pub number_between : ℕ → ℕ → ℕ → Option ℕ
number_between least most n = if nat_le least n && nat_le n most then Some n else None

-- a whole number in a range, written without sign, fraction and exponent
unfoldable pub number_of : ℕ → ℕ → Data → Option ℕ
number_of least most d = option_and_then (number_between least most) (option_and_then as_u64 (as_number d))
