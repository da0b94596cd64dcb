-- The words of a command, the program's name left out.
use Rattle.std.specs.declared.alloc.Global.{Global}
use Rattle.std.specs.declared.rc.RcStr.{RcStr}
use Rattle.std.specs.Prelude.{Bool, List, [], codes, false, map, not, ◌&&◌, ◌==◌, ◌∷◌, ℕ}
use Rattle.std.specs.Rc.{rc_str_bytes}
use Rattle.std.specs.Str.{bytes_eq}

-- the bytes of each word
abbrev pub texts_of : List (RcStr Global) → List (List ℕ)
texts_of words = map rc_str_bytes words

-- whether a word isn't empty and doesn't begin with `-`
abbrev pub is_plain : List ℕ → Bool
is_plain [] = false
is_plain (first ∷ rest) = not (first == 45)

-- whether the words are `script SETUP`
abbrev pub is_script_form : List (List ℕ) → Bool
is_script_form [] = false
is_script_form (command ∷ []) = false
is_script_form (command ∷ (setup ∷ [])) = bytes_eq command (codes "script") && is_plain setup
is_script_form (command ∷ (setup ∷ (third ∷ rest))) = false
