-- The limits of the values that a specification holds.
use Rattle.std.specs.List.{list_all}
use Rattle.std.specs.Prelude.{Bool, List, bit_and, length, nat_le, nat_lt, true, ℕ, ◌&&◌, ◌==◌}
use Rattle.std.specs.Str.{chars, is_utf8}
use Rattle.gt_values.specs.Forms.{is_id}
use Rattle.gt_types.specs.declared.kept.Kept.{Kept}
use Rattle.gt_types.specs.declared.rule.Principal.{Principal}
use Rattle.gt_types.specs.declared.rule.Principal.TheVariants.{AllAuthenticated, Anonymous, Group, Identity}

-- a label is a text of at most 128 characters
abbrev pub is_label : List ℕ → Bool
is_label label = is_utf8 label && nat_le (length (chars label)) 128

-- a pause rule's message is a text of at most 1,024 bytes
abbrev pub is_message : List ℕ → Bool
is_message message = is_utf8 message && nat_le (length message) 1024

-- a pattern is a text of 1 to 255 bytes
abbrev pub is_pattern : List ℕ → Bool
is_pattern pattern = is_utf8 pattern && nat_le 1 (length pattern) && nat_le (length pattern) 255

-- six bits, and only bits that were given are set
abbrev pub is_kept : Kept → Bool
is_kept kept = nat_lt kept.given 64 && (bit_and kept.given kept.set == kept.set)

-- a document has 1 to 10,000 entries
abbrev pub is_entry_count : ℕ → Bool
is_entry_count entries = nat_le 1 entries && nat_le entries 10000

-- so many entries, each of which passes the test
abbrev pub is_entries : {X : Type 0} → (X → Bool) → List X → Bool
is_entries test entries = is_entry_count (length entries) && list_all test entries

-- the identifier of a principal that has one
abbrev pub is_principal : Principal → Bool
is_principal (Identity id) = is_id id
is_principal (Group id) = is_id id
is_principal AllAuthenticated = true
is_principal Anonymous = true
