-- Which files need a copy.
use Rattle.std.specs.Prelude.{Bool, List, None, Option, Some, false, if◌then◌else◌, nat_lt, not, true, ℕ, ◌==◌}
use Rattle.std.specs.Str.{bytes_eq}
use Rattle.gt_types.specs.declared.listing.Stat.{Stat}

-- whether the two digests differ
abbrev pub differ : Option (List ℕ × List ℕ) → Bool
differ None = false
differ (Some d) = not (bytes_eq d.0 d.1)

-- whether a file is copied over the one that is there, by the task's level
abbrev pub is_behind : ℕ → Stat → Stat → Option (List ℕ × List ℕ) → Bool
is_behind level source destination digests =
    if level == 0 then false
    else if level == 1 then not (source.size == destination.size)
    else if level == 2 then nat_lt destination.mtime source.mtime
    else differ digests

-- a copy is needed without a level, where the destination is absent, and by the level
abbrev pub needs_copy : Option ℕ → Stat → Option Stat → Option (List ℕ × List ℕ) → Bool
needs_copy None source destination digests = true
needs_copy (Some level) source None digests = true
needs_copy (Some level) source (Some destination) digests = is_behind level source destination digests
