-- Which entries of a folder the filter rules leave in.
use Rattle.gt_select.specs.Pattern.{matches}
use Rattle.gt_types.specs.Listing.{kind_in, same_kind}
use Rattle.gt_types.specs.declared.listing.Entry.{Entry}
use Rattle.gt_types.specs.declared.listing.Kind.{Kind}
use Rattle.gt_types.specs.declared.spec.FilterRule.{FilterRule}
use Rattle.std.specs.Option.{option_map_or}
use Rattle.std.specs.Prelude.{Bool, List, None, Option, Some, filter, find, not, position, true, ℕ, ◌&&◌}
use Rattle.std.specs.Str.{chars}

-- a rule without a kind is about both
abbrev pub is_of_kind : Kind → Option Kind → Bool
is_of_kind kind None = true
is_of_kind kind (Some k) = same_kind k kind

-- whether the rule is about an entry of this name and kind
abbrev pub is_about : List ℕ → Kind → FilterRule → Bool
is_about name kind rule = is_of_kind kind rule.kind && matches (chars rule.pattern) (chars name)

-- the place of the first rule that is about the entry
abbrev pub first_rule_of : List FilterRule → List ℕ → Kind → Option ℕ
first_rule_of rules name kind = position (is_about name kind) rules

-- whether the first rule about the entry includes it, or there is none
abbrev pub is_chosen : List FilterRule → List ℕ → Kind → Bool
is_chosen rules name kind = option_map_or (λ rule. rule.include) (find (is_about name kind) rules) true

-- the entries that are chosen
abbrev pub chosen_of : List FilterRule → List Entry → List Entry
chosen_of rules entries = filter (λ entry. is_chosen rules entry.name entry.kind) entries

-- whether the source lacks the entry of the destination, or has it in another kind that is chosen
abbrev pub is_extra : List FilterRule → List Entry → Entry → Bool
is_extra rules source there =
    option_map_or (λ kind. not (same_kind kind there.kind) && is_chosen rules there.name kind) (kind_in source there.name) true

-- the entries of the destination that are extra
abbrev pub extras_of : List FilterRule → List Entry → List Entry → List Entry
extras_of rules source destination = filter (is_extra rules source) destination
