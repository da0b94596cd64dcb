use Rattle.std.proofs.Common.{◌≡◌, ◌≤◌, ◌+◌, ◌*◌, true, length, drop}
use Rattle.std.specs.List.{list_all}
use Rattle.gt_paths.specs.Name.{is_name}
use Rattle.gt_paths.specs.Path.{slashed}
use Rattle.gt_paths.proofs.path.parts.bytes_of.Given as goal

-- the names that are left decide
abbrev pub invariant-loop-name : goal.invariant-loop-name
invariant-loop-name l = record {
  small : l.bytes ≤ 256 * l.name-index;
  counted : l.bytes + length (slashed (drop l.name-index l.names)) ≡ length (slashed l.names);
  named : list_all is_name (drop l.name-index l.names) ≡ true → list_all is_name l.names ≡ true;
}
