-- The parts of a specification that is within its limits.
use Rattle.std.proofs.Common.{◌≡◌, ℕ, ◌^◌, true, ◌&&◌, eqb, leb, ltb, List, length, arith}
use Rattle.std.specs.List.{list_all}
use Rattle.std.proofs.lemmas.Bool.{and_parts, leb-true}
use Rattle.gt_records.proofs.LimitLaws.{all_true, if_there-map, is_list, label_is_string, short_list}
use Rattle.gt_types.specs.declared.spec.TransferSpec.{TransferSpec}
use Rattle.gt_types.specs.Forms.{is_entries, is_kept, is_label, is_pattern}
use Rattle.gt_types.specs.SpecForms.{is_rules, is_transfer_entry, is_transfer_spec}
use Rattle.gt_values.specs.Forms.{if_there, is_moment}

pub record SpecParts (s : TransferSpec) : Type 0 where
  pub label : if_there is_label s.label ≡ true
  pub deadline : if_there is_moment s.deadline ≡ true
  pub level : if_there (λ level. leb level 3) s.level ≡ true
  pub kept : is_kept s.kept ≡ true
  pub few : leb (length s.rules) 64 ≡ true
  pub patterns : list_all (λ rule. is_pattern rule.pattern) s.rules ≡ true
  pub some : leb 1 (length s.entries) ≡ true
  pub most : leb (length s.entries) 10000 ≡ true
  pub entries : list_all (is_transfer_entry (eqb s.source s.destination)) s.entries ≡ true

pub spec_parts : (s : TransferSpec) → is_transfer_spec s ≡ true → SpecParts s
spec_parts s h =
    let label = if_there is_label s.label in
    let deadline = if_there is_moment s.deadline in
    let level = if_there (λ level. leb level 3) s.level in
    let few = leb (length s.rules) 64 in
    let patterns = list_all (λ rule. is_pattern rule.pattern) s.rules in
    let test = is_transfer_entry (eqb s.source s.destination) in
    let l5 = and_parts (label && deadline && level && is_kept s.kept && is_rules s.rules) (is_entries test s.entries) h in
    let l4 = and_parts (label && deadline && level && is_kept s.kept) (is_rules s.rules) l5.0 in
    let l3 = and_parts (label && deadline && level) (is_kept s.kept) l4.0 in
    let l2 = and_parts (label && deadline) level l3.0 in
    let l1 = and_parts label deadline l2.0 in
    let rules = and_parts few patterns l4.1 in
    let some = leb 1 (length s.entries) in
    let most = leb (length s.entries) 10000 in
    let e1 = and_parts (some && most) (list_all test s.entries) l5.1 in
    let e0 = and_parts some most e1.0 in
    record {
      label = l1.0;
      deadline = l1.1;
      level = l2.1;
      kept = l3.1;
      few = rules.0;
      patterns = rules.1;
      some = e0.0;
      most = e0.1;
      entries = e1.1;
    }

-- the lengths that are written fit their bytes
pub record SpecFits (s : TransferSpec) : Type 0 where
  pub label : if_there (λ text. ltb (length text) (2 ^ 32)) s.label ≡ true
  pub rules : is_list (λ rule. is_pattern rule.pattern) s.rules ≡ true
  pub entries : is_list (λ _. true) s.entries ≡ true

label_fits : (label : List ℕ) → is_label label ≡ true → ltb (length label) (2 ^ 32) ≡ true
label_fits label h = (and_parts (ltb (length label) (2 ^ 32)) _ (label_is_string label h)).0

pub spec_fits : (s : TransferSpec) → is_transfer_spec s ≡ true → SpecFits s
spec_fits s h =
    let p = spec_parts s h in
    record {
      label = if_there-map is_label (λ text. ltb (length text) (2 ^ 32)) label_fits s.label p.label;
      rules = short_list (λ rule. is_pattern rule.pattern) 64 s.rules (omega arith) (leb-true (length s.rules) 64 p.few) p.patterns;
      entries = short_list (λ _. true) 10000 s.entries (omega arith) (leb-true (length s.entries) 10000 p.most) (all_true s.entries);
    }
