-- Specifications are read as they are written.
use Rattle.std.proofs.Common.{◌≡◌, ℕ, zero, suc, ◌+◌, ◌*◌, ◌<◌, ◌%◌, ◌/◌, ◌^◌, Bool, true, false, ◌&&◌, eqb, ltb, leb, List, ◌++◌, length, Option, Some, None, refl, sym, ap, subst, append_assoc, arith}
use Rattle.std.specs.Int.{w32}
use Rattle.std.proofs.lemmas.Bool.{and_from, and_parts, leb-true, ltb-true}
use Rattle.gt_paths.specs.Path.{is_path}
use Rattle.gt_records.specs.declared.spec.Flags.{Flags}
use Rattle.gt_records.specs.Fields.{boolean_code, boolean_text, byte_text, list_text, moment_text, number_text, option_text, path_text, principal_text, string_text}
use Rattle.gt_records.specs.Reading.{byte_at, coded_at, mapped, number_at, ◌⊗◌}
use Rattle.gt_records.specs.ReadingFields.{list_at, moment_at, option_at, string_at}
use Rattle.gt_records.specs.ReadingSpecs.{SpecFields, access_spec_at, entry_at, filter_rule_at, flags_of, kept_at, kind_of, recursive_of, spec_of, transfer_spec_at}
use Rattle.gt_records.specs.RecordText.{access_spec_text, entry_text, filter_rule_text, flags_code, kept_text, kind_code, recursive_code, transfer_spec_text}
use Rattle.gt_records.proofs.FieldLaws.{boolean_reads, list_reads, moment_reads, option_reads, path_reads, principal_reads, string_reads, u32_reads}
use Rattle.gt_records.proofs.Laws.{Reads, Reads-as, Reads-both, Reads-checked, Reads-coded, Reads-mapped, byte_reads, guard_some, some_is}
use Rattle.gt_records.proofs.LimitLaws.{if_there-map, is_list, is_string, label_is_string, list_all-map, pattern_is_string, same_answer, short_list}
use Rattle.gt_records.proofs.SpecParts.{spec_parts}
use Rattle.gt_types.specs.declared.listing.Kind.{Kind}
use Rattle.gt_types.specs.declared.listing.Kind.TheVariants.{File, Folder}
use Rattle.gt_types.specs.declared.rule.AccessSpec.{AccessSpec}
use Rattle.gt_types.specs.declared.spec.FilterRule.{FilterRule}
use Rattle.gt_types.specs.declared.spec.TransferEntry.{TransferEntry}
use Rattle.gt_types.specs.declared.spec.TransferSpec.{TransferSpec}
use Rattle.gt_types.specs.Forms.{is_label, is_pattern, is_principal}
use Rattle.gt_types.specs.SpecForms.{is_access_spec, is_transfer_entry, is_transfer_spec}
use Rattle.gt_values.specs.Forms.{if_there, is_moment}

kind_back : (k : Option Kind) → kind_of (kind_code k) ≡ Some k
kind_back None = refl
kind_back (Some File) = refl
kind_back (Some Folder) = refl

kind_forth : (n : ℕ) (k : Option Kind) → kind_of n ≡ Some k → n ≡ kind_code k
kind_forth zero k e = ap kind_code (some_is None k e)
kind_forth (suc zero) k e = ap kind_code (some_is (Some File) k e)
kind_forth (suc (suc zero)) k e = ap kind_code (some_is (Some Folder) k e)
kind_forth (suc (suc (suc n))) k e = absurd cc

kind_reads : Reads (coded_at kind_of) (λ k. byte_text (kind_code k)) (λ _. true)
kind_reads = Reads-coded kind_code kind_of kind_back kind_forth

recursive_back : (r : Option Bool) → recursive_of (recursive_code r) ≡ Some r
recursive_back None = refl
recursive_back (Some false) = refl
recursive_back (Some true) = refl

recursive_forth : (n : ℕ) (r : Option Bool) → recursive_of n ≡ Some r → n ≡ recursive_code r
recursive_forth zero r e = ap recursive_code (some_is None r e)
recursive_forth (suc zero) r e = ap recursive_code (some_is (Some false) r e)
recursive_forth (suc (suc zero)) r e = ap recursive_code (some_is (Some true) r e)
recursive_forth (suc (suc (suc n))) r e = absurd cc

recursive_reads : Reads (coded_at recursive_of) (λ r. byte_text (recursive_code r)) (λ _. true)
recursive_reads = Reads-coded recursive_code recursive_of recursive_back recursive_forth

-- ---- flags

abbrev code_of : Flags → ℕ
code_of f = flags_code f.verify f.preserve f.extra f.skip_source

flags_back_at : (v p e s : Bool) → flags_of (flags_code v p e s) ≡ Some (record { verify = v; preserve = p; extra = e; skip_source = s })
flags_back_at true true true true = refl
flags_back_at true true true false = refl
flags_back_at true true false true = refl
flags_back_at true true false false = refl
flags_back_at true false true true = refl
flags_back_at true false true false = refl
flags_back_at true false false true = refl
flags_back_at true false false false = refl
flags_back_at false true true true = refl
flags_back_at false true true false = refl
flags_back_at false true false true = refl
flags_back_at false true false false = refl
flags_back_at false false true true = refl
flags_back_at false false true false = refl
flags_back_at false false false true = refl
flags_back_at false false false false = refl

flags_back : (f : Flags) → flags_of (code_of f) ≡ Some f
flags_back f = flags_back_at f.verify f.preserve f.extra f.skip_source

bit : (m : ℕ) → m < 2 → boolean_code (eqb m 1) ≡ m
bit zero lt = refl
bit (suc zero) lt = refl
bit (suc (suc m)) lt = absurd (omega arith)

flags_forth : (n : ℕ) (f : Flags) → flags_of n ≡ Some f → n ≡ code_of f
flags_forth n f e =
    let read : Flags = record { verify = eqb (n % 2) 1; preserve = eqb (n / 2 % 2) 1; extra = eqb (n / 4 % 2) 1; skip_source = eqb (n / 8) 1 } in
    let g = guard_some (ltb n 16) read f e in
    let small : n < 16 = ltb-true n 16 g.0 in
    let b0 = bit (n % 2) (omega arith) in
    let b1 = bit (n / 2 % 2) (omega arith) in
    let b2 = bit (n / 4 % 2) (omega arith) in
    let b3 = bit (n / 8) (omega arith) in
    let sum : n ≡ n % 2 + 2 * (n / 2 % 2) + 4 * (n / 4 % 2) + 8 * (n / 8) = omega arith in
    let is : n ≡ code_of read = rw (b0, b1, b2, b3) sum in
    subst (λ (w : Flags). n ≡ code_of w) g.1 is

flags_reads : Reads (coded_at flags_of) (λ f. byte_text (code_of f)) (λ _. true)
flags_reads = Reads-coded code_of flags_of flags_back flags_forth

-- ---- rules and entries

kept_reads : Reads kept_at kept_text (λ _. true)
unfolding kept_at
kept_reads =
    Reads-mapped (λ p. record { given = p.0; set = p.1 }) (λ k. (k.given, k.set)) (λ _. true)
    (λ a h. (refl, refl)) (λ b h. (refl, refl)) (Reads-both byte_reads byte_reads)

abbrev is_rule_form : FilterRule → Bool
is_rule_form rule = is_string rule.pattern

filter_rule_reads : Reads filter_rule_at filter_rule_text is_rule_form
unfolding filter_rule_at
filter_rule_reads =
    Reads-as filter_rule_text is_rule_form (λ r. simp append_assoc) (λ _. refl)
    (Reads-mapped (λ p. record { include = p.0; kind = p.1.0; pattern = p.1.1 }) (λ r. (r.include, (r.kind, r.pattern))) is_rule_form
    (λ a h. (refl, h)) (λ b h. (refl, h))
    (Reads-both boolean_reads (Reads-both kind_reads string_reads)))

abbrev is_entry_form : TransferEntry → Bool
is_entry_form entry = is_path entry.source && (is_path entry.destination && true)

entry_reads : Reads entry_at entry_text is_entry_form
unfolding entry_at
entry_reads =
    Reads-as entry_text is_entry_form
    (λ e. sym (append_assoc (path_text e.source) (path_text e.destination) (byte_text (recursive_code e.recursive)))) (λ _. refl)
    (Reads-mapped (λ p. record { source = p.0; destination = p.1.0; recursive = p.1.1 }) (λ e. (e.source, (e.destination, e.recursive))) is_entry_form
    (λ a h. (refl, h)) (λ b h. (refl, h))
    (Reads-both path_reads (Reads-both path_reads recursive_reads)))

-- ---- transfer specifications

abbrev flags_in : TransferSpec → Flags
flags_in s = record { verify = s.verify; preserve = s.preserve; extra = s.extra; skip_source = s.skip_source }

abbrev parts_of : TransferSpec → SpecFields
parts_of s = (s.source, (s.destination, (s.label, (s.deadline, (s.level, (flags_in s, (s.kept, (s.rules, s.entries))))))))

-- the forms of the fields
abbrev has_forms : TransferSpec → Bool
has_forms s =
    ltb s.source (2 ^ 32) && (ltb s.destination (2 ^ 32) && (if_there is_string s.label && (if_there is_moment s.deadline
    && (if_there (λ _. true) s.level && (true && (true && (is_list is_rule_form s.rules && is_list is_entry_form s.entries)))))))

-- nine texts one after the other
in_a_row : (a b c d e f g h i : List ℕ) → a ++ b ++ c ++ d ++ e ++ f ++ g ++ h ++ i ≡ a ++ (b ++ (c ++ (d ++ (e ++ (f ++ (g ++ (h ++ i)))))))
in_a_row a b c d e f g h i = simp append_assoc

same_text : (s : TransferSpec) → number_text w32 s.source ++ (number_text w32 s.destination ++ (option_text string_text s.label
    ++ (option_text moment_text s.deadline ++ (option_text byte_text s.level ++ (byte_text (code_of (flags_in s)) ++ (kept_text s.kept
    ++ (list_text filter_rule_text s.rules ++ list_text entry_text s.entries))))))) ≡ transfer_spec_text s
same_text s = sym (in_a_row (number_text w32 s.source) (number_text w32 s.destination) (option_text string_text s.label) (option_text moment_text s.deadline)
    (option_text byte_text s.level) (byte_text (code_of (flags_in s))) (kept_text s.kept) (list_text filter_rule_text s.rules) (list_text entry_text s.entries))

spec_reads : Reads (mapped spec_of (number_at w32 ⊗ number_at w32 ⊗ option_at string_at ⊗ option_at moment_at ⊗ option_at byte_at
    ⊗ coded_at flags_of ⊗ kept_at ⊗ list_at filter_rule_at ⊗ list_at entry_at)) transfer_spec_text has_forms
spec_reads =
    Reads-as transfer_spec_text has_forms same_text (λ _. refl)
    (Reads-mapped spec_of parts_of has_forms (λ a h. (refl, h)) (λ b h. (refl, h))
    (Reads-both u32_reads (Reads-both u32_reads (Reads-both (option_reads string_reads) (Reads-both (option_reads moment_reads)
    (Reads-both (option_reads byte_reads) (Reads-both flags_reads (Reads-both kept_reads (Reads-both (list_reads filter_rule_reads) (list_reads entry_reads))))))))))

-- a specification whose collections four bytes hold
abbrev pub is_spec : TransferSpec → Bool
is_spec s = ltb s.source (2 ^ 32) && (ltb s.destination (2 ^ 32) && is_transfer_spec s)

entry_form : (s : TransferSpec) (entry : TransferEntry) → is_transfer_entry (eqb s.source s.destination) entry ≡ true → is_entry_form entry ≡ true
entry_form s entry h =
    let a = and_parts (is_path entry.source && is_path entry.destination) _ h in
    let b = and_parts (is_path entry.source) (is_path entry.destination) a.0 in
    and_from _ _ b.0 (and_from _ _ b.1 refl)

within_limits : (s : TransferSpec) → (has_forms s && is_transfer_spec s) ≡ true → is_spec s ≡ true
within_limits s h =
    let both = and_parts (has_forms s) (is_transfer_spec s) h in
    let f0 = and_parts (ltb s.source (2 ^ 32)) _ both.0 in
    let f1 = and_parts (ltb s.destination (2 ^ 32)) _ f0.1 in
    and_from _ _ f0.0 (and_from _ _ f1.0 both.1)

within_forms : (s : TransferSpec) → is_spec s ≡ true → (has_forms s && is_transfer_spec s) ≡ true
within_forms s h =
    let w0 = and_parts (ltb s.source (2 ^ 32)) (ltb s.destination (2 ^ 32) && is_transfer_spec s) h in
    let w1 = and_parts (ltb s.destination (2 ^ 32)) (is_transfer_spec s) w0.1 in
    let p = spec_parts s w1.1 in
    let test = is_transfer_entry (eqb s.source s.destination) in
    let rules_form = short_list is_rule_form 64 s.rules (omega arith) (leb-true (length s.rules) 64 p.few)
    (list_all-map (λ rule. is_pattern rule.pattern) is_rule_form (λ rule. pattern_is_string rule.pattern) s.rules p.patterns) in
    let entries_form = short_list is_entry_form 10000 s.entries (omega arith) (leb-true (length s.entries) 10000 p.most)
    (list_all-map test is_entry_form (entry_form s) s.entries p.entries) in
    and_from _ _
    (and_from _ _ w0.0 (and_from _ _ w1.0 (and_from _ _ (if_there-map is_label is_string label_is_string s.label p.label) (and_from _ _ p.deadline
    (and_from _ _ (if_there-map (λ level. leb level 3) (λ _. true) (λ _ _. refl) s.level p.level) (and_from _ _ rules_form entries_form))))))
    w1.1

pub transfer_spec_reads : Reads transfer_spec_at transfer_spec_text is_spec
unfolding transfer_spec_at
transfer_spec_reads =
    Reads-as transfer_spec_text is_spec (λ _. refl)
    (λ s. same_answer (has_forms s && is_transfer_spec s) (is_spec s) (within_limits s) (within_forms s))
    (Reads-checked is_transfer_spec spec_reads)

-- ---- access specifications

abbrev is_access_form : AccessSpec → Bool
is_access_form s = is_principal s.principal && (is_path s.path && true)

access_same : (s : AccessSpec) → is_access_form s ≡ is_access_spec s
access_same s = same_answer (is_access_form s) (is_access_spec s)
    (λ h. let a = and_parts (is_principal s.principal) (is_path s.path && true) h in and_from _ _ a.0 (and_parts (is_path s.path) true a.1).0)
    (λ h. let a = and_parts (is_principal s.principal) (is_path s.path) h in and_from _ _ a.0 (and_from _ _ a.1 refl))

pub access_spec_reads : Reads access_spec_at access_spec_text is_access_spec
unfolding access_spec_at
access_spec_reads =
    Reads-as access_spec_text is_access_spec
    (λ s. sym (append_assoc (principal_text s.principal) (path_text s.path) (boolean_text s.write))) access_same
    (Reads-mapped (λ p. record { principal = p.0; path = p.1.0; write = p.1.1 }) (λ s. (s.principal, (s.path, s.write))) is_access_form
    (λ a h. (refl, h)) (λ b h. (refl, h))
    (Reads-both principal_reads (Reads-both path_reads boolean_reads)))
