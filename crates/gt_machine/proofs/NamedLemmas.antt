-- What is found by an identifier stands in the tables; and an identifier names the number of which it is made.
use Rattle.std.proofs.Common.{◌≡◌, ◌<◌, ℕ, zero, suc, ◌+◌, ◌*◌, ◌^◌, ◌/◌, ◌%◌, List, [], ◌∷◌, ◌++◌, ◌∙◌, length, take, drop, All, Bool, true, false, Some, None, refl, sym, ap, subst, arith, rules, get_or}
use Rattle.std.specs.Int.{byte_at, from_be_bytes, to_be_bytes, w64}
use Rattle.std.specs.List.{list_all}
use Rattle.std.specs.Prelude.{if◌then◌else◌, nat_lt, option_and_then, slice_get, ◌==◌}
use Rattle.std.specs.Str.{bytes_eq}
use Rattle.std.proofs.lemmas.List.{length-drop, take-append-drop}
use Rattle.std.proofs.lemmas.List.Elements.{All-drop}
use Rattle.std.proofs.lemmas.List.Sums.{AllPass-from_list_all, list_all-from_AllPass}
use Rattle.std.proofs.lemmas.Nat.{from_be_bytes-to_be_bytes_8}
use Rattle.std.proofs.lemmas.Option.{slice_get_within, slice_get-get_or}
use lib.Pointwise.{bytes_decides}
use Rattle.gt_access.specs.Rule.{is_live_rule, live_access}
use Rattle.gt_access.specs.declared.row.AccessRow.{AccessRow}
use Rattle.gt_machine.specs.MachineState.{MachineState, task_at}
use Rattle.gt_machine.specs.Named.{made_front, number_named, rule_named, task_named}
use Rattle.gt_machine.specs.RuleSteps.{only_if}
use Rattle.gt_machine.proofs.Effects.{and_then_is, first_holds, only_if_is, second_holds}
use Rattle.gt_machine.proofs.OneLive.{found_at}
use Rattle.gt_setup.specs.Setup.{Setup}
use Rattle.gt_tasks.specs.declared.row.TaskRow.{TaskRow}
use Rattle.gt_values.specs.Forms.{is_id}
use Rattle.gt_values.specs.Ident.{bytes_of, made_id}
use Rattle.gt_values.specs.Rows.{row_at}

-- what holds of each row holds of one that stands in the list
pub all_at : {X : Type 0} (P : X → Type 0) (xs : List X) (i : ℕ) (x : X) → All P xs → slice_get xs i ≡ Some x → P x
all_at {X} P xs i x all at =
    let within = slice_get_within xs i x at in
    let same : get_or xs i x ≡ x = some_same (get_or xs i x) x (sym (slice_get-get_or xs i x within) ∙ at) in
    subst P same (all i x within)
  where
    some_same : (a b : X) → Some a ≡ Some b → a ≡ b
    some_same a b is = cc

-- the place of a row with a number
pub row_place : {X : Type 0} (rows : List X) (number : ℕ) (x : X) → row_at rows number ≡ Some x → (i : ℕ) × (slice_get rows i ≡ Some x)
row_place rows zero x is = absurd (cc)
row_place rows (suc i) x is = (i, is)

-- the row at a place, by its number
pub at_number : {X : Type 0} (rows : List X) (i number : ℕ) (x : X) → number ≡ i + 1 → slice_get rows i ≡ Some x → row_at rows number ≡ Some x
at_number rows i zero x is at = absurd (omega (arith, is))
at_number rows i (suc place) x is at = let same : place ≡ i = omega (arith, is) in ap (slice_get rows) same ∙ at

-- where the caller's task stands
pub task_place : (setup : Setup) (m : MachineState) (identity id : List ℕ) (task : TaskRow) → task_named setup m identity id ≡ Some task
    → (i : ℕ) × (slice_get m.tasks i ≡ Some task) × (bytes_eq task.owner identity ≡ true)
task_place setup m identity id task is =
    let named = and_then_is (λ (t : TaskRow). only_if (bytes_eq t.owner identity) t) (option_and_then (task_at m) (number_named setup.namespace 2 id)) task is in
    let own = only_if_is _ named.0 task named.2 in
    let at = and_then_is (task_at m) (number_named setup.namespace 2 id) named.0 named.1 in
    let place = row_place m.tasks at.0 named.0 at.2 in
    (place.0, place.1 ∙ ap Some own.1, subst (λ (t : TaskRow). bytes_eq t.owner identity ≡ true) own.1 own.0)

-- where the collection's live rule stands
pub record RulePlace (m : MachineState) (collection : ℕ) (row : AccessRow) : Type 0 where
  pub place : ℕ
  pub at : slice_get m.access place ≡ Some row
  pub live : live_access row.number m.access ≡ Some row
  pub own : (row.collection == collection) ≡ true

pub rule_place : (setup : Setup) (m : MachineState) (collection : ℕ) (id : List ℕ) (row : AccessRow) → rule_named setup m collection id ≡ Some row
    → RulePlace m collection row
rule_place setup m collection id row is =
    let named = and_then_is (λ (r : AccessRow). only_if (r.collection == collection) r) (option_and_then (λ number. live_access number m.access) (number_named setup.namespace 3 id)) row is in
    let own = only_if_is _ named.0 row named.2 in
    let at = and_then_is (λ number. live_access number m.access) (number_named setup.namespace 3 id) named.0 named.1 in
    let found : live_access at.0 m.access ≡ Some row = at.2 ∙ ap Some own.1 in
    let stands = found_at (is_live_rule at.0) m.access row found in
    let number : row.number ≡ at.0 = same_number row at.0 (second_holds _ (row.number == at.0) stands.2) in
    record {
      place = stands.0;
      at = stands.1;
      live = ap (λ (n : ℕ). live_access n m.access) number ∙ found;
      own = subst (λ (r : AccessRow). (r.collection == collection) ≡ true) own.1 own.0;
    }
  where
    same_number : (r : AccessRow) (n : ℕ) → (r.number == n) ≡ true → r.number ≡ n
    same_number r n is = grind (arith, rules, is)

-- the six low bytes of a number, behind two that are 0, are it
six_bytes : (n : ℕ) → n < 2 ^ 48 → from_be_bytes w64 (0 ∷ 0 ∷ bytes_of 6 n) ≡ n
six_bytes n low =
    let first : byte_at 7 n ≡ 0 = omega (arith, low) in
    let second : byte_at 6 n ≡ 0 = omega (arith, low) in
    let padded : 0 ∷ 0 ∷ bytes_of 6 n ≡ to_be_bytes w64 n = (λ i. sym first i ∷ sym second i ∷ bytes_of 6 n) in
    ap (from_be_bytes w64) padded ∙ from_be_bytes-to_be_bytes_8 n (omega (arith, low))

under_test : (b : Bool) (x y : ℕ) → b ≡ true → x ≡ y → (if b then Some x else None) ≡ Some y
under_test b x y holds same = rw (holds, same) refl

pub names_made : (namespace kind n : ℕ) → namespace < 2 ^ 32 → kind < 256 → n < 2 ^ 48 → number_named namespace kind (made_id namespace kind n) ≡ Some n
names_made namespace kind n in_space in_kind low =
    under_test _ _ n ((bytes_decides (made_front namespace kind) (made_front namespace kind)).1 refl) (six_bytes n low)

-- a number of eight bytes, of which the first two are 0
number_of_six : (a b c d e f : ℕ) → a < 256 → b < 256 → c < 256 → d < 256 → e < 256 → f < 256
    → (from_be_bytes w64 (0 ∷ 0 ∷ a ∷ b ∷ c ∷ d ∷ e ∷ f ∷ []) < 2 ^ 48)
    × (bytes_of 6 (from_be_bytes w64 (0 ∷ 0 ∷ a ∷ b ∷ c ∷ d ∷ e ∷ f ∷ [])) ≡ a ∷ b ∷ c ∷ d ∷ e ∷ f ∷ [])
number_of_six a b c d e f in_a in_b in_c in_d in_e in_f =
    let n = from_be_bytes w64 (0 ∷ 0 ∷ a ∷ b ∷ c ∷ d ∷ e ∷ f ∷ []) in
    let is : n ≡ a * 1099511627776 + b * 4294967296 + c * 16777216 + d * 65536 + e * 256 + f = grind (arith, rules) in
    let e5 : n / 1099511627776 % 256 ≡ a = omega (arith, is, in_a, in_b, in_c, in_d, in_e, in_f) in
    let e4 : n / 4294967296 % 256 ≡ b = omega (arith, is, in_a, in_b, in_c, in_d, in_e, in_f) in
    let e3 : n / 16777216 % 256 ≡ c = omega (arith, is, in_a, in_b, in_c, in_d, in_e, in_f) in
    let e2 : n / 65536 % 256 ≡ d = omega (arith, is, in_a, in_b, in_c, in_d, in_e, in_f) in
    let e1 : n / 256 % 256 ≡ e = omega (arith, is, in_a, in_b, in_c, in_d, in_e, in_f) in
    let e0 : n % 256 ≡ f = omega (arith, is, in_a, in_b, in_c, in_d, in_e, in_f) in
    (omega (arith, is, in_a, in_b, in_c, in_d, in_e, in_f), (λ i. e5 i ∷ e4 i ∷ e3 i ∷ e2 i ∷ e1 i ∷ e0 i ∷ []))

below_256 : (b : ℕ) → nat_lt b 256 ≡ true → b < 256
below_256 b is = grind (arith, rules, is)

-- six bytes
bytes_of_six : (bytes : List ℕ) → length bytes ≡ 6 → list_all (λ byte. nat_lt byte 256) bytes ≡ true
    → (from_be_bytes w64 (0 ∷ 0 ∷ bytes) < 2 ^ 48) × (bytes_of 6 (from_be_bytes w64 (0 ∷ 0 ∷ bytes)) ≡ bytes)
bytes_of_six (a ∷ b ∷ c ∷ d ∷ e ∷ f ∷ []) six fit =
    let fit_b = second_holds (nat_lt a 256) _ fit in
    let fit_c = second_holds (nat_lt b 256) _ fit_b in
    let fit_d = second_holds (nat_lt c 256) _ fit_c in
    let fit_e = second_holds (nat_lt d 256) _ fit_d in
    let fit_f = second_holds (nat_lt e 256) _ fit_e in
    number_of_six a b c d e f (below_256 a (first_holds _ _ fit)) (below_256 b (first_holds _ _ fit_b)) (below_256 c (first_holds _ _ fit_c))
    (below_256 d (first_holds _ _ fit_d)) (below_256 e (first_holds _ _ fit_e)) (below_256 f (first_holds _ _ fit_f))
bytes_of_six [] six fit = absurd (omega (arith, six))
bytes_of_six (a ∷ []) six fit = absurd (omega (arith, six))
bytes_of_six (a ∷ b ∷ []) six fit = absurd (omega (arith, six))
bytes_of_six (a ∷ b ∷ c ∷ []) six fit = absurd (omega (arith, six))
bytes_of_six (a ∷ b ∷ c ∷ d ∷ []) six fit = absurd (omega (arith, six))
bytes_of_six (a ∷ b ∷ c ∷ d ∷ e ∷ []) six fit = absurd (omega (arith, six))
bytes_of_six (a ∷ b ∷ c ∷ d ∷ e ∷ f ∷ g ∷ rest) six fit = absurd (omega (arith, six))

if_some : (b : Bool) (x n : ℕ) → (if b then Some x else None) ≡ Some n → (b ≡ true) × (x ≡ n)
if_some true x n is = (refl, cc)
if_some false x n is = absurd (cc)

pub made_named : (namespace kind n : ℕ) (id : List ℕ) → is_id id ≡ true → number_named namespace kind id ≡ Some n
    → (n < 2 ^ 48) × (made_id namespace kind n ≡ id)
made_named namespace kind n id form is =
    let parts = if_some _ (from_be_bytes w64 (0 ∷ 0 ∷ drop 10 id)) n is in
    let front : made_front namespace kind ≡ take 10 id = (bytes_decides (made_front namespace kind) (take 10 id)).0 parts.0 in
    let count : length id ≡ 16 = counted (length id) (first_holds _ _ form) in
    let behind : length (drop 10 id) ≡ 6 = grind (arith, rules, count, length-drop 10 id) in
    let rest = bytes_of_six (drop 10 id) behind (list_all-from_AllPass is_byte (drop 10 id) (All-drop (λ b. is_byte b ≡ true) 10 id (AllPass-from_list_all is_byte id (second_holds (length id == 16) _ form)))) in
    let same : bytes_of 6 n ≡ drop 10 id = ap (bytes_of 6) (sym parts.1) ∙ rest.1 in
    (subst (λ (x : ℕ). x < 2 ^ 48) parts.1 rest.0, (λ i. front i ++ same i) ∙ take-append-drop 10 id)
  where
    is_byte : ℕ → Bool
    is_byte b = nat_lt b 256

    counted : (k : ℕ) → (k == 16) ≡ true → k ≡ 16
    counted k is = grind (arith, rules, is)
