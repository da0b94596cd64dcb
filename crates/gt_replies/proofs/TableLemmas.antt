-- Objects of tables have no float and stand in order, where the values of the table do.
use Rattle.std.proofs.Common.{◌≡◌, ◌∷◌, [], ℕ, List, Bool, true, false, ◌||◌, ◌&&◌, Ordering, Less, Equal, Greater, nat_cmp, not, refl, ◌++◌, ◌∙◌, map}
use Rattle.std.specs.Cmp.Lexicographic.{slice_cmp}
use Rattle.std.specs.List.{list_all}
use Rattle.std.specs.Ordering.{match_ordering}
use Rattle.std.proofs.lemmas.Bool.{and_from, and_parts, not-true}
use Rattle.std.proofs.lemmas.List.Folds.{list_all-append}
use Rattle.serde_json.specs.Data.{Data, Members, member, no_members, put}
use Rattle.serde_json.specs.View.{items_of}
use Rattle.serde_json.specs.Written.{has_float, items_have_float, members_have_float}
use Rattle.gt_replies.proofs.OrderLemmas.{has_order-put}
use Rattle.gt_replies.specs.Members.{Member, array_of, object_of, with_members}
use Rattle.gt_replies.specs.Order.{are_ordered, has_order, is_ordered}

-- the value has no float, and its members stand in order
abbrev is_plain : Data → Bool
is_plain d = not (has_float d) && is_ordered d

-- the same of each value of a table
abbrev is_plain_table : List Member → Bool
is_plain_table table = list_all (λ m. is_plain m.1) table

chosen : (o : Ordering) (a b c : Members) → members_have_float a ≡ false → members_have_float b ≡ false → members_have_float c ≡ false → members_have_float (match_ordering o a b c) ≡ false
chosen Less a b c p q r = p
chosen Equal a b c p q r = q
chosen Greater a b c p q r = r

neither : (a b : Bool) → a ≡ false → b ≡ false → (a || b) ≡ false
neither a b p q = rw (p, q)

head_of : (a b : Bool) → (a || b) ≡ false → a ≡ false
head_of true b e = e
head_of false b e = refl

tail_of : (a b : Bool) → (a || b) ≡ false → b ≡ false
tail_of true b e = cc
tail_of false b e = e

no_float-put : (k : List ℕ) (d : Data) (ms : Members) → has_float d ≡ false → members_have_float ms ≡ false → members_have_float (put k d ms) ≡ false
no_float-put k d no_members p q = rw p
no_float-put k d (member l e ms) p q =
    let head = head_of (has_float e) (members_have_float ms) q in
    let tail = tail_of (has_float e) (members_have_float ms) q in
    chosen (slice_cmp nat_cmp k l) _ _ _ (neither _ _ p q) (neither _ _ p tail) (neither _ _ head (no_float-put k d ms p tail))

-- members without a float that stand in order, after those of a plain table
plain-with : (ms : Members) (table : List Member) → members_have_float ms ≡ false → has_order ms ≡ true → is_plain_table table ≡ true
    → (members_have_float (with_members ms table) ≡ false) × (has_order (with_members ms table) ≡ true)
unfolding with_members
plain-with ms [] p q t = (p, q)
plain-with ms (m ∷ table) p q t =
    let parts = and_parts (is_plain m.1) (is_plain_table table) t in
    let value = and_parts (not (has_float m.1)) (is_ordered m.1) parts.0 in
    plain-with (put m.0 m.1 ms) table
    (no_float-put m.0 m.1 ms (not-true (has_float m.1) value.0) p) (has_order-put m.0 m.1 ms value.1 q) parts.1

-- a table behind another
pub with_members-append : (ms : Members) (a b : List Member) → with_members ms (a ++ b) ≡ with_members (with_members ms a) b
unfolding with_members
with_members-append ms [] b = refl
with_members-append ms (m ∷ a) b = with_members-append (put m.0 m.1 ms) a b

-- six tables put in one after another, from no members on
pub six_tables : (a b c d e f : List Member) (m0 m1 m2 m3 m4 m5 m6 : Members) → m0 ≡ no_members
    → m1 ≡ with_members m0 a → m2 ≡ with_members m1 b → m3 ≡ with_members m2 c
    → m4 ≡ with_members m3 d → m5 ≡ with_members m4 e → m6 ≡ with_members m5 f
    → m6 ≡ with_members no_members (a ++ b ++ c ++ d ++ e ++ f)
six_tables a b c d e f m0 m1 m2 m3 m4 m5 m6 e0 e1 e2 e3 e4 e5 e6 =
    rw (e6, e5, e4, e3, e2, e1, e0) (simp with_members-append)

-- each row passes a test that is always true
pub all_true : {X : Type 0} (xs : List X) → list_all (λ (x : X). true) xs ≡ true
all_true [] = refl
all_true (x ∷ xs) = all_true xs

-- the value has no float, and its members stand in order
pub record IsPlain (value : Data) : Type 0 where
  pub no_float : has_float value ≡ false
  pub ordered : is_ordered value ≡ true

-- the same of each value of a table
pub record IsPlainTable (table : List Member) : Type 0 where
  pub plain : is_plain_table table ≡ true

is_plain-from_IsPlain : (value : Data) → IsPlain value → is_plain value ≡ true
is_plain-from_IsPlain value p = rw (p.no_float, p.ordered)

-- a member before those of a plain table
pub line : {name : List ℕ} {value : Data} {rest : List Member} → IsPlain value → IsPlainTable rest → IsPlainTable ((name, value) ∷ rest)
line {value = value} p q = record { plain = and_from _ _ (is_plain-from_IsPlain value p) q.plain }

-- two plain tables, one behind the other
pub both : {a b : List Member} → IsPlainTable a → IsPlainTable b → IsPlainTable (a ++ b)
both {a = a} {b = b} p q = record { plain = list_all-append (λ m. is_plain m.1) a b ∙ and_from _ _ p.plain q.plain }

-- the object of a plain table
pub plain-object_of : {table : List Member} → IsPlainTable table → IsPlain (object_of table)
plain-object_of {table = table} t =
    let parts = plain-with no_members table refl refl t.plain in
    record { no_float = parts.0; ordered = parts.1 }

array_parts : {X : Type 0} (document : X → Data) → ((x : X) → IsPlain (document x)) → (xs : List X)
    → (items_have_float (items_of (map document xs)) ≡ false) × (are_ordered (items_of (map document xs)) ≡ true)
array_parts document plain [] = (refl, refl)
array_parts document plain (x ∷ xs) =
    let rest = array_parts document plain xs in
    (neither _ _ (plain x).no_float rest.0, and_from _ _ (plain x).ordered rest.1)

-- the array of plain documents
pub plain-array_of : {X : Type 0} (document : X → Data) → ((x : X) → IsPlain (document x)) → (xs : List X) → IsPlain (array_of document xs)
plain-array_of document plain xs =
    let parts = array_parts document plain xs in
    record { no_float = parts.0; ordered = parts.1 }
