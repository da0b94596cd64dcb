-- Members that are put in keep the order of names.
use Rattle.std.proofs.Common.{◌≡◌, ℕ, List, true, ◌&&◌, Ordering, Less, Equal, Greater, nat_cmp, refl, ap, ◌∙◌}
use Rattle.std.specs.Ordering.{match_ordering, is_lt, ordering_reverse}
use Rattle.std.specs.Cmp.Lexicographic.{slice_cmp}
use Rattle.std.proofs.lemmas.Bool.{and_from, and_parts}
use Rattle.std.proofs.lemmas.Cmp.{nat_list_cmp_total}
use Rattle.serde_json.specs.Data.{Data, Members, no_members, member, put}
use Rattle.gt_replies.specs.Order.{has_order, is_before, is_ordered}

before_at : (o : Ordering) (j k l : List ℕ) (d e : Data) (ms : Members) → slice_cmp nat_cmp j k ≡ Less → is_lt (slice_cmp nat_cmp j l) ≡ true
    → is_before j (match_ordering o (member k d (member l e ms)) (member l d ms) (member l e (put k d ms))) ≡ true
before_at Less j k l d e ms p q = rw p
before_at Equal j k l d e ms p q = q
before_at Greater j k l d e ms p q = q

-- a name before the new one and before those that were there
is_before-put : (j k : List ℕ) (d : Data) (ms : Members) → slice_cmp nat_cmp j k ≡ Less → is_before j ms ≡ true → is_before j (put k d ms) ≡ true
is_before-put j k d no_members p q = rw p
is_before-put j k d (member l e ms) p q = before_at (slice_cmp nat_cmp k l) j k l d e ms p q

order_at : (o : Ordering) (k l : List ℕ) (d e : Data) (ms : Members) → slice_cmp nat_cmp k l ≡ o → is_ordered d ≡ true
    → has_order (member l e ms) ≡ true → has_order (put k d ms) ≡ true
    → has_order (match_ordering o (member k d (member l e ms)) (member l d ms) (member l e (put k d ms))) ≡ true
order_at Less k l d e ms o v p q = rw (o, v) p
order_at Equal k l d e ms o v p q =
    let parts = and_parts (is_before l ms) (is_ordered e && has_order ms) p in
    and_from _ _ parts.0 (and_from _ _ v (and_parts (is_ordered e) (has_order ms) parts.1).1)
order_at Greater k l d e ms o v p q =
    let below : slice_cmp nat_cmp l k ≡ Less = nat_list_cmp_total.antisymm l k ∙ ap ordering_reverse o in
    let parts = and_parts (is_before l ms) (is_ordered e && has_order ms) p in
    and_from _ _ (is_before-put l k d ms below parts.0) (and_from _ _ (and_parts (is_ordered e) (has_order ms) parts.1).0 q)

-- members that stand in order still do after one was put in
pub has_order-put : (k : List ℕ) (d : Data) (ms : Members) → is_ordered d ≡ true → has_order ms ≡ true → has_order (put k d ms) ≡ true
has_order-put k d no_members v p = rw v
has_order-put k d (member l e ms) v p =
    let parts = and_parts (is_before l ms) (is_ordered e && has_order ms) p in
    order_at _ k l d e ms refl v p (has_order-put k d ms v (and_parts (is_ordered e) (has_order ms) parts.1).1)
