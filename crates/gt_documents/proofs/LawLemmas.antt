-- The laws of documents, lists and queries.
use Rattle.std.proofs.Common.{◌≡◌, ◌<◌, ◌+◌, ◌++◌, ◌∙◌, ◌||◌, ℕ, zero, suc, List, [], ◌∷◌, Bool, true, false, true≢false, cond, Option, Some, None, Result, Ok, Err, ap, arith, refl, subst, sym}
use Rattle.std.specs.Cmp.Lexicographic.{bytes_decides}
use Rattle.std.specs.List.{list_any}
use Rattle.std.specs.Option.{option_and_then, option_map, option_or}
use Rattle.std.specs.Prelude.{IsOk}
use Rattle.std.specs.Str.{bytes_eq}
use Rattle.json.specs.Json as json
use Rattle.serde_json.specs.Data.{Data, Items, Members, item, no_items, no_members, put}
use Rattle.serde_json.specs.Find.{get_item, get_member}
use Rattle.serde_json.specs.Read.{of_json, of_members}
use Rattle.serde_json.proofs.Views.{get_member-put, get_member-put_other}
use Rattle.gt_values.specs.Results.{◌>>=◌}
use Rattle.gt_documents.specs.Laws.{FirstBadItem, FirstPairCounts, LastMemberCounts, OthersChangeNothing, last_value}
use Rattle.gt_documents.specs.Lists.{items_from, within}
use Rattle.gt_documents.specs.Members.{given_at, valued}
use Rattle.gt_documents.specs.Place.{Place, in_item}
use Rattle.gt_documents.specs.Query.{decoded, find_value, is_named}

put_at : (key name : List ℕ) (d : Data) (ms : Members) (b : Bool) → bytes_eq key name ≡ b
    → get_member name (put key d ms) ≡ option_or (cond b (Some d) None) (get_member name ms)
put_at key name d ms true e =
    let same : key ≡ name = (bytes_decides key name).0 e in
    subst (λ n. get_member n (put key d ms) ≡ Some d) same (get_member-put key d ms)
put_at key name d ms false e =
    get_member-put_other name key d ms (λ same. true≢false (sym ((bytes_decides key name).1 (sym same)) ∙ e))

either : (o a b : Option Data) → option_or o (option_or a b) ≡ option_or (option_or o a) b
either None a b = refl
either (Some d) a b = refl

more_members : (key : List ℕ) (js : json.Members) (acc found : Members) (name : List ℕ) (o : Option Data)
    → ((before : Members) → of_members js before ≡ Some found → get_member name found ≡ option_or (last_value name js) (get_member name before))
    → option_and_then (λ d. of_members js (put key d acc)) o ≡ Some found
    → get_member name found ≡ option_or (option_or (last_value name js) (cond (bytes_eq key name) o None)) (get_member name acc)
more_members key js acc found name None later e = absurd (cc e)
more_members key js acc found name (Some d) later e =
    later (put key d acc) e
    ∙ ap (λ o. option_or (last_value name js) o) (put_at key name d acc (bytes_eq key name) refl)
    ∙ either (last_value name js) (cond (bytes_eq key name) (Some d) None) (get_member name acc)

members_read : (js : json.Members) (acc found : Members) (name : List ℕ) → of_members js acc ≡ Some found
    → get_member name found ≡ option_or (last_value name js) (get_member name acc)
members_read json.no_members acc found name e = let same : acc ≡ found = cc e in ap (λ ms. get_member name ms) (sym same)
members_read (json.member key j js) acc found name e =
    more_members key js acc found name (of_json j) (λ before is. members_read js before found name is) e

or_nothing : (o : Option Data) → option_or o None ≡ o
or_nothing None = refl
or_nothing (Some d) = refl

pub last_member : LastMemberCounts
last_member written found name e = members_read written no_members found name e ∙ or_nothing (last_value name written)

pub others_change_nothing : OthersChangeNothing
unfolding given_at
others_change_nothing ms other name d e = ap (λ o. option_map valued o) (put_at other name d ms false e)

found_behind : (name : List ℕ) (p : List ℕ × List ℕ) (before after : List (List ℕ × List ℕ)) (pair : List ℕ × List ℕ) (b : Bool)
    → (b || list_any (is_named name) before) ≡ false
    → (list_any (is_named name) before ≡ false → find_value name (before ++ pair ∷ after) ≡ Some (decoded pair.1))
    → cond b (Some (decoded p.1)) (find_value name (before ++ pair ∷ after)) ≡ Some (decoded pair.1)
found_behind name p before after pair true none rest = absurd (true≢false none)
found_behind name p before after pair false none rest = rest none

found_first : (name : List ℕ) (before after : List (List ℕ × List ℕ)) (pair : List ℕ × List ℕ) → list_any (is_named name) before ≡ false
    → is_named name pair ≡ true → find_value name (before ++ pair ∷ after) ≡ Some (decoded pair.1)
found_first name [] after pair none e = rw e refl
found_first name (p ∷ before) after pair none e = found_behind name p before after pair (is_named name p) none (λ h. found_first name before after pair h e)

pub first_pair : FirstPairCounts
first_pair query name before after pair e none named = ap (λ pairs. find_value name pairs) e ∙ found_first name before after pair none named

-- the first bad item of those numbered on from one
record BadFrom {A : Type 0} (read : Data → Result A Place) (list : List ℕ) (from : ℕ) (ds : Items) (place : Place) : Type 0 where
  at : ℕ
  value : Data
  stands : get_item at ds ≡ Some value
  bad : Place
  refused : read value ≡ Err bad
  told : place ≡ in_item list (from + at) bad
  before : (k : ℕ) (d : Data) → k < at → get_item k ds ≡ Some d → IsOk (read d)

earlier : {A : Type 0} (read : Data → Result A Place) (d : Data) (ds : Items) (a : A) (at : ℕ) → read d ≡ Ok a
    → ((k : ℕ) (x : Data) → k < at → get_item k ds ≡ Some x → IsOk (read x))
    → (k : ℕ) (x : Data) → k < suc at → get_item k (item d ds) ≡ Some x → IsOk (read x)
earlier read d ds a at is rest zero x lt s =
    let same : d ≡ x = cc s in
    let good : IsOk (read d) = rw is refl in
    subst (λ y. IsOk (read y)) same good
earlier read d ds a at is rest (suc k) x lt s = rest k x (omega (arith, lt)) s

rest_bad : {A : Type 0} (a : A) (r : Result (List A) Place) (place : Place) → (r >>= λ rest. Ok (a ∷ rest)) ≡ Err place → r ≡ Err place
rest_bad a (Ok rest) place e = absurd (cc e)
rest_bad a (Err p) place e = e

bad_here : {A : Type 0} (read : Data → Result A Place) (list : List ℕ) (from : ℕ) (d : Data) (ds : Items) (place : Place) (r : Result A Place) → read d ≡ r
    → ((p : Place) → items_from read list (from + 1) ds ≡ Err p → BadFrom read list (from + 1) ds p)
    → (within list from r >>= λ a. items_from read list (from + 1) ds >>= λ rest. Ok (a ∷ rest)) ≡ Err place
    → BadFrom read list from (item d ds) place
bad_here read list from d ds place (Err p) is later e =
    let here : in_item list from p ≡ place = cc e in
    let first : from ≡ from + 0 = omega arith in
    record {
      at = 0;
      value = d;
      stands = refl;
      bad = p;
      refused = is;
      told = sym here ∙ ap (λ n. in_item list n p) first;
      before = λ k x lt s. absurd (omega (arith, lt));
    }
bad_here read list from d ds place (Ok a) is later e =
    let b = later place (rest_bad a (items_from read list (from + 1) ds) place e) in
    let next : from + 1 + b.at ≡ from + suc b.at = omega arith in
    record {
      at = suc b.at;
      value = b.value;
      stands = b.stands;
      bad = b.bad;
      refused = b.refused;
      told = b.told ∙ ap (λ n. in_item list n b.bad) next;
      before = earlier read d ds a b.at is b.before;
    }

bad_from : {A : Type 0} (read : Data → Result A Place) (list : List ℕ) (from : ℕ) (ds : Items) (place : Place) → items_from read list from ds ≡ Err place
    → BadFrom read list from ds place
bad_from read list from no_items place e = absurd (cc e)
bad_from read list from (item d ds) place e = bad_here read list from d ds place (read d) refl (λ p is. bad_from read list (from + 1) ds p is) e

pub first_bad : {A : Type 0} (read : Data → Result A Place) → FirstBadItem read
first_bad read list ds place e =
    let b = bad_from read list 0 ds place e in
    let same : 0 + b.at ≡ b.at = omega arith in
    record {
      at = b.at;
      value = b.value;
      stands = b.stands;
      bad = b.bad;
      refused = b.refused;
      told = b.told ∙ ap (λ n. in_item list n b.bad) same;
      before = b.before;
    }
