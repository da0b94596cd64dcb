-- The first bad member is told.
use Rattle.std.proofs.Common.{◌≡◌, ◌∙◌, ◌++◌, ◌+◌, ℕ, List, [], ◌∷◌, Bool, true, false, not, ◌&&◌, Option, Some, None, Result, Ok, Err, is_none, is_ok, if◌then◌else◌, codes, refl, sym, ok_or}
use Rattle.std.specs.Option.{option_and_then, option_map_or}
use Rattle.std.specs.Prelude.{unwrap_or}
use Rattle.serde_json.specs.Data.{Data, Items, Members, item, no_items, object}
use Rattle.serde_json.specs.Find.{as_bool}
use Rattle.gt_documents.specs.Lists.{is_count, items_at, items_from, items_of, listed, within}
use Rattle.gt_documents.specs.Members.{absent_at, constant_at, default_at, flag_at, id_at, if_given, is_text, member_of, object_at, path_at, switch_at, text_if, unset_at, word_at}
use Rattle.gt_documents.specs.Place.{Place, member_place}
use Rattle.gt_documents.specs.Reading.{unless_not}
use Rattle.gt_documents.specs.Values as values
use Rattle.gt_documents.specs.declared.values.TextLimit.{TextLimit}
use Rattle.gt_documents.specs.declared.values.TextLimit.TheVariants.{Characters}
use Rattle.gt_paths.specs.Path.{PathValue, overlaps}
use Rattle.gt_setup.specs.Setup.{Setup}
use Rattle.gt_types.specs.Kept.{kept_members, name_of, no_kept, with_flag}
use Rattle.gt_types.specs.declared.kept.Kept.{Kept}
use Rattle.gt_types.specs.declared.kept.KeptMember.{KeptMember}
use Rattle.gt_values.specs.Results.{◌>>=◌}
use Rattle.gt_requests.specs.Access.{access_of, permission_of, principal_as, principal_at, type_at, type_of, write_at, write_of}
use Rattle.gt_requests.specs.Entries.{Sides, apart_at, entries_of, entry_of}
use Rattle.gt_requests.specs.Laws.{FirstBadMember}
use Rattle.gt_requests.specs.Rows.{Row, access_rows, bad_member, ends_rows, entry_rows, first_bad, flags_rows, kept_rows, options_rows, outermost, permission_rows, row, transfer_rows}
use Rattle.gt_requests.specs.Shared.{kept_among, kept_at}
use Rattle.gt_requests.specs.Transfer.{are_none, ends_of, flags_of, no_rules_at, options_of, sides_of, submission_of}
use Rattle.gt_requests.specs.declared.access.PrincipalType.{PrincipalType}
use Rattle.gt_requests.specs.declared.access.PrincipalType.TheVariants as type

-- ---- each reader

-- what is read as is bad is told for this member
abbrev Tells : {A : Type 0} → List ℕ → Result A Place → Type 0
Tells name r = bad_member r ≡ first_bad (row name r ∷ [])

unless_tells : (name : List ℕ) (holds : Bool) → Tells name (unless_not holds (member_place name))
unless_tells name true = refl
unless_tells name false = refl

needed_tells : {A : Type 0} (name : List ℕ) (o : Option A) → Tells name (ok_or o (member_place name))
needed_tells name None = refl
needed_tells name (Some a) = refl

meant_tells : {A : Type 0} (name : List ℕ) (o : Option A) → Tells name (option_map_or (λ (a : A). Ok (Some a)) o (Err (member_place name)))
meant_tells name None = refl
meant_tells name (Some a) = refl

given_tells : {A : Type 0} (meaning : Data → Option A) (name : List ℕ) (o : Option Data) → Tells name (if_given meaning name o)
given_tells meaning name None = refl
given_tells meaning name (Some d) = meant_tells name (meaning d)

then_tells : {A B : Type 0} (name : List ℕ) (r : Result A Place) (f : A → Result B Place) → Tells name r → ((a : A) → Tells name (f a)) → Tells name (r >>= f)
then_tells name (Ok a) f h k = k a
then_tells name (Err place) f h k = h

constant_tells : (text : List ℕ) (d : Data) (name : List ℕ) → Tells name (constant_at text d name)
unfolding constant_at
constant_tells text d name = unless_tells name (is_text text (word_at d name))

default_tells_at : (text : List ℕ) (d : Data) (name : List ℕ) (o : Option Data) → Tells name (option_map_or (λ (_ : Data). constant_at text d name) o (Ok tt))
default_tells_at text d name None = refl
default_tells_at text d name (Some v) = constant_tells text d name

default_tells : (text : List ℕ) (d : Data) (name : List ℕ) → Tells name (default_at text d name)
unfolding default_at
default_tells text d name = default_tells_at text d name (member_of d name)

absent_tells : (d : Data) (name : List ℕ) → Tells name (absent_at d name)
unfolding absent_at
absent_tells d name = unless_tells name (is_none (member_of d name))

id_tells : (d : Data) (name : List ℕ) → Tells name (id_at d name)
unfolding id_at
id_tells d name = needed_tells name (option_and_then values.id_of (member_of d name))

path_tells : (home : PathValue) (d : Data) (name : List ℕ) → Tells name (path_at home d name)
unfolding path_at
path_tells home d name = needed_tells name (option_and_then (values.path_of home) (member_of d name))

flag_tells : (d : Data) (name : List ℕ) → Tells name (flag_at d name)
unfolding flag_at
flag_tells d name = given_tells as_bool name (member_of d name)

text_tells : (limit : TextLimit) (d : Data) (name : List ℕ) → Tells name (text_if limit d name)
unfolding text_if
text_tells limit d name = given_tells (values.text_of limit) name (member_of d name)

switch_tells : (d : Data) (name : List ℕ) → Tells name (switch_at false d name)
switch_tells d name = then_tells name (flag_at d name) (λ flag. Ok (unwrap_or flag false)) (flag_tells d name) (λ flag. refl)

unset_flag : (name : List ℕ) (flag : Option Bool) (set : Bool) → Tells name (if set then Err (member_place name) else Ok flag)
unset_flag name flag true = refl
unset_flag name flag false = refl

unset_tells : (d : Data) (name : List ℕ) → Tells name (unset_at d name)
unset_tells d name =
    then_tells name (flag_at d name) (λ flag. if unwrap_or flag false then Err (member_place name) else Ok flag) (flag_tells d name)
    (λ flag. unset_flag name flag (unwrap_or flag false))

type_tells : (d : Data) → Tells (codes "principal_type") (type_at d)
unfolding type_at
type_tells d = needed_tells (codes "principal_type") (option_and_then type_of (word_at d (codes "principal_type")))

write_tells : (d : Data) → Tells (codes "permissions") (write_at d)
unfolding write_at
write_tells d = needed_tells (codes "permissions") (option_and_then write_of (word_at d (codes "permissions")))

rules_tells : (d : Data) → Tells (codes "filter_rules") (no_rules_at d)
unfolding no_rules_at
rules_tells d = unless_tells (codes "filter_rules") (are_none (listed (member_of d (codes "filter_rules"))))

within_tells : {A : Type 0} (list : List ℕ) (at : ℕ) (r : Result A Place) → Tells list (within list at r)
within_tells list at (Ok a) = refl
within_tells list at (Err place) = refl

items_tells : {A : Type 0} (read : Data → Result A Place) (list : List ℕ) (at : ℕ) (ds : Items) → Tells list (items_from read list at ds)
items_tells read list at no_items = refl
items_tells read list at (item d ds) =
    then_tells list (within list at (read d)) (λ a. items_from read list (at + 1) ds >>= λ rest. Ok (a ∷ rest)) (within_tells list at (read d))
    (λ a. then_tells list (items_from read list (at + 1) ds) (λ rest. Ok (a ∷ rest)) (items_tells read list (at + 1) ds) (λ rest. refl))

counted_tells : {A : Type 0} (read : Data → Result A Place) (list : List ℕ) (ds : Items) (good : Bool)
    → Tells list (if good then items_from read list 0 ds else Err (member_place list))
counted_tells read list ds true = items_tells read list 0 ds
counted_tells read list ds false = refl

list_tells : {A : Type 0} (read : Data → Result A Place) (list : List ℕ) (least most : ℕ) (o : Option Items) → Tells list (items_of read list least most o)
list_tells read list least most None = refl
list_tells read list least most (Some ds) = counted_tells read list ds (is_count least most ds)

entries_tells : (sides : Sides) (d : Data) → Tells (codes "DATA") (entries_of sides d)
unfolding entries_of items_at
entries_tells sides d = list_tells (entry_of sides) (codes "DATA") 1 10000 (listed (member_of d (codes "DATA")))

-- ---- rows

all_good : (rows more : List Row) → None ≡ first_bad rows → first_bad (rows ++ more) ≡ first_bad more
all_good [] more h = refl
all_good ((name, true) ∷ rows) more h = all_good rows more h
all_good ((name, false) ∷ rows) more h = absurd (cc h)

one_bad : (rows more : List Row) (bad : List ℕ) → Some bad ≡ first_bad rows → Some bad ≡ first_bad (rows ++ more)
one_bad [] more bad h = absurd (cc h)
one_bad ((name, true) ∷ rows) more bad h = one_bad rows more bad h
one_bad ((name, false) ∷ rows) more bad h = h

then_rows : {A B : Type 0} (r : Result A Place) (f : A → Result B Place) (rows more : List Row) → bad_member r ≡ first_bad rows
    → ((a : A) → r ≡ Ok a → bad_member (f a) ≡ first_bad more) → bad_member (r >>= f) ≡ first_bad (rows ++ more)
then_rows (Ok a) f rows more h k = k a refl ∙ sym (all_good rows more h)
then_rows (Err place) f rows more h k = one_bad rows more (outermost place) h

then_row : {A B : Type 0} (name : List ℕ) (r : Result A Place) (f : A → Result B Place) (rest : Option (List ℕ)) → Tells name r
    → ((a : A) → bad_member (f a) ≡ rest) → bad_member (r >>= f) ≡ (if is_ok r then rest else Some name)
then_row name (Ok a) f rest h k = k a
then_row name (Err place) f rest h k = h

-- ---- documents

ends_told : (d : Data) → bad_member (ends_of d) ≡ first_bad (ends_rows d)
unfolding ends_of
ends_told d =
    then_row (codes "submission_id") (id_at d (codes "submission_id")) _ _ (id_tells d (codes "submission_id")) (λ x0.
    then_row (codes "source_endpoint") (id_at d (codes "source_endpoint")) _ _ (id_tells d (codes "source_endpoint")) (λ x1.
    then_row (codes "destination_endpoint") (id_at d (codes "destination_endpoint")) _ _ (id_tells d (codes "destination_endpoint")) (λ x2. refl)))

flags_told : (d : Data) → bad_member (flags_of d) ≡ first_bad (flags_rows d)
unfolding flags_of
flags_told d =
    then_row (codes "verify_checksum") (switch_at false d (codes "verify_checksum")) _ _ (switch_tells d (codes "verify_checksum")) (λ x0.
    then_row (codes "preserve_timestamp") (switch_at false d (codes "preserve_timestamp")) _ _ (switch_tells d (codes "preserve_timestamp")) (λ x1.
    then_row (codes "delete_destination_extra") (unset_at d (codes "delete_destination_extra")) _ _ (unset_tells d (codes "delete_destination_extra")) (λ x2.
    then_row (codes "skip_source_errors") (switch_at false d (codes "skip_source_errors")) _ _ (switch_tells d (codes "skip_source_errors")) (λ x3. refl))))

kept_step : (d : Data) (name : List ℕ) (r : Result (Option Bool) Place) (kept : Kept) (m : KeptMember) (ms : List KeptMember) (rest : Option (List ℕ))
    → Tells name r → ((more : Kept) → bad_member (kept_among d more ms) ≡ rest)
    → bad_member ((r >>= λ flag. Ok (with_flag kept m flag)) >>= λ more. kept_among d more ms) ≡ (if is_ok r then rest else Some name)
kept_step d name (Ok flag) kept m ms rest h k = k (with_flag kept m flag)
kept_step d name (Err place) kept m ms rest h k = h

kept_among_told : (d : Data) (kept : Kept) (ms : List KeptMember) → bad_member (kept_among d kept ms) ≡ first_bad (kept_rows d ms)
kept_among_told d kept [] = refl
kept_among_told d kept (m ∷ ms) =
    kept_step d (name_of m) (flag_at d (name_of m)) kept m ms (first_bad (kept_rows d ms)) (flag_tells d (name_of m)) (λ more. kept_among_told d more ms)

kept_told : (d : Data) → bad_member (kept_at d) ≡ first_bad (kept_rows d kept_members)
unfolding kept_at
kept_told d = kept_among_told d no_kept kept_members

options_told : (d : Data) → bad_member (options_of d) ≡ first_bad (options_rows d)
unfolding options_of
options_told d =
    let rules : List Row = row (codes "filter_rules") (no_rules_at d) ∷ [] in
    let symlinks : Row = row (codes "recursive_symlinks") (default_at (codes "ignore") d (codes "recursive_symlinks")) in
    then_row (codes "label") (text_if (Characters 128) d (codes "label")) _ _ (text_tells (Characters 128) d (codes "label")) (λ label.
    then_row (codes "deadline") (absent_at d (codes "deadline")) _ _ (absent_tells d (codes "deadline")) (λ deadline.
    then_row (codes "sync_level") (absent_at d (codes "sync_level")) _ _ (absent_tells d (codes "sync_level")) (λ level.
    then_rows (flags_of d) _ (flags_rows d) (symlinks ∷ (kept_rows d kept_members ++ rules)) (flags_told d) (λ flags are.
    then_row (codes "recursive_symlinks") (default_at (codes "ignore") d (codes "recursive_symlinks")) _ _
    (default_tells (codes "ignore") d (codes "recursive_symlinks")) (λ ignored.
    then_rows (kept_at d) _ (kept_rows d kept_members) rules (kept_told d) (λ kept is.
    then_row (codes "filter_rules") (no_rules_at d) _ _ (rules_tells d) (λ none. refl)))))))

transfer_told : (setup : Setup) (d : Data) → bad_member (submission_of setup d) ≡ first_bad (transfer_rows setup d)
unfolding submission_of
transfer_told setup d =
    let entries : List Row = row (codes "DATA") (ends_of d >>= λ ends. entries_of (sides_of setup ends) d) ∷ [] in
    then_row (codes "DATA_TYPE") (constant_at (codes "transfer") d (codes "DATA_TYPE")) _ _ (constant_tells (codes "transfer") d (codes "DATA_TYPE")) (λ same.
    then_rows (ends_of d) _ (ends_rows d) (options_rows d ++ entries) (ends_told d) (λ ends are.
    then_rows (options_of d) _ (options_rows d) entries (options_told d) (λ options is.
    rw are (then_row (codes "DATA") (entries_of (sides_of setup ends) d) _ _ (entries_tells (sides_of setup ends) d) (λ all. refl)))))

apart_told : {A : Type 0} (holds : Bool) (u : Result (Option Bool) Place) (f : Option Bool → Result A Place) → Tells (codes "recursive") u
    → ((r : Option Bool) → bad_member (f r) ≡ None)
    → bad_member ((unless_not holds (member_place (codes "destination_path")) >>= λ _. u) >>= f)
    ≡ (if is_ok (unless_not holds (member_place (codes "destination_path"))) then (if is_ok u then None else Some (codes "recursive"))
    else Some (codes "destination_path"))
apart_told true u f h k = then_row (codes "recursive") u f None h k
apart_told false u f h k = refl

-- the two paths of an entry and what stands behind them, by what they are read as
paths_told : {A : Type 0} (one : Bool) (s t : Result PathValue Place) (u : Result (Option Bool) Place) (f : PathValue → PathValue → Option Bool → Result A Place)
    → Tells (codes "source_path") s → Tells (codes "destination_path") t → Tells (codes "recursive") u
    → ((a b : PathValue) (r : Option Bool) → bad_member (f a b r) ≡ None)
    → bad_member (s >>= λ a. t >>= λ b. (apart_at one a b >>= λ _. u) >>= f a b)
    ≡ (if is_ok s
    then (if is_ok (s >>= λ a. t >>= λ b. apart_at one a b) then (if is_ok u then None else Some (codes "recursive")) else Some (codes "destination_path"))
    else Some (codes "source_path"))
paths_told one (Err place) t u f h k l all = h
paths_told one (Ok a) (Err place) u f h k l all = k
paths_told one (Ok a) (Ok b) u f h k l all = apart_told (not (one && overlaps a b)) u (f a b) l (all a b)

entry_told : (sides : Sides) (ms : Members) → bad_member (entry_of sides (object ms)) ≡ first_bad (entry_rows sides (object ms))
unfolding entry_of object_at
entry_told sides ms =
    let d : Data = object ms in
    then_row (codes "DATA_TYPE") (constant_at (codes "transfer_item") d (codes "DATA_TYPE")) _ _ (constant_tells (codes "transfer_item") d (codes "DATA_TYPE")) (λ same.
    paths_told sides.are_one (path_at sides.source d (codes "source_path")) (path_at sides.destination d (codes "destination_path")) (unset_at d (codes "recursive")) _
    (path_tells sides.source d (codes "source_path")) (path_tells sides.destination d (codes "destination_path")) (unset_tells d (codes "recursive"))
    (λ source destination recursive. refl))

principal_tells : (kind : PrincipalType) (d : Data) → Tells (codes "principal") (principal_as kind d)
principal_tells type.Identity d = then_tells (codes "principal") (id_at d (codes "principal")) _ (id_tells d (codes "principal")) (λ id. refl)
principal_tells type.Group d = then_tells (codes "principal") (id_at d (codes "principal")) _ (id_tells d (codes "principal")) (λ id. refl)
principal_tells type.AllAuthenticated d = refl
principal_tells type.Anonymous d = refl

principal_told_at : (d : Data) (r : Result PrincipalType Place) → Tells (codes "principal_type") r
    → bad_member (r >>= λ kind. principal_as kind d)
    ≡ first_bad (row (codes "principal_type") r ∷ row (codes "principal") (r >>= λ kind. principal_as kind d) ∷ [])
principal_told_at d (Ok kind) h = principal_tells kind d
principal_told_at d (Err place) h = h

principal_told : (d : Data) → bad_member (principal_at d) ≡ first_bad (row (codes "principal_type") (type_at d) ∷ row (codes "principal") (principal_at d) ∷ [])
unfolding principal_at
principal_told d = principal_told_at d (type_at d) (type_tells d)

access_told : (home : PathValue) (d : Data) → bad_member (access_of home d) ≡ first_bad (access_rows home d)
unfolding access_of
access_told home d =
    let principal : List Row = row (codes "principal_type") (type_at d) ∷ row (codes "principal") (principal_at d) ∷ [] in
    let rest : List Row = row (codes "path") (path_at home d (codes "path")) ∷ row (codes "permissions") (write_at d) ∷ [] in
    then_row (codes "DATA_TYPE") (constant_at (codes "access") d (codes "DATA_TYPE")) _ _ (constant_tells (codes "access") d (codes "DATA_TYPE")) (λ same.
    then_rows (principal_at d) _ principal rest (principal_told d) (λ who is.
    then_row (codes "path") (path_at home d (codes "path")) _ _ (path_tells home d (codes "path")) (λ path.
    then_row (codes "permissions") (write_at d) _ _ (write_tells d) (λ write. refl))))

permission_told : (d : Data) → bad_member (permission_of d) ≡ first_bad (permission_rows d)
unfolding permission_of
permission_told d =
    then_row (codes "DATA_TYPE") (constant_at (codes "access") d (codes "DATA_TYPE")) _ _ (constant_tells (codes "access") d (codes "DATA_TYPE")) (λ same. write_tells d)

pub first_bad_member : FirstBadMember
first_bad_member = record { transfer = transfer_told; entry = entry_told; access = access_told; permission = permission_told }
