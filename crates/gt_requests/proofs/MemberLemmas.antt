-- Documents read the members of their tables alone.
use Rattle.std.proofs.Common.{◌≡◌, ◌∙◌, ℕ, List, Bool, true, false, true≢false, Option, Some, None, Result, Ok, Err, ap, codes, refl, subst, sym}
use Rattle.std.specs.Cmp.Lexicographic.{bytes_decides}
use Rattle.std.specs.List.{list_any}
use Rattle.std.specs.Option.{option_and_then, option_map}
use Rattle.std.specs.Str.{bytes_eq}
use Rattle.serde_json.specs.Data.{Data, Members, object, put}
use Rattle.serde_json.specs.Find.{get}
use Rattle.gt_documents.specs.Laws.{OthersChangeNothing}
use Rattle.gt_documents.specs.Lists.{items_at}
use Rattle.gt_documents.specs.Members.{absent_at, constant_at, default_at, flag_at, given_at, id_at, member_of, object_at, path_at, text_if, valued, word_at}
use Rattle.gt_documents.specs.Place.{Place}
use Rattle.gt_documents.specs.declared.values.TextLimit.{TextLimit}
use Rattle.gt_documents.specs.declared.values.TextLimit.TheVariants.{Characters}
use Rattle.gt_paths.specs.Path.{PathValue}
use Rattle.gt_setup.specs.Setup.{Setup}
use Rattle.gt_values.specs.Results.{◌>>=◌}
use Rattle.gt_requests.specs.Access.{access_of, permission_of, principal_as, principal_at, type_at, write_at}
use Rattle.gt_requests.specs.Entries.{Sides, entries_of, entry_of}
use Rattle.gt_requests.specs.Laws.{UnknownMembersChangeNothing}
use Rattle.gt_requests.specs.Rows.{Row, access_rows, entry_rows, names_of, permission_rows, transfer_rows}
use Rattle.gt_requests.specs.Shared.{kept_at}
use Rattle.gt_requests.specs.Transfer.{ends_of, flags_of, no_rules_at, options_of, sides_of, submission_of}
use Rattle.gt_requests.specs.declared.access.PrincipalType.{PrincipalType}
use Rattle.gt_requests.specs.declared.access.PrincipalType.TheVariants as type
use Rattle.gt_requests.specs.declared.transfer.Ends.{Ends}
use Rattle.gt_requests.specs.declared.transfer.Options.{Options}
use Rattle.gt_requests.specs.declared.transfer.Submission.{Submission}

-- both objects have the same at each name of the table
abbrev Agree : List Row → Data → Data → Type 0
Agree rows d e = (name : List ℕ) → list_any (bytes_eq name) (names_of rows) ≡ true → member_of d name ≡ member_of e name

flat : (o : Option Data) → option_and_then (λ x. x) (option_map valued o) ≡ option_and_then valued o
flat None = refl
flat (Some d) = refl

member_from : (d : Data) (name : List ℕ) → member_of d name ≡ option_and_then (λ x. x) (given_at d name)
unfolding member_of given_at
member_from d name = sym (flat (get name d))

-- a name of the table isn't one that the table lacks
other_name : (other name : List ℕ) (names : List (List ℕ)) (b : Bool) → bytes_eq other name ≡ b → list_any (bytes_eq other) names ≡ false
    → list_any (bytes_eq name) names ≡ true → b ≡ false
other_name other name names true is lacks has =
    let same : other ≡ name = (bytes_decides other name).0 is in
    let none : list_any (bytes_eq name) names ≡ false = subst (λ n. list_any (bytes_eq n) names ≡ false) same lacks in
    absurd (true≢false (sym has ∙ none))
other_name other name names false is lacks has = refl

agree : OthersChangeNothing → (rows : List Row) (ms : Members) (other : List ℕ) (d : Data) → list_any (bytes_eq other) (names_of rows) ≡ false
    → Agree rows (object (put other d ms)) (object ms)
agree others rows ms other d lacks name has =
    let away = other_name other name (names_of rows) (bytes_eq other name) refl lacks has in
    member_from (object (put other d ms)) name ∙ ap (option_and_then (λ x. x)) (others ms other name d away) ∙ sym (member_from (object ms) name)

-- ---- each reader

abbrev Same : {A : Type 0} → (Data → List ℕ → A) → Type 0
Same read = (d e : Data) (name : List ℕ) → member_of d name ≡ member_of e name → read d name ≡ read e name

word_same : Same word_at
unfolding word_at
word_same d e name h = rw h

constant_same : (text : List ℕ) → Same (constant_at text)
unfolding constant_at
constant_same text d e name h = rw (word_same d e name h)

default_same : (text : List ℕ) → Same (default_at text)
unfolding default_at
default_same text d e name h = rw (h, constant_same text d e name h)

absent_same : Same absent_at
unfolding absent_at
absent_same d e name h = rw h

id_same : Same id_at
unfolding id_at
id_same d e name h = rw h

flag_same : Same flag_at
unfolding flag_at
flag_same d e name h = rw h

text_same : (limit : TextLimit) → Same (text_if limit)
unfolding text_if
text_same limit d e name h = rw h

path_same : (home : PathValue) → Same (path_at home)
unfolding path_at
path_same home d e name h = rw h

items_same : {A : Type 0} (read : Data → Result A Place) (least most : ℕ) → Same (items_at read least most)
unfolding items_at
items_same read least most d e name h = rw h

bind_same : {A B : Type 0} (r : Result A Place) (f g : A → Result B Place) → ((a : A) → f a ≡ g a) → (r >>= f) ≡ (r >>= g)
bind_same (Ok a) f g h = h a
bind_same (Err place) f g h = refl

-- ---- each document

ends_same : (setup : Setup) (x d e : Data) → Agree (transfer_rows setup x) d e → ends_of d ≡ ends_of e
unfolding ends_of
ends_same setup x d e h =
    rw (
      id_same d e (codes "submission_id") (h (codes "submission_id") refl),
      id_same d e (codes "source_endpoint") (h (codes "source_endpoint") refl),
      id_same d e (codes "destination_endpoint") (h (codes "destination_endpoint") refl),
    )

flags_same : (setup : Setup) (x d e : Data) → Agree (transfer_rows setup x) d e → flags_of d ≡ flags_of e
unfolding flags_of
flags_same setup x d e h =
    rw (
      flag_same d e (codes "verify_checksum") (h (codes "verify_checksum") refl),
      flag_same d e (codes "preserve_timestamp") (h (codes "preserve_timestamp") refl),
      flag_same d e (codes "delete_destination_extra") (h (codes "delete_destination_extra") refl),
      flag_same d e (codes "skip_source_errors") (h (codes "skip_source_errors") refl),
    )

kept_same : (setup : Setup) (x d e : Data) → Agree (transfer_rows setup x) d e → kept_at d ≡ kept_at e
unfolding kept_at
kept_same setup x d e h =
    rw (
      flag_same d e (codes "notify_on_succeeded") (h (codes "notify_on_succeeded") refl),
      flag_same d e (codes "notify_on_failed") (h (codes "notify_on_failed") refl),
      flag_same d e (codes "notify_on_inactive") (h (codes "notify_on_inactive") refl),
      flag_same d e (codes "encrypt_data") (h (codes "encrypt_data") refl),
      flag_same d e (codes "fail_on_quota_errors") (h (codes "fail_on_quota_errors") refl),
      flag_same d e (codes "store_base_path_info") (h (codes "store_base_path_info") refl),
    )

rules_same : (setup : Setup) (x d e : Data) → Agree (transfer_rows setup x) d e → no_rules_at d ≡ no_rules_at e
unfolding no_rules_at
rules_same setup x d e h = rw (h (codes "filter_rules") refl)

options_same : (setup : Setup) (x d e : Data) → Agree (transfer_rows setup x) d e → options_of d ≡ options_of e
unfolding options_of
options_same setup x d e h =
    rw (
      text_same (Characters 128) d e (codes "label") (h (codes "label") refl),
      absent_same d e (codes "deadline") (h (codes "deadline") refl),
      absent_same d e (codes "sync_level") (h (codes "sync_level") refl),
      flags_same setup x d e h,
      default_same (codes "ignore") d e (codes "recursive_symlinks") (h (codes "recursive_symlinks") refl),
      kept_same setup x d e h,
      rules_same setup x d e h,
    )

entries_same : (setup : Setup) (x : Data) (sides : Sides) (d e : Data) → Agree (transfer_rows setup x) d e → entries_of sides d ≡ entries_of sides e
unfolding entries_of
entries_same setup x sides d e h = items_same (entry_of sides) 1 10000 d e (codes "DATA") (h (codes "DATA") refl)

-- what a transfer is read as behind its options, and behind its ends
abbrev ended : Setup → Data → Ends → Options → Result Submission Place
ended setup d ends options = entries_of (sides_of setup ends) d >>= λ entries. Ok (record { ends = ends; options = options; entries = entries })

abbrev behind_ends : Setup → Data → Ends → Result Submission Place
behind_ends setup d ends = options_of d >>= λ options. ended setup d ends options

behind_same : (setup : Setup) (x d e : Data) → Agree (transfer_rows setup x) d e → (ends : Ends) → behind_ends setup d ends ≡ behind_ends setup e ends
behind_same setup x d e h ends = rw (options_same setup x d e h, entries_same setup x (sides_of setup ends) d e h)

submission_same : (setup : Setup) (x d e : Data) → Agree (transfer_rows setup x) d e → submission_of setup d ≡ submission_of setup e
unfolding submission_of
submission_same setup x d e h =
    let first = constant_same (codes "transfer") d e (codes "DATA_TYPE") (h (codes "DATA_TYPE") refl) in
    rw (first, ends_same setup x d e h)
    (bind_same (constant_at (codes "transfer") e (codes "DATA_TYPE")) (λ _. ends_of e >>= behind_ends setup d) (λ _. ends_of e >>= behind_ends setup e)
    (λ _. bind_same (ends_of e) (behind_ends setup d) (behind_ends setup e) (behind_same setup x d e h)))

entry_same : (sides : Sides) (x : Data) (ms ns : Members) → Agree (entry_rows sides x) (object ms) (object ns) → entry_of sides (object ms) ≡ entry_of sides (object ns)
unfolding entry_of object_at
entry_same sides x ms ns h =
    rw (
      constant_same (codes "transfer_item") (object ms) (object ns) (codes "DATA_TYPE") (h (codes "DATA_TYPE") refl),
      path_same sides.source (object ms) (object ns) (codes "source_path") (h (codes "source_path") refl),
      path_same sides.destination (object ms) (object ns) (codes "destination_path") (h (codes "destination_path") refl),
      flag_same (object ms) (object ns) (codes "recursive") (h (codes "recursive") refl),
    )

principal_same : (kind : PrincipalType) (d e : Data) → id_at d (codes "principal") ≡ id_at e (codes "principal") → principal_as kind d ≡ principal_as kind e
principal_same type.Identity d e h = rw h
principal_same type.Group d e h = rw h
principal_same type.AllAuthenticated d e h = refl
principal_same type.Anonymous d e h = refl

type_same : (d e : Data) → member_of d (codes "principal_type") ≡ member_of e (codes "principal_type") → type_at d ≡ type_at e
unfolding type_at
type_same d e h = rw (word_same d e (codes "principal_type") h)

principal_at_same : (d e : Data) → member_of d (codes "principal_type") ≡ member_of e (codes "principal_type")
    → member_of d (codes "principal") ≡ member_of e (codes "principal") → principal_at d ≡ principal_at e
unfolding principal_at
principal_at_same d e t p = rw (type_same d e t) (bind_same _ _ _ (λ kind. principal_same kind d e (id_same d e (codes "principal") p)))

write_same : (d e : Data) → member_of d (codes "permissions") ≡ member_of e (codes "permissions") → write_at d ≡ write_at e
unfolding write_at
write_same d e h = rw (word_same d e (codes "permissions") h)

access_same : (home : PathValue) (x d e : Data) → Agree (access_rows home x) d e → access_of home d ≡ access_of home e
unfolding access_of
access_same home x d e h =
    rw (
      constant_same (codes "access") d e (codes "DATA_TYPE") (h (codes "DATA_TYPE") refl),
      principal_at_same d e (h (codes "principal_type") refl) (h (codes "principal") refl),
      path_same home d e (codes "path") (h (codes "path") refl),
      write_same d e (h (codes "permissions") refl),
    )

permission_same : (x d e : Data) → Agree (permission_rows x) d e → permission_of d ≡ permission_of e
unfolding permission_of
permission_same x d e h = rw (constant_same (codes "access") d e (codes "DATA_TYPE") (h (codes "DATA_TYPE") refl), write_same d e (h (codes "permissions") refl))

pub unknown_members : OthersChangeNothing → UnknownMembersChangeNothing
unknown_members others = record {
  transfer = λ setup ms other d h.
      submission_same setup (object ms) (object (put other d ms)) (object ms) (agree others (transfer_rows setup (object ms)) ms other d h);
  entry = λ sides ms other d h. entry_same sides (object ms) (put other d ms) ms (agree others (entry_rows sides (object ms)) ms other d h);
  access = λ home ms other d h.
      access_same home (object ms) (object (put other d ms)) (object ms) (agree others (access_rows home (object ms)) ms other d h);
  permission = λ ms other d h. permission_same (object ms) (object (put other d ms)) (object ms) (agree others (permission_rows (object ms)) ms other d h);
}
