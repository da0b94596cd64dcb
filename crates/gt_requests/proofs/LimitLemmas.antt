-- The limits of a transfer's specification, from those of its document's parts.
use Rattle.std.proofs.Common.{◌≡◌, ◌<◌, ℕ, Bool, true, false, ◌&&◌, ◌==◌, leb, not, List, [], ◌∷◌, length, Option, Some, None, refl, ap, ◌∙◌, subst}
use Rattle.std.specs.List.{list_all}
use Rattle.std.specs.Str.{bytes_eq}
use Rattle.std.specs.Prelude.{Ok, ok_or}
use Rattle.std.proofs.lemmas.Bool.{and_from, and_parts, eqb-true, lt-ltb}
use Rattle.gt_paths.specs.Path.{is_path, overlaps}
use Rattle.gt_setup.specs.Setup.{Setup, collection_of}
use Rattle.gt_types.specs.Command.{is_command}
use Rattle.gt_types.specs.Forms.{is_entries, is_kept, is_label}
use Rattle.gt_types.specs.SpecForms.{is_transfer_entry, is_transfer_spec}
use Rattle.gt_types.specs.declared.command.Command.TheVariants.{SubmitTransfer}
use Rattle.gt_types.specs.declared.spec.TransferEntry.{TransferEntry}
use Rattle.gt_types.specs.declared.reply.ReplyCode.TheVariants.{EndpointNotFound}
use Rattle.gt_values.specs.Forms.{if_there, is_id}
use Rattle.gt_requests.proofs.SetupLemmas.{one_collection}
use Rattle.gt_requests.specs.Request.{collection_with}
use Rattle.gt_requests.specs.Transfer.{spec_of}
use Rattle.gt_requests.specs.declared.refusal.Refusal.{Refusal}
use Rattle.gt_requests.specs.declared.refusal.Refusal.TheVariants.{Plain}
use Rattle.gt_requests.specs.declared.transfer.Submission.{Submission}

-- what is apart in one collection is apart in two
apart_anywhere : (same : Bool) (entry : TransferEntry) → is_transfer_entry same entry ≡ true → is_transfer_entry false entry ≡ true
apart_anywhere same entry h =
    let paths = (and_parts (is_path entry.source && is_path entry.destination) (not (same && overlaps entry.source entry.destination)) h).0 in
    and_from (is_path entry.source && is_path entry.destination) true paths refl

all_anywhere : (same : Bool) (entries : List TransferEntry) → list_all (is_transfer_entry same) entries ≡ true → list_all (is_transfer_entry false) entries ≡ true
all_anywhere same [] h = refl
all_anywhere same (entry ∷ entries) h =
    let parts = and_parts (is_transfer_entry same entry) (list_all (is_transfer_entry same) entries) h in
    and_from _ _ (apart_anywhere same entry parts.0) (all_anywhere same entries parts.1)

entries_within : (same one : Bool) (entries : List TransferEntry) → (one ≡ true → same ≡ true)
    → is_entries (is_transfer_entry same) entries ≡ true → is_entries (is_transfer_entry one) entries ≡ true
entries_within same true entries f h = subst (λ (b : Bool). is_entries (is_transfer_entry b) entries ≡ true) (f refl) h
entries_within same false entries f h =
    let parts = and_parts (leb 1 (length entries) && leb (length entries) 10000) (list_all (is_transfer_entry same) entries) h in
    and_from (leb 1 (length entries) && leb (length entries) 10000) _ parts.0 (all_anywhere same entries parts.1)

spec_is_within : (s : Submission) (source destination : ℕ) → (if_there is_label s.options.label && is_kept s.options.kept) ≡ true
    → is_entries (is_transfer_entry (source == destination)) s.entries ≡ true → is_transfer_spec (spec_of s source destination) ≡ true
spec_is_within s source destination h k =
    let parts = and_parts (if_there is_label s.options.label) (is_kept s.options.kept) h in
    rw (parts.0, parts.1, k)

submit_is_command : (count : ℕ) (s : Submission) (source destination : ℕ) → is_id s.ends.submission ≡ true → source < count → destination < count
    → (if_there is_label s.options.label && is_kept s.options.kept) ≡ true
    → is_entries (is_transfer_entry (bytes_eq s.ends.source s.ends.destination)) s.entries ≡ true
    → ((source == destination) ≡ true → bytes_eq s.ends.source s.ends.destination ≡ true)
    → is_command count (SubmitTransfer s.ends.submission (spec_of s source destination)) ≡ true
submit_is_command count s source destination id first second options entries one =
    let within = spec_is_within s source destination options (entries_within (bytes_eq s.ends.source s.ends.destination) (source == destination) s.entries one entries) in
    and_from _ _ (and_from _ _ (and_from _ _ id (lt-ltb source count first)) (lt-ltb destination count second)) within

found_at : (o : Option ℕ) (refusal : Refusal) (n : ℕ) → ok_or o refusal ≡ Ok n → o ≡ Some n
found_at None refusal n e = absurd (cc e)
found_at (Some m) refusal n e = cc e

-- a transfer between two collections of the setup is a command within its limits
pub submit_limits : (setup : Setup) (s : Submission) (source destination : ℕ)
    → collection_with setup s.ends.source ≡ Ok source → collection_with setup s.ends.destination ≡ Ok destination
    → source < length setup.collections → destination < length setup.collections → is_id s.ends.submission ≡ true
    → (if_there is_label s.options.label && is_kept s.options.kept) ≡ true
    → is_entries (is_transfer_entry (bytes_eq s.ends.source s.ends.destination)) s.entries ≡ true
    → is_command (length setup.collections) (SubmitTransfer s.ends.submission (spec_of s source destination)) ≡ true
submit_limits setup s source destination from to first second id options entries =
    let read = found_at (collection_of setup s.ends.source) (Plain EndpointNotFound) source from in
    let written = found_at (collection_of setup s.ends.destination) (Plain EndpointNotFound) destination to in
    let one = λ (e : (source == destination) ≡ true). one_collection setup s.ends.source s.ends.destination destination (read ∙ ap Some (eqb-true source destination e)) written in
    submit_is_command (length setup.collections) s source destination id first second options entries one
