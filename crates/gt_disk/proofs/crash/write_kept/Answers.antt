use Rattle.std.proofs.Common.{◌≡◌, ℕ, ◌-◌, List, sym, ◌∙◌, ap, subst, rules}
use Rattle.gt_disk.specs.Images.{Write, after, overlaid}
use Rattle.gt_disk.specs.MemFile.{IsKept, IsTornFrom}
use Rattle.gt_disk.proofs.KeptLemmas.{begins, torn_more}
use Rattle.gt_disk.proofs.crash.write_kept.Goals as goal

pub returns-in_ok-overlay-in-Torn : goal.returns-in_ok-overlay-in-Torn
returns-in_ok-overlay-in-Torn c state begin kept =
    let from = c.in-Torn.from in
    let at = c.args.at in
    let bytes = c.args.bytes.now in
    let left = c.args.left.now.items in
    let torn = c.in_ok-torn-in-Torn.torn.items in
    let now : c.deref.result.now ≡ torn = search rules in
    let gap : c.saturating_sub.result ≡ from - at = search rules in
    let made = c.in_ok-torn-in-Torn.ensures in
    let kept_torn : IsTornFrom from state left = subst (λ keep. IsKept keep state left) c.in-Torn.is kept in
    let more = torn_more from state left at bytes torn (begins state at bytes begin) kept_torn made.long
    (λ i low. made.before i (search rules)) (λ i high low. made.ones i (search rules) low) in
    let is : c.overlay-in-Torn.new.file.items ≡ overlaid left at torn = c.in_ok-overlay-in-Torn.ensures.ok ∙ ap (λ (l : List ℕ). overlaid left at l) now in
    subst (λ keep. IsKept keep (after (Write at bytes) state) c.overlay-in-Torn.new.file.items) (sym c.in-Torn.is)
    (subst (λ (l : List ℕ). IsTornFrom from (after (Write at bytes) state) l) (sym is) more)
