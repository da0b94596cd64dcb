-- What stays at the front of a buffer.
use Rattle.std.proofs.Common.{◌≡◌, ◌≤◌, ℕ, List, ◌++◌, length, take, Result, Ok, Err, sym, ap, ◌∙◌, arith}
use Rattle.std.specs.Prelude.{OnErr}
use Rattle.std.proofs.lemmas.List.{length-take, take-take}
use Rattle.std.proofs.Math.Seq.{take-append_seam, take-length}
use Rattle.gt_records.specs.Appending.{Keeps}

pub keeps_same : (old new : List ℕ) → new ≡ old → Keeps old new
keeps_same old new e = record { front = ap (take (length old)) e ∙ take-length old }

pub keeps_longer : (old added new : List ℕ) → new ≡ old ++ added → Keeps old new
keeps_longer old added new e = record { front = ap (take (length old)) e ∙ take-append_seam old added }

pub keeps_through : (old mid new : List ℕ) → Keeps old mid → Keeps mid new → Keeps old new
keeps_through old mid new first second =
    let le : length old ≤ length mid = omega (arith, length-take (length old) mid, ap length first.front) in
    record { front = sym (take-take (length old) (length mid) new le) ∙ ap (take (length old)) second.front ∙ first.front }

-- what is kept behind an addition is kept
pub keeps_grown : (old added mid new : List ℕ) → mid ≡ old ++ added → Keeps mid new → Keeps old new
keeps_grown old added mid new e keeps = keeps_through old mid new (keeps_longer old added mid e) keeps

pub on_err : {T E P : Type 0} (r : Result T E) → P → OnErr r P
on_err (Ok x) p = tt
on_err (Err e) p = p

pub on_err_by : {T E P Q : Type 0} (r : Result T E) → (P → Q) → OnErr r P → OnErr r Q
on_err_by (Ok x) f p = tt
on_err_by (Err e) f p = f p

-- what a call that fails behind other calls keeps
pub ruleset keeping = (keeps_grown, keeps_same)

-- what a loop of calls keeps
pub ruleset keeping_on = (keeps_longer, keeps_same, keeps_through)
