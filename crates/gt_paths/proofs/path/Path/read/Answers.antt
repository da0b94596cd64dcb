-- What is hard: the text begins with a slash, and what follows it is read as pieces, good or bad.
use Rattle.std.proofs.Common.{◌≡◌, ◌⊎◌, ◌∙◌, inl, inr, lit<, Err, Some, None, ◌∷◌, List, ℕ}
use Rattle.std.proofs.lemmas.Result.{IfErr-weaker, IfOk-weaker, err_from_is_err_and}
use Rattle.std.proofs.lemmas.Str.Pattern.{strip_prefix_char}
use Rattle.gt_paths.proofs.PieceLemmas.{read_path-bad, read_path-good, read_path-other, read_path-path}
use Rattle.gt_paths.specs.Path.{PathValue}
use Rattle.gt_paths.specs.PathText.{IsBadPiece, names_of, pieces_of, read_path}
use Rattle.gt_paths.specs.declared.fault.PathFault.{PathFault}
use Rattle.gt_paths.specs.declared.fault.PathFault.TheVariants.{OutOfMemory}
use Rattle.gt_paths.proofs.path.Path.read.Goals as goal

pub returns-in_default-clause-fault : goal.returns-in_default-clause-fault
returns-in_default-clause-fault c =
    inr (read_path-other c.args.home.now c.args.text.now (strip_prefix_char 47 c.args.text.now None c.in_default.ensures.cases (lit< tt)))

-- want of memory, or a bad piece
or_bad : (home : PathValue) (text rest : List ℕ) (fault : PathFault) → text ≡ 47 ∷ rest → (fault ≡ OutOfMemory) ⊎ IsBadPiece (pieces_of rest) fault
    → (fault ≡ OutOfMemory) ⊎ (read_path home text ≡ Err fault)
or_bad home text rest fault slash (inl memory) = inl memory
or_bad home text rest fault slash (inr bad) = inr (read_path-bad home text rest fault slash bad)

pub returns-in_err-draft_of-clause-fault : goal.returns-in_err-draft_of-clause-fault
returns-in_err-draft_of-clause-fault c =
    let slash = strip_prefix_char 47 c.args.text.now (Some c.in-Some.rest) c.in-Some.ensures.cases (lit< tt) in
    let told = err_from_is_err_and c.from_residual.result c.from_residual.ensures.1 in
    rw (told.1, told.2) (or_bad c.args.home.now c.args.text.now c.in-Some.rest.now _ slash c.in_err-draft_of.ensures.fault)

pub returns-clause-ok : goal.returns-clause-ok
returns-clause-ok c =
    let home = c.args.home.now in
    let rest = c.in-Some.rest.now in
    let slash = strip_prefix_char 47 c.args.text.now (Some c.in-Some.rest) c.in-Some.ensures.cases (lit< tt) in
    let names = names_of home (pieces_of rest) in
    read_path-path home c.args.text.now names c.of.result
    (read_path-good home c.args.text.now rest slash c.in_ok-draft_of.ensures.good)
    (IfOk-weaker c.of.result _ (λ path. path ≡ names) (λ path same. same names c.in_ok-draft_of.ensures.draft) c.of.ensures.ok)
    c.of.ensures.path

pub returns-clause-fault : goal.returns-clause-fault
returns-clause-fault c =
    let home = c.args.home.now in
    let rest = c.in-Some.rest.now in
    let slash = strip_prefix_char 47 c.args.text.now (Some c.in-Some.rest) c.in-Some.ensures.cases (lit< tt) in
    let names = names_of home (pieces_of rest) in
    IfErr-weaker c.of.result _ (λ fault. (fault ≡ OutOfMemory) ⊎ (read_path home c.args.text.now ≡ Err fault))
    (λ fault passes. inr (read_path-good home c.args.text.now rest slash c.in_ok-draft_of.ensures.good ∙ passes names c.in_ok-draft_of.ensures.draft))
    c.of.ensures.fault
