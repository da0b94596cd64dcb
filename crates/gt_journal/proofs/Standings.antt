-- What the fields of a journal give its callers.
use Rattle.std.proofs.Common.{◌≡◌, inl, ℕ, ◌+◌, List, [], ◌∷◌, ◌++◌, Option, None, Some, length, take, drop, refl, sym, ◌∙◌, ap, subst, arith, length-take, length-drop}
use Rattle.std.specs.Prelude.{IfSome}
use Rattle.std.proofs.lemmas.List.{take_at, take-take, drop-take}
use Rattle.gt_causes.specs.Outcomes.{NoMore}
use Rattle.gt_disk.specs.Disk.{DiskWords, LeavesOnly}
use Rattle.gt_disk.specs.Moments.{weaker, joined}
use Rattle.gt_journal.specs.JournalText.{frame, Fits, IsJournalText, IsTextWithDoubt, IsFront}
use Rattle.gt_journal.specs.Gates.{Closed, InDoubt}
use Rattle.gt_journal.specs.Journal.{Rests, bodies_of, doubt_of, journal_of, Image, Standing, IsPending, IsConsistent}
use Rattle.gt_journal.proofs.Steps.{front_of}
use Rattle.gt_journal.proofs.Texts.{length-frame, front_reads, bodies_few, behind_size}
use Rattle.gt_journal.proofs.Fronts.{closed_text, doubt_text}

module _ (front : List ℕ) (place : ℕ) (is : place ≡ length front) where
  pub closed_front : (s : List ℕ) → Closed front s → take place s ≡ front
  closed_front s closed = ap (λ (l : List ℕ). take place l) closed.whole ∙ front_of front closed.rest closed.gate place is

  pub doubt_front : (body s : List ℕ) → InDoubt front body s → take place s ≡ front
  doubt_front body s (gate, doubt) = ap (λ (l : List ℕ). take place l) doubt.whole ∙ front_of front (frame body ++ 0 ∷ doubt.rest) gate place is

-- a body whose frame the buffer begins with
pub body_in : (body buffer : List ℕ) → take (length body + 9) buffer ≡ frame body ++ 0 ∷ [] → take (length body) (drop 8 buffer) ≡ body
body_in body buffer spelled =
    let n = length body in
    sym (drop-take 8 n buffer)
    ∙ ap (λ (l : List ℕ). drop 8 l) (sym (take-take (8 + n) (n + 9) buffer (omega arith)) ∙ ap (λ (l : List ℕ). take (8 + n) l) spelled ∙ take_at (frame body) (0 ∷ []) (8 + n) (omega (arith, length-frame body)))
    ∙ behind_size body

-- a front whose bodies are known
own_front : (bodies : List (List ℕ)) (front : List ℕ) → IsFront bodies front → IsFront (bodies_of front) front
own_front bodies front stands = subst (λ bs. IsFront bs front) (sym (front_reads bodies front stands)) stands

-- a journal with nothing in doubt
pub closed_standing : (may_leave : List ℕ → Type 0) (seen : List ℕ) (place : ℕ) (bodies : List (List ℕ)) (front : List ℕ) → IsFront bodies front → place ≡ length front → NoMore (Closed front) may_leave → may_leave seen
    → Standing may_leave place (take place seen) None
closed_standing may_leave seen place bodies front stands is images here =
    subst (λ f. Standing may_leave place f None) (sym (closed_front front place is seen (images seen here))) (record { stands = own_front bodies front stands; is = is; images = images })

-- a journal with this body in doubt
pub doubt_standing : (may_leave : List ℕ → Type 0) (seen : List ℕ) (place : ℕ) (bodies : List (List ℕ)) (front body : List ℕ) → IsFront bodies front → place ≡ length front → NoMore (InDoubt front body) may_leave → may_leave seen
    → Standing may_leave place (take place seen) (Some body)
doubt_standing may_leave seen place bodies front body stands is images here =
    subst (λ f. Standing may_leave place f (Some body)) (sym (doubt_front front place is body seen (images seen here))) (record { stands = own_front bodies front stands; is = is; images = images })

pub settled_images : (may_leave : List ℕ → Type 0) (place : ℕ) (front : List ℕ) (doubt : Option (List ℕ)) → Standing may_leave place front doubt → doubt ≡ None → NoMore (Closed front) may_leave
settled_images may_leave place front doubt standing none = subst (λ d. NoMore (Image front d) may_leave) none standing.images

-- each outcome of a crash stands for the bodies, with the one in doubt or without
left_texts : (may_leave : List ℕ → Type 0) (place : ℕ) (front : List ℕ) (doubt : Option (List ℕ)) → IfSome doubt Fits → Standing may_leave place front doubt → NoMore (IsTextWithDoubt (bodies_of front) doubt) may_leave
left_texts may_leave place front None fits standing c now = closed_text (bodies_of front) front c standing.stands (standing.images c now)
left_texts may_leave place front (Some body) fits standing c now = doubt_text (bodies_of front) front body c standing.stands fits (standing.images c now)

-- the body in doubt has the length that is kept of it
pub long_doubt : (place size : ℕ) (buffer : List ℕ) → IsPending place size buffer → length (take size (drop 8 buffer)) ≡ size
long_doubt place size buffer pending = omega (arith, length-take size (drop 8 buffer), length-drop 8 buffer, pending.buffered)

doubt_fits : (place : ℕ) (pending : Option ℕ) (buffer : List ℕ) → IfSome pending (λ size. IsPending place size buffer) → IfSome (doubt_of pending buffer) Fits
doubt_fits place None buffer pends = tt
doubt_fits place (Some size) buffer pends = omega (arith, long_doubt place size buffer pends, pends.small)

-- nothing in doubt is nothing pending
pub no_pending : (pending : Option ℕ) (buffer : List ℕ) → doubt_of pending buffer ≡ None → pending ≡ None
no_pending None buffer none = refl
no_pending (Some size) buffer none = absurd (cc)

pub rests : {D : Type 0} (words : DiskWords D) (disk : D) (place : ℕ) (pending : Option ℕ) (buffer : List ℕ) → IsConsistent words disk place pending buffer → Rests words (journal_of words disk place pending buffer)
rests words disk place pending buffer is =
    let front = take place (words.seen disk) in
    record {
      small = omega (arith, is.small);
      few = omega (arith, bodies_few front, length-take place (words.seen disk));
      place = λ honest. let standing = is.told honest in standing.is ∙ ap length standing.stands.is;
      images = λ honest. left_texts (words.may_leave disk) place front (doubt_of pending buffer) (doubt_fits place pending buffer is.pends) (is.told honest);
    }

module _ {D : Type 0} (words : DiskWords D) (bodies : List (List ℕ)) (front body : List ℕ) (stands : IsFront bodies front) where
  pub staged_moments : (old mid : D) → LeavesOnly words old mid (Closed front) → LeavesOnly words old mid (IsJournalText bodies)
  staged_moments old mid first = weaker words old mid (Closed front) (IsJournalText bodies) (λ c closed. closed_text bodies front c stands closed) first

  pub doubt_moments : Fits body → (old new : D) → LeavesOnly words old new (InDoubt front body) → LeavesOnly words old new (IsTextWithDoubt bodies (Some body))
  doubt_moments fits old new run = weaker words old new (InDoubt front body) (IsTextWithDoubt bodies (Some body)) (λ c doubt. doubt_text bodies front body c stands fits doubt) run

  -- the first two calls of an append, without the last two or with them
  pub stage_moments : (old mid : D) → LeavesOnly words old mid (Closed front) → LeavesOnly words old mid (IsTextWithDoubt bodies (Some body))
  stage_moments old mid first = weaker words old mid (IsJournalText bodies) (IsTextWithDoubt bodies (Some body)) (λ c text. inl text) (staged_moments old mid first)

  pub append_moments : Fits body → (old mid new : D) → LeavesOnly words old mid (Closed front) → LeavesOnly words mid new (InDoubt front body) → LeavesOnly words old new (IsTextWithDoubt bodies (Some body))
  append_moments fits old mid new first second = joined words old mid new (IsTextWithDoubt bodies (Some body)) (stage_moments old mid first) (doubt_moments fits mid new second)
