-- What a crash leaves in each of the two steps of an append, over a front.
use Rattle.std.proofs.Common.{◌≡◌, ◌≢◌, ℕ, ◌+◌, ◌<◌, List, [], ◌∷◌, ◌++◌, length, get_or, take, drop, sym, ◌∙◌, ap, arith, append_assoc, length-append, take-append-drop}
use Rattle.std.proofs.lemmas.List.{take_at, drop_at, drop_more}
use Rattle.gt_disk.specs.Disk.{Holds, Torn}
use Rattle.gt_journal.specs.JournalText.{frame, text}
use Rattle.gt_journal.specs.Gates.{Closed, Doubtful, InDoubt}

-- a front, one byte, and the rest
pub front_of : (front rest : List ℕ) (gate place : ℕ) → place ≡ length front → take place (front ++ gate ∷ rest) ≡ front
front_of front rest gate place is = take_at front (gate ∷ rest) place (sym is)

with_gate : (front rest : List ℕ) (gate place : ℕ) → place ≡ length front → take (place + 1) (front ++ gate ∷ rest) ≡ front ++ gate ∷ []
with_gate front rest gate place is =
    ap (λ (l : List ℕ). take (place + 1) l) (sym (append_assoc front (gate ∷ []) rest))
    ∙ take_at (front ++ gate ∷ []) rest (place + 1) (omega (arith, is, length-append front (gate ∷ [])))

behind_gate : (front rest : List ℕ) (gate place : ℕ) → place ≡ length front → drop (place + 1) (front ++ gate ∷ rest) ≡ rest
behind_gate front rest gate place is =
    ap (λ (l : List ℕ). drop (place + 1) l) (sym (append_assoc front (gate ∷ []) rest))
    ∙ drop_at (front ++ gate ∷ []) rest (place + 1) (omega (arith, is, length-append front (gate ∷ [])))

-- whatever is written behind the gate, the gate stands
same_gate : (front rest c : List ℕ) (gate place : ℕ) → place ≡ length front → take (place + 1) c ≡ take (place + 1) (front ++ gate ∷ rest) → c ≡ front ++ gate ∷ drop (place + 1) c
same_gate front rest c gate place is same =
    sym (take-append-drop (place + 1) c)
    ∙ ap (λ (l : List ℕ). l ++ drop (place + 1) c) (same ∙ with_gate front rest gate place is)
    ∙ append_assoc front (gate ∷ []) (drop (place + 1) c)

module _ (front : List ℕ) (place : ℕ) (is : place ≡ length front) where
  -- a torn write behind the gate leaves it closed
  pub torn_behind : (n : ℕ) (d c : List ℕ) → Closed front d → Torn (place + 1) n d c → Closed front c
  torn_behind n d c closed torn = record {
    gate = closed.gate;
    rest = drop (place + 1) c;
    whole = same_gate front closed.rest c closed.gate place is (torn.before ∙ ap (λ (l : List ℕ). take (place + 1) l) closed.whole);
    shut = closed.shut;
  }

  -- a whole one puts the frame behind the same gate
  pub written_behind : (body s c : List ℕ) (closed : Closed front s) → Holds s (place + 1) (frame body ++ 0 ∷ []) c → Doubtful front body closed.gate c
  written_behind body s c closed holds =
      let bytes = frame body ++ 0 ∷ [] in
      let rest = drop (place + 1 + length bytes) s in
      record {
        rest = rest;
        whole = holds
            ∙ ap (λ (l : List ℕ). take (place + 1) l ++ bytes ++ rest) closed.whole
            ∙ ap (λ (l : List ℕ). l ++ bytes ++ rest) (with_gate front closed.rest closed.gate place is)
            ∙ append_assoc (front ++ closed.gate ∷ []) bytes rest
            ∙ append_assoc front (closed.gate ∷ []) (bytes ++ rest)
            ∙ ap (λ (l : List ℕ). front ++ closed.gate ∷ l) (append_assoc (frame body) (0 ∷ []) rest);
      }

  -- a torn gate is some gate
  pub torn_gate : (body : List ℕ) (gate : ℕ) (d c : List ℕ) → Doubtful front body gate d → Torn place 1 d c → InDoubt front body c
  torn_gate body gate d c doubtful torn =
      let behind = frame body ++ 0 ∷ doubtful.rest in
      let long : place < length d = omega (arith, is, ap length doubtful.whole, length-append front (gate ∷ behind)) in
      let now = get_or c place 0 in
      let back : drop (place + 1) c ≡ behind = torn.after ∙ ap (λ (l : List ℕ). drop (place + 1) l) doubtful.whole ∙ behind_gate front behind gate place is in
      let before : take place c ≡ front = torn.before ∙ ap (λ (l : List ℕ). take place l) doubtful.whole ∙ front_of front behind gate place is in (
        now,
        record {
          rest = doubtful.rest;
          whole = sym (take-append-drop place c)
              ∙ ap (λ (l : List ℕ). l ++ drop place c) before
              ∙ ap (λ (l : List ℕ). front ++ l) (drop_more c place 0 (omega (arith, long, torn.no_shorter)) ∙ ap (λ (l : List ℕ). now ∷ l) back);
        },
      )

  -- a whole one is this gate
  pub written_gate : (body : List ℕ) (gate now : ℕ) (s c : List ℕ) → Doubtful front body gate s → Holds s place (now ∷ []) c → Doubtful front body now c
  written_gate body gate now s c doubtful holds =
      let behind = frame body ++ 0 ∷ doubtful.rest in
      record {
        rest = doubtful.rest;
        whole = holds
            ∙ ap (λ (l : List ℕ). take place l ++ (now ∷ []) ++ drop (place + 1) l) doubtful.whole
            ∙ ap (λ (l : List ℕ). l ++ (now ∷ []) ++ drop (place + 1) (front ++ gate ∷ behind)) (front_of front behind gate place is)
            ∙ append_assoc front (now ∷ []) (drop (place + 1) (front ++ gate ∷ behind))
            ∙ ap (λ (l : List ℕ). front ++ now ∷ l) (behind_gate front behind gate place is);
      }

  pub gate_reads : (body : List ℕ) (gate : ℕ) (s : List ℕ) → Doubtful front body gate s → take 1 (drop place s) ≡ gate ∷ []
  gate_reads body gate s doubtful =
      let behind = frame body ++ 0 ∷ doubtful.rest in
      ap (λ (l : List ℕ). take 1 (drop place l)) doubtful.whole ∙ ap (λ (l : List ℕ). take 1 l) (drop_at front (gate ∷ behind) place (sym is))

-- an open gate adds the record to the front, and a shut one doesn't
pub kept : (front body c : List ℕ) → Doubtful front body 1 c → Closed (front ++ text body) c
kept front body c doubtful = record {
  gate = 0;
  rest = doubtful.rest;
  whole = doubtful.whole ∙ sym (append_assoc front (text body) (0 ∷ doubtful.rest));
  shut = omega arith;
}

pub dropped : (front body : List ℕ) (gate : ℕ) (c : List ℕ) → gate ≢ 1 → Doubtful front body gate c → Closed front c
dropped front body gate c shut doubtful = record { gate = gate; rest = frame body ++ 0 ∷ doubtful.rest; whole = doubtful.whole; shut = shut }
