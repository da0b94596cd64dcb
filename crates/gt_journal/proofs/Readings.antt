-- Each file of bytes can be read.
use Rattle.std.proofs.Common.{◌≡◌, ◌⊎◌, inl, inr, ℕ, zero, suc, ◌+◌, ◌^◌, ◌<◌, ◌≤◌, List, [], ◌∷◌, ◌++◌, length, get_or, take, drop, refl, sym, subst, ◌∙◌, ap, arith, length-append, length-take, length-drop, take-append-drop}
use Rattle.std.proofs.lemmas.List.{take-take, drop-take, places}
use Rattle.std.proofs.lemmas.Bool.{cases_lt, cases_eq}
use Rattle.std.specs.Int.{w64, from_be_bytes}
use Rattle.gt_journal.specs.JournalText.{texts, IsBytes, IsTail, IsJournalText, IsDamagedAfter}
use Rattle.gt_journal.specs.Reading.{Reads, size_in}
use Rattle.gt_journal.proofs.Parse.{bytes_drop, bytes_take, spells, record_more}

-- the file stands for bodies, or is damaged after some
abbrev pub IsRead : List ℕ → Type 0
IsRead file = ((bodies : List (List ℕ)) × IsJournalText bodies file) ⊎ ((bodies : List (List ℕ)) × IsDamagedAfter bodies file)

ends : (file rest : List ℕ) (bodies : List (List ℕ)) → Reads file bodies rest → IsTail rest → IsRead file
ends file rest bodies reads tail = inl (bodies, record { fit = reads.fit; tail = rest; whole = reads.whole; is_tail = tail })

goes : (n : ℕ) (file rest : List ℕ) (bodies : List (List ℕ)) → length rest ≤ n → length file < 2 ^ 63 → IsBytes rest → Reads file bodies rest → IsRead file
goes zero file rest bodies long small bytes reads = ends file rest bodies reads (inl (omega (arith, long)))
goes (suc n) file rest bodies long small bytes reads =
    let size = from_be_bytes w64 (take 8 (drop 1 rest)) in
    let after = drop 9 rest in
    let body = take size after in
    elim (cases_lt (length rest) 9) [
      | inl short ↦ ends file rest bodies reads (inl short)
      | inr header ↦ elim (cases_eq (get_or rest 0 0) 1) [
        | inr shut ↦ ends file rest bodies reads (inr shut)
        | inl gate ↦ elim (cases_lt (length rest) (9 + size)) [
          | inl short ↦ inr (bodies, record { fit = reads.fit; rest = rest; whole = reads.whole; cut_off = record { gate = gate; header = header; short = short } })
          | inr whole ↦
              let is : length body ≡ size = omega (arith, length-take size after, length-drop 9 rest, whole) in
              let head = take 9 rest in
              let parts : rest ≡ head ++ (body ++ drop size after) = sym (take-append-drop 9 rest) ∙ ap (λ (l : List ℕ). head ++ l) (sym (take-append-drop size after)) in
              let told : size ≡ size_in head = ap (λ (l : List ℕ). from_be_bytes w64 l) (sym (take-take 8 8 (drop 1 rest) (omega arith)) ∙ ap (λ (l : List ℕ). take 8 l) (sym (drop-take 1 8 rest))) in
              goes n file (drop size after) (bodies ++ body ∷ []) (omega (arith, length-drop size after, length-drop 9 rest, header, long)) small (bytes_drop size after (bytes_drop 9 rest bytes))
              (record_more file head body (drop size after) bodies (subst (λ (l : List ℕ). Reads file bodies l) parts reads) (omega (arith, length-take 9 rest, header)) (grind (arith, places, gate)) (spells head (length body) (omega (arith, length-take 9 rest, header)) (bytes_take 9 rest bytes) (is ∙ told))
              (omega (arith, is, whole, small, ap length reads.whole, length-append (texts bodies) rest)))
        ]
      ]
    ]

pub some_reading : (file : List ℕ) → length file < 2 ^ 63 → IsBytes file → IsRead file
some_reading file small bytes = goes (length file) file file [] (omega arith) small bytes (record { fit = tt; whole = refl })
