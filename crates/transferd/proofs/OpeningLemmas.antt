-- What was read of a setup.
use Rattle.std.proofs.Common.{IsTrue, List, [], ap, append-nil, arith, length, subst, sym, take, ◌++◌, ◌<◌, ◌∙◌, ◌≡◌, ◌≤◌, ℕ}
use Rattle.std.proofs.Math.Seq.{take-append_seam}
use Rattle.std.proofs.lemmas.List.{take_all}
use Rattle.transferd.specs.Endings.{Stream}
use Rattle.transferd.specs.Exits.{setup_read}
use Rattle.transferd.specs.Opening.{ReadsSetup}

front_of : (n : ℕ) (bytes after : List ℕ) → length bytes ≡ n → take n (bytes ++ after) ≡ bytes
front_of n bytes after size = subst (λ (k : ℕ). take k (bytes ++ after) ≡ bytes) size (take-append_seam bytes after)

-- as many bytes as are read at most
pub read_full : (source : Stream) (bytes : List ℕ) → (IsTrue source.told → source.before ≡ bytes ++ source.after) → length bytes ≡ 1048577 → ReadsSetup source bytes
read_full source bytes whole size = record {
  whole = whole;
  all = λ t. sym (ap setup_read (whole t) ∙ front_of 1048577 bytes source.after size);
}

all_of : (n : ℕ) (before bytes : List ℕ) → before ≡ bytes → length bytes ≤ n → take n before ≡ bytes
all_of n before bytes same short = ap (λ (s : List ℕ). take n s) same ∙ take_all n bytes short

-- all bytes that there are
pub read_short : (source : Stream) (bytes : List ℕ) → (IsTrue source.told → (source.before ≡ bytes ++ source.after) × (source.after ≡ [])) → length bytes < 1048577 → ReadsSetup source bytes
read_short source bytes whole size = record {
  whole = λ t. (whole t).0;
  all = λ t. sym (all_of 1048577 source.before bytes ((whole t).0 ∙ ap (λ (s : List ℕ). bytes ++ s) (whole t).1 ∙ append-nil bytes) (omega (arith, size)));
}
