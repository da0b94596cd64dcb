-- What a caller of the reader needs of a script's text: one line more, and no line behind its limit.
use Rattle.gt_setup.specs.Setup.{Setup}
use Rattle.gt_script.specs.Reading.{BeginsNoLine}
use Rattle.gt_script.specs.Script.{IsTextOf, Reads, ScriptText, most_script_bytes}
use Rattle.gt_script.specs.declared.line.Line.{Line}
use Rattle.std.proofs.Common.{List, [], ap, append-nil, append_assoc, arith, length, length-append, refl, sym, ◌++◌, ◌∙◌, ◌∷◌, ◌≡◌, ◌≤◌, ℕ}

-- one line more
pub script_text_more : (setup : Setup) (lines : List Line) (line : Line) (text last : List ℕ) → ScriptText setup lines text → IsTextOf setup line last → ScriptText setup (lines ++ line ∷ []) (text ++ last)
script_text_more setup [] line text last so_far is = (last, [], is, refl, ap (λ s. s ++ last) so_far ∙ sym (append-nil last))
script_text_more setup (first ∷ rest) line text last (front, others, is_first, so_far, whole) is =
    (front, others ++ last, is_first, script_text_more setup rest line others last so_far is, ap (λ s. s ++ last) whole ∙ append_assoc front others last)

-- a reading of the bytes that were taken is one of these with those left behind them
pub reads_before : (setup : Setup) (lines : List Line) (bytes taken beyond after : List ℕ) → bytes ≡ taken ++ after → Reads setup lines taken beyond → Reads setup lines bytes (beyond ++ after)
reads_before setup lines bytes taken beyond after whole reads = record {
  text = reads.text;
  is_text = reads.is_text;
  whole = whole ∙ ap (λ s. s ++ after) reads.whole ∙ append_assoc reads.text beyond after;
  fits = reads.fits;
}

-- no line stands behind the script's limit
pub full_script : (setup : Setup) (before : ℕ) (bytes : List ℕ) → most_script_bytes ≤ before → BeginsNoLine setup before bytes
full_script setup before bytes full line after taken here =
    omega (arith, full, here.count, here.fits, ap length here.is_text.whole, length-append here.is_text.command (10 ∷ here.is_text.rest))
