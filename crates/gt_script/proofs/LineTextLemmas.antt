-- What the text of a line tells: no two lines have texts at the front of the same bytes.
use Rattle.gt_setup.specs.Setup.{Setup}
use Rattle.std.proofs.Common.{List, Option, [], ap, append_assoc, subst, sym, ◌++◌, ◌∙◌, ◌∷◌, ◌≡◌, ℕ}
use Rattle.gt_script.proofs.CommandLemmas.{command_plain, one_command}
use Rattle.gt_script.proofs.ListLemmas.{append_cancel, same_front, same_length_front}
use Rattle.gt_script.specs.CommandLine.{IsCommandText}
use Rattle.gt_script.specs.Script.{Follows, IsRequest, IsTextOf}
use Rattle.gt_script.specs.declared.command_line.CommandLine.{CommandLine}
use Rattle.gt_script.specs.declared.command_line.CommandLine.TheVariants.{End as EndCommand, Now as NowCommand, Restart as RestartCommand, Send as SendCommand}
use Rattle.gt_script.specs.declared.line.Line.{Line}
use Rattle.gt_script.specs.declared.line.Line.TheVariants.{End, Now, Restart, Send}

-- what two lines have in common whose rests stand at the front of the same bytes
pub record SameRest (a b : Line) (s t x y : List ℕ) : Type 0 where
  pub line : a ≡ b
  pub rest : s ≡ t
  pub behind : x ≡ y

nothing_behind : (a b line : Line) (s t x y : List ℕ) → (a ≡ line) × (s ≡ []) → (b ≡ line) × (t ≡ []) → s ++ x ≡ t ++ y → SameRest a b s t x y
nothing_behind a b line s t x y p q e = record {
  line = p.0 ∙ sym q.0;
  rest = p.1 ∙ sym q.1;
  behind = ap (λ z. z ++ x) (sym p.1) ∙ e ∙ ap (λ z. z ++ y) q.1;
}

one_request : (token : Option (List ℕ)) (method target : List ℕ) (size : ℕ) (a b : Line) (s t x y : List ℕ) → IsRequest token method target size a s → IsRequest token method target size b t → s ++ x ≡ t ++ y → SameRest a b s t x y
one_request token method target size a b s t x y p q e =
    let front : p.body ++ (10 ∷ x) ≡ q.body ++ (10 ∷ y) =
    sym (append_assoc p.body (10 ∷ []) x) ∙ ap (λ z. z ++ x) (sym p.whole) ∙ e ∙ ap (λ z. z ++ y) q.whole ∙ append_assoc q.body (10 ∷ []) y in
    let body : p.body ≡ q.body = same_length_front p.body q.body (10 ∷ x) (10 ∷ y) (p.sized ∙ sym q.sized) front in
    let same : s ≡ t = p.whole ∙ ap (λ z. z ++ 10 ∷ []) body ∙ sym q.whole in
    record {
      line = p.asks ∙ ap (λ z. Send token method target z) body ∙ sym q.asks;
      rest = same;
      behind = append_cancel s x y (e ∙ ap (λ z. z ++ y) (sym same));
    }

-- behind one command line one line goes on
one_rest : (setup : Setup) (command_line : CommandLine) (a b : Line) (s t x y : List ℕ) → Follows setup command_line a s → Follows setup command_line b t → s ++ x ≡ t ++ y → SameRest a b s t x y
one_rest setup EndCommand a b s t x y p q e = nothing_behind a b End s t x y p q e
one_rest setup (NowCommand moment) a b s t x y p q e = nothing_behind a b (Now moment) s t x y p q e
one_rest setup RestartCommand a b s t x y p q e = nothing_behind a b Restart s t x y p q e
one_rest setup (SendCommand token method target size) a b s t x y p q e = one_request token method target size a b s t x y p q e

-- what two lines have in common whose texts stand at the front of the same bytes
pub record SameLine (a b : Line) (s t x y : List ℕ) : Type 0 where
  pub line : a ≡ b
  pub text : s ≡ t
  pub rest : x ≡ y

pub one_text : (setup : Setup) (a b : Line) (s t x y : List ℕ) → IsTextOf setup a s → IsTextOf setup b t → s ++ x ≡ t ++ y → SameLine a b s t x y
one_text setup a b s t x y is_s is_t e =
    let whole : is_s.command ++ 10 ∷ (is_s.rest ++ x) ≡ is_t.command ++ 10 ∷ (is_t.rest ++ y) =
    sym (append_assoc is_s.command (10 ∷ is_s.rest) x) ∙ ap (λ z. z ++ x) (sym is_s.whole) ∙ e ∙ ap (λ z. z ++ y) is_t.whole ∙ append_assoc is_t.command (10 ∷ is_t.rest) y in
    let front = same_front 10 is_s.command is_t.command (is_s.rest ++ x) (is_t.rest ++ y) (command_plain setup is_s.command_line is_s.command is_s.is_command) (command_plain setup is_t.command_line is_t.command is_t.is_command) whole in
    let head : is_s.command_line ≡ is_t.command_line = one_command setup is_s.command_line is_t.command_line is_s.command is_s.is_command (subst (IsCommandText setup is_t.command_line) (sym front.word) is_t.is_command) in
    let follows = subst (λ h. Follows setup h b is_t.rest) (sym head) is_t.follows in
    let rest = one_rest setup is_s.command_line a b is_s.rest is_t.rest x y is_s.follows follows front.rest in
    record {
      line = rest.line;
      text = is_s.whole ∙ ap (λ z. z ++ 10 ∷ is_s.rest) front.word ∙ ap (λ z. is_t.command ++ 10 ∷ z) rest.rest ∙ sym is_t.whole;
      rest = rest.behind;
    }
