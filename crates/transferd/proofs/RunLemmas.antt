-- A run with one line more.
use Rattle.gt_script.specs.declared.line.Line.{Line}
use Rattle.gt_script.specs.declared.line.Line.TheVariants.{End}
use Rattle.gt_setup.specs.Setup.{Setup}
use Rattle.gt_world.specs.RunFacts.{run_append, world_after_append}
use Rattle.std.proofs.Common.{Bool, List, [], ap, append-nil, append_assoc, refl, subst, sym, ◌++◌, ◌∙◌, ◌∷◌, ◌≡◌, ◌≢◌, ℕ}
use Rattle.transferd.specs.Output.{line_output, out_text}
use Rattle.transferd.specs.Run.{IsUnended, Makes, Played, ScriptRun, lines_of, steps_of, world_at}
use Rattle.gt_world.specs.World.{Taken, World, WorldRun, world_after}

pub script_run_more : (setup : Setup) (honest : Bool) (start : World) (run : List Played) (played : Played) → ScriptRun setup honest start run → Makes played.line played.steps
    → WorldRun setup honest (world_at start run) played.steps → ScriptRun setup honest start (run ++ played ∷ [])
script_run_more setup honest start [] played so_far makes steps = (makes, steps, tt)
script_run_more setup honest start (first ∷ rest) played so_far makes steps = (so_far.0, so_far.1, script_run_more setup honest (world_after start first.steps) rest played so_far.2 makes steps)

pub world_at_more : (start : World) (run : List Played) (played : Played) → world_at start (run ++ played ∷ []) ≡ world_after (world_at start run) played.steps
world_at_more start [] played = refl
world_at_more start (first ∷ rest) played = world_at_more (world_after start first.steps) rest played

-- the world after all steps is the one after the lines
pub world_at_steps : (start : World) (run : List Played) → world_after start (steps_of run) ≡ world_at start run
world_at_steps start [] = refl
world_at_steps start (first ∷ rest) = world_after_append start first.steps (steps_of rest) ∙ world_at_steps (world_after start first.steps) rest

pub steps_of_more : (run : List Played) (played : Played) → steps_of (run ++ played ∷ []) ≡ steps_of run ++ played.steps
steps_of_more [] played = append-nil played.steps
steps_of_more (first ∷ rest) played = ap (λ (s : List Taken). first.steps ++ s) (steps_of_more rest played) ∙ sym (append_assoc first.steps (steps_of rest) played.steps)

pub lines_of_more : (run : List Played) (played : Played) → lines_of (run ++ played ∷ []) ≡ lines_of run ++ played.line ∷ []
lines_of_more [] played = refl
lines_of_more (first ∷ rest) played = ap (λ (ls : List Line). first.line ∷ ls) (lines_of_more rest played)

pub unended_more : (lines : List Line) (line : Line) → IsUnended lines → line ≢ End → IsUnended (lines ++ line ∷ [])
unended_more [] line so_far other = (other, tt)
unended_more (first ∷ rest) line so_far other = (so_far.0, unended_more rest line so_far.1 other)

pub out_text_more : (start : World) (run : List Played) (played : Played) → out_text start (run ++ played ∷ []) ≡ out_text start run ++ line_output (world_at start run) played.line played.steps
out_text_more start [] played = append-nil (line_output start played.line played.steps)
out_text_more start (first ∷ rest) played =
    let front = line_output start first.line first.steps in
    let after = world_after start first.steps in
    ap (λ (s : List ℕ). front ++ s) (out_text_more after rest played) ∙ sym (append_assoc front (out_text after rest) (line_output (world_at after rest) played.line played.steps))

-- the steps of all lines, and those behind them, are one run
pub all_steps : (setup : Setup) (honest : Bool) (start : World) (run : List Played) (last : List Taken) → ScriptRun setup honest start run → WorldRun setup honest (world_at start run) last → WorldRun setup honest start (steps_of run ++ last)
all_steps setup honest start [] last lines further = further
all_steps setup honest start (played ∷ rest) last lines further =
    subst (λ steps. WorldRun setup honest start steps) (sym (append_assoc played.steps (steps_of rest) last))
    (run_append setup honest start played.steps (steps_of rest ++ last) lines.1 (all_steps setup honest (world_after start played.steps) rest last lines.2 further))
