use Rattle.std.proofs.Common.{refl, ◌≡◌, ℕ, pos}
use Rattle.c_mean.specs.Meaning.{World, Ran, then_run, turns, turn_count, one_turn, run_block}
use Rattle.c_mean.specs.Places.{Puts}
use Rattle.c_mean.proofs.Loops.{loop_runs}
use Rattle.c_mean.proofs.loop_law.Goals as goal

pub returns : goal.returns
returns c env n x b body rest w v is there =
    loop_runs (λ (r : Ran). (k : ℕ) × (m : ℕ) × (w' : World) × Puts w x 0 (pos 0) w' ×
    (r ≡ then_run (turns (turn_count v) (one_turn env k x body) w') (run_block env m rest))) env n x b body rest w v is there
    (λ k m w' put. (k, m, w', put, refl))
