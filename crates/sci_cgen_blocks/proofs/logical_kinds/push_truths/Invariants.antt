-- The steps so far, and those of the inputs to come.
use Rattle.std.proofs.Common.{◌≡◌, ◌++◌, ◌-◌}
use Rattle.sci_cgen_blocks.specs.Terms.{along}
use Rattle.sci_cgen_blocks.specs.Recipes.{truth, counted, changed}
use Rattle.sci_cgen_blocks.specs.Plain.{steps_of}
use Rattle.sci_cgen_blocks.proofs.logical_kinds.push_truths.Given as goal

abbrev pub invariant-loop-port : goal.invariant-loop-port
invariant-loop-port l =
    steps_of l.steps.items ++ changed (counted (λ k. truth (along k)) l.port (l.n - l.port))
    ≡ steps_of l.fn.steps.items ++ changed (counted (λ k. truth (along k)) 0 l.n)
