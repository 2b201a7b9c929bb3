-- The steps so far, and those of the inputs to come.
use Rattle.std.proofs.Common.{◌≡◌, ◌++◌, ◌-◌}
use Rattle.sci_cgen_blocks.specs.Recipes.{patterns_joined}
use Rattle.sci_cgen_blocks.specs.Plain.{steps_of}
use Rattle.sci_cgen_blocks.proofs.logical_kinds.push_patterns.Given as goal

abbrev pub invariant-loop-port : goal.invariant-loop-port
invariant-loop-port l =
    steps_of l.steps.items ++ patterns_joined l.ty l.join l.port (l.n - l.port) ≡ steps_of l.fn.steps.items ++ patterns_joined l.ty l.join 1 (l.n - 1)
