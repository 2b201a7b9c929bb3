-- The steps so far, and those of the inputs to come.
use Rattle.std.proofs.Common.{◌≡◌, ◌++◌, ◌-◌}
use Rattle.sci_cgen_blocks.specs.Recipes.{extremes}
use Rattle.sci_cgen_blocks.specs.Plain.{steps_of}
use Rattle.sci_cgen_blocks.proofs.arithmetic_kinds.push_extremes.Given as goal

abbrev pub invariant-loop-port : goal.invariant-loop-port
invariant-loop-port l =
    steps_of l.steps.items ++ extremes l.op l.port (l.count - l.port) ≡ steps_of l.fn.steps.items ++ extremes l.op 1 (l.count - 1)
