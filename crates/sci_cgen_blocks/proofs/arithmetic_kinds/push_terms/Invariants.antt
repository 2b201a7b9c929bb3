-- The steps so far, and those of the inputs to come.
use Rattle.std.proofs.Common.{◌≡◌, ◌++◌, ◌-◌, length}
use Rattle.sci_cgen_blocks.specs.Recipes.{terms}
use Rattle.sci_cgen_blocks.specs.Plain.{steps_of}
use Rattle.sci_cgen_blocks.proofs.arithmetic_kinds.push_terms.Given as goal

abbrev pub invariant-loop-port : goal.invariant-loop-port
invariant-loop-port l =
    steps_of l.steps.items ++ terms l.s l.port (length l.s.ins - l.port) ≡ steps_of l.fn.steps.items ++ terms l.s 0 (length l.s.ins)
