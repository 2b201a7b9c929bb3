-- The values so far, and those to come.
use Rattle.std.proofs.Common.{◌≡◌, ◌+◌, ◌-◌}
use Rattle.c_ast.specs.View.{statements_of}
use Rattle.c_mean.specs.Texts.{joined}
use Rattle.sci_program.specs.Program.{elements_shown}
use Rattle.sci_cgen_sources.proofs.settle_texts.push_elements.Given as goal

abbrev pub invariant-loop-at : goal.invariant-loop-at
invariant-loop-at l =
    joined (statements_of l.out.items) (elements_shown l.block l.port (l.at + 1) (l.start + l.at) (l.count - l.at))
    ≡ joined (statements_of l.fn.out.items) (elements_shown l.block l.port 1 l.start l.count)
