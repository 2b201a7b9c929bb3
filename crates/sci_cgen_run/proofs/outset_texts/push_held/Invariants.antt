use Rattle.std.proofs.Common.{◌≡◌, ◌≤◌, ◌+◌}
use Rattle.sci_forms.specs.Ports.{total}
use Rattle.sci_forms.specs.Words.{held_of}
use Rattle.c_ast.specs.View.{statements_of}
use Rattle.c_mean.specs.Texts.{joined, upto}
use Rattle.sci_cgen_blocks.specs.Texts.{values}
use Rattle.sci_program.specs.Program.{begun_text}
use Rattle.sci_cgen_run.proofs.outset_texts.push_held.Given as goal

abbrev pub invariant-loop-e : goal.invariant-loop-e
invariant-loop-e l =
    (statements_of l.out.items ≡ joined (statements_of l.fn.out.items) (upto (λ j. begun_text values (l.at.outs + j) (held_of l.s.kind l.s j)) l.e))
    × (l.e ≤ total l.s.outs)
