use Rattle.std.proofs.Common.{◌≡◌, ◌≤◌, ◌+◌}
use Rattle.sci_base.specs.Lists.{spread}
use Rattle.sci_forms.specs.Words.{state_len_of}
use Rattle.c_ast.specs.View.{statements_of}
use Rattle.c_mean.specs.Texts.{joined, upto}
use Rattle.sci_cgen_blocks.specs.Texts.{states}
use Rattle.sci_program.specs.Program.{begun_text}
use Rattle.sci_cgen_run.proofs.outset_texts.push_state.Given as goal

abbrev pub invariant-loop-i : goal.invariant-loop-i
invariant-loop-i l =
    (statements_of l.out.items ≡ joined (statements_of l.fn.out.items) (upto (λ j. begun_text states (l.at.state + j) (spread l.s.state j)) l.i))
    × (l.i ≤ state_len_of l.s.kind l.s)
