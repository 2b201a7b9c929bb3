use Rattle.std.proofs.Common.{◌≡◌, ◌≤◌, ◌+◌, pos}
use Rattle.sci_forms.specs.Words.{state_len_of}
use Rattle.c_ast.specs.Syntax.{done, next, num, set, cell}
use Rattle.c_ast.specs.View.{statements_of}
use Rattle.c_mean.specs.Texts.{upto}
use Rattle.sci_cgen_blocks.specs.Recipes.{next_term}
use Rattle.sci_cgen_blocks.specs.Texts.{fixed, written, states, expression}
use Rattle.sci_cgen_blocks.specs.Plain.{plain_places}
use Rattle.sci_cgen_blocks.proofs.block_texts.unrolled_next.Given as goal

abbrev pub invariant-loop-i : goal.invariant-loop-i
invariant-loop-i l =
    (statements_of l.out.items ≡ upto (λ i. next (set (cell states (num (pos (l.at.state + i)))) (expression (written (plain_places l.at) (fixed 0)) (next_term l.s.kind l.s i))) done) l.i)
    × (l.i ≤ state_len_of l.s.kind l.s)
