use Rattle.std.proofs.Common.{◌≡◌, ◌≤◌, ◌+◌, ◌-◌}
use Rattle.sci_forms.specs.Words.{state_len_of}
use Rattle.c_ast.specs.View.{statements_of}
use Rattle.c_mean.specs.Texts.{joined, upto}
use Rattle.sci_cgen_blocks.specs.Texts.{next_value_text}
use Rattle.sci_cgen_blocks.specs.Plain.{plain_places}
use Rattle.sci_cgen_blocks.proofs.block_texts.push_next.Given as goal

abbrev pub invariant-loop-i : goal.invariant-loop-i
invariant-loop-i l =
    (statements_of l.out.items ≡ joined (statements_of l.fn.out.items) (upto (λ i. next_value_text l.s (plain_places l.at) (l.first + i)) l.i))
    × (l.i ≤ state_len_of l.s.kind l.s - l.first)
