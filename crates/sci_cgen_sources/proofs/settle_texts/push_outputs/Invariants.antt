-- The outputs so far, and those to come.
use Rattle.std.proofs.Common.{◌≡◌, ◌+◌, drop}
use Rattle.sci_forms.specs.Ports.{total}
use Rattle.c_ast.specs.View.{statements_of}
use Rattle.c_mean.specs.Texts.{joined}
use Rattle.sci_program.specs.Program.{outputs_shown}
use Rattle.sci_cgen_sources.proofs.settle_texts.push_outputs.Given as goal

abbrev pub invariant-loop-port : goal.invariant-loop-port
invariant-loop-port l = record {
  shown : joined (statements_of l.out.items) (outputs_shown l.block (l.port + 1) l.place (drop l.port l.outs))
      ≡ joined (statements_of l.fn.out.items) (outputs_shown l.block 1 l.start l.outs);
  places : l.place + total (drop l.port l.outs) ≡ l.start + total l.outs;
}
