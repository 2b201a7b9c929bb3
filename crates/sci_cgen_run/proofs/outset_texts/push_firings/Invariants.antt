-- Start, the first of the sources, has no event and no text.
use Rattle.std.proofs.Common.{◌≡◌, ◌≤◌, ◌-◌, suc, length}
use Rattle.sci_net.specs.Sources.{sources_of}
use Rattle.c_ast.specs.View.{statements_of}
use Rattle.c_mean.specs.Texts.{joined, upto}
use Rattle.sci_program.specs.Program.{source_begun, programmed_before}
use Rattle.sci_cgen_run.proofs.outset_texts.push_firings.Given as goal

abbrev pub invariant-loop-source : goal.invariant-loop-source
invariant-loop-source l = record {
  least : 1 ≤ l.source;
  most : l.source ≤ length (sources_of l.net);
  counted : l.count ≡ programmed_before l.net l.source;
  text : statements_of l.out.items ≡ joined (statements_of l.fn.out.items) (upto (λ k. source_begun l.net (suc k)) (l.source - 1));
}
