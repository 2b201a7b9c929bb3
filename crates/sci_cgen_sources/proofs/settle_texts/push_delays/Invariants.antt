-- The texts of the sources so far.
use Rattle.std.proofs.Common.{◌≡◌, ◌≤◌, suc}
use Rattle.sci_net.specs.Sources.{source_of}
use Rattle.c_ast.specs.View.{statements_of}
use Rattle.c_mean.specs.Texts.{joined, upto}
use Rattle.sci_program.specs.Program.{port_count, delay_text}
use Rattle.sci_cgen_sources.specs.Taking.{takes}
use Rattle.sci_cgen_sources.proofs.settle_texts.push_delays.Given as goal

abbrev pub invariant-loop-at : goal.invariant-loop-at
invariant-loop-at l = record {
  so_far : statements_of l.out.items ≡ joined (statements_of l.fn.out.items) (upto (λ k. delay_text l.net (takes l.taking) (suc k) (source_of l.net (suc k))) l.at);
  within : l.at ≤ port_count l.net;
}
