use Rattle.std.proofs.Common.{◌≡◌, length}
use Rattle.sci_net.specs.Sources.{sources_of}
use Rattle.sci_judge.proofs.Delayed.{AreSourcesTo}
use Rattle.sci_judge.proofs.rows.delayed.Given as goal

abbrev pub invariant-loop-source : goal.invariant-loop-source
invariant-loop-source l = record {
  end : l.source-end ≡ length (sources_of l.net);
  sources : AreSourcesTo l.net l.found.found l.source l.sources.items;
}
