use Rattle.std.proofs.Common.{◌≡◌, ◌+◌, ◌++◌, drop, take, length}
use Rattle.sci_net.specs.Sources.{sources_from}
use Rattle.sci_save.specs.Reading.{befores}
use Rattle.sci_save.proofs.events.sources_before.Given as goal

abbrev pub invariant-loop-block : goal.invariant-loop-block
invariant-loop-block l = record {
  listed : l.counts.items ++ befores l.count (l.block + 1) (drop l.block l.net.specs) ≡ befores 0 1 l.net.specs;
  counted : l.count ≡ length (sources_from 1 (take l.block l.net.specs));
}
