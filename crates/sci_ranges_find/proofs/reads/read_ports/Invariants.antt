use Rattle.std.proofs.Common.{◌≡◌, ◌++◌, drop}
use Rattle.sci_net.specs.Parts.{spec_of}
use Rattle.sci_ranges_find.specs.View.{ranges_of}
use Rattle.sci_ranges_find.specs.Readings.{ports_by}
use Rattle.sci_ranges_find.proofs.reads.read_ports.Given as goal

-- what is read so far, and what is left
abbrev pub invariant-loop-k : goal.invariant-loop-k
invariant-loop-k l =
    l.all.items ++ ports_by l.net (ranges_of l.table) l.readings l.block l.k (drop l.k (spec_of l.net l.block).ins)
    ≡ ports_by l.net (ranges_of l.table) l.readings l.block 0 (spec_of l.net l.block).ins
