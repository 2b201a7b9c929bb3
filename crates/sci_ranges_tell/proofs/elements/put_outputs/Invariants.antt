use Rattle.std.proofs.Common.{◌≡◌, ◌+◌, drop}
use Rattle.sci_forms.specs.Ports.{total}
use Rattle.sci_io.specs.Taken.{UnderWay}
use Rattle.sci_net.specs.Parts.{spec_of}
use Rattle.sci_ranges_text.specs.Text.{outputs_text, block_text}
use Rattle.sci_ranges_find.specs.View.{ranges_of}
use Rattle.sci_ranges_tell.specs.Told.{plain_table}
use Rattle.sci_ranges_tell.proofs.elements.put_outputs.Given as goal

-- the outputs so far are handed on, the others are due still, and of these `at` is the first element
abbrev pub invariant-loop-k : goal.invariant-loop-k
invariant-loop-k g l =
    UnderWay (g.S.Sink.state l.fn.out) (g.S.Sink.state l.out) (block_text l.net (plain_table l.net (ranges_of l.table)) l.block)
    (outputs_text l.net (plain_table l.net (ranges_of l.table)) l.block (l.k + 1) l.at (drop l.k (spec_of l.net l.block).outs))
    × (l.at + total (drop l.k (spec_of l.net l.block).outs) ≡ total (spec_of l.net l.block).outs)
