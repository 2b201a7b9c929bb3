use Rattle.std.proofs.Common.{◌*◌, length}
use Rattle.std.specs.Prelude.{min}
use Rattle.sci_io.specs.Taken.{UnderWay}
use Rattle.sci_text.specs.Lines.{joined}
use Rattle.sci_vcd.specs.Spelling.{change_lines}
use Rattle.sci_vcd.specs.Writing.{changes_at, changes_within}
use Rattle.sci_vcd.proofs.pages.put_changes.Given as goal

abbrev pub invariant-loop-page : goal.invariant-loop-page
invariant-loop-page g l =
    UnderWay (g.S.Sink.state l.fn.out) (g.S.Sink.state l.out) (joined (change_lines l.signals l.told (changes_at l.tick 1 l.old l.new)))
    (joined (change_lines l.signals l.last (changes_within l.tick (min (length l.signals) (l.page * 32)) (length l.signals) l.old l.new)))
