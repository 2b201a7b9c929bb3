use Rattle.std.proofs.Common.{◌≡◌, ◌++◌, drop}
use Rattle.sci_net.specs.Parts.{rows_of}
use Rattle.sci_save.specs.Reading.{firsts_of}
use Rattle.sci_save.proofs.rows.firsts.Given as goal

abbrev pub invariant-loop-row : goal.invariant-loop-row
invariant-loop-row l = l.firsts.items ++ firsts_of (rows_of (drop l.row-index l.rows)) ≡ firsts_of (rows_of l.rows)
