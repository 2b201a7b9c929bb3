use Rattle.std.proofs.Common.{◌∙◌, sym, length, arith}
use Rattle.sci_ranges_find.specs.View.{ranges_of}
use Rattle.sci_ranges_tell.specs.Told.{plain_table}
use Rattle.sci_ranges_tell.proofs.Pieces.{may-some, may-next}
use Rattle.sci_ranges_tell.proofs.stops.may_stop.Goals as goal

pub returns-then-may_stop_at : goal.returns-then-may_stop_at
returns-then-may_stop_at c =
    sym (may-some (plain_table c.args.net.now (ranges_of c.args.table.now)) (length c.args.net.now.specs) c.loop-at.at (omega arith) (sym c.may_stop_at.ensures ∙ c.if-may_stop_at.true))

pub loop-at-preserved : goal.loop-at-preserved
loop-at-preserved c = may-next (plain_table c.args.net.now (ranges_of c.args.table.now)) c.loop-at.at c.may_stop_at.result c.loop-at.invariant c.may_stop_at.ensures c.if-may_stop_at.false
