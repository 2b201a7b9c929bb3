use Rattle.std.proofs.Common.{drop}
use Rattle.sci_io.specs.Taken.{UnderWay}
use Rattle.sci_save.specs.Text.{events_text}
use Rattle.sci_save.proofs.write.put_events.Given as goal

-- the lines so far are handed on, and the others are due still
abbrev pub invariant-loop-date : goal.invariant-loop-date
invariant-loop-date g l = UnderWay (g.S.Sink.state l.fn.out) (g.S.Sink.state l.out) (events_text l.net l.events) (events_text l.net (drop l.date-index l.events))
