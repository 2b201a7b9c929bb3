use Rattle.std.proofs.Common.{drop}
use Rattle.sci_io.specs.Taken.{UnderWay}
use Rattle.sci_reaction.specs.Kept.{guards_of}
use Rattle.sci_sched.specs.Text.{guards_text}
use Rattle.sci_sched.proofs.write.put_guards.Given as goal

-- the pieces so far are handed on, and the others are due still
abbrev pub invariant-loop-guard : goal.invariant-loop-guard
invariant-loop-guard g l = UnderWay (g.S.Sink.state l.fn.out) (g.S.Sink.state l.out) (guards_text (guards_of l.guards)) (guards_text (guards_of (drop l.guard-index l.guards)))
