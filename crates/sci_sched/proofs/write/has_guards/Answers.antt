use Rattle.std.proofs.Common.{true≢false, arith}
use Rattle.sci_sched.proofs.Together.{none_more}
use Rattle.sci_sched.proofs.write.has_guards.Goals as goal

pub returns-then-not-is_alone : goal.returns-then-not-is_alone
returns-then-not-is_alone c = λ none. absurd (true≢false none)

pub loop-entry-preserved : goal.loop-entry-preserved
loop-entry-preserved c =
    none_more c.args.entries.now c.loop-entry.entry-index c.entry-item.result c.loop-entry-test.true c.entry-item.is (c.is_alone.ensures c.if-not-is_alone.false) c.loop-entry.invariant

pub returns : goal.returns
returns c = λ none k d h. c.loop-entry.invariant k d (omega (arith, h, c.loop-entry-test.false))
