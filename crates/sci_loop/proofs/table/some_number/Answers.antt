use Rattle.std.proofs.Common.{refl, sym, true≢false}
use Rattle.sci_loop.proofs.Needing.{number_there, none_there, no_number}
use Rattle.sci_loop.proofs.table.some_number.Goals as goal

pub returns-then-not-is_empty : goal.returns-then-not-is_empty
returns-then-not-is_empty c = (
  λ on. number_there c.args.rows.now c.loop-i.i c.index-rows-i.result c.is_empty.result c.loop-i-test.true c.index-rows-i.is c.is_empty.ensures c.if-not-is_empty.true,
  λ h. refl,
)

pub loop-i-preserved : goal.loop-i-preserved
loop-i-preserved c = none_there c.args.rows.now c.loop-i.i c.index-rows-i.result c.is_empty.result c.loop-i-test.true c.index-rows-i.is c.is_empty.ensures c.if-not-is_empty.false c.loop-i.invariant

pub returns : goal.returns
returns c = (λ on. absurd (true≢false (sym on)), λ h. absurd (no_number c.args.rows.now c.loop-i.i c.loop-i-test.false c.loop-i.invariant h))
