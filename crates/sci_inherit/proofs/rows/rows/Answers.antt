use Rattle.std.proofs.Common.{◌≡◌, ℕ, ◌+◌, ◌-◌, subst, arith, length}
use Rattle.sci_inherit.specs.Followers.{plain_rows, Fills, BlockFed}
use Rattle.sci_inherit.proofs.InOrder.{before_none}
use Rattle.sci_inherit.proofs.Linked.{filled_none, filled_next, rows_are}
use Rattle.sci_inherit.proofs.rows.rows.Goals as goal

pub loop-at-init : goal.loop-at-init
loop-at-init c =
    let rows = plain_rows c.in_ok-rows.rows.items in
    record { filled = filled_none c.args.net.now c.args.wanted.now rows c.in_ok-rows.ensures; before = before_none (record { block = 0 + 1; input = 1 }) rows c.in_ok-rows.ensures.empty }

pub push_block-requires-clause-shape : goal.push_block-requires-clause-shape
push_block-requires-clause-shape c = c.loop-at.invariant.filled.have_rows

pub push_block-requires-clause-before : goal.push_block-requires-clause-before
push_block-requires-clause-before c = c.loop-at.invariant.before

pub loop-at-preserved : goal.loop-at-preserved
loop-at-preserved c =
    let n = c.args.net.now in
    let at = c.loop-at.at in
    let old = plain_rows c.loop-at.rows.items in
    let new = plain_rows c.push_block.new.rows.items in
    let e : (at + 1) - 1 ≡ at = omega arith in
    record {
      filled = filled_next n c.args.wanted.now at old new (subst (λ (k : ℕ). Fills (BlockFed n c.args.wanted.now k) old new) e c.in_ok-push_block.ensures.fills) c.loop-at.invariant.filled;
      before = c.in_ok-push_block.ensures.before;
    }

pub returns-clause-shape : goal.returns-clause-shape
returns-clause-shape c = c.loop-at.invariant.filled.have_rows

pub returns-clause-rows : goal.returns-clause-rows
returns-clause-rows c =
    let n = c.args.net.now in
    let all : c.loop-at.at ≡ length n.specs = omega (arith, c.len-at-end.ensures, c.loop-at-test.false, c.loop-at.auto.at-end) in
    rows_are n c.args.wanted.now c.loop-at.at (plain_rows c.loop-at.rows.items) c.well_formed-2.ensures all c.loop-at.invariant.filled

pub returns-clause-in_order : goal.returns-clause-in_order
returns-clause-in_order c = c.loop-at.invariant.before.in_order
