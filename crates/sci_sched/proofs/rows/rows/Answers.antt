use Rattle.std.proofs.Common.{◌<◌, ◌+◌, ◌≡◌, List, length, Vec, subst, sym, arith}
use Rattle.std.specs.declared.alloc.Global.{Global}
use Rattle.sci_net.specs.Sources.{sources_of, source_of}
use Rattle.sci_reaction.specs.declared.entry.Entry.{Entry}
use Rattle.sci_sched.specs.Plain.{lists_of}
use Rattle.sci_sched.specs.Outlines.{IsOutline}
use Rattle.sci_sched.specs.Rows.{AreRows}
use Rattle.sci_sched.proofs.Building.{rows_more, rows_are}
use Rattle.sci_sched.proofs.rows.rows.Goals as goal

pub row-requires-clause-outline : goal.row-requires-clause-outline
row-requires-clause-outline c =
    let n = c.args.net.now in let i = c.loop-at.at in
    let low : i < length (sources_of n) = subst (λ m. i < m) c.source_count-at-end.ensures c.loop-at-test.true in
    subst (IsOutline n (source_of n i)) (sym c.index-outlines-at.is) (c.requires.outlines.each i c.index-outlines-at.result low)

pub loop-at-preserved : goal.loop-at-preserved
loop-at-preserved c =
    let n = c.args.net.now in let i = c.loop-at.at in
    let v : Vec Entry Global = c.in_ok-row.field-0 in (
      subst (λ (vs : List (Vec Entry Global)). AreRows n (i + 1) (lists_of vs)) (sym c.in_ok-push.ensures.items) (rows_more n i c.loop-at.rows.items v c.loop-at.invariant.0 c.in_ok-row.ensures.row),
      c.in_ok-row.ensures.sized,
      c.in_ok-row.ensures.clear,
    )

pub returns : goal.returns
returns c =
    let n = c.args.net.now in let i = c.loop-at.at in
    let all : i ≡ length (sources_of n) = omega (arith, c.loop-at.auto.at-end, c.loop-at-test.false, c.source_count-at-end.ensures) in
    rows_are n i (lists_of c.loop-at.rows.items) c.loop-at.invariant.0 all
