use Rattle.std.proofs.Common.{◌≡◌, ◌∙◌, ◌+◌, ◌*◌, ◌^◌, ◌≤◌, ℕ, length, Option, Some, ap, subst, arith}
use Rattle.std.proofs.Math.Nat.{pow-le-pow_right}
use Rattle.sci_forms.specs.declared.Kind.TheVariants.{Logic}
use Rattle.sci_forms.specs.Words.{param}
use Rattle.sci_kinds.specs.Asks.{Asks}
use Rattle.sci_ranges_base.specs.declared.interval.Interval.{Interval}
use Rattle.sci_ranges_base.specs.Intervals.{one}
use Rattle.sci_ranges_base.specs.Cells.{valued}
use Rattle.sci_ranges_rules.specs.Words.{joins, if_so, allows}
use Rattle.sci_ranges_kinds.proofs.Asked.{asks_of, few_outs}
use Rattle.sci_ranges_kinds.proofs.Looping.{joins_more, so_joined}
use Rattle.sci_ranges_kinds.proofs.truths.logic.Goals as goal

pub rows-row-end-requires : goal.rows-row-end-requires
rows-row-end-requires c =
    let a : Asks Logic c.args.spec.now = asks_of Logic c.args.spec.now c.requires.kind c.requires.is_typed in
    omega (arith, a.1, c.len-n.ensures.value)

pub row_truth-value-requires-clause-rows : goal.row_truth-value-requires-clause-rows
row_truth-value-requires-clause-rows c =
    let a : Asks Logic c.args.spec.now = asks_of Logic c.args.spec.now c.requires.kind c.requires.is_typed in
    let few : c.len-n.result ≤ 8 = omega (arith, a.1, c.len-n.ensures.value) in
    let most : 2 ^ c.len-n.result ≤ 256 = pow-le-pow_right {n = 2} (omega arith) few in
    omega (arith, most, c.rows-row-end.ensures)

pub row_truth-value-requires-clause-outs : goal.row_truth-value-requires-clause-outs
row_truth-value-requires-clause-outs c = few_outs c.args.spec.now c.requires.kind c.requires.is_typed

pub loop-row-preserved : goal.loop-row-preserved
loop-row-preserved c =
    let f : ℕ → Option Interval = λ r. if_so (allows c.args.ins.now (length c.args.spec.now.ins) r)
    (Some (one (param c.args.spec.now (r * length c.args.spec.now.outs + c.args.e)))) in
    joins_more f c.loop-row.row c.loop-row.all c.join-all.result c.loop-row.invariant
    (so_joined c.loop-row.all c.join-all.result c.if_so.result c.allows-chosen.result
    (allows c.args.ins.now (length c.args.spec.now.ins) c.loop-row.row) (Some c.row_truth-value.result) _
    c.join-all.ensures c.if_so.ensures (c.allows-chosen.ensures ∙ ap (λ n. allows c.args.ins.now n c.loop-row.row) c.len-n.ensures.value)
    (ap Some c.row_truth-value.ensures))

pub returns : goal.returns
returns c =
    let f : ℕ → Option Interval = λ r. if_so (allows c.args.ins.now (length c.args.spec.now.ins) r)
    (Some (one (param c.args.spec.now (r * length c.args.spec.now.outs + c.args.e)))) in
    let all : c.loop-row.row ≡ 2 ^ c.len-n.result = omega (arith, c.rows-row-end.ensures) in
    c.valued.ensures ∙ ap valued (subst (λ n. c.loop-row.all ≡ joins f n) (all ∙ ap (λ n. 2 ^ n) c.len-n.ensures.value) c.loop-row.invariant)
