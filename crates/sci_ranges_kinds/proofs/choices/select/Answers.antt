use Rattle.std.proofs.Common.{◌≡◌, ◌∙◌, ℕ, Option, ap, subst, arith}
use Rattle.sci_forms.specs.declared.Kind.TheVariants.{Select}
use Rattle.sci_forms.specs.Words.{size}
use Rattle.sci_kinds.specs.Asks.{Asks}
use Rattle.sci_ranges_base.specs.declared.interval.Interval.{Interval}
use Rattle.sci_ranges_base.specs.Cells.{valued}
use Rattle.sci_ranges_base.specs.Masks.{some_choose}
use Rattle.sci_ranges_rules.specs.Words.{joins, if_so, input_range}
use Rattle.sci_ranges_kinds.proofs.Asked.{asks_of}
use Rattle.sci_ranges_kinds.proofs.Looping.{joins_more, so_joined}
use Rattle.sci_ranges_kinds.proofs.choices.select.Goals as goal

pub some_choose-chosen-requires : goal.some_choose-chosen-requires
some_choose-chosen-requires c =
    let a : Asks Select c.args.spec.now = asks_of Select c.args.spec.now c.requires.kind c.requires.is_typed in
    omega (arith, a.3)

pub input_range-i-requires-clause-few : goal.input_range-i-requires-clause-few
input_range-i-requires-clause-few c =
    let a : Asks Select c.args.spec.now = asks_of Select c.args.spec.now c.requires.kind c.requires.is_typed in
    omega (arith, a.3)

pub loop-k-preserved : goal.loop-k-preserved
loop-k-preserved c =
    joins_more (λ k. if_so (some_choose c.args.masks.now k) (input_range (size c.args.spec.now) c.args.ins.now k c.args.e)) c.loop-k.k c.loop-k.all
    c.join-all.result c.loop-k.invariant
    (so_joined c.loop-k.all c.join-all.result c.if_so.result c.some_choose-chosen.result _ c.input_range-i.result _ c.join-all.ensures c.if_so.ensures
    c.some_choose-chosen.ensures c.input_range-i.ensures)

pub returns : goal.returns
returns c =
    let f : ℕ → Option Interval = λ k. if_so (some_choose c.args.masks.now k) (input_range (size c.args.spec.now) c.args.ins.now k c.args.e) in
    let all : c.loop-k.k ≡ c.args.spec.now.evtin = omega arith in
    c.valued.ensures ∙ ap valued (subst (λ n. c.loop-k.all ≡ joins f n) all c.loop-k.invariant)
