use Rattle.std.proofs.Common.{◌≡◌, ◌++◌, ◌∷◌, [], ◌∙◌, sym, ap, Option, Some, ℕ, replicate, append-nil, arith}
use Rattle.sci_forms.specs.Ports.{elements, type_of}
use Rattle.sci_ranges_base.specs.declared.interval.Interval.{Interval}
use Rattle.sci_ranges_base.specs.Intervals.{whole}
use Rattle.sci_ranges_find.proofs.Wholes.{pushed_more}
use Rattle.sci_ranges_find.proofs.widest.push_whole.Goals as goal

pub loop-init : goal.loop-init
loop-init c = sym (append-nil c.args.all.now.items)

pub loop-preserved : goal.loop-preserved
loop-preserved c =
    let x : Option Interval = Some (whole (type_of c.args.port)) in
    c.in_ok-push.ensures.items
    ∙ (ap (λ (i : Interval). c.loop.all.items ++ Some i ∷ []) (c.whole.ensures ∙ ap whole c.kind_of_type.ensures)
    ∙ pushed_more c.args.all.now.items c.loop.all.items x c.loop.counter c.loop.invariant)

pub returns : goal.returns
returns c =
    let most = c.loop.auto.counter-end in
    let all : c.loop.counter ≡ elements c.args.port = omega (arith, c.loop-test.false, most, c.elements-end.ensures) in
    c.loop.invariant ∙ ap (λ (k : ℕ). c.args.all.now.items ++ replicate k (Some (whole (type_of c.args.port)))) all
