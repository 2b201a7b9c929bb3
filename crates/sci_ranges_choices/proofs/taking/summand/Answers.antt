use Rattle.std.proofs.Common.{◌+◌, ◌<◌, List, Option, ap, ◌∙◌, arith}
use Rattle.sci_forms.specs.declared.Kind.TheVariants.{Summation}
use Rattle.sci_kinds.specs.Asks.{Asks}
use Rattle.sci_net.specs.declared.Wire.{Wire}
use Rattle.sci_net.specs.Parts.{spec_of, wire_of}
use Rattle.sci_ranges_base.specs.declared.interval.Interval.{Interval}
use Rattle.sci_ranges_base.specs.Intervals.{range_at}
use Rattle.sci_ranges_refined.proofs.Adding.{sum_asks}
use Rattle.sci_ranges_choices.specs.View.{kept_by}
use Rattle.sci_ranges_choices.proofs.taking.summand.Goals as goal
use Rattle.sci_ranges_choices.proofs.taking.summand.Goals.{After-well_formed-2}

few : (c : After-well_formed-2) → c.args.j < 64
few c =
    let a : Asks Summation (spec_of c.args.net.now c.args.sum.now.block) =
    sum_asks (spec_of c.args.net.now c.args.sum.now.block) (c.well_formed-2.ensures.typed_specs c.args.sum.now.block c.requires.sum.block) c.requires.sum.sum in
    omega (arith, a.2, c.requires.input)

pub overflow_cast-port : goal.overflow_cast-port
overflow_cast-port c = let l = few (goal.at.overflow_cast-port c).After-well_formed-2 in omega (arith, l)

pub overflow_add-port : goal.overflow_add-port
overflow_add-port c = let l = few (goal.at.overflow_add-port c).After-well_formed-2 in omega (arith, l)

pub returns : goal.returns
returns c =
    let read = c.range_at-read.ensures ∙ ap (λ (vs : List (Option Interval)). range_at vs c.args.j) c.deref.ensures.value in
    c.kept_by.ensures
    ∙ (ap (λ (w : Wire). kept_by c.args.net.now c.args.block c.args.first c.args.choice.now w c.range_at-read.result) c.wire-wire.ensures
    ∙ ap (kept_by c.args.net.now c.args.block c.args.first c.args.choice.now (wire_of c.args.net.now c.args.sum.now.block (c.args.j + 1))) read)
