use Rattle.std.proofs.Common.{◌≡◌, ℕ, ◌+◌, ◌-◌, Bool, true, false, cond, List, Option, sym, ap, ◌∙◌}
use Rattle.std.specs.Prelude.{option_and_then}
use Rattle.sci_forms.specs.declared.spec.Spec.{Spec}
use Rattle.sci_net.specs.declared.Wire.{Wire}
use Rattle.sci_net.specs.Parts.{Parts, spec_of, wire_of}
use Rattle.sci_ranges_base.specs.declared.interval.Interval.{Interval}
use Rattle.sci_ranges_base.specs.Intervals.{meet, range_at}
use Rattle.sci_ranges_rules.specs.Rules.{compared}
use Rattle.sci_ranges_pass.specs.Ranges.{same_wire}
use Rattle.sci_ranges_pass.specs.Taken.{by_input}
use Rattle.sci_ranges_choices.proofs.Inputs.{compared_input}
use Rattle.sci_ranges_choices.proofs.taking.by_input.Goals as goal

pub wire-own-requires-clause-port_most : goal.wire-own-requires-clause-port_most
wire-own-requires-clause-port_most c = compared_input c.args.net.now c.args.compared.now.block c.args.k c.well_formed-2.ensures c.requires.compared c.requires.input

chosen : (n : Parts) (g k : ℕ) (holds : Bool) (vs : List (Option Interval)) (v w : Wire) (o : Option Interval) (b : Bool) → v ≡ wire_of n g (k + 1) → same_wire v w ≡ b
    → cond b (meet o (option_and_then (compared (spec_of n g) k holds) (range_at vs (1 - k)))) o ≡ by_input n g k holds vs w o
chosen n g k holds vs v w o b e h =
    ap (λ (t : Bool). cond t (meet o (option_and_then (compared (spec_of n g) k holds) (range_at vs (1 - k)))) o) (sym h)
    ∙ ap (λ (x : Wire). cond (same_wire x w) (meet o (option_and_then (compared (spec_of n g) k holds) (range_at vs (1 - k)))) o) e

pub returns-then-not-same_wire : goal.returns-then-not-same_wire
returns-then-not-same_wire c =
    chosen c.args.net.now c.args.compared.now.block c.args.k c.args.holds c.args.compared.now.ins.items c.wire-own.result c.args.wire c.args.o false c.wire-own.ensures
    (sym c.same_wire.ensures ∙ c.if-not-same_wire.true)

pub returns : goal.returns
returns c =
    let other = c.range_at-other.ensures ∙ ap (λ (vs : List (Option Interval)). range_at vs (1 - c.args.k)) c.deref.ensures.value in
    c.meet.ensures
    ∙ (ap (meet c.args.o) (c.compared_of-numbers.ensures
    ∙ (ap (λ (s : Spec). option_and_then (compared s c.args.k c.args.holds) c.range_at-other.result) c.spec.ensures.value
    ∙ ap (option_and_then (compared (spec_of c.args.net.now c.args.compared.now.block) c.args.k c.args.holds)) other))
    ∙ chosen c.args.net.now c.args.compared.now.block c.args.k c.args.holds c.args.compared.now.ins.items c.wire-own.result c.args.wire c.args.o true c.wire-own.ensures
    (sym c.same_wire.ensures ∙ c.if-not-same_wire.false))
