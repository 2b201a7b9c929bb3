use Rattle.std.proofs.Common.{◌≡◌, ℕ, Bool, true, false, cond, Option, sym, ap, ◌∙◌, arith}
use Rattle.std.specs.Prelude.{option_and_then}
use Rattle.sci_forms.specs.declared.spec.Spec.{Spec}
use Rattle.sci_net.specs.declared.Wire.{Wire}
use Rattle.sci_net.specs.Parts.{Parts, spec_of, wire_of}
use Rattle.sci_ranges_base.specs.declared.interval.Interval.{Interval}
use Rattle.sci_ranges_refined.specs.Choices.{is_switch, taken_numbers}
use Rattle.sci_ranges_pass.specs.Ranges.{same_wire}
use Rattle.sci_ranges_pass.specs.Taken.{by_condition}
use Rattle.sci_ranges_choices.proofs.Inputs.{choice_is, switch_input}
use Rattle.sci_ranges_choices.proofs.taking.by_condition.Goals as goal

pub wire-condition-requires-clause-port_most : goal.wire-condition-requires-clause-port_most
wire-condition-requires-clause-port_most c =
    (switch_input c.args.net.now c.args.block 2 c.well_formed-2.ensures c.requires.block c.requires.choice (omega arith) (omega arith)).most

pub taken_of-requires-clause-switch : goal.taken_of-requires-clause-switch
taken_of-requires-clause-switch c =
    ap (λ (s : Spec). is_switch s.kind) c.spec.ensures.value ∙ (choice_is (spec_of c.args.net.now c.args.block) c.requires.choice).0

on : (n : Parts) (b : ℕ) (first : Bool) (v w : Wire) (o : Option Interval) → v ≡ wire_of n b 2 → same_wire v w ≡ true
    → option_and_then (taken_numbers (spec_of n b) first) o ≡ by_condition n b first w o
on n b first v w o e h =
    ap (λ (t : Bool). cond t (option_and_then (taken_numbers (spec_of n b) first) o) o) (sym h)
    ∙ ap (λ (x : Wire). cond (same_wire x w) (option_and_then (taken_numbers (spec_of n b) first) o) o) e

off : (n : Parts) (b : ℕ) (first : Bool) (v w : Wire) (o : Option Interval) → v ≡ wire_of n b 2 → same_wire v w ≡ false → o ≡ by_condition n b first w o
off n b first v w o e h =
    ap (λ (t : Bool). cond t (option_and_then (taken_numbers (spec_of n b) first) o) o) (sym h)
    ∙ ap (λ (x : Wire). cond (same_wire x w) (option_and_then (taken_numbers (spec_of n b) first) o) o) e

pub returns-then-same_wire : goal.returns-then-same_wire
returns-then-same_wire c =
    c.taken_of.ensures ∙ ap (λ (s : Spec). option_and_then (taken_numbers s c.args.first) c.args.o) c.spec.ensures.value
    ∙ on c.args.net.now c.args.block c.args.first c.wire-condition.result c.args.wire c.args.o c.wire-condition.ensures (sym c.same_wire.ensures ∙ c.if-same_wire.true)

pub returns-else-same_wire : goal.returns-else-same_wire
returns-else-same_wire c =
    off c.args.net.now c.args.block c.args.first c.wire-condition.result c.args.wire c.args.o c.wire-condition.ensures (sym c.same_wire.ensures ∙ c.if-same_wire.false)
