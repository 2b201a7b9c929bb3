use Rattle.std.proofs.Common.{◌≡◌, ◌≤◌, ℕ, Bool, true, false, sym, ap, subst, ◌∙◌, arith}
use Rattle.sci_net.specs.declared.Wire.{Wire}
use Rattle.sci_net.specs.Net.{IsNet}
use Rattle.sci_net.specs.Parts.{Parts, IsBlock, IsInput, spec_of, wire_of}
use Rattle.sci_ranges_refined.specs.Choices.{taken_input}
use Rattle.sci_ranges_pass.specs.Taken.{is_choice}
use Rattle.sci_ranges_marks.specs.View.{marks_of}
use Rattle.sci_ranges_choices.proofs.Inputs.{switch_input}
use Rattle.sci_ranges_choices.proofs.Lookings.{addition_on, addition_off, added_is}
use Rattle.sci_ranges_choices.proofs.looking.addition.Goals as goal
use Rattle.sci_ranges_choices.proofs.looking.addition.Goals.{After-wire-wire}

taken_there : (n : Parts) (c : ℕ) (first : Bool) → IsNet n → IsBlock n c → is_choice (spec_of n c) ≡ true → IsInput n c (taken_input first)
taken_there n c true net block h = switch_input n c 1 net block h (omega arith) (omega arith)
taken_there n c false net block h = switch_input n c 3 net block h (omega arith) (omega arith)

pub wire-wire-requires-clause-port_least : goal.wire-wire-requires-clause-port_least
wire-wire-requires-clause-port_least c =
    subst (λ (k : ℕ). 1 ≤ k) (sym c.taken_input-input.ensures) (taken_there c.args.net.now c.args.block c.args.first c.well_formed-2.ensures c.requires.block c.requires.choice).least

pub wire-wire-requires-clause-port_most : goal.wire-wire-requires-clause-port_most
wire-wire-requires-clause-port_most c =
    let inside = taken_there c.args.net.now c.args.block c.args.first c.well_formed-2.ensures c.requires.block c.requires.choice in
    let same = c.taken_input-input.ensures in
    omega (arith, same, inside.most)

is : (c : After-wire-wire) → c.wire-wire.result ≡ wire_of c.args.net.now c.args.block (taken_input c.args.first)
is c = c.wire-wire.ensures ∙ ap (wire_of c.args.net.now c.args.block) c.taken_input-input.ensures

lead : (c : After-wire-wire) → IsBlock c.args.net.now c.wire-wire.result.block
lead c =
    let inside = taken_there c.args.net.now c.args.block c.args.first c.well_formed-2.ensures c.requires.block c.requires.choice in
    subst (λ (w : Wire). IsBlock c.args.net.now w.block) (sym (is c)) (c.well_formed-2.ensures.wired.wires_lead c.args.block (taken_input c.args.first) inside).block

pub is_added-requires : goal.is_added-requires
is_added-requires c = lead (goal.at.is_added-requires c).After-wire-wire

pub returns-then-is_added-clause-value : goal.returns-then-is_added-clause-value
returns-then-is_added-clause-value c =
    addition_on c.args.net.now (marks_of c.args.marks.now) c.args.block c.args.first c.wire-wire.result (is (goal.at.returns-then-is_added-clause-value c).After-wire-wire)
    (sym c.is_added.ensures ∙ c.if-is_added.true)

pub returns-then-is_added-clause-lead : goal.returns-then-is_added-clause-lead
returns-then-is_added-clause-lead c =
    added_is c.args.net.now (marks_of c.args.marks.now) c.args.block c.wire-wire.result (lead (goal.at.returns-then-is_added-clause-lead c).After-wire-wire)
    (sym c.is_added.ensures ∙ c.if-is_added.true)

pub returns-else-is_added-clause-value : goal.returns-else-is_added-clause-value
returns-else-is_added-clause-value c =
    addition_off c.args.net.now (marks_of c.args.marks.now) c.args.block c.args.first c.wire-wire.result (is (goal.at.returns-else-is_added-clause-value c).After-wire-wire)
    (sym c.is_added.ensures ∙ c.if-is_added.false)
