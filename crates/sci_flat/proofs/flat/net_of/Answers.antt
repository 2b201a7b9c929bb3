use Rattle.std.proofs.Common.{◌≡◌, ◌∙◌, length, ap, sym, subst, rules, Result, Err}
use Rattle.sci_base.specs.declared.stop.Stop.{Stop}
use Rattle.sci_flat.specs.Answer.{IsFlattened}
use Rattle.std.proofs.lemmas.List.{length-map}
use Rattle.sci_diagram.specs.Objects.{diagram_view}
use Rattle.sci_check.proofs.CheckedLemmas.{checked_law}
use Rattle.sci_net.specs.Parts.{Parts, parts_of}
use Rattle.sci_blocks.specs.declared.class.PortClass.TheVariants.{Input, Output, ActivationInput}
use Rattle.sci_flat.specs.Lists.{lists_of}
use Rattle.sci_flat.specs.Origins.{shared}
use Rattle.sci_flat.specs.Flat.{IsFlatNet}
use Rattle.sci_flat.specs.Placed.{placed_all}
use Rattle.sci_flat.proofs.Making.{blocks_few, placed_long, inside_for, few_for, long_for, there_for, inside_lists, wires_stop, made}
use Rattle.sci_flat.proofs.Whole.{is_flat, is_flat_net}
use Rattle.sci_flat.proofs.flat.net_of.Goals as goal

pub feeding_of-requires-clause-inside : goal.feeding_of-requires-clause-inside
feeding_of-requires-clause-inside c =
    inside_for (diagram_view c.args.d.now) (placed_all c.args.found.specs.items c.args.found.places.items) c.args.numbered.now c.requires.numbered c.as_slice-seats.result.now c.as_slice-seats.ensures.value

pub feeding_of-requires-clause-few : goal.feeding_of-requires-clause-few
feeding_of-requires-clause-few c =
    few_for (diagram_view c.args.d.now) (placed_all c.args.found.specs.items c.args.found.places.items) c.args.numbered.now c.requires.numbered c.as_slice-seats.result.now c.as_slice-seats.ensures.value
    (blocks_few (diagram_view c.args.d.now) (placed_all c.args.found.specs.items c.args.found.places.items) c.requires.ready c.requires.blocks)

pub wires-requires-clause-specs : goal.wires-requires-clause-specs
wires-requires-clause-specs c =
    ap length c.deref.ensures.value ∙ (sym (placed_long c.args.found.specs.items c.args.found.places.items c.requires.long)
    ∙ sym (long_for (diagram_view c.args.d.now) (placed_all c.args.found.specs.items c.args.found.places.items) c.args.numbered.now c.requires.numbered c.as_slice-seats.result.now c.as_slice-seats.ensures.value))

pub wires-requires-clause-paths : goal.wires-requires-clause-paths
wires-requires-clause-paths c =
    ap length c.deref-2.ensures.value ∙ (c.requires.long ∙ (sym (placed_long c.args.found.specs.items c.args.found.places.items c.requires.long)
    ∙ sym (long_for (diagram_view c.args.d.now) (placed_all c.args.found.specs.items c.args.found.places.items) c.args.numbered.now c.requires.numbered c.as_slice-seats.result.now c.as_slice-seats.ensures.value)))

pub wires-requires-clause-inside : goal.wires-requires-clause-inside
wires-requires-clause-inside c =
    inside_lists c.as_slice-seats.result.now c.args.numbered.now.ports (length c.in_ok-regular.regular.lists.items) Input
    (inside_for (diagram_view c.args.d.now) (placed_all c.args.found.specs.items c.args.found.places.items) c.args.numbered.now c.requires.numbered c.as_slice-seats.result.now c.as_slice-seats.ensures.value)
    (sym (length-map c.in_ok-regular.regular.lists.items _) ∙ c.in_ok-regular.ensures.long)

pub wires-requires-clause-there : goal.wires-requires-clause-there
wires-requires-clause-there c =
    there_for c.as_slice-seats.result.now c.as_slice-steps.result.now c.args.numbered.now.ports Output Input c.in_ok-regular.regular.feeds.items (lists_of c.in_ok-regular.regular.lists) c.in_ok-regular.ensures

pub returns-in_err-wires : goal.returns-in_err-wires
returns-in_err-wires c =
    let e : c.from_residual-in_err-wires.result ≡ Err c.in_err-wires.field-0.0 = search rules in
    subst (λ (r : Result Parts Stop). IsFlattened (diagram_view c.args.d.now) r) (sym e)
    (wires_stop (diagram_view c.args.d.now) c.args.found.specs.items c.args.found.places.items c.args.numbered.now c.requires.numbered c.requires.blocks c.requires.long c.as_slice-seats.result.now c.as_slice-steps.result.now c.as_slice-seats.ensures.value c.as_slice-steps.ensures.value
    c.in_ok-regular.regular.feeds.items (lists_of c.in_ok-regular.regular.lists) c.in_ok-regular.ensures c.deref.result.now c.deref-2.result.now c.deref.ensures.value c.deref-2.ensures.value _ c.in_err-wires.ensures.stop)

pub sharing_of-requires-clause-inside : goal.sharing_of-requires-clause-inside
sharing_of-requires-clause-inside c =
    inside_for (diagram_view c.args.d.now) (placed_all c.args.found.specs.items c.args.found.places.items) c.args.numbered.now c.requires.numbered c.as_slice-seats.result.now c.as_slice-seats.ensures.value

pub sharing_of-requires-clause-few : goal.sharing_of-requires-clause-few
sharing_of-requires-clause-few c =
    few_for (diagram_view c.args.d.now) (placed_all c.args.found.specs.items c.args.found.places.items) c.args.numbered.now c.requires.numbered c.as_slice-seats.result.now c.as_slice-seats.ensures.value
    (blocks_few (diagram_view c.args.d.now) (placed_all c.args.found.specs.items c.args.found.places.items) c.requires.ready c.requires.blocks)

pub feeds-requires-clause-inside : goal.feeds-requires-clause-inside
feeds-requires-clause-inside c =
    inside_lists c.as_slice-seats.result.now c.args.numbered.now.ports (length c.in_ok-activation.activation.origins.items) ActivationInput
    (inside_for (diagram_view c.args.d.now) (placed_all c.args.found.specs.items c.args.found.places.items) c.args.numbered.now c.requires.numbered c.as_slice-seats.result.now c.as_slice-seats.ensures.value)
    c.in_ok-activation.ensures.long

pub new-requires : goal.new-requires
new-requires c =
    let t = diagram_view c.args.d.now in
    let ps = placed_all c.args.found.specs.items c.args.found.places.items in
    let m = parts_of c.args.found.specs.items c.args.found.places.items c.in_ok-wires.wires.items c.in_ok-feeds.feeds in
    is_flat t ps c.args.numbered.now m
    (made checked_law t c.args.found.specs.items c.args.found.places.items c.args.numbered.now c.requires.ready c.requires.numbered c.requires.blocks c.requires.long c.as_slice-seats.result.now c.as_slice-steps.result.now c.as_slice-seats.ensures.value c.as_slice-steps.ensures.value
    c.in_ok-regular.regular.feeds.items (lists_of c.in_ok-regular.regular.lists) c.in_ok-regular.ensures c.deref.result.now c.deref.ensures.value c.in_ok-wires.wires.items c.in_ok-wires.ensures.wires
    c.in_ok-activation.activation.feeds.items (shared (lists_of c.in_ok-activation.activation.lists) c.in_ok-activation.activation.origins.items) c.in_ok-activation.ensures.fed c.in_ok-feeds.feeds c.in_ok-feeds.ensures)

pub returns : goal.returns
returns c =
    let t = diagram_view c.args.d.now in
    let ps = placed_all c.args.found.specs.items c.args.found.places.items in
    let m = parts_of c.args.found.specs.items c.args.found.places.items c.in_ok-wires.wires.items c.in_ok-feeds.feeds in
    let P : Parts → Type 0 = IsFlatNet t in
    subst P (sym c.new.ensures) (is_flat_net t ps c.args.numbered.now m
    (made checked_law t c.args.found.specs.items c.args.found.places.items c.args.numbered.now c.requires.ready c.requires.numbered c.requires.blocks c.requires.long c.as_slice-seats.result.now c.as_slice-steps.result.now c.as_slice-seats.ensures.value c.as_slice-steps.ensures.value
    c.in_ok-regular.regular.feeds.items (lists_of c.in_ok-regular.regular.lists) c.in_ok-regular.ensures c.deref.result.now c.deref.ensures.value c.in_ok-wires.wires.items c.in_ok-wires.ensures.wires
    c.in_ok-activation.activation.feeds.items (shared (lists_of c.in_ok-activation.activation.lists) c.in_ok-activation.activation.origins.items) c.in_ok-activation.ensures.fed c.in_ok-feeds.feeds c.in_ok-feeds.ensures))
