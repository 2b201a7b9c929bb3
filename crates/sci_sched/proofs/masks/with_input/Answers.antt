use Rattle.std.proofs.Common.{◌+◌, Contains, subst, sym, ◌∙◌, arith, true≢false}
use Rattle.sci_net.specs.Parts.{spec_of, feeds_of, IsBlock, IsActivationInput, AreRising}
use Rattle.sci_sched.specs.Guards.{HasBitsTo}
use Rattle.sci_sched.proofs.MaskBits.{bits_with, bits_without}
use Rattle.sci_sched.proofs.Ports.{evtin_few}
use Rattle.sci_sched.proofs.masks.with_input.Goals as goal

pub contains-requires : goal.contains-requires
contains-requires c =
    let inside : IsBlock c.args.net.now c.args.block = record { least = c.requires.least; most = c.requires.most } in
    let input : IsActivationInput c.args.net.now c.args.block (c.args.at + 1) = record { block = inside; least = omega arith; most = omega (arith, c.requires.input) } in
    subst AreRising (sym c.feeds.ensures) (c.well_formed-2.ensures.wired.feeds_rise c.args.block (c.args.at + 1) input)

pub set_bit-requires : goal.set_bit-requires
set_bit-requires c =
    let inside : IsBlock c.args.net.now c.args.block = record { least = c.requires.least; most = c.requires.most } in
    let few = evtin_few (spec_of c.args.net.now c.args.block) (c.well_formed-2.ensures.typed_specs c.args.block inside) in
    omega (arith, few, c.requires.input)

pub returns-then-contains : goal.returns-then-contains
returns-then-contains c =
    subst (λ m. HasBitsTo m (c.args.at + 1) (λ p. Contains (feeds_of c.args.net.now c.args.block p) c.args.feed)) (sym c.set_bit.ensures)
    (bits_with (λ p. Contains (feeds_of c.args.net.now c.args.block p) c.args.feed) c.args.mask c.args.at c.requires.so_far
    (subst (λ qs. Contains qs c.args.feed) c.feeds.ensures (c.contains.ensures.0 c.if-contains.true)))

pub returns-else-contains : goal.returns-else-contains
returns-else-contains c =
    bits_without (λ p. Contains (feeds_of c.args.net.now c.args.block p) c.args.feed) c.args.mask c.args.at c.requires.so_far
    (λ has. true≢false (sym (c.contains.ensures.1 (subst (λ qs. Contains qs c.args.feed) (sym c.feeds.ensures) has)) ∙ c.if-contains.false))
