use Rattle.std.proofs.Common.{◌∙◌, ◌^◌, ◌<◌, ap, arith}
use Rattle.std.specs.Prelude.{unsigned_abs}
use Rattle.sci_base.specs.Fit.{span}
use Rattle.sci_forms.specs.declared.Kind.TheVariants.{BitSet}
use Rattle.sci_forms.specs.Words.{param, out_type}
use Rattle.sci_kinds.specs.Asks.{Asks}
use Rattle.sci_ranges_base.specs.Cells.{valued}
use Rattle.sci_ranges_rules.specs.Words.{below_zero, from_zero}
use Rattle.sci_ranges_kinds.proofs.Asked.{asks_of, width_small, bit_in_span}
use Rattle.sci_ranges_kinds.proofs.Corners.{same_join}
use Rattle.sci_ranges_kinds.proofs.Shifting.{same_set}
use Rattle.sci_ranges_kinds.proofs.bitwise.bit_set.Goals as goal
use Rattle.sci_ranges_kinds.proofs.bitwise.bit_set.Goals.{After-two_to-bits}

pub count-bit-requires : goal.count-bit-requires
count-bit-requires c =
    let a : Asks BitSet c.args.spec.now = asks_of BitSet c.args.spec.now c.requires.kind c.requires.is_typed in
    omega (arith, a.3, width_small (out_type c.args.spec.now))

pub two_to-bits-requires : goal.two_to-bits-requires
two_to-bits-requires c =
    let a : Asks BitSet c.args.spec.now = asks_of BitSet c.args.spec.now c.requires.kind c.requires.is_typed in
    omega (arith, a.3, width_small (out_type c.args.spec.now), c.count-bit.ensures)

bits_in_span : (c : After-two_to-bits) → c.two_to-bits.result < span c.out_type-ty.result
bits_in_span c =
    let a : Asks BitSet c.args.spec.now = asks_of BitSet c.args.spec.now c.requires.kind c.requires.is_typed in
    rw (c.two_to-bits.ensures, c.count-bit.ensures, c.out_type-ty.ensures) (bit_in_span (out_type c.args.spec.now) (unsigned_abs (param c.args.spec.now 0)) a.3)

pub set_bits-below-requires : goal.set_bits-below-requires
set_bits-below-requires c = bits_in_span (goal.at.set_bits-below-requires c).After-two_to-bits

pub set_bits-rest-requires : goal.set_bits-rest-requires
set_bits-rest-requires c = bits_in_span (goal.at.set_bits-rest-requires c).After-two_to-bits

pub returns : goal.returns
returns c =
    let t = out_type c.args.spec.now in
    let i = c.in_ok-i.i in
    let bits = c.two_to-bits.ensures ∙ ap (λ k. 2 ^ k) c.count-bit.ensures in
    let value = c.in_ok-i.ensures in
    rw (← value)
    (c.valued.ensures
    ∙ ap valued (c.join-all.ensures
    ∙ same_join (c.set_bits-below.ensures ∙ same_set _ t _ (2 ^ unsigned_abs (param c.args.spec.now 0)) _ (below_zero i) c.out_type-ty.ensures bits
    c.below_zero.ensures.value)
    (c.set_bits-rest.ensures ∙ same_set _ t _ (2 ^ unsigned_abs (param c.args.spec.now 0)) _ (from_zero i) c.out_type-ty.ensures bits c.from_zero.ensures)))
