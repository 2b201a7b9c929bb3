use Rattle.std.proofs.Common.{◌≡◌, ◌∙◌, ◌-◌, ◌^◌, ◌<◌, ap, arith}
use Rattle.std.specs.Prelude.{unsigned_abs}
use Rattle.sci_base.specs.Fit.{span}
use Rattle.sci_forms.specs.declared.Kind.TheVariants.{BitClear}
use Rattle.sci_forms.specs.Words.{param, out_type}
use Rattle.sci_kinds.specs.Asks.{Asks}
use Rattle.sci_ranges_base.specs.Cells.{valued}
use Rattle.sci_ranges_rules.specs.Words.{below_zero, from_zero}
use Rattle.sci_ranges_kinds.proofs.Asked.{asks_of, width_small, bit_in_span}
use Rattle.sci_ranges_kinds.proofs.Corners.{same_join}
use Rattle.sci_ranges_kinds.proofs.Shifting.{same_kept}
use Rattle.sci_ranges_kinds.proofs.bitwise.bit_clear.Goals as goal
use Rattle.sci_ranges_kinds.proofs.bitwise.bit_clear.Goals.{After-two_to}

pub count-bit-requires : goal.count-bit-requires
count-bit-requires c =
    let a : Asks BitClear c.args.spec.now = asks_of BitClear c.args.spec.now c.requires.kind c.requires.is_typed in
    omega (arith, a.3, width_small (out_type c.args.spec.now))

pub two_to-requires : goal.two_to-requires
two_to-requires c =
    let a : Asks BitClear c.args.spec.now = asks_of BitClear c.args.spec.now c.requires.kind c.requires.is_typed in
    omega (arith, a.3, width_small (out_type c.args.spec.now), c.count-bit.ensures)

-- the bit is one of the type's
bit_below : (c : After-two_to) → c.two_to.result < span c.out_type-ty.result
bit_below c =
    let a : Asks BitClear c.args.spec.now = asks_of BitClear c.args.spec.now c.requires.kind c.requires.is_typed in
    rw (c.two_to.ensures, c.count-bit.ensures, c.out_type-ty.ensures) (bit_in_span (out_type c.args.spec.now) (unsigned_abs (param c.args.spec.now 0)) a.3)

pub overflow_sub-bits : goal.overflow_sub-bits
overflow_sub-bits c = omega (arith, bit_below (goal.at.overflow_sub-bits c).After-two_to, c.ones-others.ensures)

pub kept_bits-below-requires : goal.kept_bits-below-requires
kept_bits-below-requires c = omega (arith, c.ones-others.ensures)

pub kept_bits-rest-requires : goal.kept_bits-rest-requires
kept_bits-rest-requires c = omega (arith, c.ones-others.ensures)

pub returns : goal.returns
returns c =
    let t = out_type c.args.spec.now in
    let i = c.in_ok-i.i in
    let ones : c.ones-others.result ≡ span c.out_type-ty.result - 1 = omega (arith, c.ones-others.ensures) in
    let bit = c.two_to.ensures ∙ ap (λ k. 2 ^ k) c.count-bit.ensures in
    let bits = ap (λ n. n - c.two_to.result) (ones ∙ ap (λ u. span u - 1) c.out_type-ty.ensures) ∙ ap (λ n. (span t - 1) - n) bit in
    let value = c.in_ok-i.ensures in
    rw (← value)
    (c.valued.ensures
    ∙ ap valued (c.join-all.ensures
    ∙ same_join (c.kept_bits-below.ensures ∙ same_kept _ t _ ((span t - 1) - 2 ^ unsigned_abs (param c.args.spec.now 0)) _ (below_zero i)
    c.out_type-ty.ensures bits c.below_zero.ensures.value)
    (c.kept_bits-rest.ensures ∙ same_kept _ t _ ((span t - 1) - 2 ^ unsigned_abs (param c.args.spec.now 0)) _ (from_zero i) c.out_type-ty.ensures bits
    c.from_zero.ensures)))
