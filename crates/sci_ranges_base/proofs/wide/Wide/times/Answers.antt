use Rattle.std.proofs.Common.{◌≡◌, true, false, pos, ◌*ℤ◌, sym, ap, ◌∙◌, subst, arith, to_z, of_z}
use Rattle.std.specs.Prelude.{int_lt}
use Rattle.std.specs.Int.{w128}
use Rattle.std.proofs.lemmas.Int.{ints}
use Rattle.sci_ranges_base.specs.Intervals.{HasEnds, from_to, exact}
use Rattle.sci_ranges_base.specs.Wide.{numbers}
use Rattle.sci_ranges_base.proofs.Ends.{word_of, product_exact, code_product, same_ends, negative_times, other_times}
use Rattle.sci_ranges_base.proofs.wide.Wide.times.Goals as goal

-- the factor and the ends as the code has them
negative : (c : goal.After-new) → numbers c.new.result ≡ from_to (c.args.factor *ℤ c.args.self.greatest) (c.args.factor *ℤ c.args.self.least)
negative c =
    let z : to_z w128 (of_z w128 c.from-factor.result) ≡ c.args.factor = omega (arith, ints) in
    let l : to_z w128 (of_z w128 c.args.self.least) ≡ c.args.self.least = omega (arith, ints) in
    let g : to_z w128 (of_z w128 c.args.self.greatest) ≡ c.args.self.greatest = omega (arith, ints) in
    let w = word_of c.args.factor c.ranges.factor in
    ap numbers c.new.ensures
    ∙ same_ends _ (from_to (c.args.factor *ℤ c.args.self.greatest) (c.args.factor *ℤ c.args.self.least))
    (code_product c.args.factor c.args.self.greatest _ _ z g w c.requires.greatest) (code_product c.args.factor c.args.self.least _ _ z l w c.requires.least)

other : (c : goal.After-new-else-factor-lt0) → numbers c.new-else-factor-lt0.result ≡ from_to (c.args.factor *ℤ c.args.self.least) (c.args.factor *ℤ c.args.self.greatest)
other c =
    let z : to_z w128 (of_z w128 c.from-factor.result) ≡ c.args.factor = omega (arith, ints) in
    let l : to_z w128 (of_z w128 c.args.self.least) ≡ c.args.self.least = omega (arith, ints) in
    let g : to_z w128 (of_z w128 c.args.self.greatest) ≡ c.args.self.greatest = omega (arith, ints) in
    let w = word_of c.args.factor c.ranges.factor in
    ap numbers c.new-else-factor-lt0.ensures
    ∙ same_ends _ (from_to (c.args.factor *ℤ c.args.self.least) (c.args.factor *ℤ c.args.self.greatest))
    (code_product c.args.factor c.args.self.least _ _ z l w c.requires.least) (code_product c.args.factor c.args.self.greatest _ _ z g w c.requires.greatest)

pub returns-then-factor-lt0-clause-value : goal.returns-then-factor-lt0-clause-value
returns-then-factor-lt0-clause-value c =
    let z : to_z w128 (of_z w128 c.from-factor.result) ≡ c.args.factor = omega (arith, ints) in
    negative c ∙ sym (negative_times c.args.factor (numbers c.args.self) (subst (λ y. int_lt y (pos 0) ≡ true) z c.if-factor-lt0.true))

pub returns-then-factor-lt0-clause-ends : goal.returns-then-factor-lt0-clause-ends
returns-then-factor-lt0-clause-ends c =
    let w = word_of c.args.factor c.ranges.factor in
    subst (HasEnds exact) (sym (negative c)) (record {
      least = product_exact c.args.factor c.args.self.greatest w c.requires.greatest;
      greatest = product_exact c.args.factor c.args.self.least w c.requires.least;
    })

pub returns-else-factor-lt0-clause-value : goal.returns-else-factor-lt0-clause-value
returns-else-factor-lt0-clause-value c =
    let z : to_z w128 (of_z w128 c.from-factor.result) ≡ c.args.factor = omega (arith, ints) in
    other c ∙ sym (other_times c.args.factor (numbers c.args.self) (subst (λ y. int_lt y (pos 0) ≡ false) z c.if-factor-lt0.false))

pub returns-else-factor-lt0-clause-ends : goal.returns-else-factor-lt0-clause-ends
returns-else-factor-lt0-clause-ends c =
    let w = word_of c.args.factor c.ranges.factor in
    subst (HasEnds exact) (sym (other c)) (record {
      least = product_exact c.args.factor c.args.self.least w c.requires.least;
      greatest = product_exact c.args.factor c.args.self.greatest w c.requires.greatest;
    })
