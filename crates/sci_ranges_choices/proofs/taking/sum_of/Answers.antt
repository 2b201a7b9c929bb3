use Rattle.std.proofs.Common.{◌≡◌, ◌∙◌, ◌+◌, ◌≤◌, ℕ, length, Option, Some, sym, ap, subst, arith, rules, FitsSigned, w64}
use Rattle.std.proofs.lemmas.Int.{to_z-of_z}
use Rattle.std.specs.Prelude.{option_map}
use Rattle.sci_forms.specs.declared.Kind.TheVariants.{Summation}
use Rattle.sci_forms.specs.declared.spec.Spec.{Spec}
use Rattle.sci_forms.specs.Words.{param}
use Rattle.sci_kinds.specs.Asks.{Asks}
use Rattle.sci_net.specs.Parts.{spec_of}
use Rattle.sci_ranges_base.specs.declared.interval.Interval.{Interval}
use Rattle.sci_ranges_base.specs.Intervals.{HasEnds, words, times, plus}
use Rattle.sci_ranges_base.specs.Wide.{numbers}
use Rattle.sci_ranges_rules.specs.Words.{sums}
use Rattle.sci_ranges_refined.proofs.Adding.{sum_asks}
use Rattle.sci_ranges_kinds.proofs.Looping.{terms, IsSumSoFar, sum_none, sums_none, sum_small, sum_more, term_ends, term_small}
use Rattle.sci_ranges_choices.proofs.Sums.{sum_term}
use Rattle.sci_ranges_choices.proofs.taking.sum_of.Goals as goal
use Rattle.sci_ranges_choices.proofs.taking.sum_of.Goals.{After-times}

pub summand-requires-clause-input : goal.summand-requires-clause-input
summand-requires-clause-input c =
    let same = ap (λ (s : Spec). length s.ins) c.spec-spec.ensures.value in
    omega (arith, same, c.loop-j-test.true, c.len-j-end.ensures.value)

pub loop-j-init : goal.loop-j-init
loop-j-init c =
    let f : ℕ → Option Interval = sum_term c.args.net.now c.args.block c.args.first c.args.choice.now c.args.sum.now in
    subst (λ w. IsSumSoFar f 0 (numbers w)) (sym c.new-sums.ensures) (sum_none f)

-- the term as the code has it
told : (c : After-times) → numbers c.times.result ≡ times (param (spec_of c.args.net.now c.args.sum.now.block) (c.loop-j.j + 1)) c.in_ok-i.i
told c =
    let fits : FitsSigned w64 c.at-sign.result = search rules in
    let sign = to_z-of_z w64 c.at-sign.result fits ∙ (c.at-sign.ensures ∙ ap (λ (s : Spec). param s (c.loop-j.j + 1)) c.spec-spec.ensures.value) in
    c.times.ensures.value ∙ ap (λ z. times z (numbers c.of.result)) sign
    ∙ ap (times (param (spec_of c.args.net.now c.args.sum.now.block) (c.loop-j.j + 1))) (ap numbers c.of.ensures.value)

one_term : (c : After-times) → HasEnds (terms 1) (times (param (spec_of c.args.net.now c.args.sum.now.block) (c.loop-j.j + 1)) c.in_ok-i.i)
one_term c =
    let s : Spec = spec_of c.args.net.now c.args.sum.now.block in
    let a : Asks Summation s = sum_asks s (c.well_formed-2.ensures.typed_specs c.args.sum.now.block c.requires.sum.block) c.requires.sum.sum in
    let same = ap (λ (s : Spec). length s.ins) c.spec-spec.ensures.value in
    term_ends (param s (c.loop-j.j + 1)) c.in_ok-i.i (a.4 c.loop-j.j (omega (arith, same, c.loop-j-test.true, c.len-j-end.ensures.value)))
    (subst (HasEnds words) (ap numbers c.of.ensures.value) c.of.ensures.ends)

pub plus-sums-requires-clause-ends : goal.plus-sums-requires-clause-ends
plus-sums-requires-clause-ends c =
    let s : Spec = spec_of c.args.net.now c.args.sum.now.block in
    let a : Asks Summation s = sum_asks s (c.well_formed-2.ensures.typed_specs c.args.sum.now.block c.requires.sum.block) c.requires.sum.sum in
    let same = ap (λ (s : Spec). length s.ins) c.spec-spec.ensures.value in
    let few : c.loop-j.j ≤ 64 = omega (arith, a.2, same, c.loop-j-test.true, c.len-j-end.ensures.value) in
    let f : ℕ → Option Interval = sum_term c.args.net.now c.args.block c.args.first c.args.choice.now c.args.sum.now in
    sum_small f c.loop-j.j (numbers c.loop-j.sums) few c.loop-j.invariant

pub plus-sums-requires-clause-other_ends : goal.plus-sums-requires-clause-other_ends
plus-sums-requires-clause-other_ends c =
    let t = (goal.at.plus-sums-requires-clause-other_ends c).After-times in
    term_small (numbers c.times.result) (subst (HasEnds (terms 1)) (sym (told t)) (one_term t))

pub loop-j-preserved : goal.loop-j-preserved
loop-j-preserved c =
    let t = (goal.at.loop-j-preserved c).After-times in
    let f : ℕ → Option Interval = sum_term c.args.net.now c.args.block c.args.first c.args.choice.now c.args.sum.now in
    let p = param (spec_of c.args.net.now c.args.sum.now.block) (c.loop-j.j + 1) in
    subst (IsSumSoFar f (c.loop-j.j + 1)) (sym (c.plus-sums.ensures ∙ ap (plus (numbers c.loop-j.sums)) (told t)))
    (sum_more f c.loop-j.j (numbers c.loop-j.sums) (times p c.in_ok-i.i) (ap (option_map (times p)) (sym c.in_ok-i.ensures)) (one_term t) c.loop-j.invariant)

pub returns-in_err-i-clause-value : goal.returns-in_err-i-clause-value
returns-in_err-i-clause-value c =
    let s : Spec = spec_of c.args.net.now c.args.sum.now.block in
    let f : ℕ → Option Interval = sum_term c.args.net.now c.args.block c.args.first c.args.choice.now c.args.sum.now in
    let same = ap (λ (s : Spec). length s.ins) c.spec-spec.ensures.value in
    let none = ap (option_map (times (param s (c.loop-j.j + 1)))) (sym c.in_err-i.ensures) in
    rw c.from_residual.ensures (sym (sums_none f (length s.ins) c.loop-j.j (omega (arith, same, c.loop-j-test.true, c.len-j-end.ensures.value)) none))

pub returns-clause-value : goal.returns-clause-value
returns-clause-value c =
    let s : Spec = spec_of c.args.net.now c.args.sum.now.block in
    let f : ℕ → Option Interval = sum_term c.args.net.now c.args.block c.args.first c.args.choice.now c.args.sum.now in
    let same = ap (λ (s : Spec). length s.ins) c.spec-spec.ensures.value in
    let most = c.loop-j.auto.j-end in
    let all : c.loop-j.j ≡ length s.ins = omega (arith, same, c.loop-j-test.false, most, c.len-j-end.ensures.value) in
    sym (subst (λ (k : ℕ). sums f k ≡ Some (numbers c.loop-j.sums)) all c.loop-j.invariant.is)

pub returns-clause-ends : goal.returns-clause-ends
returns-clause-ends c =
    let s : Spec = spec_of c.args.net.now c.args.sum.now.block in
    let a : Asks Summation s = sum_asks s (c.well_formed-2.ensures.typed_specs c.args.sum.now.block c.requires.sum.block) c.requires.sum.sum in
    let same = ap (λ (s : Spec). length s.ins) c.spec-spec.ensures.value in
    let most = c.loop-j.auto.j-end in
    let few : c.loop-j.j ≤ 64 = omega (arith, a.2, same, most, c.len-j-end.ensures.value) in
    let f : ℕ → Option Interval = sum_term c.args.net.now c.args.block c.args.first c.args.choice.now c.args.sum.now in
    sum_small f c.loop-j.j (numbers c.loop-j.sums) few c.loop-j.invariant
