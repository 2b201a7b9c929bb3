use Rattle.std.proofs.Common.{◌≡◌, ◌∙◌, ◌+◌, ◌≤◌, ℕ, length, Option, Some, sym, ap, subst, arith, rules, FitsSigned, w64}
use Rattle.std.proofs.lemmas.Int.{to_z-of_z}
use Rattle.std.specs.Prelude.{option_map}
use Rattle.sci_forms.specs.declared.Kind.TheVariants.{Summation}
use Rattle.sci_forms.specs.Words.{param}
use Rattle.sci_kinds.specs.Asks.{Asks}
use Rattle.sci_ranges_base.specs.declared.interval.Interval.{Interval}
use Rattle.sci_ranges_base.specs.Intervals.{HasEnds, words, times, plus}
use Rattle.sci_ranges_base.specs.Wide.{numbers}
use Rattle.sci_ranges_rules.specs.Words.{sums}
use Rattle.sci_ranges_refined.specs.Sums.{leaking_term}
use Rattle.sci_ranges_kinds.proofs.Asked.{asks_of}
use Rattle.sci_ranges_kinds.proofs.Looping.{terms, IsSumSoFar, sum_none, sums_none, sum_small, sum_more, term_ends, term_small}
use Rattle.sci_ranges_sums.proofs.sums.leaking_sums.Goals as goal
use Rattle.sci_ranges_sums.proofs.sums.leaking_sums.Goals.{After-times}

pub loop-k-init : goal.loop-k-init
loop-k-init c =
    let f : ℕ → Option Interval = leaking_term c.args.spec.now c.args.leak.kept c.args.leak.lost c.args.leak.places c.args.ins.now c.args.e in
    subst (λ w. IsSumSoFar f 0 (numbers w)) (sym c.new-sum.ensures) (sum_none f)

-- the term as the code has it
told : (c : After-times) → numbers c.times.result ≡ times (param c.args.spec.now (c.loop-k.k + 1)) c.in_ok-i.i
told c =
    let fits : FitsSigned w64 c.at-sign.result = search rules in
    let sign = to_z-of_z w64 c.at-sign.result fits ∙ c.at-sign.ensures in
    c.times.ensures.value ∙ ap (λ z. times z (numbers c.of.result)) sign ∙ ap (times (param c.args.spec.now (c.loop-k.k + 1))) (ap numbers c.of.ensures.value)

one_term : (c : After-times) → HasEnds (terms 1) (times (param c.args.spec.now (c.loop-k.k + 1)) c.in_ok-i.i)
one_term c =
    let a : Asks Summation c.args.spec.now = asks_of Summation c.args.spec.now c.requires.kind c.requires.is_typed in
    term_ends (param c.args.spec.now (c.loop-k.k + 1)) c.in_ok-i.i (a.4 c.loop-k.k (omega arith))
    (subst (HasEnds words) (ap numbers c.of.ensures.value) c.of.ensures.ends)

pub plus-sum-requires-clause-ends : goal.plus-sum-requires-clause-ends
plus-sum-requires-clause-ends c =
    let a : Asks Summation c.args.spec.now = asks_of Summation c.args.spec.now c.requires.kind c.requires.is_typed in
    let few : c.loop-k.k ≤ 64 = omega (arith, a.2) in
    let f : ℕ → Option Interval = leaking_term c.args.spec.now c.args.leak.kept c.args.leak.lost c.args.leak.places c.args.ins.now c.args.e in
    sum_small f c.loop-k.k (numbers c.loop-k.sum) few c.loop-k.invariant

pub plus-sum-requires-clause-other_ends : goal.plus-sum-requires-clause-other_ends
plus-sum-requires-clause-other_ends c =
    let t = (goal.at.plus-sum-requires-clause-other_ends c).After-times in
    term_small (numbers c.times.result) (subst (HasEnds (terms 1)) (sym (told t)) (one_term t))

pub loop-k-preserved : goal.loop-k-preserved
loop-k-preserved c =
    let t = (goal.at.loop-k-preserved c).After-times in
    let f : ℕ → Option Interval = leaking_term c.args.spec.now c.args.leak.kept c.args.leak.lost c.args.leak.places c.args.ins.now c.args.e in
    let p = param c.args.spec.now (c.loop-k.k + 1) in
    subst (IsSumSoFar f (c.loop-k.k + 1)) (sym (c.plus-sum.ensures ∙ ap (plus (numbers c.loop-k.sum)) (told t)))
    (sum_more f c.loop-k.k (numbers c.loop-k.sum) (times p c.in_ok-i.i) (ap (option_map (times p)) (sym c.in_ok-i.ensures)) (one_term t) c.loop-k.invariant)

pub returns-in_err-i : goal.returns-in_err-i
returns-in_err-i c =
    let f : ℕ → Option Interval = leaking_term c.args.spec.now c.args.leak.kept c.args.leak.lost c.args.leak.places c.args.ins.now c.args.e in
    let none = ap (option_map (times (param c.args.spec.now (c.loop-k.k + 1)))) (sym c.in_err-i.ensures) in
    rw c.from_residual.ensures (sym (sums_none f (length c.args.spec.now.ins) c.loop-k.k (omega arith) none))

pub returns : goal.returns
returns c =
    let f : ℕ → Option Interval = leaking_term c.args.spec.now c.args.leak.kept c.args.leak.lost c.args.leak.places c.args.ins.now c.args.e in
    let all : c.loop-k.k ≡ length c.args.spec.now.ins = omega arith in
    sym (subst (λ n. sums f n ≡ Some (numbers c.loop-k.sum)) all c.loop-k.invariant.is)
