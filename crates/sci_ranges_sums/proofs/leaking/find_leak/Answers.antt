use Rattle.std.proofs.Common.{◌≡◌, ℕ, true, length, None, sym, ap, subst, ◌∙◌, arith}
use Rattle.sci_forms.specs.declared.spec.Spec.{Spec}
use Rattle.sci_net.specs.Parts.{spec_of}
use Rattle.sci_ranges_refined.specs.Sums.{is_sum}
use Rattle.sci_ranges_pass.specs.Told.{first_of, leak_at}
use Rattle.sci_ranges_marks.specs.View.{marks_of}
use Rattle.sci_ranges_sums.proofs.Leaked.{none_more, some_leak}
use Rattle.sci_ranges_sums.proofs.Leaks.{found_leak, none_left}
use Rattle.sci_ranges_sums.proofs.leaking.find_leak.Goals as goal
use Rattle.sci_ranges_sums.proofs.leaking.find_leak.Goals.{After-len-l-end}

sum : (c : After-len-l-end) → is_sum (spec_of c.args.net.now c.args.block).kind ≡ true
sum c = ap (λ (s : Spec). is_sum s.kind) (sym c.spec-spec.ensures.value) ∙ (sym c.is_sum.ensures ∙ c.if-not-is_sum.false)

pub returns-then-is_some : goal.returns-then-is_some
returns-then-is_some c =
    let same = ap (λ (s : Spec). length s.ins) c.spec-spec.ensures.value in
    found_leak c.args.net.now (marks_of c.args.marks.now) c.args.block c.leak_at-found.result c.loop-l.l (sym c.is_some.ensures ∙ c.if-is_some.true)
    (sum (goal.at.returns-then-is_some c).After-len-l-end) (omega (arith, same, c.loop-l-test.true, c.len-l-end.ensures.value)) c.loop-l.invariant c.leak_at-found.ensures

pub loop-l-preserved : goal.loop-l-preserved
loop-l-preserved c =
    none_more (leak_at c.args.net.now (marks_of c.args.marks.now) c.args.block) c.loop-l.l c.loop-l.invariant
    (sym c.leak_at-found.ensures ∙ none_left c.leak_at-found.result (sym c.is_some.ensures ∙ c.if-is_some.false))

pub returns : goal.returns
returns c =
    let same = ap (λ (s : Spec). length s.ins) c.spec-spec.ensures.value in
    let most = c.loop-l.auto.l-end in
    let all : c.loop-l.l ≡ length (spec_of c.args.net.now c.args.block).ins = omega (arith, same, c.loop-l-test.false, most, c.len-l-end.ensures.value) in
    some_leak c.args.net.now (marks_of c.args.marks.now) c.args.block None (sum (goal.at.returns c).After-len-l-end)
    (subst (λ (j : ℕ). first_of (leak_at c.args.net.now (marks_of c.args.marks.now) c.args.block) j ≡ None) all c.loop-l.invariant)
