use Rattle.std.proofs.Common.{◌≡◌, ℕ, length, None, sym, ap, subst, ◌∙◌, arith}
use Rattle.sci_forms.specs.declared.spec.Spec.{Spec}
use Rattle.sci_net.specs.Parts.{spec_of}
use Rattle.sci_ranges_pass.specs.Told.{first_of, kept_at}
use Rattle.sci_ranges_sums.proofs.Leaked.{first_found, kept_on}
use Rattle.sci_ranges_sums.proofs.leaking.kept_by.Goals as goal

pub returns-then-keeps : goal.returns-then-keeps
returns-then-keeps c =
    let same = ap (λ (s : Spec). length s.ins) c.spec.ensures.value in
    sym (first_found (kept_at c.args.net.now c.args.block c.args.shift) c.loop-k.k (length (spec_of c.args.net.now c.args.block).ins) c.loop-k.k
    (omega (arith, same, c.loop-k-test.true, c.len-k-end.ensures.value)) c.loop-k.invariant
    (kept_on c.args.net.now c.args.block c.args.shift c.loop-k.k (sym c.keeps.ensures ∙ c.if-keeps.true)))

pub returns : goal.returns
returns c =
    let same = ap (λ (s : Spec). length s.ins) c.spec.ensures.value in
    let most = c.loop-k.auto.k-end in
    let all : c.loop-k.k ≡ length (spec_of c.args.net.now c.args.block).ins = omega (arith, same, c.loop-k-test.false, most, c.len-k-end.ensures.value) in
    sym (subst (λ (j : ℕ). first_of (kept_at c.args.net.now c.args.block c.args.shift) j ≡ None) all c.loop-k.invariant)
