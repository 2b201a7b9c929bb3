use Rattle.std.proofs.Common.{◌≡◌, ◌∙◌, ap, sym, subst, IsTrue, arith, true≢false}
use Rattle.std.proofs.lemmas.Bool.Decides.{nat_tests}
use Rattle.sci_base.specs.declared.Ty.{Ty}
use Rattle.sci_forms.proofs.TestLemmas.{nat_same}
use Rattle.sci_forms.specs.Ports.{port_at, elements, type_of}
use Rattle.sci_bank.specs.Bank.{RunFits}
use Rattle.sci_kind_bank.proofs.CallLemmas.{fit_more, fit_all, run_of, all_of, fails}
use Rattle.sci_kind_bank.proofs.calls.fills.Goals as goal

pub returns-then-n-values : goal.returns-then-n-values
returns-then-n-values c =
    let size : c.elements-n.result ≡ elements (port_at c.args.ports.now c.loop-k.k) = c.elements-n.ensures ∙ ap elements c.get-port.ensures in
    fails (λ f. let run = run_of c.args.ports.now c.args.values.now c.loop-k.k f (omega arith) in omega (arith, run.within, size))

pub returns-then-not-run_fits : goal.returns-then-not-run_fits
returns-then-not-run_fits c =
    let size : c.elements-n.result ≡ elements (port_at c.args.ports.now c.loop-k.k) = c.elements-n.ensures ∙ ap elements c.get-port.ensures in
    let type_is : c.kind_of_type.result ≡ type_of (port_at c.args.ports.now c.loop-k.k) = c.kind_of_type.ensures ∙ ap type_of c.get-port.ensures in
    fails (λ f.
    let run : RunFits c.kind_of_type.result c.args.values.now c.loop-k.start c.elements-n.result =
    rw (type_is, size, c.loop-k.invariant.place) (run_of c.args.ports.now c.args.values.now c.loop-k.k f (omega arith)) in
    let told : IsTrue c.run_fits.result = c.run_fits.ensures.1 run in
    true≢false (sym told ∙ c.if-not-run_fits.true))

pub loop-k-preserved : goal.loop-k-preserved
loop-k-preserved c =
    let size : c.elements-n.result ≡ elements (port_at c.args.ports.now c.loop-k.k) = c.elements-n.ensures ∙ ap elements c.get-port.ensures in
    let type_is : c.kind_of_type.result ≡ type_of (port_at c.args.ports.now c.loop-k.k) = c.kind_of_type.ensures ∙ ap type_of c.get-port.ensures in
    fit_more c.args.ports.now c.args.values.now c.loop-k.k c.loop-k.start c.elements-n.result c.loop-k.invariant (omega arith) size
    (subst (λ (t : Ty). RunFits t c.args.values.now c.loop-k.start c.elements-n.result) type_is (c.run_fits.ensures.0 c.if-not-run_fits.false))

pub returns : goal.returns
returns c = (
  λ h. fit_all c.args.ports.now c.args.values.now c.loop-k.k c.loop-k.start c.loop-k.invariant (omega arith) (nat_same _ _ h),
  λ f. let all = all_of c.args.ports.now c.args.values.now c.loop-k.k c.loop-k.start c.loop-k.invariant (omega arith) f in grind (arith, nat_tests),
)
