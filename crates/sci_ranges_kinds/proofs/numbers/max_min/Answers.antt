use Rattle.std.proofs.Common.{◌≡◌, ◌∙◌, ◌-◌, ℕ, length, Option, Some, sym, ap, subst, arith, cond, rules, FitsSigned, w64, pos, refl}
use Rattle.std.proofs.lemmas.Int.{to_z-of_z}
use Rattle.std.specs.Int.{int_min, int_max}
use Rattle.sci_base.specs.Fit.{int_eq}
use Rattle.sci_forms.specs.declared.Kind.TheVariants.{MaxMin}
use Rattle.sci_forms.specs.Words.{param, size}
use Rattle.sci_kinds.specs.Asks.{Asks}
use Rattle.sci_ranges_base.specs.declared.interval.Interval.{Interval}
use Rattle.sci_ranges_base.specs.Cells.{valued}
use Rattle.sci_ranges_rules.specs.Words.{extremes, input_range}
use Rattle.sci_ranges_kinds.proofs.Asked.{asks_of}
use Rattle.sci_ranges_kinds.proofs.Looping.{extremes_more, extremes_none}
use Rattle.sci_ranges_kinds.proofs.numbers.max_min.Goals as goal

pub input_range-requires-in-loop-k-clause-few : goal.input_range-requires-in-loop-k-clause-few
input_range-requires-in-loop-k-clause-few c =
    let a : Asks MaxMin c.args.spec.now = asks_of MaxMin c.args.spec.now c.requires.kind c.requires.is_typed in
    omega (arith, a.2)

pub loop-k-init : goal.loop-k-init
loop-k-init c = c.in_ok-all.ensures

pub loop-k-preserved : goal.loop-k-preserved
loop-k-preserved c =
    let f : ℕ → Option Interval = λ k. input_range (size c.args.spec.now) c.args.ins.now k c.args.e in
    extremes_more (cond c.is_equal-least.result int_min int_max) f c.loop-k.k c.loop-k.all c.in_ok-i.i c.picked-all.result (omega arith)
    c.loop-k.invariant (sym c.in_ok-i.ensures) c.picked-all.ensures

pub returns-in_err-all : goal.returns-in_err-all
returns-in_err-all c =
    let f : ℕ → Option Interval = λ k. input_range (size c.args.spec.now) c.args.ins.now k c.args.e in
    rw (
      c.from_residual.ensures,
      extremes_none (cond (int_eq (param c.args.spec.now 0) (pos 1)) int_min int_max) f (length c.args.spec.now.ins - 1) 0
          (omega arith) (sym c.in_err-all.ensures),
    ) refl

pub returns-in_err-i : goal.returns-in_err-i
returns-in_err-i c =
    let f : ℕ → Option Interval = λ k. input_range (size c.args.spec.now) c.args.ins.now k c.args.e in
    rw (
      c.from_residual-in_err-i.ensures,
      extremes_none (cond (int_eq (param c.args.spec.now 0) (pos 1)) int_min int_max) f (length c.args.spec.now.ins - 1) c.loop-k.k (omega arith)
          (sym c.in_err-i.ensures),
    ) refl

pub returns : goal.returns
returns c =
    let f : ℕ → Option Interval = λ k. input_range (size c.args.spec.now) c.args.ins.now k c.args.e in
    let a : Asks MaxMin c.args.spec.now = asks_of MaxMin c.args.spec.now c.requires.kind c.requires.is_typed in
    let fits : FitsSigned w64 c.at.result = search rules in
    let least = c.is_equal-least.ensures ∙ ap (λ z. int_eq z (pos 1)) (to_z-of_z w64 c.at.result fits ∙ c.at.ensures) in
    let all : c.loop-k.k - 1 ≡ length c.args.spec.now.ins - 1 = omega (arith, a.1) in
    let is = subst (λ n. Some c.loop-k.all ≡ extremes (cond c.is_equal-least.result int_min int_max) f n) all c.loop-k.invariant in
    c.of.ensures ∙ ap valued (subst (λ b. Some c.loop-k.all ≡ extremes (cond b int_min int_max) f (length c.args.spec.now.ins - 1)) least is)
