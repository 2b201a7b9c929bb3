use Rattle.std.proofs.Common.{◌≡◌, ◌∙◌, ◌-◌, ℕ, length, Option, Some, refl, sym, ap, subst, arith, rules, FitsSigned, w64}
use Rattle.std.specs.Prelude.{option_map}
use Rattle.std.proofs.lemmas.Int.{to_z-of_z}
use Rattle.sci_forms.specs.declared.Kind.TheVariants.{LogicalOp}
use Rattle.sci_forms.specs.Words.{param, out_type, size}
use Rattle.sci_kinds.specs.Asks.{Asks}
use Rattle.sci_ranges_base.specs.declared.interval.Interval.{Interval}
use Rattle.sci_ranges_base.specs.Cells.{valued}
use Rattle.sci_ranges_rules.specs.declared.patterns.Patterns.{Patterns}
use Rattle.sci_ranges_rules.specs.Patterns.{InType, patterns_of, numbers_of}
use Rattle.sci_ranges_rules.specs.Words.{all_joined, turned_by, input_range}
use Rattle.sci_ranges_rules.proofs.Patterned.{patterns_in_type}
use Rattle.sci_ranges_kinds.proofs.Asked.{asks_of}
use Rattle.sci_ranges_kinds.proofs.Patterning.{joined_in_type, joined_more, joined_none, same_joined, same_numbers}
use Rattle.sci_ranges_kinds.proofs.bitwise.logical_bits.Goals as goal

pub input_range-requires-in-loop-k-clause-few : goal.input_range-requires-in-loop-k-clause-few
input_range-requires-in-loop-k-clause-few c =
    let a : Asks LogicalOp c.args.spec.now = asks_of LogicalOp c.args.spec.now c.requires.kind c.requires.is_typed in
    omega (arith, a.2)

pub loop-k-init : goal.loop-k-init
loop-k-init c =
    let t = out_type c.args.spec.now in
    let first = c.patterns_of-all.ensures ∙ ap (λ u. patterns_of u c.in_ok-first.first) c.out_type-ty.ensures in
    (ap Some first ∙ ap (option_map (patterns_of t)) c.in_ok-first.ensures, subst (InType t) (sym first) (patterns_in_type t c.in_ok-first.first))

pub joined_by-all-requires-clause-p : goal.joined_by-all-requires-clause-p
joined_by-all-requires-clause-p c = subst (λ t. InType t c.loop-k.all) (sym c.out_type-ty.ensures) c.loop-k.invariant.1

pub joined_by-all-requires-clause-q : goal.joined_by-all-requires-clause-q
joined_by-all-requires-clause-q c =
    subst (InType c.out_type-ty.result) (sym c.patterns_of-more.ensures) (patterns_in_type c.out_type-ty.result c.in_ok-i.i)

pub loop-k-preserved : goal.loop-k-preserved
loop-k-preserved c =
    let t = out_type c.args.spec.now in
    let op = param c.args.spec.now 0 in
    let f : ℕ → Option Interval = λ k. input_range (size c.args.spec.now) c.args.ins.now k c.args.e in
    let i = c.in_ok-i.i in
    let fits : FitsSigned w64 c.at-op.result = search rules in
    let code = to_z-of_z w64 c.at-op.result fits ∙ c.at-op.ensures in
    let more = c.patterns_of-more.ensures ∙ ap (λ u. patterns_of u i) c.out_type-ty.ensures in
    let joined = c.joined_by-all.ensures ∙ same_joined _ t _ op c.loop-k.all _ (patterns_of t i) c.out_type-ty.ensures code more in (
      joined_more t op f c.loop-k.k c.loop-k.all c.joined_by-all.result i (omega arith) c.loop-k.invariant.0 (sym c.in_ok-i.ensures) joined,
      subst (InType t) (sym joined) (joined_in_type t op c.loop-k.all (patterns_of t i) c.loop-k.invariant.1 (patterns_in_type t i)),
    )

pub turned_by-turned-requires : goal.turned_by-turned-requires
turned_by-turned-requires c = subst (λ t. InType t c.loop-k.all) (sym c.out_type-ty.ensures) c.loop-k.invariant.1

pub returns : goal.returns
returns c =
    let t = out_type c.args.spec.now in
    let op = param c.args.spec.now 0 in
    let f : ℕ → Option Interval = λ k. input_range (size c.args.spec.now) c.args.ins.now k c.args.e in
    let g : Patterns → Interval = λ p. numbers_of t (turned_by t op p) in
    let a : Asks LogicalOp c.args.spec.now = asks_of LogicalOp c.args.spec.now c.requires.kind c.requires.is_typed in
    let fits : FitsSigned w64 c.at-op.result = search rules in
    let code = to_z-of_z w64 c.at-op.result fits ∙ c.at-op.ensures in
    let all : c.loop-k.k - 1 ≡ length c.args.spec.now.ins - 1 = omega (arith, a.1) in
    let is = subst (λ n. Some c.loop-k.all ≡ all_joined t op f n) all c.loop-k.invariant.0 in
    c.of.ensures
    ∙ ap (λ r. valued (Some r)) (c.numbers_of.ensures ∙ ap (numbers_of c.out_type-ty.result) c.turned_by-turned.ensures
    ∙ same_numbers _ t _ op c.loop-k.all c.out_type-ty.ensures code)
    ∙ ap (λ o. valued (option_map g o)) is

pub returns-in_err-first : goal.returns-in_err-first
returns-in_err-first c =
    let f : ℕ → Option Interval = λ k. input_range (size c.args.spec.now) c.args.ins.now k c.args.e in
    rw (
      c.from_residual.ensures,
      joined_none (out_type c.args.spec.now) (param c.args.spec.now 0) f (length c.args.spec.now.ins - 1) 0 (omega arith)
          (sym c.in_err-first.ensures),
    ) refl

pub returns-in_err-i : goal.returns-in_err-i
returns-in_err-i c =
    let f : ℕ → Option Interval = λ k. input_range (size c.args.spec.now) c.args.ins.now k c.args.e in
    rw (
      c.from_residual-in_err-i.ensures,
      joined_none (out_type c.args.spec.now) (param c.args.spec.now 0) f (length c.args.spec.now.ins - 1)
          c.loop-k.k (omega arith) (sym c.in_err-i.ensures),
    ) refl
