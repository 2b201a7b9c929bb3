use Rattle.std.proofs.Common.{◌≡◌, ◌∙◌, ◌+◌, ◌-◌, ℕ, Some, refl, ap, arith}
use Rattle.std.specs.Prelude.{unsigned_abs}
use Rattle.sci_base.specs.declared.Ty.{Ty}
use Rattle.sci_forms.specs.declared.Kind.TheVariants.{ExtractBits}
use Rattle.sci_forms.specs.Words.{param, out_type}
use Rattle.sci_kinds.specs.Asks.{Asks}
use Rattle.sci_ranges_base.specs.Cells.{valued}
use Rattle.sci_ranges_rules.specs.declared.patterns.Patterns.{Patterns}
use Rattle.sci_ranges_rules.specs.Patterns.{patterns_of, numbers_of, extracted}
use Rattle.sci_ranges_kinds.proofs.Asked.{asks_of, width_small}
use Rattle.sci_ranges_kinds.proofs.bitwise.extract_bits.Goals as goal

pub count-a-requires : goal.count-a-requires
count-a-requires c =
    let a : Asks ExtractBits c.args.spec.now = asks_of ExtractBits c.args.spec.now c.requires.kind c.requires.is_typed in
    omega (arith, a.3, a.4, width_small (out_type c.args.spec.now))

pub count-b-requires : goal.count-b-requires
count-b-requires c =
    let a : Asks ExtractBits c.args.spec.now = asks_of ExtractBits c.args.spec.now c.requires.kind c.requires.is_typed in
    omega (arith, a.4, width_small (out_type c.args.spec.now))

pub extracted-bits-requires-clause-order : goal.extracted-bits-requires-clause-order
extracted-bits-requires-clause-order c =
    let a : Asks ExtractBits c.args.spec.now = asks_of ExtractBits c.args.spec.now c.requires.kind c.requires.is_typed in
    omega (arith, a.3, c.count-a.ensures, c.count-b.ensures)

pub extracted-bits-requires-clause-few : goal.extracted-bits-requires-clause-few
extracted-bits-requires-clause-few c =
    let a : Asks ExtractBits c.args.spec.now = asks_of ExtractBits c.args.spec.now c.requires.kind c.requires.is_typed in
    omega (arith, a.4, c.count-b.ensures, width_small (out_type c.args.spec.now))

same : (t u : Ty) (a b x y : ℕ) (p q : Patterns) → t ≡ u → a ≡ x → b ≡ y → p ≡ q
    → numbers_of t (extracted a ((b - a) + 1) p) ≡ numbers_of u (extracted x ((y - x) + 1) q)
same t u a b x y p q e f g h = rw (e, f, g, h) refl

pub returns : goal.returns
returns c =
    let s = c.args.spec.now in
    let patterns = c.patterns_of-patterns.ensures ∙ ap (λ t. patterns_of t c.in_ok-i.i) c.out_type-ty.ensures in
    let value = c.in_ok-i.ensures in
    rw (← value)
    (c.of.ensures
    ∙ ap (λ r. valued (Some r)) (c.numbers_of.ensures ∙ ap (numbers_of c.out_type-ty.result) c.extracted-bits.ensures
    ∙ same _ (out_type s) _ _ (unsigned_abs (param s 0)) (unsigned_abs (param s 1)) _ (patterns_of (out_type s) c.in_ok-i.i) c.out_type-ty.ensures
    c.count-a.ensures c.count-b.ensures patterns))
