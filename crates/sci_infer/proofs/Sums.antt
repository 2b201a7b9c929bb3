-- Outputs and their elements.
use Rattle.std.proofs.Common.{◌≡◌, ℕ, zero, suc, ◌+◌, ◌*◌, ◌<◌, ◌≤◌, Bool, true, false, cond, Option, Some, None, List, [], ◌∷◌, length, get_or, drop, refl, sym, ap, subst, ◌∙◌, arith}
use Rattle.std.specs.Prelude.{nat_le, All}
use Rattle.std.proofs.lemmas.List.{drop_more}
use Rattle.sci_forms.proofs.TestLemmas.{nat_le_told}
use Rattle.sci_forms.specs.declared.broken.Broken.{Broken}
use Rattle.sci_forms.specs.declared.ports.Port.{Port}
use Rattle.sci_forms.specs.declared.spec.Spec.{Spec}
use Rattle.sci_forms.specs.Forms.{or_else}
use Rattle.sci_forms.specs.Ports.{elements, total}
use Rattle.sci_net.specs.Net.{all_elements}
use Rattle.sci_infer.specs.Broken.{blamed, outs_large, specs_large}

pub test_none : (b : Bool) (o : Option Broken) (x : Broken) → cond b o (Some x) ≡ None → (b ≡ true) × (o ≡ None)
test_none true o x h = (refl, h)
test_none false o x h = cc

pub both_none : {A : Type 0} (a b : Option A) → or_else a b ≡ None → (a ≡ None) × (b ≡ None)
both_none (Some x) b h = cc
both_none None b h = (refl, h)

pub blamed_none : (b : ℕ) (o : Option Broken) → blamed b o ≡ None → o ≡ None
blamed_none b (Some x) h = cc
blamed_none b None h = refl

pub outs_small : (k : ℕ) (ps : List Port) → outs_large k ps ≡ None → (i : ℕ) (d : Port) → i < length ps → elements (get_or ps i d) ≤ 256
outs_small k [] h i d l = absurd (omega (arith, l))
outs_small k (p ∷ ps) h zero d l = nat_le_told (elements p) 256 (test_none (nat_le (elements p) 256) (outs_large (k + 1) ps) _ h).0
outs_small k (p ∷ ps) h (suc i) d l = outs_small (k + 1) ps (test_none (nat_le (elements p) 256) (outs_large (k + 1) ps) _ h).1 i d (omega (arith, l))

pub specs_small : (b : ℕ) (ss : List Spec) → specs_large b ss ≡ None → (i : ℕ) (d : Spec) → i < length ss → outs_large 1 (get_or ss i d).outs ≡ None
specs_small b [] h i d l = absurd (omega (arith, l))
specs_small b (s ∷ ss) h zero d l = blamed_none b (outs_large 1 s.outs) (both_none (blamed b (outs_large 1 s.outs)) (specs_large (b + 1) ss) h).0
specs_small b (s ∷ ss) h (suc i) d l = specs_small (b + 1) ss (both_none (blamed b (outs_large 1 s.outs)) (specs_large (b + 1) ss) h).1 i d (omega (arith, l))

pub outs_most : (k : ℕ) (ps : List Port) → outs_large k ps ≡ None → total ps ≤ 256 * length ps
outs_most k [] h = omega arith
outs_most k (p ∷ ps) h =
    let parts = test_none (nat_le (elements p) 256) (outs_large (k + 1) ps) _ h in
    let first = nat_le_told (elements p) 256 parts.0 in
    let rest = outs_most (k + 1) ps parts.1 in
    omega (arith, first, rest)

-- a block of at most 64 outputs, of at most 256 elements each
pub block_most : (ss : List Spec) (i : ℕ) (s : Spec) → i < length ss → s ≡ get_or ss i s → specs_large 1 ss ≡ None → All (λ (t : Spec). length t.outs ≤ 64) ss
    → total s.outs ≤ 16384
block_most ss i s l is small few =
    let outs = subst (λ (t : Spec). outs_large 1 t.outs ≡ None) (sym is) (specs_small 1 ss small i s l) in
    let ports = subst (λ (t : Spec). length t.outs ≤ 64) (sym is) (few i s l) in
    omega (arith, outs_most 1 s.outs outs, ports)

pub elements_from : (ss : List Spec) (i : ℕ) (s : Spec) → i < length ss → s ≡ get_or ss i s → all_elements (drop i ss) ≡ total s.outs + all_elements (drop (i + 1) ss)
elements_from ss i s h e = ap all_elements (drop_more ss i s h ∙ ap (λ (t : Spec). t ∷ drop (i + 1) ss) (sym e))
