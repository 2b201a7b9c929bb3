-- Blocks have few ports.
use Rattle.std.proofs.Common.{◌≡◌, ℕ, suc, ◌≤◌, Bool, true, false, ◌&&◌, length, refl, subst, sym, arith, lit≤}
use Rattle.std.specs.Prelude.{nat_le, All}
use Rattle.std.proofs.lemmas.List.{get_or_default}
use Rattle.std.proofs.lemmas.Bool.Decides.{nat_tests}
use Rattle.sci_forms.specs.declared.Kind.{Kind}
use Rattle.sci_forms.specs.declared.Kind.TheVariants.{Const}
use Rattle.sci_forms.specs.declared.spec.Spec.{Spec}
use Rattle.sci_forms.specs.Forms.{counts_of}
use Rattle.sci_forms.specs.Typed.{formed_of, counted}
use Rattle.sci_net.specs.Parts.{Parts, spec_of, no_spec}
use Rattle.sci_net.specs.Flat.{IsFlat}

pub left : (a b : Bool) → (a && b) ≡ true → a ≡ true
left true b h = refl
left false b h = h

pub right : (a b : Bool) → (a && b) ≡ true → b ≡ true
right true b h = h
right false b h = cc

ins_most : (c : Kind) (n : ℕ) → (counts_of c n).ins_most ≤ 64
ins_most Const n = lit≤ tt
ins_most _ n = lit≤ tt

outs_most : (c : Kind) (n : ℕ) → (counts_of c n).outs_most ≤ 64
outs_most Const n = lit≤ tt
outs_most _ n = lit≤ tt

counts : (c : Kind) (s : Spec) → formed_of c s ≡ true → counted s (counts_of c (length s.ins)) ≡ true
counts c s h = left _ _ (left _ _ (left _ _ (left _ _ (left _ _ (left _ _ h)))))

pub few_ins : (s : Spec) → formed_of s.kind s ≡ true → length s.ins ≤ 64
few_ins s h =
    let most : nat_le (length s.ins) (counts_of s.kind (length s.ins)).ins_most ≡ true = right _ _ (left _ _ (left _ _ (left _ _ (counts s.kind s h)))) in
    let few = ins_most s.kind (length s.ins) in grind (arith, nat_tests)

pub few_outs : (s : Spec) → formed_of s.kind s ≡ true → length s.outs ≤ 64
few_outs s h =
    let most : nat_le (length s.outs) (counts_of s.kind (length s.ins)).outs_most ≡ true = right _ _ (right _ _ (left _ _ (left _ _ (counts s.kind s h)))) in
    let few = outs_most s.kind (length s.ins) in grind (arith, nat_tests)

-- the spec that is read of a flat net
pub formed_read : (n : Parts) (b : ℕ) (x : Spec) → IsFlat n → 1 ≤ b → b ≤ length n.specs → x ≡ spec_of n b → formed_of x.kind x ≡ true
formed_read n b x flat least most e =
    subst (λ (s : Spec). formed_of s.kind s ≡ true) (sym e) (flat.formed b (record { least = least; most = most }))

-- of all blocks
pub all_few_ins : (n : Parts) → IsFlat n → All (λ (s : Spec). length s.ins ≤ 64) n.specs
all_few_ins n flat k d l =
    let h = flat.formed (suc k) (record { least = omega arith; most = omega (arith, l) }) in
    subst (λ (s : Spec). length s.ins ≤ 64) (get_or_default n.specs k no_spec d l) (few_ins (spec_of n (suc k)) h)

pub all_few_outs : (n : Parts) → IsFlat n → All (λ (s : Spec). length s.outs ≤ 64) n.specs
all_few_outs n flat k d l =
    let h = flat.formed (suc k) (record { least = omega arith; most = omega (arith, l) }) in
    subst (λ (s : Spec). length s.outs ≤ 64) (get_or_default n.specs k no_spec d l) (few_outs (spec_of n (suc k)) h)
