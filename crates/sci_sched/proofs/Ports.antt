-- How many activation ports a typed block has.
use Rattle.std.proofs.Common.{◌≡◌, ℕ, ◌≤◌, Bool, true, false, ◌&&◌, length, refl, arith, lit≤}
use Rattle.std.specs.Prelude.{nat_le}
use Rattle.std.proofs.lemmas.Bool.Decides.{nat_tests}
use Rattle.sci_forms.specs.declared.Kind.{Kind}
use Rattle.sci_forms.specs.declared.Kind.TheVariants.{Select, ESelect}
use Rattle.sci_forms.specs.declared.spec.Spec.{Spec}
use Rattle.sci_forms.specs.Forms.{counts_of}
use Rattle.sci_forms.specs.Typed.{typed, counted}
use Rattle.sci_net.proofs.TypedSpecs.{typed_formed}

left : (a b : Bool) → (a && b) ≡ true → a ≡ true
left true b h = refl
left false b h = h

right : (a b : Bool) → (a && b) ≡ true → b ≡ true
right true b h = h
right false b h = cc

few_inputs : (c : Kind) (n : ℕ) → n ≤ (counts_of c n).ins_most → (counts_of c n).evtin_most ≤ 64
few_inputs Select n h = omega (arith, h)
few_inputs _ n h = lit≤ tt

few_outputs : (c : Kind) (n : ℕ) → (counts_of c n).evtout_most ≤ 64
few_outputs ESelect n = lit≤ tt
few_outputs _ n = lit≤ tt

counts : (s : Spec) → typed s ≡ true → counted s (counts_of s.kind (length s.ins)) ≡ true
counts s h = left _ _ (left _ _ (left _ _ (left _ _ (left _ _ (left _ _ (typed_formed s h))))))

pub evtin_few : (s : Spec) → typed s ≡ true → s.evtin ≤ 64
evtin_few s h =
    let c = counts s h in
    let ins : nat_le (length s.ins) (counts_of s.kind (length s.ins)).ins_most ≡ true = right _ _ (left _ _ (left _ _ (left _ _ c))) in
    let most : nat_le s.evtin (counts_of s.kind (length s.ins)).evtin_most ≡ true = right _ _ (right _ _ (left _ _ c)) in
    let few : length s.ins ≤ (counts_of s.kind (length s.ins)).ins_most → (counts_of s.kind (length s.ins)).evtin_most ≤ 64 = few_inputs s.kind (length s.ins) in
    grind (arith, nat_tests)

pub evtout_few : (s : Spec) → typed s ≡ true → s.evtout ≤ 64
evtout_few s h =
    let most : nat_le s.evtout (counts_of s.kind (length s.ins)).evtout_most ≡ true = right _ _ (right _ _ (counts s h)) in
    let few : (counts_of s.kind (length s.ins)).evtout_most ≤ 64 = few_outputs s.kind (length s.ins) in
    grind (arith, nat_tests)
