-- What typed specs have, that the rules ask.
use Rattle.std.proofs.Common.{◌≡◌, ℕ, ◌^◌, ◌<◌, ◌≤◌, ℤ, pos, negsuc, ◌≤ℤ◌, true, cond, length, arith, subst}
use Rattle.std.proofs.lemmas.Int.{ints}
use Rattle.std.specs.Prelude.{nat_eq, nat_le, unsigned_abs}
use Rattle.std.proofs.Math.Pow.{pow-lt}
use Rattle.sci_base.specs.declared.Ty.{Ty}
use Rattle.sci_base.specs.declared.Ty.TheVariants.{I32, I16, I8, U32, U16, U8}
use Rattle.sci_base.specs.Fit.{span, width}
use Rattle.sci_base.proofs.FitLemmas.{span-pow}
use Rattle.sci_forms.specs.declared.Kind.{Kind}
use Rattle.sci_forms.specs.declared.Kind.TheVariants.{Logic, Register}
use Rattle.sci_forms.specs.declared.spec.Spec.{Spec}
use Rattle.sci_forms.specs.Forms.{counts_of, state_len_ok}
use Rattle.sci_forms.specs.Form.{has_state}
use Rattle.sci_forms.proofs.TestLemmas.{both_true, nat_le_told}
use Rattle.sci_forms.specs.Typed.{typed}
use Rattle.sci_kinds.specs.Asks.{Asks}
use Rattle.sci_kinds.proofs.LawProofs.{asks}
use Rattle.sci_kinds.proofs.TypedLemmas.{tests}

-- what its kind asks
pub asks_of : (c : Kind) (s : Spec) → s.kind ≡ c → typed s ≡ true → Asks c s
asks_of c s k h = subst (λ d. Asks d s) k (asks s h)

pub few_outs : (s : Spec) → s.kind ≡ Logic → typed s ≡ true → length s.outs ≤ 8
few_outs s k h = subst (λ d. length s.outs ≤ (counts_of d (length s.ins)).outs_most) k ((tests s.kind s h).outs_most)

pub few_states : (s : Spec) → s.kind ≡ Register → typed s ≡ true → length s.state ≤ 256
few_states s k h =
    let t = subst (λ d. cond (has_state d) (state_len_ok d (length s.state)) (nat_eq (length s.state) 0) ≡ true) k ((tests s.kind s h).state_len) in
    nat_le_told (length s.state) 256 ((both_true (nat_le 1 (length s.state)) (nat_le (length s.state) 256) t).1)

pub one_or_more : (z : ℤ) → pos 1 ≤ℤ z → 1 ≤ unsigned_abs z
one_or_more (pos n) h = omega (arith, ints, h)
one_or_more (negsuc n) h = absurd (omega (arith, ints, h))

pub width_small : (t : Ty) → width t ≤ 32
width_small I32 = omega arith
width_small I16 = omega arith
width_small I8 = omega arith
width_small U32 = omega arith
width_small U16 = omega arith
width_small U8 = omega arith

-- a bit of the type
pub bit_in_span : (t : Ty) (k : ℕ) → k < width t → 2 ^ k < span t
bit_in_span t k l = rw (span-pow t) (pow-lt l)
