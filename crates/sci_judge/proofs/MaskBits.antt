-- The masks of activation inputs, bit by bit.
use Rattle.std.proofs.Common.{◌≡◌, ℕ, ◌+◌, ◌^◌, ◌≤◌, inl, inr, ⊎_elim, Contains, sym, subst, arith}
use Rattle.std.specs.Prelude.{bit_or}
use Rattle.std.specs.Int.{bit_at}
use Rattle.std.proofs.lemmas.Bool.{cases_eq}
use Rattle.std.proofs.lemmas.Nat.Bits.{bit_at-pow_same, bit_at-pow_other}
use Rattle.sci_net.specs.declared.Feed.{Feed}
use Rattle.sci_net.specs.Parts.{Parts, IsBlock, spec_of, feeds_of}
use Rattle.sci_net.specs.Net.{IsNet}
use Rattle.sci_reaction.specs.Equations.{HasBits}
use Rattle.sci_reaction.proofs.Bits.{bit_or-at}
use Rattle.sci_reaction.proofs.Rows.{feeds_within}
use Rattle.sci_judge.specs.Entries.{HasBitsTo}

pub bits_with : (set : ℕ → Type 0) (mask k : ℕ) → HasBitsTo mask k set → set (k + 1) → HasBitsTo (bit_or mask (2 ^ k)) (k + 1) set
bits_with set mask k s on =
    record {
      exactly = λ p.
          let either = bit_or-at mask (2 ^ k) p in (
            λ h. ⊎_elim
                (λ old. let e = (s.exactly p).0 old in (omega (arith, e.0), e.1))
                (λ new. ⊎_elim
                (λ same. (omega (arith, same), subst (λ i. set (i + 1)) (sym same) on))
                (λ other. absurd (let z = bit_at-pow_other k p other in omega (arith, z, new)))
                (cases_eq p k))
                (either.0 h),
            λ h. ⊎_elim
                (λ same. either.1 (inr (subst (λ i. bit_at (2 ^ k) i ≡ 1) (sym same) (bit_at-pow_same k))))
                (λ other. either.1 (inl ((s.exactly p).1 (omega (arith, h.0, other), h.1))))
                (cases_eq p k),
          );
    }

pub bits_without : (set : ℕ → Type 0) (mask k : ℕ) → HasBitsTo mask k set → (set (k + 1) → ⊥) → HasBitsTo mask (k + 1) set
bits_without set mask k s off =
    record {
      exactly = λ p. (
        λ h. let e = (s.exactly p).0 h in (omega (arith, e.0), e.1),
        λ h. ⊎_elim (λ same. absurd (off (subst (λ i. set (i + 1)) same h.1))) (λ other. (s.exactly p).1 (omega (arith, h.0, other), h.1)) (cases_eq p k),
      );
    }

pub bits_all : (set : ℕ → Type 0) (mask k : ℕ) → HasBitsTo mask k set → ((p : ℕ) → set p → p ≤ k) → HasBits mask set
bits_all set mask k s most p = (λ h. ((s.exactly p).0 h).1, λ h. (s.exactly p).1 (let l = most (p + 1) h in omega (arith, l), h))

-- the mask of what an activation output feeds, once all activation inputs are seen
pub fed_bits : (n : Parts) (b mask k most : ℕ) (q : Feed) → IsNet n → IsBlock n b → HasBitsTo mask k (λ p. Contains (feeds_of n b p) q) → most ≡ (spec_of n b).evtin → most ≤ k →
    HasBits mask (λ p. Contains (feeds_of n b p) q)
fed_bits n b mask k most q net inside s is all =
    bits_all (λ p. Contains (feeds_of n b p) q) mask k s (λ p h. let w = (feeds_within n net.wired b p q inside h).most in omega (arith, w, is, all))
