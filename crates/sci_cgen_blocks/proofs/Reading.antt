-- What terms may read, piece by piece.
use Rattle.std.proofs.Common.{◌≡◌, ℕ, suc, ◌^◌, ◌≤◌, arith, ℤ, pos, true, inl, inr}
use Rattle.std.proofs.lemmas.Bool.{cases_lt}
use Rattle.c_ast.specs.declared.Op.{Op}
use Rattle.sci_base.specs.declared.Ty.{Ty}
use Rattle.sci_cgen_blocks.specs.Terms.{Term, constant, input, along, state, state_along, mask, scratch, both, Readable, TermFits, IsSpelled}
use Rattle.sci_cgen_blocks.specs.Recipes.{modulo, wrapped, pattern, bit}
use Rattle.sci_cgen_blocks.proofs.Working.{spelled, low_spelled, span_spelled}
use Rattle.sci_cgen_blocks.proofs.Patterns.{pow_at_most}

-- a term at most d deep that reads what may be read
pub record Reads (r : Readable) (d : ℕ) (t : Term) : Type 0 where
  pub fits : TermFits r d t

pub both_reads : {r : Readable} {d : ℕ} {op : Op} {a b : Term} → Reads r d a → Reads r d b → Reads r (suc d) (both op a b)
both_reads h k = record { fits = (h.fits, k.fits) }

pub number_reads : {r : Readable} {d : ℕ} {z : ℤ} → IsSpelled z → Reads r (suc d) (constant z)
number_reads h = record { fits = h }

pub natural_reads : {r : Readable} {d n : ℕ} → n ≤ 9223372036854775807 → Reads r (suc d) (constant (pos n))
natural_reads {n} h = record { fits = spelled n h }

pub input_reads : {r : Readable} {d k e : ℕ} → r.input k e → Reads r (suc d) (input k e)
input_reads h = record { fits = h }

pub along_reads : {r : Readable} {d k : ℕ} → r.input k r.element → Reads r (suc d) (along k)
along_reads h = record { fits = h }

pub state_reads : {r : Readable} {d i : ℕ} → r.state i → Reads r (suc d) (state i)
state_reads h = record { fits = h }

pub state_along_reads : {r : Readable} {d : ℕ} → r.state r.element → Reads r (suc d) state_along
state_along_reads h = record { fits = h }

pub mask_reads : {r : Readable} {d : ℕ} → r.mask ≡ true → Reads r (suc d) mask
mask_reads h = record { fits = h }

pub scratch_reads : {r : Readable} {d n : ℕ} → 1 ≤ n → n ≤ r.scratch → Reads r (suc d) (scratch n)
scratch_reads h k = record { fits = (h, k) }

pub pow_spelled : (k : ℕ) → k ≤ 32 → IsSpelled (pos (2 ^ k))
pow_spelled k h = spelled (2 ^ k) (elim (cases_lt k 32) [
  | inl l ↦ omega (arith, pow_at_most k l)
  | inr r ↦ let e : k ≡ 32 = omega (arith, h, r) in rw e (omega arith)
])

pub modulo_reads : {r : Readable} {d : ℕ} {t : Term} {n : ℕ} → IsSpelled (pos n) → Reads r (suc d) t → Reads r (suc (suc (suc (suc d)))) (modulo t n)
modulo_reads n h = both_reads (both_reads (both_reads h (number_reads n)) (number_reads n)) (number_reads n)

pub pattern_reads : {r : Readable} {d : ℕ} {t : Term} (ty : Ty) → Reads r (suc d) t → Reads r (suc (suc (suc (suc d)))) (pattern ty t)
pattern_reads ty h = modulo_reads (span_spelled ty) h

pub wrapped_reads : {r : Readable} {d : ℕ} {t : Term} (ty : Ty) → Reads r (suc d) t → Reads r (suc (suc (suc (suc (suc (suc d)))))) (wrapped ty t)
wrapped_reads ty h = both_reads (number_reads (low_spelled ty)) (modulo_reads (span_spelled ty) (both_reads h (number_reads (low_spelled ty))))

pub bit_reads : {r : Readable} {d : ℕ} {t : Term} (k : ℕ) → k ≤ 32 → Reads r (suc d) t → Reads r (suc (suc (suc d))) (bit t k)
bit_reads k l h = both_reads (both_reads h (number_reads (pow_spelled k l))) (number_reads (spelled 2 (omega arith)))
