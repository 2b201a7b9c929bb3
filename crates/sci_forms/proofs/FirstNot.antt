-- The first number that doesn't pass a test, found by a search from 0 up.
use Rattle.std.proofs.Common.{◌≡◌, ℕ, zero, suc, ◌+◌, ◌<◌, Bool, true, false, Some, None, refl, arith, inl, inr, List, length, get_or, drop, ◌+ℤ◌}
use Rattle.std.proofs.Math.Seq.{drop-cons}
use Rattle.sci_forms.specs.declared.ports.Port.{Port}
use Rattle.sci_forms.specs.Ports.{no_port, sum_rows}
use Rattle.std.proofs.lemmas.Bool.{cases_lt}
use Rattle.std.proofs.Math.Numerals.{add-one}
use Rattle.sci_forms.specs.Forms.{first_not}

pub passed : (f : ℕ → Bool) (k : ℕ) → first_not f k ≡ None → f k ≡ true → first_not f (k + 1) ≡ None
passed f k h p = rw (add-one, h, p) refl

pub found : (f : ℕ → Bool) (k n : ℕ) → first_not f k ≡ None → f k ≡ false → k < n → first_not f n ≡ Some k
found f k zero h p l = absurd (omega (arith, l))
found f k (suc n) h p l = elim (cases_lt k n) [
  | inl q ↦ rw (found f k n h p q) refl
  | inr q ↦ let e : n ≡ k = omega (arith, l, q) in rw (e, h, p) refl
]

-- the rows from port i on
pub rows_from : (ps : List Port) (i : ℕ) → i < length ps → sum_rows (drop i ps) ≡ (get_or ps i no_port).rows +ℤ sum_rows (drop (i + 1) ps)
rows_from ps i h = rw (add-one, drop-cons ps i no_port) refl
