use Rattle.std.proofs.Common.{◌≡◌, ℕ, zero, suc, ◌+◌, ◌*◌, ◌<◌, ◌≤◌, ℤ, pos, negsuc, ◌+ℤ◌, ◌*ℤ◌, ◌≤ℤ◌, neg_ℤ, true, false, inl, inr, refl, ap, sym, ◌∙◌, arith, add-one, List, length}
use Rattle.std.proofs.lemmas.Int.{ints}
use Rattle.sci_base.specs.declared.Ty.{Ty}
use Rattle.sci_base.specs.Fit.{InRange, int_eq}
use Rattle.sci_base.proofs.FitLemmas.{low_at_least, high_at_most}
use Rattle.sci_kinds.specs.Table.{sum_to}
use Rattle.sci_kinds.specs.Asks.{IsSign, IsAlikeSpec}
use Rattle.sci_kinds.specs.Table.{input}
use Rattle.sci_kinds.proofs.Elements.{total_alike, total_one}
use Rattle.sci_base.specs.Lists.{at}
use Rattle.sci_forms.specs.declared.spec.Spec.{Spec}
use Rattle.sci_forms.specs.Ports.{total, Fills}
use Rattle.sci_forms.specs.Words.{out_type, size}

-- a number of a type is small
pub small : (t : Ty) (u : ℤ) → InRange t u → (negsuc 4294967295 ≤ℤ u) × (u ≤ℤ pos 4294967295)
small t u r =
    let lo = low_at_least t in
    let hi = high_at_most t in
    let above = r.above in
    let below = r.below in
    (omega (arith, ints), omega (arith, ints))

-- a term by its sign
pub term_plus : (s u : ℤ) → IsSign s → int_eq s (pos 1) ≡ true → u ≡ s *ℤ u
term_plus s u (inl e) p = rw e (one_times u)
  where
    one_times : (u : ℤ) → u ≡ pos 1 *ℤ u
    one_times (pos n) = grind (arith, ints)
    one_times (negsuc n) = grind (arith, ints)
term_plus s u (inr e) p = let q : int_eq (negsuc 0) (pos 1) ≡ true = rw e at p in cc

pub term_minus : (s u : ℤ) → IsSign s → int_eq s (pos 1) ≡ false → neg_ℤ u ≡ s *ℤ u
term_minus s u (inl e) p = let q : int_eq (pos 1) (pos 1) ≡ false = rw e at p in cc
term_minus s u (inr e) p = rw e (minus_times u)
  where
    minus_times : (u : ℤ) → neg_ℤ u ≡ negsuc 0 *ℤ u
    minus_times (pos zero) = refl
    minus_times (pos (suc n)) = grind (arith, ints)
    minus_times (negsuc n) = grind (arith, ints)

pub sum_more : (f : ℕ → ℤ) (k : ℕ) (sum v : ℤ) → sum ≡ sum_to f k → v ≡ f k → sum +ℤ v ≡ sum_to f (k + 1)
sum_more f k sum v e d = rw (add-one, e, d) refl

-- an input with the sign 1
pub signed_plus : (t : Ty) (s u r : ℤ) → IsSign s → int_eq s (pos 1) ≡ true → InRange t u → r ≡ u → (r ≡ s *ℤ u) × (negsuc 4294967295 ≤ℤ r) × (r ≤ℤ pos 4294967296)
signed_plus t s u r g h i e =
    let b = small t u i in
    (e ∙ term_plus s u g h, omega (arith, ints, b.0, e), omega (arith, ints, b.1, e))

-- an input with the sign -1
pub signed_minus : (t : Ty) (s u r : ℤ) → IsSign s → int_eq s (pos 1) ≡ false → InRange t u → r ≡ neg_ℤ u → (r ≡ s *ℤ u) × (negsuc 4294967295 ≤ℤ r) × (r ≤ℤ pos 4294967296)
signed_minus t s u r g h i e =
    let b = small t u i in
    (e ∙ term_minus s u g h, omega (arith, ints, b.0, b.1, e), omega (arith, ints, b.0, b.1, e))

-- ---- inputs of one element

one_of : (n m : ℕ) → 1 ≤ n → n * m ≡ n → m ≡ 1
one_of n zero some e = absurd (omega (arith, e, some))
one_of n (suc zero) some e = refl
one_of n (suc (suc m)) some e = let more : n * suc (suc m) ≡ n + (n + n * m) = grind arith in absurd (omega (arith, e, some, more))

-- where each input has one element, that of an input stands at the input's place
pub one_each : (s : Spec) (u : List ℤ) (k e : ℕ) → IsAlikeSpec s → Fills s.ins u → length u ≡ length s.ins → k < length s.ins → e < total s.outs
    → at u k ≡ input (size s) u k e
one_each s u k e alike fills same port inside =
    let few : length s.ins * size s ≡ length s.ins = sym (total_alike s.ins (out_type s) (size s) alike.ins_alike) ∙ (sym fills.enough ∙ same) in
    let one : size s ≡ 1 = one_of (length s.ins) (size s) (omega (arith, port)) few in
    let first : e < 1 = omega (arith, inside, total_one s.outs (out_type s) (size s) alike.outs_alike alike.one, one) in
    let place : k ≡ k * 1 + e = omega (arith, first) in
    ap (at u) (place ∙ ap (λ (n : ℕ). k * n + e) (sym one))
