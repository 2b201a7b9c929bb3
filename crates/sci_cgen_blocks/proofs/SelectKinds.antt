-- SELECT.
use Rattle.std.proofs.Common.{◌≡◌, ◌≢◌, ℕ, zero, suc, ◌+◌, ◌-◌, ◌/◌, ◌%◌, ◌^◌, ◌<◌, ◌≤◌, Bool, true, false, Some, refl, sym, ap, ◌∙◌, arith, ℤ, pos, List, length, inl, inr, subst, cond, true≢false}
use Rattle.std.specs.Prelude.{nat_eq}
use Rattle.std.specs.Int.{bit_at}
use Rattle.std.proofs.lemmas.Bool.{cases_eq, cases_lt}
use Rattle.std.proofs.lemmas.Bool.Decides.{nat_tests}
use Rattle.std.proofs.lemmas.Nat.Bits.{bit_at_lowest, bit_at-suc, bit_at-lt}
use Rattle.sci_forms.specs.declared.Kind.TheVariants.{Select}
use Rattle.sci_forms.specs.declared.spec.Spec.{Spec}
use Rattle.sci_forms.specs.Ports.{total}
use Rattle.sci_forms.specs.Words.{out_type, size}
use Rattle.sci_kinds.specs.Table.{cell_of, least_set, input as input_of}
use Rattle.sci_kinds.specs.declared.Cell.TheVariants.{Value}
use Rattle.sci_kinds.specs.Asks.{Asks, IsMask}
use Rattle.sci_kinds.proofs.Ranges.{least_set_below}
use Rattle.c_mean.specs.Meaning.{truth}
use Rattle.sci_cgen_blocks.specs.Terms.{Given, value, mask, Scratch, WayGives, WayFits}
use Rattle.sci_cgen_blocks.specs.Recipes.{given, way_of, bit, copied, first_activated}
use Rattle.sci_cgen_blocks.proofs.Deciding.{by_truth}
use Rattle.sci_cgen_blocks.proofs.Patterns.{bit_is, pow_at_most}
use Rattle.sci_cgen_blocks.proofs.Reading.{Reads, mask_reads, bit_reads}
use Rattle.sci_cgen_blocks.proofs.Inputs.{given_input, in_size, fed_of, copied_reads, IsFed, element_read}

-- ---- the least bit

-- the least bit of n, where there is one: it is set, and none below it is
least_is : (n m : ℕ) → least_set m n < n → (bit_at m (least_set m n) ≡ 1) × ((j : ℕ) → j < least_set m n → bit_at m j ≡ 0)
least_is zero m h = absurd (omega (arith, h))
least_is (suc n) m h = by_bit (nat_eq (m % 2) 1) refl h (least_is n (m / 2))
  where
    by_bit : (b : Bool) → nat_eq (m % 2) 1 ≡ b → cond b 0 (suc (least_set (m / 2) n)) < suc n
        → (least_set (m / 2) n < n → (bit_at (m / 2) (least_set (m / 2) n) ≡ 1) × ((j : ℕ) → j < least_set (m / 2) n → bit_at (m / 2) j ≡ 0))
        → (bit_at m (cond b 0 (suc (least_set (m / 2) n))) ≡ 1) × ((j : ℕ) → j < cond b 0 (suc (least_set (m / 2) n)) → bit_at m j ≡ 0)
    by_bit true p l rest = let odd : m % 2 ≡ 1 = grind (arith, nat_tests) in (bit_at_lowest m ∙ odd, λ j k. absurd (omega (arith, k)))
    by_bit false p l rest =
        let r = rest (omega (arith, l)) in
        let even : m % 2 ≢ 1 = grind (arith, nat_tests) in
        (bit_at-suc m (least_set (m / 2) n) ∙ r.0, lower even r.1)
      where
        lower : m % 2 ≢ 1 → ((j : ℕ) → j < least_set (m / 2) n → bit_at (m / 2) j ≡ 0) → (j : ℕ) → j < suc (least_set (m / 2) n) → bit_at m j ≡ 0
        lower e q zero k = bit_at_lowest m ∙ omega (arith, e)
        lower e q (suc j) k = bit_at-suc m j ∙ q j (omega (arith, k))

bit_truth : (x : ℕ) → x < 2 → pos x ≡ truth (nat_eq x 1)
bit_truth zero h = refl
bit_truth (suc zero) h = refl
bit_truth (suc (suc x)) h = absurd (omega (arith, h))

-- ---- SELECT

-- an input that is copied
copied_gives : (g : Given) (count : ℕ) (f : ℕ → ℤ) (k r : ℕ) → k ≡ r → ((e : ℕ) → e < count → g.input r e ≡ f e)
    → WayGives g count (λ e. Value (f e)) (copied k)
copied_gives g count f k r d is = λ e l t. record { behind = t; works = refl; is = ap (λ (i : ℕ). Some (g.input i e)) d ∙ ap Some (is e l) }

module _ (g : Given) (small : g.mask ≤ 9223372036854775807) where
  bit_value : (s : Scratch) (k : ℕ) (b : ℕ) → bit_at g.mask k ≡ b → value g s (bit mask k) ≡ Some (truth (nat_eq b 1))
  bit_value s k b q = bit_is {a = g.mask} refl k small ∙ ap Some (bit_truth (bit_at g.mask k) (bit_at-lt g.mask k) ∙ ap (λ (x : ℕ). truth (nat_eq x 1)) q)

  -- r is the first of inputs k to k + n whose bit is set
  first_gives : (count : ℕ) (f : ℕ → ℤ) (r : ℕ) → ((e : ℕ) → e < count → g.input r e ≡ f e) → bit_at g.mask r ≡ 1 → ((j : ℕ) → j < r → bit_at g.mask j ≡ 0)
      → (n k : ℕ) → k ≤ r → r ≤ k + n → WayGives g count (λ e. Value (f e)) (first_activated k n)
  first_gives count f r is one none zero k h l = copied_gives g count f k r (omega (arith, h, l)) is
  first_gives count f r is one none (suc n) k h l = λ t.
      by_truth {p = WayGives g count (λ e. Value (f e)) (copied k)} {q = WayGives g count (λ e. Value (f e)) (first_activated (suc k) n)}
      (value g t (bit mask k)) (nat_eq (bit_at g.mask k) 1) (bit_value t k (bit_at g.mask k) refl)
      (λ on. copied_gives g count f k r (here on) is)
      (λ off. first_gives count f r is one none n (suc k) (past off) (omega (arith, l)))
    where
      here : nat_eq (bit_at g.mask k) 1 ≡ true → k ≡ r
      here on = elim (cases_lt k r) [
        | inl b ↦ absurd (true≢false (sym on ∙ ap (λ (i : ℕ). nat_eq i 1) (none k b)))
        | inr b ↦ omega (arith, h, b)
      ]

      past : nat_eq (bit_at g.mask k) 1 ≡ false → suc k ≤ r
      past off = elim (cases_eq k r) [
        | inl b ↦ absurd (true≢false (sym (ap (λ (i : ℕ). nat_eq i 1) (subst (λ (i : ℕ). bit_at g.mask i ≡ 1) (sym b) one)) ∙ off))
        | inr b ↦ omega (arith, h, b)
      ]

mask_small : (m n : ℕ) → m < 2 ^ n → n ≤ 8 → m ≤ 2147483648
mask_small m n h k = omega (arith, h, pow_at_most n (omega (arith, k)))

module _ (s : Spec) (x : List ℤ) (m : ℕ) (u : List ℤ) where
  pub select_gives : s.kind ≡ Select → Asks Select s → IsMask s m → WayGives (given s x m u) (total s.outs) (cell_of Select s x m u) (way_of Select s)
  select_gives kd a mk =
      let below = least_set_below s.evtin m mk.few (mk.some (rw kd refl)) in
      let least = least_is s.evtin m below in
      let room = mask_small m s.evtin mk.few a.3 in
      first_gives (given s x m u) (omega (arith, room)) (total s.outs) (λ e. input_of (size s) u (least_set m s.evtin) e) (least_set m s.evtin)
      (λ e h. given_input s x m u (out_type s) (size s) a.0.ins_alike (least_set m s.evtin) e (omega (arith, below, a.1))) least.0 least.1
      (s.evtin - 1) 0 (omega arith) (omega (arith, below, a.2))

module _ (s : Spec) (a : Asks Select s) (f : IsFed Select s) where
  copied_fits : (k d : ℕ) → k < length s.ins → WayFits (fed_of Select s) (total s.outs) (copied k) d
  copied_fits k d h =
      copied_reads Select s d k refl refl (λ e l. element_read Select s (out_type s) a.0.ins_alike f k e h refl (in_size s a.0.outs_alike a.0.one e l))

  first_fits : (n k d : ℕ) → k + n < length s.ins → n ≤ d → WayFits (fed_of Select s) (total s.outs) (first_activated k n) d
  first_fits zero k d h l = copied_fits k d (omega (arith, h))
  first_fits (suc n) k zero h l = absurd (omega (arith, l))
  first_fits (suc n) k (suc d) h l =
      let test : Reads (fed_of Select s) 32 (bit mask k) = bit_reads k (omega (arith, h, a.1, a.3)) (mask_reads refl) in
      (test.fits, copied_fits k d (omega (arith, h)), first_fits n (suc k) d (omega (arith, h)) (omega (arith, l)))

  pub select_reads : WayFits (fed_of Select s) (total s.outs) (way_of Select s) 8
  select_reads = first_fits (s.evtin - 1) 0 8 (omega (arith, a.1, a.2)) (omega (arith, a.3))
