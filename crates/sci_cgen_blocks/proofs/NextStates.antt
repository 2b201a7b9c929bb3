-- The next states of the kinds that have a state.
use Rattle.std.proofs.Common.{◌≡◌, ℕ, suc, ◌+◌, ◌<◌, ◌≤◌, ◌≤ℤ◌, ◌+ℤ◌, Some, Bool, true, false, refl, sym, ap, ◌∙◌, ◌%◌, ◌<ℤ◌, inl, inr, arith, ℤ, pos, negsuc, if◌then◌else◌, List, length, lt-ltb}
use Rattle.std.specs.Prelude.{nat_lt, int_lt}
use Rattle.std.specs.Int.{int_rem_euclid}
use Rattle.std.proofs.Math.Nat.{mod-eq_of_lt, mod_self}
use Rattle.std.proofs.lemmas.Int.{ints}
use Rattle.std.proofs.lemmas.Bool.Decides.{nat_tests}
use Rattle.sci_base.specs.Lists.{at}
use Rattle.sci_forms.specs.declared.Kind.{Kind}
use Rattle.sci_forms.specs.declared.Kind.TheVariants.{Dollar, Register, ModuloCount, GatedDelay}
use Rattle.sci_forms.specs.declared.spec.Spec.{Spec}
use Rattle.sci_forms.specs.Words.{param, state_len_of}
use Rattle.sci_kinds.specs.Table.{next_of}
use Rattle.sci_kinds.specs.Asks.{Asks, IsState}
use Rattle.sci_kinds.proofs.TypedLemmas.{before_one}
use Rattle.sci_kinds.proofs.LawProofs.{asks}
use Rattle.c_ast.specs.declared.Op.TheVariants.{Add, Mul, Lt}
use Rattle.c_mean.specs.Laws.{Within}
use Rattle.sci_cgen_blocks.specs.Terms.{constant, input, state, both, value, Scratch, Readable, TermFits, IsSpelled}
use Rattle.sci_cgen_blocks.specs.Recipes.{natural, next_term, next_alike, next_along, given, IsElement}
use Rattle.sci_cgen_blocks.specs.Laws.{IsCount, NextLaw, NextReadsLaw, NextAlongLaw, NextAlongReadsLaw}
use Rattle.sci_cgen_blocks.proofs.Operators.{add_is, lt_is}
use Rattle.sci_cgen_blocks.proofs.Fitting.{cases_below, lt_yes, lt_no}
use Rattle.sci_cgen_blocks.proofs.StateKinds.{chosen}
use Rattle.sci_cgen_blocks.proofs.Working.{spelled}
use Rattle.sci_cgen_blocks.proofs.Inputs.{given_first}

-- ---- values

-- one more than a number below the base, or 0 where that is the base
count_turns : (z b : ℤ) → pos 0 ≤ℤ z → z <ℤ b → (if int_lt (z +ℤ pos 1) b then (z +ℤ pos 1) else pos 0) ≡ int_rem_euclid (z +ℤ pos 1) b
count_turns (pos n) (pos k) h l = elim (cases_below (pos n +ℤ pos 1) (pos k)) [
  | inl less ↦ let small : n + 1 < k = omega (arith, ints, less) in rw (lt_yes (pos n +ℤ pos 1) (pos k) less) (ap pos (sym (mod-eq_of_lt small)))
  | inr most ↦
      let same : k ≡ n + 1 = omega (arith, ints, l, most) in
      rw (lt_no (pos n +ℤ pos 1) (pos k) most) (ap pos (sym (ap (λ (i : ℕ). (n + 1) % i) same ∙ mod_self (n + 1))))
]
count_turns (pos n) (negsuc k) h l = absurd (omega (arith, ints, h, l))
count_turns (negsuc n) b h l = absurd (omega (arith, ints, h))

module _ (s : Spec) (x : List ℤ) (m : ℕ) (u : List ℤ) (t : Scratch) where
  moved : (b : Bool) (i : ℕ) → value (given s x m u) t (if b then state (i + 1) else input 0 0) ≡ Some (if b then at x (i + 1) else at u 0)
  moved true i = refl
  moved false i = ap Some (given_first s x m u 0)

  counted : (b : ℤ) → b ≤ℤ pos 2147483647 → pos 0 ≤ℤ at x 0 → at x 0 <ℤ b
      → value (given s x m u) t (both Mul (both Lt (both Add (state 0) (natural 1)) (constant b)) (both Add (state 0) (natural 1)))
      ≡ Some (int_rem_euclid (at x 0 +ℤ pos 1) b)
  counted b k l r =
      let w : Within (at x 0 +ℤ pos 1) = record { above = omega (arith, ints, l); below = omega (arith, ints, k, r) } in
      let more = add_is {x = at x 0} {y = pos 1} refl refl w in
      chosen (int_lt (at x 0 +ℤ pos 1) b) (lt_is {y = b} more refl) more w ∙ ap Some (count_turns (at x 0) b l r)

  next_is : (k : Kind) → s.kind ≡ k → Asks k s → IsState s x → IsCount s x → (i : ℕ) → i < state_len_of k s
      → value (given s x m u) t (next_term k s i) ≡ Some (next_of k s x m u i)
  next_is Dollar e a st c i h = ap Some (given_first s x m u i)
  next_is GatedDelay e a st c i h = ap Some (given_first s x m u i)
  next_is Register e a st c i h = moved (nat_lt (i + 1) (length s.state)) i
  next_is ModuloCount e a st c i h = let is = c e in counted (param s 0) a.3 is.0 is.1
  next_is _ e a st c i h = absurd (omega (arith, h))

  along_is : (k : Kind) → Asks k s → (i : ℕ) → i < next_alike k s
      → value (record (given s x m u) { element = i }) t (next_along k s) ≡ Some (next_of k s x m u i)
  along_is Dollar a i h = ap Some (given_first s x m u i)
  along_is GatedDelay a i h = ap Some (given_first s x m u i)
  along_is Register a i h =
      let more : i + 1 < length s.state = omega (arith, h) in
      let up : suc i ≡ i + 1 = omega arith in
      ap (λ (j : ℕ). Some (at x j)) up
      ∙ ap (λ (b : Bool). Some (if b then at x (i + 1) else at u 0)) (sym (lt-ltb (i + 1) (length s.state) more))
  along_is _ a i h = absurd (omega (arith, h))

pub next_law : NextLaw
next_law s x m u h st c f i l t = next_is s x m u t s.kind refl (asks s h) st c i l

pub next_along_law : NextAlongLaw
next_along_law s x m u h f i l t = along_is s x m u t s.kind (asks s h) i l

-- ---- what they read

abbrev from_value_of : Kind → Spec → ℕ → Readable
from_value_of k s i = record { input = IsElement s; state = λ j. (i ≤ j) × (j < state_len_of k s); mask = false; scratch = 0; element = 0 }

next_reads : (k : Kind) (s : Spec) → Asks k s → (i : ℕ) → i < state_len_of k s → TermFits (from_value_of k s i) 32 (next_term k s i)
next_reads Dollar s a i h = let n = a.0.ins_alike.sizes 0 (omega (arith, a.1)) in (omega (arith, a.1), omega (arith, h, n))
next_reads GatedDelay s a i h = (omega (arith, a.1), omega (arith, h, before_one s.ins (omega (arith, a.1)), a.0.first_size))
next_reads Register s a i h = by_place (nat_lt (i + 1) (length s.state)) refl
  where
    by_place : (b : Bool) → nat_lt (i + 1) (length s.state) ≡ b → TermFits (from_value_of Register s i) 32 (if b then state (i + 1) else input 0 0)
    by_place true p = (omega arith, grind (arith, nat_tests))
    by_place false p = let n = a.0.ins_alike.sizes 0 (omega (arith, a.1)) in (omega (arith, a.1), omega (arith, n, a.2))
next_reads ModuloCount s a i h =
    let here : (i ≤ 0) × (0 < 1) = (omega (arith, h), omega arith) in
    let base : IsSpelled (param s 0) = (omega (arith, ints, a.2), omega (arith, ints, a.3)) in
    (((here, spelled 1 (omega arith)), base), (here, spelled 1 (omega arith)))
next_reads _ s a i h = absurd (omega (arith, h))

pub next_reads_law : NextReadsLaw
next_reads_law s h i l = next_reads s.kind s (asks s h) i l

along_reads : (k : Kind) (s : Spec) → Asks k s → (i : ℕ) → i < next_alike k s → TermFits (record (from_value_of k s i) { element = i }) 32 (next_along k s)
along_reads Dollar s a i h = let n = a.0.ins_alike.sizes 0 (omega (arith, a.1)) in (omega (arith, a.1), omega (arith, h, n))
along_reads GatedDelay s a i h = (omega (arith, a.1), omega (arith, h, before_one s.ins (omega (arith, a.1)), a.0.first_size))
along_reads Register s a i h = (omega arith, omega (arith, h))
along_reads _ s a i h = absurd (omega (arith, h))

alike_few : (k : Kind) (s : Spec) → next_alike k s ≤ state_len_of k s
alike_few Dollar s = omega arith
alike_few GatedDelay s = omega arith
alike_few _ s = omega arith

pub next_along_reads_law : NextAlongReadsLaw
next_along_reads_law s h = (alike_few s.kind s, λ i l. along_reads s.kind s (asks s h) i l)
