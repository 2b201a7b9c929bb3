-- What the banks of all kinds have counted together.
use Rattle.std.proofs.Common.{◌≡◌, ◌≤◌, ℕ, ◌+◌, ◌==◌, ◌&&◌, List, [], ◌∷◌, length, drop, get_or, Bool, true, false, if◌then◌else◌, min, refl, ap, subst, arith}
use Rattle.std.specs.Prelude.{nat_lt}
use Rattle.std.specs.List.{sum_by}
use Rattle.std.proofs.Math.ListN.{drop_of_length-le}
use Rattle.std.proofs.lemmas.Bool.{and_parts, eqb-true, lt-ltb, le-ltb}
use Rattle.std.proofs.lemmas.Bool.Decides.{nat_tests}
use Rattle.std.proofs.lemmas.List.Sums.{sum_by-drop_more}
use Rattle.sci_forms.specs.declared.Kind.{Kind}
use Rattle.sci_forms.specs.declared.Kind.TheVariants.{Const}
use Rattle.sci_forms.specs.declared.spec.Spec.{Spec}
use Rattle.sci_forms.specs.Numbers.{number_of, all_kinds, kinds}
use Rattle.sci_net.specs.Parts.{Parts}
use Rattle.sci_run.specs.Counts.{activations_from}
use Rattle.sci_bank.specs.Bank.{Meaning, no_bank}
use Rattle.sci_bank.specs.Library.{place_of, bank_of, IsFull, total_outs}
use Rattle.sci_sim.specs.Totals.{StateAddsUp, StopAddsUp}

-- ---- the kinds by number

-- the numbers of these kinds are b and those behind it
abbrev are_numbered : ℕ → List Kind → Bool
are_numbered b [] = true
are_numbered b (k ∷ ks) = (number_of k == b) && are_numbered (b + 1) ks

some_number : (k : Kind) → 1 ≤ number_of k
some_number Const = omega arith
some_number _ = omega arith

most_number : (k : Kind) → number_of k ≤ kinds
most_number Const = omega arith
most_number _ = omega arith

-- ---- sums of activations by tests

parts : (p q r : Spec → Bool) → ((s : Spec) (x : ℕ) → (if p s then x else 0) ≡ (if q s then x else 0) + (if r s then x else 0)) → (b : ℕ) (ss : List Spec) (activations : ℕ → ℕ)
    → activations_from p b ss activations ≡ activations_from q b ss activations + activations_from r b ss activations
parts p q r one b [] activations = refl
parts p q r one b (s ∷ ss) activations =
    let first = one s (activations b) in
    let rest = parts p q r one (b + 1) ss activations in
    omega (arith, first, rest)

none : (p : Spec → Bool) → ((s : Spec) → p s ≡ false) → (b : ℕ) (ss : List Spec) (activations : ℕ → ℕ) → activations_from p b ss activations ≡ 0
none p never b [] activations = refl
none p never b (s ∷ ss) activations =
    let first : (if p s then activations b else 0) ≡ 0 = ap (λ (t : Bool). if t then activations b else 0) (never s) in
    let rest = none p never (b + 1) ss activations in
    omega (arith, first, rest)

all : (p : Spec → Bool) → ((s : Spec) → p s ≡ true) → (b : ℕ) (ss : List Spec) (activations : ℕ → ℕ) → activations_from p b ss activations ≡ activations_from (λ s. true) b ss activations
all p always b [] activations = refl
all p always b (s ∷ ss) activations =
    let first : (if p s then activations b else 0) ≡ activations b = ap (λ (t : Bool). if t then activations b else 0) (always s) in
    let rest = all p always (b + 1) ss activations in
    omega (arith, first, rest)

-- a number behind i is the next one or behind that
behind : (i m k x : ℕ) → m ≡ i + 1 → (if nat_lt i k then x else 0) ≡ (if k == m then x else 0) + (if nat_lt (i + 1) k then x else 0)
behind i m k x e = grind (arith, nat_tests)

-- of two numbers for each block together
pub together : (p : Spec → Bool) (b : ℕ) (ss : List Spec) (f g : ℕ → ℕ) → activations_from p b ss (λ c. f c + g c) ≡ activations_from p b ss f + activations_from p b ss g
together p b [] f g = refl
together p b (s ∷ ss) f g =
    let rest = together p (b + 1) ss f g in
    by_test (p s) rest
  where
    by_test : (t : Bool) → activations_from p (b + 1) ss (λ c. f c + g c) ≡ activations_from p (b + 1) ss f + activations_from p (b + 1) ss g
        → (if t then f b + g b else 0) + activations_from p (b + 1) ss (λ c. f c + g c)
        ≡ ((if t then f b else 0) + activations_from p (b + 1) ss f) + ((if t then g b else 0) + activations_from p (b + 1) ss g)
    by_test true rest = omega (arith, rest)
    by_test false rest = omega (arith, rest)

-- of two numbers that are counted as far as this one
both_least : (m a b x y s t : ℕ) → min a m ≤ x → min b m ≤ y → s ≡ a + b → t ≡ x + y → min s m ≤ t
both_least m a b x y s t one rest parted both = omega (arith, one, rest, parted, both)

-- ---- the banks from one on

module _ (n : Parts) (acts : ℕ → ℕ) (banks : List Meaning) (full : IsFull banks) where
  -- those of a kind
  abbrev pub of_kind : Kind → ℕ
  of_kind k = activations_from (λ s. number_of s.kind == number_of k) 1 n.specs acts

  -- those of the kinds behind the first i
  abbrev behind_first : ℕ → ℕ
  behind_first i = activations_from (λ s. nat_lt i (number_of s.kind)) 1 n.specs acts

  none_behind : (i : ℕ) → i ≡ kinds → behind_first i ≡ 0
  none_behind i last = none (λ s. nat_lt i (number_of s.kind)) (λ s. le-ltb i (number_of s.kind) (let most = most_number s.kind in omega (arith, most, last))) 1 n.specs acts

  split : (i : ℕ) (k : Kind) → number_of k ≡ i + 1 → behind_first i ≡ of_kind k + behind_first (i + 1)
  split i k number =
      parts (λ s. nat_lt i (number_of s.kind)) (λ s. number_of s.kind == number_of k) (λ s. nat_lt (i + 1) (number_of s.kind)) (λ s x. behind i (number_of k) (number_of s.kind) x number) 1 n.specs acts

  all_kinds_are : behind_first 0 ≡ activations_from (λ s. true) 1 n.specs acts
  all_kinds_are = all (λ s. nat_lt 0 (number_of s.kind)) (λ s. lt-ltb 0 (number_of s.kind) (let some = some_number s.kind in omega (arith, some))) 1 n.specs acts

  least_from : ((k : Kind) → min (of_kind k) 18446744073709551615 ≤ (bank_of banks k).outs) → (i : ℕ) (ks : List Kind) → are_numbered (i + 1) ks ≡ true → i + length ks ≡ kinds
      → min (behind_first i) 18446744073709551615 ≤ sum_by (λ (b : Meaning). b.outs) (drop i banks)
  least_from counts i [] numbered all_there = let past = none_behind i (omega (arith, all_there)) in omega (arith, past)
  least_from counts i (k ∷ ks) numbered all_there =
      let here = and_parts (number_of k == i + 1) (are_numbered (i + 1 + 1) ks) numbered in
      let number : number_of k ≡ i + 1 = eqb-true (number_of k) (i + 1) here.0 in
      let place : place_of k ≡ i = omega (arith, number) in
      let one : min (of_kind k) 18446744073709551615 ≤ (get_or banks i no_bank).outs =
      subst (λ (j : ℕ). min (of_kind k) 18446744073709551615 ≤ (get_or banks j no_bank).outs) place (counts k) in
      let rest = least_from counts (i + 1) ks here.1 (omega (arith, all_there)) in
      let both = sum_by-drop_more (λ (b : Meaning). b.outs) banks i no_bank (omega (arith, full, all_there)) in
      let parted = split i k number in
      both_least 18446744073709551615 (of_kind k) (behind_first (i + 1)) _ _ _ _ one rest parted both

  most_from : ((k : Kind) → (bank_of banks k).outs ≤ of_kind k) → (i : ℕ) (ks : List Kind) → are_numbered (i + 1) ks ≡ true → i + length ks ≡ kinds
      → sum_by (λ (b : Meaning). b.outs) (drop i banks) ≤ behind_first i
  most_from counts i [] numbered all_there =
      let past : drop i banks ≡ [] = drop_of_length-le banks (omega (arith, full, all_there)) in
      let nothing = ap (sum_by (λ (b : Meaning). b.outs)) past in
      omega (arith, nothing)
  most_from counts i (k ∷ ks) numbered all_there =
      let here = and_parts (number_of k == i + 1) (are_numbered (i + 1 + 1) ks) numbered in
      let number : number_of k ≡ i + 1 = eqb-true (number_of k) (i + 1) here.0 in
      let place : place_of k ≡ i = omega (arith, number) in
      let one : (get_or banks i no_bank).outs ≤ of_kind k = subst (λ (j : ℕ). (get_or banks j no_bank).outs ≤ of_kind k) place (counts k) in
      let rest = most_from counts (i + 1) ks here.1 (omega (arith, all_there)) in
      let both = sum_by-drop_more (λ (b : Meaning). b.outs) banks i no_bank (omega (arith, full, all_there)) in
      let parted = split i k number in
      omega (arith, one, rest, both, parted)

  pub sum_least : ((k : Kind) → min (of_kind k) 18446744073709551615 ≤ (bank_of banks k).outs)
      → min (activations_from (λ s. true) 1 n.specs acts) 18446744073709551615 ≤ sum_by (λ (b : Meaning). b.outs) banks
  sum_least counts = let least = least_from counts 0 all_kinds refl refl in omega (arith, least, all_kinds_are)

  pub sum_most : ((k : Kind) → (bank_of banks k).outs ≤ of_kind k) → sum_by (λ (b : Meaning). b.outs) banks ≤ activations_from (λ s. true) 1 n.specs acts
  sum_most counts = let most = most_from counts 0 all_kinds refl refl in omega (arith, most, all_kinds_are)

-- ---- of a run

pub state_adds_up : StateAddsUp
state_adds_up r banks st full at =
    let n = r.fixed.net in
    let counts = at.shown.counts in
    let least = sum_least n st.activations banks full (λ k. let count = counts k in omega (arith, count)) in
    let most = sum_most n st.activations banks full (λ k. let count = counts k in omega (arith, count)) in
    omega (arith, least, most)

pub stop_adds_up : StopAddsUp
stop_adds_up n s st banks full h = record {
  least = let least = sum_least n st.activations banks full h.least in omega (arith, least);
  most = λ possible may.
      let one : ℕ → ℕ = λ b. if possible b then 1 else 0 in
      let both = λ (k : Kind). together (λ s. number_of s.kind == number_of k) 1 n.specs st.activations one in
      let sum = sum_most n (λ b. st.activations b + one b) banks full (λ k. let count = h.most possible may k in let parted = both k in omega (arith, count, parted)) in
      let parted = together (λ s. true) 1 n.specs st.activations one in
      omega (arith, sum, parted);
}
