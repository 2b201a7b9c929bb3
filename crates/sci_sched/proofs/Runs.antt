-- Guards, one run of branches after the other.
use Rattle.std.proofs.Common.{◌≡◌, ℕ, zero, suc, ◌+◌, ◌-◌, ◌<◌, ◌≤◌, Bool, true, false, eqb, inl, inr, ⊎_elim, List, [], ◌∷◌, ◌++◌, length, get_or, take, Contains, AllPairs, refl, sym, ap, subst, ◌∙◌, arith, nat_lt, true≢false}
use Rattle.std.specs.List.{list_any}
use Rattle.std.specs.List.Sorted.{IsPartitionedBy, IsPartitionPoint}
use Rattle.std.proofs.lemmas.Bool.{cases_eq, cases_lt, ltb-true, lt-ltb}
use Rattle.std.proofs.lemmas.List.Elements.{Contains-push_cases}
use Rattle.std.proofs.lemmas.List.{get_or_default, get_or-take, length-take-le, take_more, take_all}
use Rattle.sci_net.specs.declared.Feed.{Feed}
use Rattle.sci_net.specs.Parts.{Parts, feeds_of, AreRising}
use Rattle.sci_reaction.specs.Equations.{HasBits}
use Rattle.sci_reaction.proofs.Rows.{Contains-has, has-Contains}
use Rattle.sci_reaction.specs.declared.entry.Guard.{Guard}
use Rattle.sci_sched.specs.Guards.{is_possible, branch_in, AreGuards, IsFirstFrom, EndsRun, GuardsTo}
use Rattle.sci_sched.proofs.Guarded.{before_of, guards_with, guards_without}

-- ---- places among sorted branches

-- blocks don't fall
pub blocks_rise : (qs : List Feed) → AreRising qs → (i j : ℕ) (d : Feed) → i ≤ j → j < length qs → (get_or qs i d).block ≤ (get_or qs j d).block
blocks_rise qs rise i j d low within = ⊎_elim
    (λ e. subst (λ (k : ℕ). (get_or qs i d).block ≤ (get_or qs k d).block) e (omega arith))
    (λ e. ⊎_elim (λ less. omega (arith, less)) (λ same. let s = same.0 in omega (arith, s)) (before_of (get_or qs i d) (get_or qs j d) (rise i j d (omega (arith, low, e)) within)))
    (cases_eq i j)

-- those of blocks before c stand first
pub parted : (qs : List Feed) (c : ℕ) → AreRising qs → IsPartitionedBy (λ (q : Feed). nat_lt q.block c) qs
parted qs c rise i j d low within holds =
    let a = ltb-true (get_or qs j d).block c holds in
    let b = blocks_rise qs rise i j d low within in
    lt-ltb (get_or qs i d).block c (omega (arith, a, b))

pub first_is : (qs : List Feed) (c at : ℕ) → at ≤ length qs → IsPartitionPoint (λ (q : Feed). nat_lt q.block c ≡ true) (λ (q : Feed). nat_lt q.block c ≡ false) qs at → IsFirstFrom qs 0 c at
first_is qs c at within point = record {
  begins = omega arith;
  within = within;
  before = λ i d low less. ltb-true (get_or qs i d).block c (point.0 i d low less);
  after = λ i d low less. ⊎_elim
      (λ l. absurd (true≢false (sym (lt-ltb (get_or qs i d).block c l) ∙ point.1 i d low less)))
      (λ g. g)
      (cases_lt (get_or qs i d).block c);
}

-- the first of all, where one from a place on is before it
pub first_later : (qs : List Feed) (from c at : ℕ) (d : Feed) → from < length qs → (get_or qs from d).block < c → IsFirstFrom qs 0 c at → IsFirstFrom qs from c at
first_later qs from c at d inside less is = record {
  begins = ⊎_elim
      (λ l. absurd (let a = is.after from d (omega (arith, l)) inside in omega (arith, a, less)))
      (λ g. g)
      (cases_lt at from);
  within = is.within;
  before = λ i e low l. is.before i e (omega arith) l;
  after = is.after;
}

-- the place itself
pub first_here : (qs : List Feed) (from c : ℕ) → AreRising qs → from ≤ length qs → ((d : Feed) → from < length qs → c ≤ (get_or qs from d).block) → IsFirstFrom qs from c from
first_here qs from c rise within here = record {
  begins = omega arith;
  within = within;
  before = λ i d low l. absurd (omega (arith, low, l));
  after = λ i d low l. let a = here d (omega (arith, low, l)) in let b = blocks_rise qs rise from i d low l in omega (arith, a, b);
}

-- ---- a step

-- the guard of the next branch, whose block is one of these
pub guards_next : (n : Parts) (possible : List ℕ) (qs : List Feed) (b i : ℕ) (d : Feed) (gs : List Guard) (g : Guard) → i < length qs → Contains possible (get_or qs i d).block → branch_in g ≡ get_or qs i d
    → HasBits g.mask (λ p. Contains (feeds_of n b p) (get_or qs i d)) → AreGuards n possible (take i qs) b gs → AreGuards n possible (take (i + 1) qs) b (gs ++ g ∷ [])
guards_next n possible qs b i d gs g h has same bits is =
    subst (λ rs. AreGuards n possible rs b (gs ++ g ∷ [])) (sym (take_more qs i d h))
    (guards_with n possible (take i qs) b gs (get_or qs i d) g is (Contains-has possible (get_or qs i d).block has) same bits)

not_any : (possible : List ℕ) (c : ℕ) (t : Bool) → list_any (eqb c) possible ≡ t → (Contains possible c → ⊥) → t ≡ false
not_any possible c true e none = absurd (none (has-Contains possible c e))
not_any possible c false e none = refl

-- branches whose blocks are none of these have no guards
pub guards_past : (n : Parts) (possible : List ℕ) (qs : List Feed) (b from : ℕ) (k : ℕ) (gs : List Guard) → from + k ≤ length qs
    → ((i : ℕ) (d : Feed) → from ≤ i → i < from + k → Contains possible (get_or qs i d).block → ⊥)
    → AreGuards n possible (take from qs) b gs → AreGuards n possible (take (from + k) qs) b gs
guards_past n possible qs b from zero gs within none is = let e : from ≡ from + 0 = omega arith in subst (λ (m : ℕ). AreGuards n possible (take m qs) b gs) e is
guards_past n possible qs b from (suc k) gs within none is =
    let d : Feed = record { block = 0; port = 0 } in
    let i : ℕ = from + k in
    let q : Feed = get_or qs i d in
    let before = guards_past n possible qs b from k gs (omega (arith, within)) (λ j e low l. none j e low (omega (arith, l))) is in
    let next : from + suc k ≡ i + 1 = omega arith in
    subst (λ (m : ℕ). AreGuards n possible (take m qs) b gs) (sym next)
    (subst (λ rs. AreGuards n possible rs b gs) (sym (take_more qs i d (omega (arith, within))))
    (guards_without n possible (take i qs) b gs q before (not_any possible q.block (is_possible possible q) refl (none i d (omega arith) (omega arith)))))

-- ---- a condition

pub guards_begin : (n : Parts) (conditions : List ℕ) (qs : List Feed) (b : ℕ) → GuardsTo n conditions qs b 0 0 []
guards_begin n conditions qs b = record {
  within = omega arith;
  guards = record { branches_are = refl; masks_are = λ k d h. absurd (omega (arith, h)) };
  later = λ i d c low l has. let m = has.1 in absurd (omega (arith, m));
}

module _ (n : Parts) (conditions : List ℕ) (qs : List Feed) (b k : ℕ) (sorted : AllPairs (λ c d. c ≤ d) conditions) (rise : AreRising qs) where
  -- a condition is one of the first k, or the next, or not before it
  placed : (c : ℕ) → k < length conditions → Contains conditions c → (Contains (take k conditions) c → ⊥) → get_or conditions k 0 ≤ c
  placed c inside (j, h, e) other = ⊎_elim
      (λ l. absurd (other (j, (let m = length-take-le k conditions (omega (arith, inside)) in omega (arith, m, l)), get_or-take k conditions j c l ∙ e)))
      (λ g. ⊎_elim
      (λ s. let x : get_or conditions k 0 ≡ c = ap (λ (i : ℕ). get_or conditions i 0) s ∙ (get_or_default conditions j 0 c h ∙ e) in omega (arith, x))
      (λ d. let m = sorted k j 0 (omega (arith, g, d)) h in let x : get_or conditions j 0 ≡ c = get_or_default conditions j 0 c h ∙ e in omega (arith, m, x))
      (cases_eq k j))
      (cases_lt j k)

  pub guards_on : (at from end : ℕ) (old new : List Guard) → k < length conditions → GuardsTo n conditions qs b k at old → IsFirstFrom qs at (get_or conditions k 0) from → EndsRun qs from (get_or conditions k 0) end
      → ((possible : List ℕ) → Contains possible (get_or conditions k 0) → AreGuards n possible (take from qs) b old → AreGuards n possible (take end qs) b new) → GuardsTo n conditions qs b (k + 1) end new
  guards_on at from end old new inside is first run put = record {
    within = run.within;
    guards = put conditions (k, inside, get_or_default conditions k (get_or conditions k 0) 0 inside) skipped;
    later = later;
  }
    where
      c : ℕ
      c = get_or conditions k 0

      skipped : AreGuards n conditions (take from qs) b old
      skipped =
          let begins = first.begins in
          let there : at + (from - at) ≡ from = omega (arith, begins) in
          subst (λ (m : ℕ). AreGuards n conditions (take m qs) b old) there
          (guards_past n conditions qs b at (from - at) old (let w = first.within in omega (arith, w, there))
          (λ i d low l has.
          let less = first.before i d low (omega (arith, l, there)) in
          let most = placed (get_or qs i d).block inside has (λ h. let m = is.later i d (get_or qs i d).block low (let w = first.within in omega (arith, l, there, w)) h in omega (arith, m)) in
          omega (arith, less, most))
          is.guards)

      -- the branches after the run are of later blocks
      beyond : (i : ℕ) (d : Feed) → end ≤ i → i < length qs → c < (get_or qs i d).block
      beyond i d low l =
          let there : end < length qs = omega (arith, low, l) in
          let least = first.after end d run.begins there in
          let more = blocks_rise qs rise end i d low l in
          ⊎_elim (λ e. absurd (run.other d there e)) (λ e. omega (arith, least, more, e)) (cases_eq (get_or qs end d).block c)

      later : (i : ℕ) (d : Feed) (x : ℕ) → end ≤ i → i < length qs → Contains (take (k + 1) conditions) x → x < (get_or qs i d).block
      later i d x low l has = elim (Contains-push_cases (take k conditions) c x (subst (λ (cs : List ℕ). Contains cs x) (take_more conditions k 0 inside) has)) [
        | inl h ↦ is.later i d x (let e = first.begins in let f = run.begins in omega (arith, low, e, f)) l h
        | inr s ↦ let m = beyond i d low l in omega (arith, m, s)
      ]

  pub guards_end : (at : ℕ) (gs : List Guard) → length conditions ≤ k → GuardsTo n conditions qs b k at gs → AreGuards n conditions qs b gs
  guards_end at gs all is =
      let within = is.within in
      let there : at + (length qs - at) ≡ length qs = omega (arith, within) in
      subst (λ rs. AreGuards n conditions rs b gs) (take_all (length qs) qs (omega arith))
      (subst (λ (m : ℕ). AreGuards n conditions (take m qs) b gs) there
      (guards_past n conditions qs b at (length qs - at) gs (omega (arith, there))
      (λ i d low l has. let m = is.later i d (get_or qs i d).block low (omega (arith, l, there)) (subst (λ cs. Contains cs (get_or qs i d).block) (sym (take_all k conditions all)) has) in omega (arith, m))
      is.guards))

-- of no condition there is none
pub no_guards : (n : Parts) (qs : List Feed) (b : ℕ) → AreRising qs → AreGuards n [] qs b []
no_guards n qs b rise = guards_end n [] qs b 0 (λ i j d less within. absurd (omega (arith, within))) rise 0 [] (omega arith) (guards_begin n [] qs b)
