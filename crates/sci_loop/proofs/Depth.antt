-- The longest chain of needs that ends at a number.
use Rattle.std.proofs.Common.{◌≡◌, ℕ, zero, suc, ◌+◌, ◌-◌, ◌<◌, ◌≤◌, ◌↔◌, add-zero, add-suc, ⊎_elim, refl, subst, arith}
use Rattle.std.proofs.lemmas.Bool.{cases_eq, cases_lt}
use Rattle.sci_loop.specs.Depth.{ChainTo, IsDepth}
use Rattle.sci_loop.specs.Grounded.{Grounded, grounded}
use Rattle.sci_loop.proofs.Decided.{Decided}

module _ (needs : ℕ → ℕ → Type 0) where
  Longest : ℕ → Type 0
  Longest c = (k : ℕ) × ChainTo needs k c × ((m : ℕ) → ChainTo needs m c → m ≤ k)

  -- the longest chain to c by a need below j
  Best : ℕ → ℕ → Type 0
  Best c j = (k : ℕ) × ChainTo needs k c × ((b : ℕ) → b < j → needs c b → (m : ℕ) → ChainTo needs m b → suc m ≤ k)

  best_more : (c j : ℕ) → Best c j → (needs c j → Longest j) → Decided (needs c j) → Best c (suc j)
  unfolding Best Longest
  best_more c j old each dec =
      ⊎_elim
      (λ need. let l = each need in
      ⊎_elim
      (λ deeper. (
        suc l.0,
        (j, need, l.1),
        λ b h g m ch. ⊎_elim
            (λ same. let less = l.2 m (subst (ChainTo needs m) same ch) in omega (arith, less))
            (λ other. let less = old.2 b (omega (arith, h, other)) g m ch in omega (arith, less, deeper)) (cases_eq b j),
      ))
      (λ not_deeper. (
        old.0,
        old.1,
        λ b h g m ch. ⊎_elim
            (λ same. let less = l.2 m (subst (ChainTo needs m) same ch) in omega (arith, less, not_deeper))
            (λ other. old.2 b (omega (arith, h, other)) g m ch) (cases_eq b j),
      ))
      (cases_lt old.0 (suc l.0)))
      (λ out. (old.0, old.1, λ b h g m ch. ⊎_elim (λ same. absurd (out (subst (needs c) same g))) (λ other. old.2 b (omega (arith, h, other)) g m ch) (cases_eq b j)))
      dec

  best : (c : ℕ) → ((b : ℕ) → Decided (needs c b)) → ((b : ℕ) → needs c b → Longest b) → (j : ℕ) → Best c j
  unfolding Best
  best c dec each zero = (0, tt, λ b h g m ch. absurd (omega arith))
  best c dec each (suc j) = best_more c j (best c dec each j) (each j) (dec j)

  longest : (n : ℕ) → ((c b : ℕ) → Decided (needs c b)) → ((c b : ℕ) → needs c b → b < n) → {c : ℕ} → Grounded needs c → Longest c
  unfolding Best Longest
  longest n dec below (grounded c f) =
      let r = best c (dec c) (λ b g. longest n dec below (f b g)) n in
      (r.0, r.1, bounded c r.0 r.2)
    where
      bounded : (d k : ℕ) → ((b : ℕ) → b < n → needs d b → (m : ℕ) → ChainTo needs m b → suc m ≤ k) → (m : ℕ) → ChainTo needs m d → m ≤ k
      bounded d k all zero ch = omega arith
      bounded d k all (suc m) ch = all ch.0 (below d ch.0 ch.1) ch.1 m ch.2

  pub has_depth : (n : ℕ) → ((c b : ℕ) → Decided (needs c b)) → ((c b : ℕ) → needs c b → b < n) → (c : ℕ) → Grounded needs c → (d : ℕ) × IsDepth needs c d
  unfolding Longest
  has_depth n dec below c g = let l = longest n dec below g in (l.0 + 1, (l.0, refl, l.1, l.2))

  pub one_depth : (c d e : ℕ) → IsDepth needs c d → IsDepth needs c e → d ≡ e
  one_depth c d e x y = let p = x.3 y.0 y.2 in let q = y.3 x.0 x.2 in omega (arith, p, q, x.1, y.1)

  pub depth_falls : (c b d e : ℕ) → needs c b → IsDepth needs c d → IsDepth needs b e → e < d
  depth_falls c b d e need x y = let p = x.3 (suc y.0) (b, need, y.2) in omega (arith, p, x.1, y.1)

  -- no chain of k needs ends at c: its depth is at most k
  abbrev pub IsShallow : ℕ → ℕ → Type 0
  IsShallow k c = ChainTo needs k c → ⊥

  pub shallow_none : (c : ℕ) → IsShallow 0 c → ⊥
  shallow_none c h = h tt

  -- one level deeper than all that it needs
  pub shallow_more : (k c : ℕ) → IsShallow (suc k) c ↔ ((b : ℕ) → needs c b → IsShallow k b)
  shallow_more k c = ((λ h b n ch. h (b, n, ch)), λ h ch. h ch.0 ch.1 ch.2)

  shorter : (k c : ℕ) → ChainTo needs (suc k) c → ChainTo needs k c
  shorter zero c ch = tt
  shorter (suc k) c ch = (ch.0, ch.1, shorter k ch.0 ch.2)

  shorter_to : (j k c : ℕ) → ChainTo needs (j + k) c → ChainTo needs j c
  shorter_to j zero c ch = rw add-zero at ch
  shorter_to j (suc k) c ch = shorter_to j k c (shorter (j + k) c (rw add-suc at ch))

  -- a depth is the least level at which no chain is left
  pub depth_level : (c d k : ℕ) → IsDepth needs c d → IsShallow k c ↔ (d ≤ k)
  depth_level c d k x = (
    (λ h. ⊎_elim (λ less. absurd (h (shorter_to k (x.0 - k) c (subst (λ m. ChainTo needs m c) (omega (arith, less, x.1)) x.2)))) (λ h'. h') (cases_lt k d)),
    λ h ch. let low = x.3 k ch in omega (arith, low, h, x.1),
  )
