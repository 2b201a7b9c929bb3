-- Relations that hold together have the same loops and depths.
use Rattle.std.proofs.Common.{ℕ, zero, suc, List, [], ◌∷◌}
use Rattle.sci_loop.specs.Loops.{Chained, IsLoop, HasNoLoop}
use Rattle.sci_loop.specs.Depth.{ChainTo, IsDepth}

module _ (p q : ℕ → ℕ → Type 0) (to : (c b : ℕ) → p c b → q c b) where
  chained_alike : (before : ℕ) (xs : List ℕ) (first : ℕ) → Chained p before xs first → Chained q before xs first
  chained_alike before [] first h = to first before h
  chained_alike before (x ∷ xs) first h = (to x before h.0, chained_alike x xs first h.1)

  pub loop_alike : (xs : List ℕ) → IsLoop p xs → IsLoop q xs
  loop_alike [] h = h
  loop_alike (x ∷ xs) h = (h.0, chained_alike x xs x h.1)

  pub no_loop_alike : HasNoLoop q → HasNoLoop p
  no_loop_alike free xs h = free xs (loop_alike xs h)

  pub chain_alike : (k c : ℕ) → ChainTo p k c → ChainTo q k c
  chain_alike zero c h = tt
  chain_alike (suc k) c h = (h.0, to c h.0 h.1, chain_alike k h.0 h.2)

pub depth_alike : (p q : ℕ → ℕ → Type 0) → ((c b : ℕ) → p c b → q c b) → ((c b : ℕ) → q c b → p c b) → (c d : ℕ) → IsDepth p c d → IsDepth q c d
depth_alike p q to from c d h = (h.0, h.1, chain_alike p q to h.0 c h.2, λ m ch. h.3 m (chain_alike q p from m c ch))
