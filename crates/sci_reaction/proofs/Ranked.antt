-- A relation along which a rank falls has no loop.
use Rattle.std.proofs.Common.{ℕ, zero, suc, ◌+◌, ◌<◌, arith}
use Rattle.sci_loop.specs.Grounded.{Grounded, grounded}
use Rattle.sci_loop.specs.Loops.{HasNoLoop}
use Rattle.sci_loop.proofs.Grounded.{grounded_no_loop}

module _ (needs : ℕ → ℕ → Type 0) (rank : ℕ → ℕ) (falls : (c b : ℕ) → needs c b → rank b < rank c) where
  ranked : (k c : ℕ) → rank c < k → Grounded needs c
  ranked zero c h = absurd (omega arith)
  ranked (suc k) c h = grounded c (λ b need. ranked k b (let l = falls c b need in omega (arith, l, h)))

  pub ranked_no_loop : HasNoLoop needs
  ranked_no_loop = grounded_no_loop needs (λ c b need. ranked (rank c + 1) c (omega arith))
