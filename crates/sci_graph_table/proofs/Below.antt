-- Lists of which all numbers are below another.
use Rattle.std.proofs.Common.{ℕ, zero, suc, ◌<◌, List, [], ◌∷◌, arith}
use Rattle.std.specs.Prelude.{All, Vec}
use Rattle.std.specs.declared.alloc.Global.{Global}
use Rattle.sci_loop.specs.Lists.{list_at, plain}

pub below_at : (n : ℕ) (vs : List (Vec ℕ Global)) → All (λ v. All (λ q. q < n) v.items) vs → (p : ℕ) → All (λ q. q < n) (list_at (plain vs) p)
below_at n [] h p = λ k d l. absurd (omega (arith, l))
below_at n (v ∷ vs) h zero = h 0 v (omega arith)
below_at n (v ∷ vs) h (suc p) = below_at n vs (λ k d l. h (suc k) d (omega (arith, l))) p
