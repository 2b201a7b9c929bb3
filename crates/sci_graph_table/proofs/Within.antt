-- Pairs of which both numbers are below another.
use Rattle.std.proofs.Common.{ℕ, ◌<◌, List, [], ◌∷◌, ◌++◌}
use Rattle.sci_flat.specs.Chain.{AllWithin}
use Rattle.sci_flat.proofs.Naming.{within_append}

pub within_pushed : (n : ℕ) (xs : List (ℕ × ℕ)) (e : ℕ × ℕ) → AllWithin n xs → e.0 < n → e.1 < n → AllWithin n (xs ++ e ∷ [])
within_pushed n xs e h left right = within_append n xs (e ∷ []) h (left, right, tt)
