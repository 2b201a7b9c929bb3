-- What is kept of a net, listed by block, and what its agenda keeps.
use Rattle.std.specs.Prelude.{◌≡◌, ℕ, ◌+◌, List, length}
use Rattle.sci_net.specs.Parts.{Parts, IsBlock, numbered}

-- one value for each block, and nothing else
pub record IsByBlock (n : Parts) {A : Type 0} (none : A) (value : ℕ → A) (listed : List A) : Type 0 where
  pub one_each : length listed ≡ length n.specs
  pub each : (b : ℕ) → IsBlock n b → numbered none listed b ≡ value b

-- the dates of a net whose agenda's dates are less by this
abbrev pub more : ℕ → ℕ × ℕ → ℕ × ℕ
more offset e = (e.0 + offset, e.1)
