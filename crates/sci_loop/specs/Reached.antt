-- What the starts lead to.
use Rattle.std.specs.Prelude.{ℕ, List, Contains}
use Rattle.sci_loop.specs.Lists.{list_at}

-- the least set that has the starts and, with a number, its successors
pub data IsReached (ls : List (List ℕ)) (starts : List ℕ) : ℕ → Type 0 where
  start : (q : ℕ) → Contains starts q → IsReached ls starts q
  onward : (p q : ℕ) → IsReached ls starts p → Contains (list_at ls p) q → IsReached ls starts q
