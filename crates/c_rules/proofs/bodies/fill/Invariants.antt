use Rattle.std.proofs.Common.{◌≡◌, ◌≤◌, ℕ, vec_len}
use Rattle.std.specs.Prelude.{max}
use Rattle.sci_loop.specs.Lists.{plain, list_at}
use Rattle.c_rules.proofs.bodies.fill.Given as goal

abbrev pub invariant-loop-turn : goal.invariant-loop-turn
invariant-loop-turn l = record {
  len : vec_len l.lists ≡ l._turn;
  most : l._turn ≤ max (vec_len l.fn.lists) l.count;
  same : (n : ℕ) → list_at (plain l.lists.items) n ≡ list_at (plain l.fn.lists.items) n;
}
