use Rattle.std.proofs.Common.{◌≡◌, ◌<◌, ℕ, length, get_or, true, false}
use Rattle.sci_flat.proofs.ends.marked.Given as goal

abbrev pub invariant-loop-number : goal.invariant-loop-number
invariant-loop-number l = record {
  long : length l.marks.items ≡ l.ports;
  marks : (k : ℕ) → k < l.number-index → get_or l.marks.items (get_or l.numbers k 0) false ≡ true;
}
