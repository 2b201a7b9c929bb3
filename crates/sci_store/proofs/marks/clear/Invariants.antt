use Rattle.std.proofs.Common.{◌≡◌, ◌≢◌, ℕ, ◌<◌, get_or, length}
use Rattle.sci_store.specs.Marks.{idle, mark_at}
use Rattle.sci_store.proofs.marks.clear.Given as goal

abbrev pub invariant-loop-block : goal.invariant-loop-block
invariant-loop-block l = record {
  cleared : (k : ℕ) → k < l.block-index → mark_at l.marks (get_or l.blocks k 0) ≡ idle;
  others : (b : ℕ) → ((k : ℕ) → k < l.block-index → k < length l.blocks → b ≢ get_or l.blocks k 0) → mark_at l.marks b ≡ mark_at l.initial.marks b;
}
