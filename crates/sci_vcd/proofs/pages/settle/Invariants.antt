use Rattle.std.proofs.Common.{◌≡◌, ℕ, ◌*◌, ◌<◌, length, false}
use Rattle.std.specs.Prelude.{pos, slice_index_or}
use Rattle.sci_vcd.specs.Writing.{AreMarked}
use Rattle.sci_vcd.proofs.pages.settle.Given as goal

abbrev pub invariant-loop-page : goal.invariant-loop-page
invariant-loop-page l = record {
  marks : AreMarked l.old l.new l.marked;
  done : (k : ℕ) → k < length l.old → k < l.page * 32 → slice_index_or l.old k (pos 0) ≡ slice_index_or l.new k (pos 0);
  unmarked : (k : ℕ) → k < l.page → slice_index_or l.marked k false ≡ false;
  pages : length l.marked ≡ length l.initial.marked;
}
