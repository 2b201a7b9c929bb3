use Rattle.std.proofs.Common.{◌≡◌, ℕ, ◌/◌, ◌<◌, ◌≤◌, length, true, false}
use Rattle.std.specs.Prelude.{slice_index_or}
use Rattle.sci_vcd.proofs.pages.mark_pages.Given as goal

abbrev pub invariant-loop-page : goal.invariant-loop-page
invariant-loop-page l = record {
  len : length l.marked ≡ length l.initial.marked;
  marked : (page : ℕ) → l.start / 32 ≤ page → page < l.page → slice_index_or l.marked page false ≡ true;
  kept : (page : ℕ) → slice_index_or l.marked page false ≡ false → slice_index_or l.initial.marked page false ≡ false;
}
