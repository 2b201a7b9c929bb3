use Rattle.std.proofs.Common.{◌≡◌, ◌*◌, ◌+ℤ◌, ◌≤ℤ◌, pos, negsuc, drop}
use Rattle.sci_forms.specs.Ports.{sum_rows}
use Rattle.sci_forms.proofs.ports.Ports.sum_rows.Given as goal

abbrev pub invariant-loop-p : goal.invariant-loop-p
invariant-loop-p l = record {
  left : l.sum +ℤ sum_rows (drop l.p-index l.p-items) ≡ sum_rows l.p-items;
  low : negsuc (l.p-index * 9223372036854775808) ≤ℤ l.sum;
  high : l.sum ≤ℤ pos (l.p-index * 9223372036854775808);
}
