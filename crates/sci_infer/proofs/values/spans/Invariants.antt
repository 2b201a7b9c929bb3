use Rattle.std.proofs.Common.{◌≡◌, length}
use Rattle.sci_infer.specs.Values.{AreSpans}
use Rattle.sci_infer.proofs.values.spans.Given as goal

abbrev pub invariant-loop-i : goal.invariant-loop-i
invariant-loop-i l = record { same_length : length l.spans.items ≡ length l.labels; spans : AreSpans l.declared l.labels l.i l.spans.items }
